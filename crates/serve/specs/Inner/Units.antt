-- Contracts between functions: what serving needs of a unit.
use Rattle.std.specs.Prelude.{ℕ, Bool, true, false, ◌&&◌, Option, Some, None, is_some}
use Rattle.basis.specs.declared.acts.Query.{Query as AnyQuery}
use Rattle.machine.specs.Needs.{Needed, needs_of_query}
use Rattle.machine.specs.declared.acts.WorkspaceUnit.{WorkspaceUnit}
use Rattle.machine.specs.declared.acts.Unit.{Unit as AnyUnit}
use Rattle.machine.specs.declared.acts.Unit.TheVariants.{Absent, Present}
use Rattle.basis.specs.declared.rows.Holder.{Holder}
use Rattle.basis.specs.declared.rows.Holder.TheVariants.{Nobody}

-- who holds the workspace
abbrev pub holder_in : AnyUnit → Holder
holder_in (Absent workspaces limit) = Nobody
holder_in (Present u) = u.holder

-- whether what is named is there, where a number is named
abbrev pub if_named : Option ℕ → Bool → Bool
if_named None there = true
if_named (Some number) there = there

-- whether what is named was seen, once the workspace is there
abbrev pub sees_named : Needed → WorkspaceUnit → Bool
sees_named need u = if_named need.version u.has_version && if_named need.run (is_some u.asked_run)

abbrev pub is_present : AnyQuery → AnyUnit → Bool
is_present what (Absent workspaces limit) = false
is_present what (Present u) = sees_named (needs_of_query what) u
