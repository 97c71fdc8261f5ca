-- What a change does to a workspace, and when a change is due. A store's `apply` promises this.
use Rattle.std.specs.Prelude.{◌≡◌, ℕ, ◌+◌, nat_lt, List, [], ◌∷◌, ◌++◌, filter, map, cond, Option, Some, None, option_map}
use Rattle.machine.specs.Workspaces.{new_workspace}
use Rattle.machine.specs.Settling.{started_if}
use Rattle.machine.specs.Ranges.{IsInRange, IsMoment}
use Rattle.machine.specs.Records.{Seen, standing}
use Rattle.machine.specs.Rules.{rules, purged, locked, released, new_run, with_run, reported}
use Rattle.machine.specs.declared.acts.Act.{Act}
use Rattle.machine.specs.declared.acts.Edit.{Edit}
use Rattle.machine.specs.declared.acts.Edit.TheVariants.{Make, Configure, Remove, AddVersion, Purge, Hold, Release, AddRun, Report}
use Rattle.machine.specs.declared.acts.Change.{Change}
use Rattle.basis.specs.declared.rows.Holder.TheVariants.{Nobody}
use Rattle.machine.specs.declared.records.Version.{Version}
use Rattle.machine.specs.declared.records.Workspace.{Workspace}

-- the versions that are left after those with numbers up to this one are removed
abbrev pub left_above : Option ℕ → List Version → List Version
left_above None versions = versions
left_above (Some outgoing) versions = filter (λ (v : Version). nat_lt outgoing v.number) versions

-- the workspace after an edit
abbrev pub edited : Edit → Option Workspace → Option Workspace
edited (Make settings) w = Some (new_workspace settings)
edited (Configure settings outgoing) w = option_map (λ (v : Workspace). record v { settings = settings; versions = left_above outgoing v.versions }) w
edited Remove w = None
edited (AddVersion version outgoing) w =
    option_map (λ (v : Workspace). record v { next_version = version.number + 1; versions = left_above outgoing (v.versions ++ version ∷ []) }) w
edited Purge w = option_map purged w
edited (Hold id text) w = option_map (locked id text) w
edited (Release id) w = option_map (released id) w
edited (AddRun number ask created) w = option_map (with_run (new_run number ask created)) w
edited (Report number action status frees) w =
    option_map (λ (v : Workspace). record v { holder = cond frees Nobody v.holder; runs = map (reported number action status) v.runs }) w

-- the workspace after a change: an edit, and the run that starts
abbrev pub changed_by : Change → Option Workspace → Option Workspace
changed_by change w = option_map (started_if change.start) (edited change.edit w)

-- a change is due if some act in its ranges, at some time in range, leaves the same workspace by the rules
pub record IsDue (s : Seen) (change : Change) : Type 0 where
  pub act : Act
  pub now : ℕ
  pub range : IsInRange act
  pub moment : IsMoment now
  pub is : changed_by change (standing s) ≡ (rules act now s).left
