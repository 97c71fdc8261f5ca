-- When workspaces are lawful, by the rows of their versions, runs and keeping.
use Rattle.std.specs.Prelude.{◌≡◌, ℕ, List, IsTrue}
use Rattle.std.specs.List.{AllByRecursion}
use Rattle.machine.specs.Ranges.{IsRetention}
use Rattle.basis.specs.declared.rows.RunRow.{RunRow as Run}
use Rattle.basis.specs.declared.rows.VersionRow.{VersionRow as Version}
use Rattle.statements.specs.Rows.{WsRow}
use Rattle.statements.specs.Tables.{Tables}
use Rattle.statements.specs.declared.rows.Rows.{Rows}
use Rattle.tables.specs.Records.{workspace_at}
use Rattle.tables.specs.Sound.{IsSoundWorkspace}
use Rattle.checks.specs.declared.found.Fault.{Fault}
use Rattle.checks.specs.declared.workspaces.Grouped.{Grouped}
use Rattle.checks.specs.Inner.Groups.{group_in, AreGrouped}
use Rattle.checks.specs.Faults.{OfWorkspace}
use Rattle.checks.specs.Versions.{are_versions}
use Rattle.checks.specs.Runs.{are_runs}
use Rattle.checks.specs.Workspaces.{is_own, retention_among}

-- When the row of a workspace is lawful, with what its rows of keeping, versions and runs hold.
pub record IsLawfulRow (ks : List ℕ) (vs : List Version) (rs : List Run) (x : WsRow) : Type 0 where
  pub retention : IsRetention (retention_among ks)
  pub own : IsTrue (is_own x)
  pub versions : IsTrue (are_versions (retention_among ks) x.it.next_version vs)
  pub runs : IsTrue (are_runs x.it.holder x.it.next_run rs)

-- the same, by groups
abbrev pub IsLawfulAt : Grouped → WsRow → Type 0
IsLawfulAt groups x = IsLawfulRow (group_in x.org x.name groups.retentions) (group_in x.org x.name groups.versions) (group_in x.org x.name groups.runs) x

-- what is wrong with such a row
abbrev pub OfGroups : Grouped → WsRow → Fault → Type 0
OfGroups groups x = OfWorkspace (group_in x.org x.name groups.retentions) (group_in x.org x.name groups.versions) (group_in x.org x.name groups.runs) x

-- the groups are those of the rows
pub record AreAllGrouped (rows : Rows) (groups : Grouped) : Type 0 where
  pub versions : AreGrouped rows.versions groups.versions
  pub runs : AreGrouped rows.runs groups.runs
  pub retentions : AreGrouped rows.retentions groups.retentions

-- tables with these rows of workspaces, versions, runs and keeping
pub record HasWsRows (rows : Rows) (t : Tables) : Type 0 where
  pub wss : t.wss ≡ rows.wss
  pub versions : t.versions ≡ rows.versions
  pub runs : t.runs ≡ rows.runs
  pub retentions : t.retentions ≡ rows.retentions

-- each row of a workspace denotes a lawful one
abbrev pub AreLawfulWss : Tables → Type 0
AreLawfulWss t = AllByRecursion (λ x. IsSoundWorkspace x.1.name (workspace_at t x.1.org x.1.name x.1.it)) t.wss
