-- The numbers of rows in our tables.
use Rattle.std.specs.Prelude.{◌≡◌, ◌≤◌, ◌-◌, ◌^◌, ℕ, min, List, [], length, map, Contains, Option, Some, None}
use Rattle.std.specs.List.{AllByRecursion, sum_by}
use Rattle.statements.specs.Rows.{Kept, WsRow, VersionRow}
use Rattle.statements.specs.Tables.{Tables}
use Rattle.checks.specs.declared.totals.Totals.{Totals}

-- the greatest of these numbers; none if there is no number
abbrev pub IsGreatest : List ℕ → Option ℕ → Type 0
IsGreatest xs None = xs ≡ []
IsGreatest xs (Some n) = Contains xs n × AllByRecursion (λ x. x ≤ n) xs

-- the second in which a version was made
abbrev pub made_at : Kept VersionRow → ℕ
made_at x = x.1.it.created

-- how many versions a workspace has had, those that are gone included: they are numbered from 1
abbrev pub versions_had : Kept WsRow → ℕ
versions_had x = x.1.it.next_version - 1

-- how many versions these workspaces have had, counted up to 2⁶⁴ - 1
abbrev pub ever_made : List (Kept WsRow) → ℕ
ever_made wss = min (sum_by versions_had wss) (2 ^ 64 - 1)

-- The numbers of rows of each kind, when the newest version was created, and how many versions were ever made.
pub record AreTotalsOf (t : Tables) (totals : Totals) : Type 0 where
  pub organizations : totals.organizations ≡ length t.orgs
  pub workspaces : totals.workspaces ≡ length t.wss
  pub versions : totals.versions ≡ length t.versions
  pub runs : totals.runs ≡ length t.runs
  pub newest : IsGreatest (map made_at t.versions) totals.newest
  pub made : totals.made ≡ ever_made t.wss
