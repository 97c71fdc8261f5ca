-- Runs that are missing. A run is removed only with its workspace, so each number below the next one is that of a row.
use Rattle.std.specs.Prelude.{◌≡◌, ◌≤◌, ◌<◌, ℕ, Bool, true, false, List}
use Rattle.std.specs.List.{AllByRecursion, list_any}
use Rattle.statements.specs.Rows.{Kept, WsRow, RunRow}
use Rattle.statements.specs.Tables.{Tables}
use Rattle.statements.specs.Changes.{is_run_row}

-- whether a row is that of the workspace's run of this number
abbrev pub has_run : List (Kept RunRow) → WsRow → ℕ → Bool
has_run runs x n = list_any (is_run_row x.org x.name n) runs

-- each number from 1 on and below this one is that of a row
abbrev pub HasRunsBelow : List (Kept RunRow) → WsRow → ℕ → Type 0
HasRunsBelow runs x m = (n : ℕ) → 1 ≤ n → n < m → has_run runs x n ≡ true

-- no run of the workspace is missing
abbrev pub HasItsRuns : List (Kept RunRow) → WsRow → Type 0
HasItsRuns runs x = HasRunsBelow runs x x.it.next_run

-- the lowest number of a run that is missing
pub record IsFirstMissing (runs : List (Kept RunRow)) (x : WsRow) (n : ℕ) : Type 0 where
  pub is_number : 1 ≤ n
  pub given : n < x.it.next_run
  pub missing : has_run runs x n ≡ false
  pub lower : HasRunsBelow runs x n

-- no run of any workspace is missing
abbrev pub HasEveryRun : Tables → Type 0
HasEveryRun t = AllByRecursion (λ x. HasItsRuns t.runs x.1) t.wss
