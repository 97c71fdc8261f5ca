-- The keys of runs, and which run is missing.
use Rattle.std.specs.Prelude.{◌≡◌, ℕ, List, Option, Some, None}
use Rattle.std.specs.List.{list_any}
use Rattle.statements.specs.Rows.{Kept, WsRow, RunRow}
use Rattle.statements.specs.Changes.{is_run_row}
use Rattle.checks.specs.declared.keys.Keys.{Keys}
use Rattle.checks.specs.Missing.{HasItsRuns, IsFirstMissing}
use Rattle.checks.specs.Inner.Keys.{has_key}

-- the set has the key of each row's run
abbrev pub HasRunKeys : List (Kept RunRow) → Keys → Type 0
HasRunKeys runs keys = (org ws : List ℕ) (n : ℕ) → has_key keys org ws n 0 ≡ list_any (is_run_row org ws n) runs

-- the lowest number that is missing, if there is one
abbrev pub FindsMissing : List (Kept RunRow) → WsRow → Option ℕ → Type 0
FindsMissing runs x None = HasItsRuns runs x
FindsMissing runs x (Some n) = IsFirstMissing runs x n
