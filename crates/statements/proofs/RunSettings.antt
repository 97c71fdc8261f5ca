-- How the runs of a workspace go: what has to be proved of each column of it.
use Rattle.statements.proofs.Outside.{◌≡◌, ◌+◌, ◌++◌, ◌∷◌, ap₂, drop, Row, cast_all, RunSettings}
use Rattle.statements.specs.Schema.{ws_table}
use Rattle.statements.specs.Rows.{run_settings_cells, run_settings_at, run_settings_width}
use Rattle.statements.proofs.Codes.{flag_back}
use Rattle.statements.proofs.Own.{cast_int}

-- they are read back from their cells
pub run_settings_back : (runs : RunSettings) → run_settings_at (run_settings_cells runs) 0 ≡ runs
run_settings_back runs = λ i. record { auto_apply = flag_back runs.auto_apply i }

-- these are what their columns make of them, where those behind are
pub run_settings_cast : (runs : RunSettings) (behind : Row) → cast_all (drop (2 + run_settings_width) ws_table.columns) behind ≡ behind → cast_all (drop 2 ws_table.columns) (run_settings_cells runs ++ behind) ≡ run_settings_cells runs ++ behind
run_settings_cast runs behind are = ap₂ ◌∷◌ (cast_int _) are
