-- From the cell that is refused to its row.
use Rattle.statements.proofs.Outside.{◌≤◌, ℕ, Result, IfErr, arith, IfErr-weaker, Error, Value, Row, column}
use Rattle.statements.specs.Cells.{IsRefused, AreRefused}

pub refused_by : {X : Type 0} (r : Result X Error) (Is : Value → Type 0) (Has : Row → Type 0) (row : Row) (at last : ℕ) → (Has row → Is (column row at)) → at ≤ last → IfErr r (IsRefused Is row at) → IfErr r (AreRefused Has row last)
refused_by r Is Has row at last cell_of short refused = IfErr-weaker r _ _ (λ e none calm low has. none calm (omega (arith, low, short)) (cell_of has)) refused
