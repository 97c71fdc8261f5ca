-- What the parts of a store's check report.
use Rattle.std.specs.Prelude.{◌≡◌, ◌↔◌, ℕ, List, []}
use Rattle.sqlite.specs.Effect.{Database}
use Rattle.statements.specs.declared.rows.Rows.{Rows}
use Rattle.statements.specs.Tables.{Tables, Holds, IsOurs}
use Rattle.tables.specs.Scans.{AreRowsOf}
use Rattle.checks.specs.declared.stores.Findings.{Findings}
use Rattle.checks.specs.Lines.{ReportsFaults}
use Rattle.checks.specs.Standing.{ReportsOthers}
use Rattle.checks.specs.Totals.{AreTotalsOf}

-- no line exactly if our tables exist in the database as they are defined; and the database is unchanged
pub record ReportsTables (old new : Database) (lines : List (List ℕ)) : Type 0 where
  pub none : (lines ≡ []) ↔ IsOurs old.schema
  pub others : ReportsOthers old lines
  pub same : new ≡ old

-- The rows that were read, their faults, and their numbers.
pub record ChecksRows (key_of : List ℕ → List ℕ) (db : Database) (findings : Findings) : Type 0 where
  pub rows : Rows
  pub read : (t : Tables) → Holds db t → AreRowsOf key_of t rows
  pub faults : ReportsFaults rows findings.faults
  pub totals : (t : Tables) → AreRowsOf key_of t rows → AreTotalsOf t findings.totals
