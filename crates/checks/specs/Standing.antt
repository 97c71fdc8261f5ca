-- What the lines of a check say about a database, whoever made it.
use Rattle.std.specs.Prelude.{◌≡◌, ◌≤◌, ℕ, List, [], length}
use Rattle.std.specs.List.{AllByRecursion}
use Rattle.sqlite.specs.Effect.{Database}
use Rattle.statements.specs.Tables.{Tables, HasRows, IsOurs, our_tables, stored_tables}
use Rattle.definitions.specs.Others.{IsOther, IsOwnOrNamed}
use Rattle.tables.specs.Scans.{ArePagesKeyed}
use Rattle.tables.specs.Sound.{IsSound}
use Rattle.checks.specs.declared.found.TheConstants.{MAX_FAULTS}
use Rattle.checks.specs.Judging.{OfSome}
use Rattle.checks.specs.Faults.{table_fault, rows_of, IsFaultOf}
use Rattle.checks.specs.Lines.{ReportsEach}
use Rattle.checks.specs.Missing.{HasEveryRun}

-- The tables with our names have these rows, in the order of their rowids, however they are defined.
abbrev pub HaveRows : Database → Tables → Type 0
HaveRows db t = AllByRecursion (HasRows db) (stored_tables t)

-- One line for each of our tables that is missing from the database or defined differently, up to 50.
pub record ReportsOthers (db : Database) (lines : List (List ℕ)) : Type 0 where
  pub names : List (List ℕ)
  pub others : AllByRecursion (IsOther db.schema our_tables) names
  pub every : AllByRecursion (IsOwnOrNamed db.schema names) our_tables
  pub each : ReportsEach (OfSome (λ name f. f ≡ table_fault name) names) lines

-- There is no line exactly if our tables exist in the database as they are defined, their rows are sound, each page's key is that of its
-- bytes, and no run is missing. Each line reports a fault of the rows; or, if a table of ours is missing or defined differently, such a table. If there are fewer
-- than 50, all are reported.
pub record ReportsStore (key_of : List ℕ → List ℕ) (db : Database) (lines : List (List ℕ)) : Type 0 where
  pub few : length lines ≤ MAX_FAULTS
  pub rows : IsOurs db.schema → (t : Tables) → HaveRows db t → ReportsEach (IsFaultOf (rows_of key_of t)) lines
  pub others : ¬ IsOurs db.schema → ReportsOthers db lines
  pub ours : lines ≡ [] → IsOurs db.schema
  pub holds : lines ≡ [] → (t : Tables) → HaveRows db t → IsSound t × ArePagesKeyed key_of t × HasEveryRun t
  pub clean : IsOurs db.schema → (t : Tables) → HaveRows db t → IsSound t → ArePagesKeyed key_of t → HasEveryRun t → lines ≡ []
