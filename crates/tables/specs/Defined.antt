-- What is said of the tables of a database.
use Rattle.std.specs.Prelude.{◌≡◌, ◌↔◌, ℕ, List, []}
use Rattle.std.specs.List.{AllByRecursion}
use Rattle.sqlite.specs.State.{State}
use Rattle.statements.specs.Tables.{our_tables, IsOurs}
use Rattle.definitions.specs.Others.{IsOther, IsOwnOrNamed}

-- There is no name exactly if the committed database has our tables as they are defined. Each name is that of a table that it lacks or
-- defines differently, and each such table is named. Nothing is committed.
pub record ReportsTables (old new : State) (names : List (List ℕ)) : Type 0 where
  pub none : (names ≡ []) ↔ IsOurs old.committed.schema
  pub named : AllByRecursion (IsOther old.committed.schema our_tables) names
  pub every : AllByRecursion (IsOwnOrNamed old.committed.schema names) our_tables
  pub same : new.committed ≡ old.committed
