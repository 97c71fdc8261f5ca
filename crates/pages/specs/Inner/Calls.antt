-- What calls inside a transaction leave and return.
use Rattle.std.specs.Prelude.{◌≡◌, ℕ, cond, List, Option, Some, None, Result, IfOk, OnOk, OnErr}
use Rattle.sqlite_value.specs.Order.{Row, column}
use Rattle.sqlite_trees.specs.declared.store.Store.{Ghosts}
use Rattle.sqlite.specs.Held.{state}
use Rattle.sqlite.specs.State.{State, HasCleanDisk, KeepsCommit}
use Rattle.sqlite.specs.declared.transaction.Transaction.{Transaction}
use Rattle.statements.specs.Rows.{number}
use Rattle.statements.specs.Calls.{IsFlagCell}
use Rattle.statements.specs.Steps.{LeavesAsIs}
use Rattle.statements.specs.Tables.{Tables, Holds}
use Rattle.pages.specs.declared.rows.FirstPage.{FirstPage}
use Rattle.pages.specs.declared.rows.PageUse.{PageUse}
use Rattle.pages.specs.Puts.{twin_for, page_put}
use Rattle.pages.specs.Rows.{page_added}

pub record IsPageUse (row : Row) (found : PageUse) : Type 0 where
  pub twin : column row 0 ≡ number found.twin
  pub uses : column row 1 ≡ number found.uses

pub record IsFirstPage (row : Row) (first : FirstPage) : Type 0 where
  pub found : IsPageUse row first.found
  pub same : IsFlagCell (column row 2) first.same

-- the tables after a page is added, given the twin number of the first page with its key: no page has the key, or others have it
abbrev pub put_with : List ℕ → List ℕ → Option ℕ → Tables → Tables
put_with key bytes None t = page_added key 0 bytes t
put_with key bytes (Some first) t = page_put key bytes t

abbrev pub twin_with : List ℕ → List ℕ → Option ℕ → Tables → ℕ
twin_with key bytes None t = 0
twin_with key bytes (Some first) t = twin_for key bytes t

-- the first page with a key, if it has the bytes asked for
abbrev pub alike : Option FirstPage → Option PageUse
alike None = None
alike (Some first) = cond first.same (Some first.found) None

-- only queries are run
abbrev pub OnlyQueries : {X E : Type 0} → State → State → Result X E → Type 0
OnlyQueries old new result = HasCleanDisk new → OnOk result (LeavesAsIs old new) × OnErr result (KeepsCommit old new)

-- Any number of reads in a transaction: it stays that of the same connection, the result tells this of the rows, nothing changes, the disk was
-- clean so far, and a shield stays; after a failure nothing is committed.
pub record SeesInside {S X E : Type 0} (g : Ghosts S) (says : X → Tables → Type 0) (old new : Transaction S) (result : Result X E) : Type 0 where
  pub same_reference : new.conn.ghost_name ≡ old.conn.ghost_name
  pub sees :
      HasCleanDisk (state g new.conn.now)
      → IfOk result (λ x. (t : Tables) → Holds (state g old.conn.now).now t → says x t) × (OnOk result (LeavesAsIs (state g old.conn.now) (state g new.conn.now)) × OnErr result (KeepsCommit (state g old.conn.now) (state g new.conn.now)))
  pub so_far : HasCleanDisk (state g new.conn.now) → HasCleanDisk (state g old.conn.now)
  pub shield : (state g old.conn.now).IsShielded → (state g new.conn.now).IsShielded

-- the value is computed from the rows before the call
abbrev pub ReportsBy : {X E : Type 0} → (Tables → X) → State → State → Result X E → Type 0
ReportsBy read old new result = HasCleanDisk new → IfOk result (λ x. (t : Tables) → Holds old.now t → x ≡ read t)
