-- What calls on one page of a text change and read.
use Rattle.std.specs.Prelude.{◌≡◌, ◌<◌, ◌++◌, ℕ, zero, suc, ⊤, Bool, false, List, [], ◌∷◌, map, filter, slice_index_or, IsPermutation, Option, Some, IsSome, IsTrue, option_map, Result, IfOk, OnOk}
use Rattle.std.specs.List.{AllByRecursion}
use Rattle.std.specs.Str.{bytes_eq}
use Rattle.sqlite_value.specs.declared.value.Value.TheVariants.{Blob}
use Rattle.sqlite_value.specs.Order.{Row, column}
use Rattle.sqlite_trees.specs.declared.store.Store.{Ghosts}
use Rattle.sqlite.specs.Held.{Held, state}
use Rattle.sqlite.specs.State.{HasCleanDisk, Shown}
use Rattle.sqlite.specs.declared.transaction.Transaction.{Transaction}
use Rattle.sqlite_keyed.specs.Lists.{delete_where}
use Rattle.statements.specs.Rows.{Kept, VpageRow, number, number_at, bytes_at}
use Rattle.statements.specs.Calls.{IsQuery}
use Rattle.statements.specs.Steps.{Steps}
use Rattle.statements.specs.Tables.{Tables, Holds}
use Rattle.pages.specs.Pages.{IsKeyFor}
use Rattle.pages.specs.Puts.{twin_limit, twin_for, page_put, page_released}
use Rattle.pages.specs.Rows.{page_bytes}
use Rattle.pages.specs.Inner.Calls.{OnlyQueries}
use Rattle.pages.specs.declared.store.PageId.{PageId}
use Rattle.texts.specs.Texts.{is_place_of, place_added, piece_of, joined, AreThere}

-- a piece is added under a key, and so is the row that names it
abbrev pub piece_placed : List ℕ → List ℕ → List ℕ → ℕ → ℕ → List ℕ → Tables → Tables
piece_placed key org ws n place piece t = place_added org ws n place key (twin_for key piece t) (page_put key piece t)

-- What adding a piece under a key promises: the row names it, its key is one that it may have, and SQL has its twin number.
pub record AddsPiece {S E : Type 0} (g : Ghosts S) (key_of : List ℕ → List ℕ) (key org ws : List ℕ) (n place : ℕ) (piece : List ℕ) (old new : Transaction S) (result : Result ⊤ E) : Type 0 where
  pub steps : Steps g (piece_placed key org ws n place piece) old new result
  pub fits : HasCleanDisk (state g new.conn.now) → OnOk result ((t : Tables) → Holds (state g old.conn.now).now t → twin_for key piece t < twin_limit)
  pub keyed : HasCleanDisk (state g new.conn.now) → OnOk result ((t : Tables) → Holds (state g old.conn.now).now t → IsKeyFor key_of piece key t)

-- ---- a text that is removed: first all its rows at once, then one use of each page that they named

abbrev pub places_removed : List ℕ → List ℕ → ℕ → Tables → Tables
places_removed org ws n t = record t { vpages = delete_where (is_place_of org ws n) t.vpages }

-- a row of vpage as a query returns it: the name of its page, and its place
abbrev pub place_shown : Kept VpageRow → Row
place_shown x = Blob x.1.key ∷ number x.1.twin ∷ number x.1.place ∷ []

-- the rows of a version as a query returns them, in some order
abbrev pub AreRowsOf : List ℕ → List ℕ → ℕ → Tables → List Row → Type 0
AreRowsOf org ws n t rows = (xs : List (Kept VpageRow)) × IsPermutation (filter (is_place_of org ws n) t.vpages) xs × (rows ≡ map place_shown xs)

-- the name of the page in a row, and in the row at a place of a list
abbrev pub name_in : Row → PageId
name_in r = record { key = bytes_at r 0; twin = number_at r 1 }

abbrev pub row_at : List Row → ℕ → Row
row_at rows place = slice_index_or rows place []

abbrev pub name_at : List Row → ℕ → PageId
name_at rows place = name_in (row_at rows place)

-- one use is removed of each page that a given number of first rows name
abbrev pub released_by : List Row → ℕ → Tables → Tables
released_by rows zero t = t
released_by rows (suc place) t = page_released (name_at rows place).key (name_at rows place).twin (released_by rows place t)

-- each of a given number of first rows has its place, and the page that it names existed when a use of it was removed
abbrev pub WereReleased : List Row → ℕ → Tables → Type 0
WereReleased rows places t = (place : ℕ) → place < places → (column (row_at rows place) 2 ≡ number place) × IsSome (page_bytes (name_at rows place).key (name_at rows place).twin (released_by rows place t))

-- whether the page at a place has these bytes, if it exists
abbrev pub is_piece_of : List ℕ → List ℕ → ℕ → ℕ → List ℕ → Tables → Option Bool
is_piece_of org ws n place piece t = option_map (λ bytes. bytes_eq bytes piece) (piece_of org ws n place t)

-- ---- rows of a query that returns a place and the bytes of its page

-- some row has this place, and each that does has these bytes
pub record ShowsPlace (rows : List Row) (place : ℕ) (bytes : List ℕ) : Type 0 where
  pub some : AllByRecursion (λ r. ¬ (column r 0 ≡ number place)) rows → ⊥
  pub each : AllByRecursion (λ r. column r 0 ≡ number place → column r 1 ≡ Blob bytes) rows

-- The rows have the places from 0 up to `places`, and their bytes together are the text: that of a version whose page at each place has the
-- row's bytes.
pub record AreInTurn (rows : List Row) (places : ℕ) (text : List ℕ) : Type 0 where
  pub below : AllByRecursion (λ r. (place : ℕ) × (place < places) × (column r 0 ≡ number place)) rows
  pub text_is :
      (org ws : List ℕ) (n : ℕ) (t : Tables) → ((place : ℕ) (bytes : List ℕ) → ShowsPlace rows place bytes → piece_of org ws n place t ≡ Some bytes)
      → (text ≡ joined org ws n places t) × AreThere org ws n places t

-- there is a row, it has this place, and its bytes are added after the text
pub record AddsRow (row : Option Row) (place : ℕ) (before behind : List ℕ) : Type 0 where
  pub one : Row
  pub bytes : List ℕ
  pub is_there : row ≡ Some one
  pub place_is : column one 0 ≡ number place
  pub bytes_are : column one 1 ≡ Blob bytes
  pub grown : behind ≡ before ++ bytes

-- What joining all rows of a query promises: each has the next place, there are `places` of them, and the text is their bytes. A query changes
-- nothing, and only an open store answers it.
pub record JoinsRows {S E : Type 0} (g : Ghosts S) (sql : List ℕ) (params : Row) (places : ℕ) (old new : Held S) (result : Result (List ℕ) E) : Type 0 where
  pub mode : old.in_transaction ≡ false → new.in_transaction ≡ false
  pub joins : IsQuery sql → HasCleanDisk (state g new) → IfOk result (λ text. (rows : List Row) × Shown sql params (state g old) (state g new) rows × AreInTurn rows places text)
  pub unchanged : IsQuery sql → OnlyQueries (state g old) (state g new) result
  pub was_open : IsQuery sql → HasCleanDisk (state g new) → OnOk result (IsTrue (state g old).is_open)
  pub so_far : IsQuery sql → HasCleanDisk (state g new) → HasCleanDisk (state g old)
  pub shield : IsQuery sql → (state g old).IsShielded → (state g new).IsShielded
