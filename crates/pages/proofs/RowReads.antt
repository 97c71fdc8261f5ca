-- What the queries that go through the rows of page read of them.
use Rattle.pages.proofs.Outside.{◌≡◌, ℤ, [], ◌∷◌, Option, Some, None, refl, Int, Blob, Gt, first_taken, at_ints, last_term, Row, State, page_table, Kept, PageRow, page_cells, number, Tables, Holds, page_layout, FirstRow, Pins, IsHeld, pages_held, first_own, number_read, blob_read}
use Rattle.pages.specs.declared.scans.TheConstants.{FIRST_ROW, ROW_AFTER}
use Rattle.pages.specs.declared.scans.PageRow.{PageRow as ReadRow}
use Rattle.pages.specs.Inner.Scans.{IsPageRow, is_behind, page_row, page_row_behind}
use Rattle.pages.proofs.RowTexts.{row_names, first_row_asks, first_row_rest, row_after_asks, row_after_rest}

int_read : (m n : ℤ) → Int m ≡ Int n → n ≡ m
int_read m n e = cc

page_row_read : (x : Kept PageRow) (page : ReadRow) → IsPageRow (Int x.0 ∷ Blob x.1.key ∷ number x.1.twin ∷ Blob x.1.bytes ∷ number x.1.uses ∷ []) page → page ≡ page_row x
page_row_read x page reported = λ i. record {
  id = int_read x.0 page.id reported.id i;
  key = blob_read x.1.key page.key reported.key i;
  twin = number_read x.1.twin page.twin reported.twin i;
  bytes = blob_read x.1.bytes page.bytes reported.bytes i;
  uses = number_read x.1.uses page.uses reported.uses i;
}

module _ (old new : State) (t : Tables) (h : Holds old.now t) where
  abbrev held : IsHeld page_layout old.now t.pages
  held = pages_held old.now t h

  pub first_row_shows : (row : Option Row) → FirstRow FIRST_ROW.now [] old new row → Pins IsPageRow row (page_row_behind None t)
  first_row_shows row first =
      first_own page_cells page_table old new held.own t.pages held.rows held.keyed FIRST_ROW.now [] row first first_row_rest row_names
      (is_behind None) (λ x. refl) IsPageRow page_row (λ x y reported. page_row_read x y reported) (first_row_asks.meaning old.now.schema _ _ held.own.place) first_taken

  pub row_after_shows : (id : ℤ) (row : Option Row) → FirstRow ROW_AFTER.now (Int id ∷ []) old new row → Pins IsPageRow row (page_row_behind (Some id) t)
  row_after_shows id row first =
      first_own page_cells page_table old new held.own t.pages held.rows held.keyed ROW_AFTER.now (Int id ∷ []) row first row_after_rest row_names
      (is_behind (Some id)) (λ x. last_term (at_ints _ Gt x.0 id)) IsPageRow page_row (λ x y reported. page_row_read x y reported) (row_after_asks.meaning old.now.schema _ _ held.own.place) first_taken
