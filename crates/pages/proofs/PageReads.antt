-- What the queries on the table page read of its rows.
use Rattle.pages.proofs.Outside.{◌≡◌, ℕ, Bool, true, ◌&&◌, List, [], ◌∷◌, Option, codes, refl, sym, ap, ◌∙◌, bytes_eq, Binary, Blob, Row, Eq, Compare, is_true, binary, then_term, last_term, State, page_table, Kept, PageRow, page_cells, number, Tables, Holds, page_layout, FirstRow, Pins, IsNumber, IsBody, IsFlagCell, IsHeld, pages_held, first_own, number_read, blob_read, same_blob}
use Rattle.sqlite_value.specs.declared.value.Value.{Value}
use Rattle.pages.specs.declared.rows.TheConstants.{FIND_PAGE_BYTES, FIND_PAGE_USES, EQUAL_PAGE, FIRST_TWIN, FIRST_PAGE}
use Rattle.pages.specs.declared.rows.FirstPage.{FirstPage}
use Rattle.pages.specs.declared.rows.PageUse.{PageUse}
use Rattle.pages.specs.Rows.{is_page, is_equal_page, page_bytes, page_uses, page_use, equal_page, is_of_key, first_twin, compared, first_page}
use Rattle.pages.specs.Inner.Calls.{IsPageUse, IsFirstPage}
use Rattle.pages.proofs.PageTexts.{page_bytes_asks, page_bytes_rest, page_uses_asks, page_uses_rest, equal_page_asks, equal_page_rest, first_twin_asks, first_twin_rest, first_page_asks, first_page_rest, first_page_names}
use Rattle.pages.proofs.PageWrites.{blob_number}

two_blobs : (a b c d : List ℕ) → (is_true (binary (Compare Eq Binary) (Blob a) (Blob b)) && (is_true (binary (Compare Eq Binary) (Blob c) (Blob d)) && true)) ≡ (bytes_eq a b && bytes_eq c d)
two_blobs a b c d = then_term (same_blob a b) (last_term (same_blob c d))

page_use_read : (twin uses : ℕ) (found : PageUse) → IsPageUse (number twin ∷ number uses ∷ []) found → found ≡ record { twin = twin; uses = uses }
page_use_read twin uses found reported = λ i. record { twin = number_read twin found.twin reported.twin i; uses = number_read uses found.uses reported.uses i }

one_blob : (a b : List ℕ) → (is_true (binary (Compare Eq Binary) (Blob a) (Blob b)) && true) ≡ bytes_eq a b
one_blob a b = last_term (same_blob a b)

-- a cell that is read as a flag is true where this is read
flag_read : (v : Value) (flag : Bool) → IsFlagCell v flag → flag ≡ is_true v
flag_read v flag reported = reported.2 ∙ sym (ap is_true reported.1)

first_page_read : (x : Kept PageRow) (bytes : List ℕ) (first : FirstPage) → IsFirstPage (number x.1.twin ∷ number x.1.uses ∷ binary (Compare Eq Binary) (Blob x.1.bytes) (Blob bytes) ∷ []) first → first ≡ compared bytes x
first_page_read x bytes first reported =
    let same = flag_read (binary (Compare Eq Binary) (Blob x.1.bytes) (Blob bytes)) first.same reported.same ∙ same_blob x.1.bytes bytes in
    λ i. record { found = record { twin = number_read x.1.twin first.found.twin reported.found.twin i; uses = number_read x.1.uses first.found.uses reported.found.uses i }; same = same i }

module _ (old new : State) (t : Tables) (h : Holds old.now t) where
  abbrev held : IsHeld page_layout old.now t.pages
  held = pages_held old.now t h

  pub page_bytes_shows : (key : List ℕ) (twin : ℕ) (row : Option Row) → FirstRow FIND_PAGE_BYTES.now (Blob key ∷ number twin ∷ []) old new row → Pins IsBody row (page_bytes key twin t)
  page_bytes_shows key twin row first =
      first_own page_cells page_table old new held.own t.pages held.rows held.keyed FIND_PAGE_BYTES.now (Blob key ∷ number twin ∷ []) row first page_bytes_rest (codes "bytes" ∷ [])
      (is_page key twin) (λ x. blob_number x.1.key key x.1.twin twin) IsBody (λ x. x.1.bytes) (λ x y reported. blob_read x.1.bytes y reported) (page_bytes_asks.meaning old.now.schema _ _ held.own.place) (λ l. refl)

  pub page_uses_shows : (key : List ℕ) (twin : ℕ) (row : Option Row) → FirstRow FIND_PAGE_USES.now (Blob key ∷ number twin ∷ []) old new row → Pins IsNumber row (page_uses key twin t)
  page_uses_shows key twin row first =
      first_own page_cells page_table old new held.own t.pages held.rows held.keyed FIND_PAGE_USES.now (Blob key ∷ number twin ∷ []) row first page_uses_rest (codes "uses" ∷ [])
      (is_page key twin) (λ x. blob_number x.1.key key x.1.twin twin) IsNumber (λ x. x.1.uses) (λ x y reported. number_read x.1.uses y reported) (page_uses_asks.meaning old.now.schema _ _ held.own.place) (λ l. refl)

  pub equal_page_shows : (key bytes : List ℕ) (row : Option Row) → FirstRow EQUAL_PAGE.now (Blob key ∷ Blob bytes ∷ []) old new row → Pins IsPageUse row (equal_page key bytes t)
  equal_page_shows key bytes row first =
      first_own page_cells page_table old new held.own t.pages held.rows held.keyed EQUAL_PAGE.now (Blob key ∷ Blob bytes ∷ []) row first equal_page_rest (codes "twin" ∷ codes "uses" ∷ [])
      (is_equal_page key bytes) (λ x. two_blobs x.1.key key x.1.bytes bytes) IsPageUse page_use (λ x y reported. page_use_read x.1.twin x.1.uses y reported) (equal_page_asks.meaning old.now.schema _ _ held.own.place) (λ l. refl)

  pub first_twin_shows : (key : List ℕ) (row : Option Row) → FirstRow FIRST_TWIN.now (Blob key ∷ []) old new row → Pins IsNumber row (first_twin key t)
  first_twin_shows key row first =
      first_own page_cells page_table old new held.own t.pages held.rows held.keyed FIRST_TWIN.now (Blob key ∷ []) row first first_twin_rest (codes "twin" ∷ [])
      (is_of_key key) (λ x. one_blob x.1.key key) IsNumber (λ x. x.1.twin) (λ x y reported. number_read x.1.twin y reported) (first_twin_asks.meaning old.now.schema _ _ held.own.place) (λ l. refl)

  pub first_page_shows : (key bytes : List ℕ) (row : Option Row) → FirstRow FIRST_PAGE.now (Blob key ∷ Blob bytes ∷ []) old new row → Pins IsFirstPage row (first_page key bytes t)
  first_page_shows key bytes row first =
      first_own page_cells page_table old new held.own t.pages held.rows held.keyed FIRST_PAGE.now (Blob key ∷ Blob bytes ∷ []) row first first_page_rest first_page_names
      (is_of_key key) (λ x. one_blob x.1.key key) IsFirstPage (compared bytes) (λ x y reported. first_page_read x bytes y reported) (first_page_asks.meaning old.now.schema _ _ held.own.place) (λ l. refl)
