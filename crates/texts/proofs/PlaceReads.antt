-- What the query on the table vpage reads of its rows.
use Rattle.texts.proofs.Outside.{◌≡◌, ℕ, List, [], ◌∷◌, Option, codes, refl, ◌∙◌, Null, Text, Blob, Row, overlay, Select, State, Shown, reads_as, tree_of, vpage_table, vpage_cells, number, Tables, Holds, vpage_layout, FirstRow, Pins, IsHeld, vpages_held, two_texts_number, listing, stored_tree, plain_program, number_read, blob_read, IsPageName, PageId}
use Rattle.texts.specs.declared.places.TheConstants.{PAGE_AT, PLACES}
use Rattle.statements.proofs.Edits.{all_shown}
use Rattle.statements.proofs.PointReads.{first_own}
use Rattle.texts.specs.Texts.{is_place_of, is_place, page_name, page_at}
use Rattle.texts.specs.Inner.Calls.{AreRowsOf}
use Rattle.texts.proofs.PlaceTexts.{page_at_asks, page_at_rest, places_names, places_asks, places_rest}
use Rattle.texts.proofs.PlaceWrites.{two_texts_two_numbers}

page_name_read : (key : List ℕ) (twin : ℕ) (id : PageId) → IsPageName (Blob key ∷ number twin ∷ []) id → id ≡ record { key = key; twin = twin }
page_name_read key twin id reported = λ i. record { key = blob_read key id.key reported.key i; twin = number_read twin id.twin reported.twin i }

module _ (old new : State) (t : Tables) (h : Holds old.now t) where
  abbrev held : IsHeld vpage_layout old.now t.vpages
  held = vpages_held old.now t h

  pub page_at_shows : (org ws : List ℕ) (n place : ℕ) (row : Option Row) → FirstRow PAGE_AT.now (Text org ∷ Text ws ∷ number n ∷ number place ∷ []) old new row → Pins IsPageName row (page_at org ws n place t)
  page_at_shows org ws n place row first =
      first_own vpage_cells vpage_table old new held.own t.vpages held.rows held.keyed PAGE_AT.now (Text org ∷ Text ws ∷ number n ∷ number place ∷ []) row first page_at_rest (codes "pkey" ∷ codes "twin" ∷ [])
      (is_place org ws n place) (λ x. two_texts_two_numbers x.1.org org x.1.ws ws x.1.number n x.1.place place) IsPageName page_name (λ x y reported. page_name_read x.1.key x.1.twin y reported) (page_at_asks.meaning old.now.schema _ _ held.own.place) (λ l. refl)

  pub places_show : (org ws : List ℕ) (n : ℕ) (rows : List Row) → Shown PLACES.now (Text org ∷ Text ws ∷ number n ∷ []) old new rows → AreRowsOf org ws n t rows
  places_show org ws n rows shown =
      let params : Row = Text org ∷ Text ws ∷ number n ∷ [] in
      let tree = tree_of old.now.schema vpage_table.name in
      let means = places_asks.meaning old.now.schema _ _ held.own.place in
      let a = (reads_as PLACES.now params old new old.now.schema refl (Select (plain_program (listing places_rest tree 4)) places_names) means.0 means.1 means.2 rows shown).answer Null in
      all_shown vpage_cells (overlay old.now.trees []) tree t.vpages (stored_tree old.now.trees tree held.own.place.low ∙ held.rows) held.keyed (listing places_rest tree 4) refl refl refl params
      (is_place_of org ws n) (λ x. two_texts_number x.1.org org x.1.ws ws x.1.number n) (λ l. refl) rows a
