-- What the queries on the table version read of its rows.
use Rattle.statements.proofs.Outside.{AllZip, ◌≡◌, ℕ, true, List, [], ◌∷◌, Option, codes, refl, pos, Ordering, Less, Equal, int_cmp, Text, Int, Row, value_cmp, first_taken, State, IsNoTie, ordering_then}
use Rattle.basis.specs.declared.rows.VersionRow.{VersionRow as Version}
use Rattle.statements.specs.Schema.{version_table}
use Rattle.statements.specs.Rows.{Kept, VersionRow, id_of, version_cells, number}
use Rattle.statements.specs.Tables.{Tables, Holds, version_layout}
use Rattle.statements.specs.Changes.{is_version, is_version_of, is_version_below}
use Rattle.statements.specs.Finds.{back_by_number, newest_of, oldest_below, size_of}
use Rattle.statements.specs.Calls.{FirstRow, FirstRows, Pins, IsVersionRow, IsNumber}
use Rattle.statements.specs.Listings.{version_rows_after, VersionsApart}
use Rattle.statements.specs.declared.versions.TheConstants.{LIST_VERSIONS, NEWEST_VERSION, OLDEST_VERSION_BELOW, VERSION_SIZE}
use Rattle.statements.proofs.Held.{IsHeld, versions_held}
use Rattle.statements.proofs.Listed.{by_column, numbered_are}
use Rattle.statements.proofs.PointReads.{first_own, ranked_own, least_own}
use Rattle.statements.proofs.Answered.{in_order_of_both, untied_down}
use Rattle.statements.proofs.ReadBack.{number_read, version_reported}
use Rattle.statements.proofs.Conditions.{two_texts, two_texts_number, two_texts_above, two_texts_below}
use Rattle.statements.proofs.VersionTexts.{list_versions_asks, list_versions_rest, list_versions_names, newest_version_asks, newest_version_rest, oldest_below_asks, oldest_below_rest, version_size_asks, version_size_rest}

untied_back : (x y : Kept VersionRow) → int_cmp (id_of x) (id_of y) ≡ Less → IsNoTie (back_by_number x y)
untied_back x y h = untied_down (pos x.1.it.number) (pos y.1.it.number) (id_of x) (id_of y) h

-- two integers, one behind the other, are compared as the rows are
abbrev by_both : Kept VersionRow → Kept VersionRow → Ordering
by_both x y = ordering_then (value_cmp (Int (pos x.1.it.number)) (Int (pos y.1.it.number))) (ordering_then (value_cmp (Int (id_of x)) (Int (id_of y))) Equal)

in_order_back : (x y : Kept VersionRow) → by_both y x ≡ back_by_number x y
in_order_back x y = in_order_of_both (pos y.1.it.number) (pos x.1.it.number) (id_of y) (id_of x)

module _ (old new : State) (t : Tables) (h : Holds old.now t) where
  abbrev held : IsHeld version_layout old.now t.versions
  held = versions_held old.now t h

  pub newest_version_shows : (org ws : List ℕ) (row : Option Row) → FirstRow NEWEST_VERSION.now (Text org ∷ Text ws ∷ []) old new row → Pins IsVersionRow row (newest_of org ws t)
  newest_version_shows org ws row first =
      ranked_own version_cells version_table old new held.own t.versions held.rows held.keyed NEWEST_VERSION.now (Text org ∷ Text ws ∷ []) row first newest_version_rest (codes "number" ∷ codes "serial" ∷ codes "lineage" ∷ codes "created" ∷ codes "size" ∷ [])
      (is_version_of org ws) (λ x. two_texts x.1.org org x.1.name ws) IsVersionRow (λ x. x.1.it) (λ x y reported. version_reported 0 _ y reported)
      3 true back_by_number untied_back in_order_back (newest_version_asks.meaning old.now.schema _ _ held.own.place) first_taken

  pub oldest_below_shows : (org ws : List ℕ) (n : ℕ) (row : Option Row) → FirstRow OLDEST_VERSION_BELOW.now (Text org ∷ Text ws ∷ number n ∷ []) old new row → Pins IsVersionRow row (oldest_below org ws n t)
  oldest_below_shows org ws n row first =
      least_own version_cells version_table old new held.own t.versions held.rows held.keyed OLDEST_VERSION_BELOW.now (Text org ∷ Text ws ∷ number n ∷ []) row first oldest_below_rest (codes "number" ∷ codes "serial" ∷ codes "lineage" ∷ codes "created" ∷ codes "size" ∷ [])
      (is_version_below org ws n) (λ x. two_texts_below x.1.org org x.1.name ws x.1.it.number n) IsVersionRow (λ x. x.1.it) (λ x y reported. version_reported 0 _ y reported)
      3 (λ x. x.1.it.number) (λ x y. refl) (oldest_below_asks.meaning old.now.schema _ _ held.own.place) first_taken

  pub version_size_shows : (org ws : List ℕ) (n : ℕ) (row : Option Row) → FirstRow VERSION_SIZE.now (Text org ∷ Text ws ∷ number n ∷ []) old new row → Pins IsNumber row (size_of org ws n t)
  version_size_shows org ws n row first =
      first_own version_cells version_table old new held.own t.versions held.rows held.keyed VERSION_SIZE.now (Text org ∷ Text ws ∷ number n ∷ []) row first version_size_rest (codes "size" ∷ [])
      (is_version org ws n) (λ x. two_texts_number x.1.org org x.1.name ws x.1.it.number n) IsNumber (λ x. x.1.it.size) (λ x y reported. number_read x.1.it.size y reported) (version_size_asks.meaning old.now.schema _ _ held.own.place) (λ l. refl)

  pub list_versions_shows : (org ws : List ℕ) (after most : ℕ) (rows : List Row) (heads : List Version) → VersionsApart org ws t → FirstRows most LIST_VERSIONS.now (Text org ∷ Text ws ∷ number after ∷ []) old new rows
      → AllZip IsVersionRow rows heads → heads ≡ version_rows_after org ws after most t
  list_versions_shows org ws after most rows heads apart first read =
      numbered_are version_cells version_table old new held.own t.versions held.rows LIST_VERSIONS.now (Text org ∷ Text ws ∷ number after ∷ []) list_versions_rest 3 list_versions_names
      IsVersionRow (λ v. v.number) (λ x. x.1.it) (is_version_of org ws) after (λ x. two_texts_above x.1.org org x.1.name ws x.1.it.number after) (λ x y reported. version_reported 0 _ y reported)
      (λ x y. by_column x.1.it.number y.1.it.number) (list_versions_asks.meaning old.now.schema _ _ held.own.place) (λ l. refl) most rows heads apart first read
