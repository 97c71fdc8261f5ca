-- What the writes to the table version do to its rows.
use Rattle.statements.proofs.Outside.{◌≡◌, ℕ, false, List, [], ◌∷◌, None, Ok, refl, sym, ◌∙◌, Text, Row, first_key, State, Executes, all_weaker}
use Rattle.statements.specs.Schema.{version_table}
use Rattle.statements.specs.Rows.{VersionRow, version_cells, number}
use Rattle.statements.specs.Tables.{Tables, Holds, version_layout}
use Rattle.statements.specs.Changes.{is_version, new_version, version_added, version_removed}
use Rattle.statements.specs.Finds.{size_of}
use Rattle.statements.specs.declared.versions.TheConstants.{ADD_VERSION, REMOVE_VERSION}
use Rattle.statements.proofs.Fresh.{insert_sound, none_alike, none_found}
use Rattle.statements.proofs.Held.{IsHeld, versions_held, versions}
use Rattle.statements.proofs.Own.{insert_own}
use Rattle.statements.proofs.Casts.{version_casts}
use Rattle.statements.proofs.Frames.{Turns, deleted, inserted}
use Rattle.statements.proofs.Conditions.{two_texts_number}
use Rattle.statements.proofs.VersionTexts.{add_version_means, add_version_terms, remove_version_means}

module _ (old new : State) (count : ℕ) (t : Tables) (h : Holds old.now t) where
  abbrev held : IsHeld version_layout old.now t.versions
  held = versions_held old.now t h

  pub add_version_does : (org ws : List ℕ) (n serial : ℕ) (lineage : List ℕ) (created size : ℕ) → Executes ADD_VERSION.now (Text org ∷ Text ws ∷ number n ∷ number serial ∷ Text lineage ∷ number created ∷ number size ∷ []) old new (Ok count) → Turns old.now new.now (version_added org ws (new_version n serial lineage created size) t)
  add_version_does org ws n serial lineage created size ran = inserted versions version_casts old new count t h _ _ ran (add_version_means old.now.schema) refl refl (record { org = org; name = ws; it = new_version n serial lineage created size }) refl

  pub add_version_finds : (org ws : List ℕ) (n serial : ℕ) (lineage : List ℕ) (created size : ℕ) → Executes ADD_VERSION.now (Text org ∷ Text ws ∷ number n ∷ number serial ∷ Text lineage ∷ number created ∷ number size ∷ []) old new (Ok count) → size_of org ws n t ≡ None
  unfolding first_key
  add_version_finds org ws n serial lineage created size ran =
      let row : VersionRow = record { org = org; name = ws; it = new_version n serial lineage created size } in
      let given : Row = Text org ∷ Text ws ∷ number n ∷ number serial ∷ Text lineage ∷ number created ∷ number size ∷ [] in
      let means = add_version_means old.now.schema _ _ held.own.place in
      let left = insert_own version_cells version_table version_casts old new held.own held.steady t.versions held.rows held.keyed ADD_VERSION.now given count ran add_version_terms 8 means refl refl row refl in
      let alike = none_alike version_cells (1 ∷ 2 ∷ 3 ∷ []) version_table old new held.own t.versions held.keyed row left.1 left.0.rows (insert_sound old new ADD_VERSION.now given _ _ means count ran) refl refl in
      none_found (is_version org ws n) (λ x. x.1.it.size) t.versions (all_weaker _ (λ x. is_version org ws n x ≡ false) (λ x e. sym (two_texts_number x.1.org org x.1.name ws x.1.it.number n) ∙ e) t.versions alike)

  pub remove_version_does : (org ws : List ℕ) (n : ℕ) → Executes REMOVE_VERSION.now (Text org ∷ Text ws ∷ number n ∷ []) old new (Ok count) → Turns old.now new.now (version_removed org ws n t)
  remove_version_does org ws n ran = deleted versions version_casts old new count t h _ _ ran (remove_version_means old.now.schema) (is_version org ws n) (λ x. two_texts_number x.1.org org x.1.name ws x.1.it.number n) tt
