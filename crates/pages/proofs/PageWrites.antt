-- What the writes to the table page do to its rows.
use Rattle.pages.proofs.Outside.{◌≡◌, ◌==◌, ℕ, pos, nat_lt, true, ◌&&◌, not, List, [], ◌∷◌, find, Ok, refl, ap, ◌∙◌, eqb, bytes_eq, Binary, Int, Blob, Compare, is_true, binary, at_ints, then_term, last_term, State, Executes, number, page_cells, Tables, Holds, page_table, pages, pages_held, same_blob, same_number, below_is}
use Rattle.sqlite_sql.specs.declared.ops.CompareOp.TheVariants.{Eq, Lt}
use Rattle.sqlite_keyed.proofs.SliceLemmas.{is_some-map}
use Rattle.pages.specs.declared.rows.TheConstants.{ADD_PAGE, SET_PAGE_USES, REMOVE_PAGE, REMOVE_LAST_PAGE}
use Rattle.statements.proofs.Own.{count_deleted, first_if_any}
use Rattle.statements.proofs.Casts.{page_casts}
use Rattle.statements.proofs.Frames.{Turns, updated, deleted, inserted}
use Rattle.pages.specs.Rows.{is_page, is_last, page_added, page_used, page_removed, has_last, last_removed}
use Rattle.pages.proofs.PageTexts.{add_page_means, set_page_uses_means, remove_page_means, remove_last_page_means}

pub blob_number : (a b : List ℕ) (m n : ℕ) → (is_true (binary (Compare Eq Binary) (Blob a) (Blob b)) && (is_true (binary (Compare Eq Binary) (Int (pos m)) (Int (pos n))) && true)) ≡ (bytes_eq a b && eqb m n)
blob_number a b m n = then_term (same_blob a b) (last_term (same_number m n))

blob_number_below : (a b : List ℕ) (m n k l : ℕ)
    → (is_true (binary (Compare Eq Binary) (Blob a) (Blob b)) && (is_true (binary (Compare Eq Binary) (Int (pos m)) (Int (pos n))) && (is_true (binary (Compare Lt Binary) (Int (pos k)) (Int (pos l))) && true)))
    ≡ (bytes_eq a b && (eqb m n && nat_lt k l))
blob_number_below a b m n k l = then_term (same_blob a b) (then_term (same_number m n) (last_term (at_ints _ Lt (pos k) (pos l) ∙ below_is k l)))

module _ (old new : State) (count : ℕ) (t : Tables) (h : Holds old.now t) where
  pub add_page_does : (key : List ℕ) (twin : ℕ) (bytes : List ℕ) → Executes ADD_PAGE.now (Blob key ∷ number twin ∷ Blob bytes ∷ []) old new (Ok count) → Turns old.now new.now (page_added key twin bytes t)
  add_page_does key twin bytes ran = inserted pages page_casts old new count t h _ _ ran (add_page_means old.now.schema) refl refl (record { key = key; twin = twin; bytes = bytes; uses = 1 }) refl

  pub set_page_uses_does : (key : List ℕ) (twin uses : ℕ) → Executes SET_PAGE_USES.now (Blob key ∷ number twin ∷ number uses ∷ []) old new (Ok count) → Turns old.now new.now (page_used key twin uses t)
  set_page_uses_does key twin uses ran = updated pages page_casts old new count t h _ _ ran (set_page_uses_means old.now.schema) (is_page key twin) (λ x. blob_number x.1.key key x.1.twin twin) (λ r. record r { uses = uses }) (λ x. refl) tt

  pub remove_page_does : (key : List ℕ) (twin : ℕ) → Executes REMOVE_PAGE.now (Blob key ∷ number twin ∷ []) old new (Ok count) → Turns old.now new.now (page_removed key twin t)
  remove_page_does key twin ran = deleted pages page_casts old new count t h _ _ ran (remove_page_means old.now.schema) (is_page key twin) (λ x. blob_number x.1.key key x.1.twin twin) tt

  pub remove_last_page_does : (key : List ℕ) (twin : ℕ) → Executes REMOVE_LAST_PAGE.now (Blob key ∷ number twin ∷ []) old new (Ok count) → Turns old.now new.now (last_removed key twin t)
  remove_last_page_does key twin ran = deleted pages page_casts old new count t h _ _ ran (remove_last_page_means old.now.schema) (is_last key twin) (λ x. blob_number_below x.1.key key x.1.twin twin x.1.uses 2) tt

  pub remove_last_page_finds : (key : List ℕ) (twin : ℕ) → Executes REMOVE_LAST_PAGE.now (Blob key ∷ number twin ∷ []) old new (Ok count) → not (count == 0) ≡ has_last key twin t
  remove_last_page_finds key twin ran =
      let held = pages_held old.now t h in
      let counted = count_deleted page_cells page_table page_casts old new held.own held.steady t.pages held.rows held.keyed _ _ count ran _ (remove_last_page_means old.now.schema _ _ held.own.place) refl refl refl (λ rows. refl)
      (is_last key twin) (λ x. blob_number_below x.1.key key x.1.twin twin x.1.uses 2) in
      ap (λ n. not (n == 0)) counted ∙ first_if_any (is_last key twin) (λ x. x.1) t.pages ∙ is_some-map (λ x. x.1) (find (is_last key twin) t.pages)
