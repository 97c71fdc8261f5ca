-- The statements that go through the rows of page: how they are written, and what their texts mean in each schema that has it.
use Rattle.pages.proofs.Outside.{ℕ, false, List, [], ◌∷◌, codes, Some, None, refl, Binary, col, Query, everything, page_table, point, is_above, point_rest, point_draft, one_page, Asks, asks}
use Rattle.statements.proofs.SyntaxTrees as st
use Rattle.pages.specs.declared.scans.TheConstants.{FIRST_ROW, ROW_AFTER}

abbrev pub row_names : List (List ℕ)
row_names = codes "rowid" ∷ codes "pkey" ∷ codes "twin" ∷ codes "bytes" ∷ codes "uses" ∷ []

abbrev pub first_row_rest : Query
first_row_rest = point_rest ([]) (col 1 0 ∷ col 1 1 ∷ col 1 2 ∷ col 1 3 ∷ col 1 4 ∷ []) one_page

abbrev pub row_after_rest : Query
row_after_rest = point_rest (is_above 0 0 ∷ []) (col 1 0 ∷ col 1 1 ∷ col 1 2 ∷ col 1 3 ∷ col 1 4 ∷ []) one_page

pub first_row_asks : Asks page_table FIRST_ROW.now (λ tree. point first_row_rest tree false) row_names
unfolding everything
first_row_asks =
    asks (st.from_all (st.shown_columns row_names) (codes "page")) (st.by_rowid false) (Some st.one) (λ tree. point_draft first_row_rest tree false) (None ∷ Some Binary ∷ Some Binary ∷ Some Binary ∷ Some Binary ∷ []) refl refl (λ s tree. refl) (λ s again. refl)
    (λ s at tree h. rw (h.named, h.found, h.found, h.small, h.found, h.small) refl) (λ s at tree h. rw (h.low, h.treed) refl)

pub row_after_asks : Asks page_table ROW_AFTER.now (λ tree. point row_after_rest tree false) row_names
unfolding everything
row_after_asks =
    asks (st.from_table (st.shown_columns row_names) (codes "page") (st.is_above (codes "rowid") 1)) (st.by_rowid false) (Some st.one) (λ tree. point_draft row_after_rest tree false) (None ∷ Some Binary ∷ Some Binary ∷ Some Binary ∷ Some Binary ∷ []) refl refl (λ s tree. refl) (λ s again. refl)
    (λ s at tree h. rw (h.named, h.found, h.found, h.small, h.found, h.small) refl) (λ s at tree h. rw (h.low, h.treed) refl)
