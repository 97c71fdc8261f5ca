-- The statements on the table page: how they are written, and what their texts mean in each schema that has it.
use Rattle.pages.proofs.Outside.{ℕ, pos, false, List, [], ◌∷◌, ◌++◌, codes, Some, None, refl, Null, Int, Binary, lit, col, Query, Schema, Insert, Update, Delete, everything, StandsAt, page_table, plain_program, point, is_at, is_under, update_query, delete_query, point_rest, point_draft, no_page, Asks, asks}
use Rattle.sqlite_schema.specs.declared.command.Source.TheVariants.{Values}
use Rattle.sqlite_ast.specs.declared.Binary.TheVariants.{Lt}
use Rattle.sqlite_ast.specs.declared.Expr.TheVariants.{Parameter, Integer, Binary as Two}
use Rattle.sqlite_ast.specs.declared.Shown.TheVariants.{One}
use Rattle.statements.proofs.SyntaxTrees as st
use Rattle.statements.proofs.Meaning.{Means, means}
use Rattle.pages.specs.declared.rows.TheConstants.{ADD_PAGE, SET_PAGE_USES, REMOVE_PAGE, REMOVE_LAST_PAGE, FIND_PAGE_BYTES, FIND_PAGE_USES, EQUAL_PAGE, FIRST_TWIN, FIRST_PAGE}

abbrev pub set_page_uses_query : ℕ → Query
set_page_uses_query tree = update_query tree (is_at 1 0 ∷ is_at 2 1 ∷ []) (col 1 1 ∷ col 1 2 ∷ col 1 3 ∷ col 0 2 ∷ [])

abbrev pub remove_page_query : ℕ → Query
remove_page_query tree = delete_query tree (is_at 1 0 ∷ is_at 2 1 ∷ [])

abbrev pub remove_last_page_query : ℕ → Query
remove_last_page_query tree = delete_query tree (is_at 1 0 ∷ is_at 2 1 ∷ is_under 4 2 ∷ [])

abbrev pub page_bytes_rest : Query
page_bytes_rest = point_rest (is_at 1 0 ∷ is_at 2 1 ∷ []) (col 1 3 ∷ []) no_page

abbrev pub page_uses_rest : Query
page_uses_rest = point_rest (is_at 1 0 ∷ is_at 2 1 ∷ []) (col 1 4 ∷ []) no_page

abbrev pub equal_page_rest : Query
equal_page_rest = point_rest (is_at 1 0 ∷ is_at 3 1 ∷ []) (col 1 2 ∷ col 1 4 ∷ []) no_page

abbrev pub first_twin_rest : Query
first_twin_rest = point_rest (is_at 1 0 ∷ []) (col 1 2 ∷ []) no_page

abbrev pub first_page_rest : Query
first_page_rest = point_rest (is_at 1 0 ∷ []) (col 1 2 ∷ col 1 4 ∷ is_at 3 1 ∷ []) no_page

abbrev pub first_page_names : List (List ℕ)
first_page_names = codes "twin" ∷ codes "uses" ∷ codes "bytes = ?2" ∷ []

pub page_bytes_asks : Asks page_table FIND_PAGE_BYTES.now (λ tree. point page_bytes_rest tree false) (codes "bytes" ∷ [])
unfolding everything
page_bytes_asks =
    asks (st.from_table (st.shown_columns (codes "bytes" ∷ [])) (codes "page") (st.at_key (codes "pkey") (codes "twin"))) (st.by_rowid false) None (λ tree. point_draft page_bytes_rest tree false) (Some Binary ∷ []) refl refl (λ s tree. refl) (λ s again. refl)
    (λ s at tree h. rw (h.named, h.found, h.found, h.found, h.small) refl) (λ s at tree h. rw (h.low, h.treed) refl)

pub page_uses_asks : Asks page_table FIND_PAGE_USES.now (λ tree. point page_uses_rest tree false) (codes "uses" ∷ [])
unfolding everything
page_uses_asks =
    asks (st.from_table (st.shown_columns (codes "uses" ∷ [])) (codes "page") (st.at_key (codes "pkey") (codes "twin"))) (st.by_rowid false) None (λ tree. point_draft page_uses_rest tree false) (Some Binary ∷ []) refl refl (λ s tree. refl) (λ s again. refl)
    (λ s at tree h. rw (h.named, h.found, h.found, h.found, h.small) refl) (λ s at tree h. rw (h.low, h.treed) refl)

pub equal_page_asks : Asks page_table EQUAL_PAGE.now (λ tree. point equal_page_rest tree false) (codes "twin" ∷ codes "uses" ∷ [])
unfolding everything
equal_page_asks =
    asks (st.from_table (st.shown_columns (codes "twin" ∷ codes "uses" ∷ [])) (codes "page") (st.at_key (codes "pkey") (codes "bytes"))) (st.by_rowid false) None (λ tree. point_draft equal_page_rest tree false) (Some Binary ∷ Some Binary ∷ []) refl refl (λ s tree. refl) (λ s again. refl)
    (λ s at tree h. rw (h.named, h.found, h.found, h.found, h.small) refl) (λ s at tree h. rw (h.low, h.treed) refl)

pub first_twin_asks : Asks page_table FIRST_TWIN.now (λ tree. point first_twin_rest tree false) (codes "twin" ∷ [])
unfolding everything
first_twin_asks =
    asks (st.from_table (st.shown_columns (codes "twin" ∷ [])) (codes "page") (st.is_given (codes "pkey") 1)) (st.by_rowid false) None (λ tree. point_draft first_twin_rest tree false) (Some Binary ∷ []) refl refl (λ s tree. refl) (λ s again. refl)
    (λ s at tree h. rw (h.named, h.found, h.found, h.found, h.small) refl) (λ s at tree h. rw (h.low, h.treed) refl)

pub first_page_asks : Asks page_table FIRST_PAGE.now (λ tree. point first_page_rest tree false) first_page_names
unfolding everything
first_page_asks =
    asks (st.from_table (st.shown_columns (codes "twin" ∷ codes "uses" ∷ []) ++ One (st.is_given (codes "bytes") 2) None (codes "bytes = ?2") ∷ []) (codes "page") (st.is_given (codes "pkey") 1)) (st.by_rowid false) None (λ tree. point_draft first_page_rest tree false) (Some Binary ∷ Some Binary ∷ None ∷ []) refl refl (λ s tree. refl) (λ s again. refl)
    (λ s at tree h. rw (h.named, h.found, h.found, h.found, h.small) refl) (λ s at tree h. rw (h.low, h.treed) refl)

module _ (s : Schema) (at tree : ℕ) (h : StandsAt s (codes "page") page_table at tree) where
  pub add_page_means : Means s (Insert at (Values (lit Null ∷ col 0 0 ∷ col 0 1 ∷ col 0 2 ∷ lit (Int (pos 1)) ∷ []) 5)) ADD_PAGE.now
  unfolding everything
  add_page_means = means s ADD_PAGE.now (st.insert (codes "page") (codes "pkey" ∷ codes "twin" ∷ codes "bytes" ∷ codes "uses" ∷ []) (Parameter 1 ∷ Parameter 2 ∷ Parameter 3 ∷ st.one ∷ [])) refl (rw (h.named, h.found) refl) (λ _. refl) (λ base. rw (h.named, h.found) refl)

  pub set_page_uses_means : Means s (Update at (plain_program (set_page_uses_query tree))) SET_PAGE_USES.now
  unfolding everything
  set_page_uses_means = means s SET_PAGE_USES.now (st.update (codes "page") ((codes "uses", Parameter 3) ∷ []) (st.at_key (codes "pkey") (codes "twin"))) refl refl (λ _. refl) (λ base. rw (h.named, h.found, h.found, h.found, h.treed, h.low) refl)

  pub remove_page_means : Means s (Delete at (plain_program (remove_page_query tree))) REMOVE_PAGE.now
  unfolding everything
  remove_page_means = means s REMOVE_PAGE.now (st.delete (codes "page") (st.at_key (codes "pkey") (codes "twin"))) refl refl (λ _. refl) (λ base. rw (h.named, h.found, h.found, h.found, h.treed, h.low) refl)

  pub remove_last_page_means : Means s (Delete at (plain_program (remove_last_page_query tree))) REMOVE_LAST_PAGE.now
  unfolding everything
  remove_last_page_means = means s REMOVE_LAST_PAGE.now (st.delete (codes "page") (st.also (st.at_key (codes "pkey") (codes "twin")) (Two Lt (st.named (codes "uses")) (Integer (codes "2"))))) refl refl (λ _. refl) (λ base. rw (h.named, h.found, h.found, h.found, h.treed, h.low) refl)
