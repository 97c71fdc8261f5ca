-- What the texts on the table ws mean, in each schema that has it.
use Rattle.statements.proofs.Outside.{ℕ, pos, false, List, [], ◌∷◌, ◌++◌, length, codes, Some, None, refl, Null, Int, Binary, Term, lit, col, Query, Schema, Values, Insert, Update, Delete, everything}
use Rattle.statements.specs.Place.{StandsAt}
use Rattle.statements.specs.Schema.{ws_table}
use Rattle.statements.specs.declared.workspaces.TheConstants.{FIND_WS, ADD_WS, SET_RUN_SETTINGS, HOLD, RELEASE_LOCK, SET_NEXT_VERSION, SET_NEXT_RUN, REMOVE_WS, COUNT_WS, LIST_NAMES}
use Rattle.statements.proofs.SyntaxTrees as st
use Rattle.statements.proofs.Meaning.{Means, means}
use Rattle.statements.proofs.Writes.{plain_program}
use Rattle.statements.proofs.Answered.{point, tally}
use Rattle.statements.proofs.Listed.{listing}
use Rattle.statements.proofs.Columns.{shown_of, orders_of, given_from, new_cells, cells_with}
use Rattle.statements.proofs.Commands.{is_at, update_query, delete_query, point_rest, point_draft, tally_draft, listing_draft, no_page}
use Rattle.statements.proofs.Selects.{Asks, asks}

-- the row of a workspace in which some columns are set
abbrev pub set_ws_query : List (List ℕ × Term) → ℕ → Query
set_ws_query given tree = update_query tree (is_at 1 0 ∷ is_at 2 1 ∷ []) (cells_with ws_table given)

abbrev pub find_ws_names : List (List ℕ)
find_ws_names = st.ws_names ++ st.run_settings_names

abbrev pub find_ws_rest : Query
find_ws_rest = point_rest (is_at 1 0 ∷ is_at 2 1 ∷ []) (shown_of ws_table find_ws_names) no_page

abbrev pub add_ws_terms : List Term
add_ws_terms = new_cells ws_table (given_from 0 (codes "org" ∷ codes "name" ∷ st.run_settings_names) ++ (codes "kind", lit (Int (pos 0))) ∷ (codes "next_version", lit (Int (pos 1))) ∷ (codes "next_run", lit (Int (pos 1))) ∷ [])

-- the columns of ws, with the rowid
abbrev pub add_ws_width : ℕ
add_ws_width = length add_ws_terms

abbrev pub count_ws_rest : Query
count_ws_rest = point_rest (is_at 1 0 ∷ []) [] no_page

abbrev pub list_names_rest : Query
list_names_rest = point_rest (is_at 1 0 ∷ []) (col 1 2 ∷ []) no_page

pub find_ws_asks : Asks ws_table FIND_WS.now (λ tree. point find_ws_rest tree false) find_ws_names
unfolding everything
find_ws_asks =
    asks st.find_ws_core (st.by_rowid false) None (λ tree. point_draft find_ws_rest tree false) (orders_of find_ws_names) refl refl (λ s tree. refl) (λ s again. refl)
    (λ s at tree h. rw (h.named, h.found, h.found, h.found, h.small) refl) (λ s at tree h. rw (h.low, h.treed) refl)

pub count_ws_asks : Asks ws_table COUNT_WS.now (λ tree. tally count_ws_rest tree Binary (lit Null)) (codes "count(*)" ∷ [])
unfolding everything
count_ws_asks =
    asks st.count_ws_core [] None (λ tree. tally_draft count_ws_rest tree Binary (lit Null)) (None ∷ []) refl refl (λ s tree. refl) (λ s again. refl)
    (λ s at tree h. rw (h.named, h.found, h.found, h.found) refl) (λ s at tree h. rw (h.low, h.treed) refl)

pub list_names_asks : Asks ws_table LIST_NAMES.now (λ tree. listing list_names_rest tree 2) (codes "name" ∷ [])
unfolding everything
list_names_asks =
    asks st.list_names_core (st.by_column (codes "name")) None (λ tree. listing_draft list_names_rest tree 2) (Some Binary ∷ []) refl refl (λ s tree. refl) (λ s again. refl)
    (λ s at tree h. rw (h.named, h.found, h.found, h.found, h.found) refl) (λ s at tree h. rw (h.low, h.treed) refl)

module _ (s : Schema) (at tree : ℕ) (h : StandsAt s (codes "ws") ws_table at tree) where
  pub add_ws_means : Means s (Insert at (Values add_ws_terms add_ws_width)) ADD_WS.now
  unfolding everything
  add_ws_means = means s ADD_WS.now st.add_ws refl (rw (h.named, h.found) refl) (λ _. refl) (λ base. rw (h.named, h.found) refl)

  pub set_run_settings_means : Means s (Update at (plain_program (set_ws_query (given_from 2 st.run_settings_names) tree))) SET_RUN_SETTINGS.now
  unfolding everything
  set_run_settings_means = means s SET_RUN_SETTINGS.now st.set_run_settings refl refl (λ _. refl) (λ base. rw (h.named, h.found, h.found, h.found, h.treed, h.low) refl)

  pub hold_means : Means s (Update at (plain_program (set_ws_query (given_from 2 (codes "kind" ∷ codes "lock_id" ∷ codes "lock_text" ∷ codes "run" ∷ [])) tree))) HOLD.now
  unfolding everything
  hold_means = means s HOLD.now st.hold refl refl (λ _. refl) (λ base. rw (h.named, h.found, h.found, h.found, h.treed, h.low) refl)

  pub release_lock_means : Means s (Update at (plain_program (set_ws_query ((codes "kind", lit (Int (pos 0))) ∷ (codes "lock_id", lit Null) ∷ (codes "lock_text", lit Null) ∷ (codes "run", lit Null) ∷ (codes "released", col 0 2) ∷ []) tree))) RELEASE_LOCK.now
  unfolding everything
  release_lock_means = means s RELEASE_LOCK.now st.release_lock refl refl (λ _. refl) (λ base. rw (h.named, h.found, h.found, h.found, h.treed, h.low) refl)

  pub set_next_version_means : Means s (Update at (plain_program (set_ws_query ((codes "next_version", col 0 2) ∷ []) tree))) SET_NEXT_VERSION.now
  unfolding everything
  set_next_version_means = means s SET_NEXT_VERSION.now st.set_next_version refl refl (λ _. refl) (λ base. rw (h.named, h.found, h.found, h.found, h.treed, h.low) refl)

  pub set_next_run_means : Means s (Update at (plain_program (set_ws_query ((codes "next_run", col 0 2) ∷ []) tree))) SET_NEXT_RUN.now
  unfolding everything
  set_next_run_means = means s SET_NEXT_RUN.now st.set_next_run refl refl (λ _. refl) (λ base. rw (h.named, h.found, h.found, h.found, h.treed, h.low) refl)

  pub remove_ws_means : Means s (Delete at (plain_program (delete_query tree (is_at 1 0 ∷ is_at 2 1 ∷ [])))) REMOVE_WS.now
  unfolding everything
  remove_ws_means = means s REMOVE_WS.now st.remove_ws refl refl (λ _. refl) (λ base. rw (h.named, h.found, h.found, h.found, h.treed, h.low) refl)
