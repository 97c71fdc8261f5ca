-- What the texts on the table run mean, in each schema that has it.
use Rattle.statements.proofs.Outside.{ℕ, false, List, [], ◌∷◌, codes, Some, None, refl, Null, Binary, Term, lit, col, Query, Schema, Values, Insert, Update, Delete, Integer, everything}
use Rattle.statements.specs.declared.runs.TheConstants.{FIRST_WAITING, RUN_STATUS, FIND_RUN, FIND_KEYED_RUN, COUNT_OPEN_RUNS, SET_RUN_STATUS, RECORD_ACTION, ADD_RUN, REMOVE_RUNS, LIST_RUNS}
use Rattle.statements.specs.Place.{StandsAt}
use Rattle.statements.specs.Schema.{run_table}
use Rattle.statements.proofs.SyntaxTrees as st
use Rattle.statements.proofs.Meaning.{Means, means}
use Rattle.statements.proofs.Writes.{plain_program}
use Rattle.statements.proofs.Answered.{point, ranked, tally}
use Rattle.statements.proofs.Listed.{listing}
use Rattle.statements.proofs.Commands.{is_at, is_number, is_under, update_query, delete_query, point_rest, point_draft, ranked_draft, tally_draft, no_page, one_page, is_above, listing_draft}
use Rattle.statements.proofs.Selects.{Asks, asks}

abbrev pub first_waiting_rest : Query
first_waiting_rest = point_rest (is_at 1 0 ∷ is_at 2 1 ∷ is_number 8 0 ∷ is_number 4 0 ∷ []) (col 1 3 ∷ []) one_page

abbrev pub run_status_rest : Query
run_status_rest = point_rest (is_at 1 0 ∷ is_at 2 1 ∷ is_at 3 2 ∷ []) (col 1 8 ∷ []) no_page

abbrev pub run_names : List (List ℕ)
run_names = codes "number" ∷ codes "plan_only" ∷ codes "rkey" ∷ codes "message" ∷ codes "created" ∷ codes "status" ∷ codes "action" ∷ []

abbrev pub run_shown : List Term
run_shown = col 1 3 ∷ col 1 4 ∷ col 1 5 ∷ col 1 6 ∷ col 1 7 ∷ col 1 8 ∷ col 1 9 ∷ []

abbrev pub find_run_rest : Query
find_run_rest = point_rest (is_at 1 0 ∷ is_at 2 1 ∷ is_at 3 2 ∷ []) run_shown no_page

abbrev pub find_keyed_run_rest : Query
find_keyed_run_rest = point_rest (is_at 1 0 ∷ is_at 2 1 ∷ is_at 5 2 ∷ []) run_shown no_page

abbrev pub count_open_runs_rest : Query
count_open_runs_rest = point_rest (is_at 1 0 ∷ is_at 2 1 ∷ is_under 8 4 ∷ []) [] no_page

abbrev pub list_runs_rest : Query
list_runs_rest = point_rest (is_at 1 0 ∷ is_at 2 1 ∷ is_above 3 2 ∷ []) run_shown no_page

pub list_runs_asks : Asks run_table LIST_RUNS.now (λ tree. listing list_runs_rest tree 3) run_names
unfolding everything
list_runs_asks =
    asks st.list_runs_core (st.by_column (codes "number")) None (λ tree. listing_draft list_runs_rest tree 3) (Some Binary ∷ Some Binary ∷ Some Binary ∷ Some Binary ∷ Some Binary ∷ Some Binary ∷ Some Binary ∷ []) refl refl (λ s tree. refl) (λ s again. refl)
    (λ s at tree h. rw (h.named, h.found, h.found, h.found, h.found) refl) (λ s at tree h. rw (h.low, h.treed) refl)

pub first_waiting_asks : Asks run_table FIRST_WAITING.now (λ tree. ranked first_waiting_rest tree 3 false) (codes "number" ∷ [])
unfolding everything
first_waiting_asks =
    asks st.first_waiting_core (st.by_column_and_rowid (codes "number") false) (Some (Integer (codes "1"))) (λ tree. ranked_draft first_waiting_rest tree 3 false) (Some Binary ∷ []) refl refl (λ s tree. refl) (λ s again. refl)
    (λ s at tree h. rw (h.named, h.found, h.found, h.found, h.found, h.small) refl) (λ s at tree h. rw (h.low, h.treed) refl)

pub run_status_asks : Asks run_table RUN_STATUS.now (λ tree. point run_status_rest tree false) (codes "status" ∷ [])
unfolding everything
run_status_asks =
    asks st.run_status_core (st.by_rowid false) None (λ tree. point_draft run_status_rest tree false) (Some Binary ∷ []) refl refl (λ s tree. refl) (λ s again. refl)
    (λ s at tree h. rw (h.named, h.found, h.found, h.found, h.small) refl) (λ s at tree h. rw (h.low, h.treed) refl)

pub find_run_asks : Asks run_table FIND_RUN.now (λ tree. point find_run_rest tree false) run_names
unfolding everything
find_run_asks =
    asks st.find_run_core (st.by_rowid false) None (λ tree. point_draft find_run_rest tree false) (Some Binary ∷ Some Binary ∷ Some Binary ∷ Some Binary ∷ Some Binary ∷ Some Binary ∷ Some Binary ∷ []) refl refl (λ s tree. refl) (λ s again. refl)
    (λ s at tree h. rw (h.named, h.found, h.found, h.found, h.small) refl) (λ s at tree h. rw (h.low, h.treed) refl)

pub find_keyed_run_asks : Asks run_table FIND_KEYED_RUN.now (λ tree. point find_keyed_run_rest tree false) run_names
unfolding everything
find_keyed_run_asks =
    asks st.find_keyed_run_core (st.by_rowid false) None (λ tree. point_draft find_keyed_run_rest tree false) (Some Binary ∷ Some Binary ∷ Some Binary ∷ Some Binary ∷ Some Binary ∷ Some Binary ∷ Some Binary ∷ []) refl refl (λ s tree. refl) (λ s again. refl)
    (λ s at tree h. rw (h.named, h.found, h.found, h.found, h.small) refl) (λ s at tree h. rw (h.low, h.treed) refl)

pub count_open_runs_asks : Asks run_table COUNT_OPEN_RUNS.now (λ tree. tally count_open_runs_rest tree Binary (lit Null)) (codes "count(*)" ∷ [])
unfolding everything
count_open_runs_asks =
    asks st.count_open_runs_core [] None (λ tree. tally_draft count_open_runs_rest tree Binary (lit Null)) (None ∷ []) refl refl (λ s tree. refl) (λ s again. refl)
    (λ s at tree h. rw (h.named, h.found, h.found, h.found) refl) (λ s at tree h. rw (h.low, h.treed) refl)

module _ (s : Schema) (at tree : ℕ) (h : StandsAt s (codes "run") run_table at tree) where
  pub set_run_status_means : Means s (Update at (plain_program (update_query tree (is_at 1 0 ∷ is_at 2 1 ∷ is_at 3 2 ∷ []) (col 1 1 ∷ col 1 2 ∷ col 1 3 ∷ col 1 4 ∷ col 1 5 ∷ col 1 6 ∷ col 1 7 ∷ col 0 3 ∷ col 1 9 ∷ [])))) SET_RUN_STATUS.now
  unfolding everything
  set_run_status_means = means s SET_RUN_STATUS.now st.set_run_status refl refl (λ _. refl) (λ base. rw (h.named, h.found, h.found, h.found, h.treed, h.low) refl)

  pub record_action_means : Means s (Update at (plain_program (update_query tree (is_at 1 0 ∷ is_at 2 1 ∷ is_at 3 2 ∷ []) (col 1 1 ∷ col 1 2 ∷ col 1 3 ∷ col 1 4 ∷ col 1 5 ∷ col 1 6 ∷ col 1 7 ∷ col 0 3 ∷ col 0 4 ∷ [])))) RECORD_ACTION.now
  unfolding everything
  record_action_means = means s RECORD_ACTION.now st.record_action refl refl (λ _. refl) (λ base. rw (h.named, h.found, h.found, h.found, h.treed, h.low) refl)

  pub add_run_means : Means s (Insert at (Values (lit Null ∷ col 0 0 ∷ col 0 1 ∷ col 0 2 ∷ col 0 3 ∷ col 0 4 ∷ col 0 5 ∷ col 0 6 ∷ col 0 7 ∷ col 0 8 ∷ []) 10)) ADD_RUN.now
  unfolding everything
  add_run_means = means s ADD_RUN.now st.add_run refl (rw (h.named, h.found) refl) (λ _. refl) (λ base. rw (h.named, h.found) refl)

  pub remove_runs_means : Means s (Delete at (plain_program (delete_query tree (is_at 1 0 ∷ is_at 2 1 ∷ [])))) REMOVE_RUNS.now
  unfolding everything
  remove_runs_means = means s REMOVE_RUNS.now st.remove_runs refl refl (λ _. refl) (λ base. rw (h.named, h.found, h.found, h.found, h.treed, h.low) refl)
