-- What the texts on the table version mean, in each schema that has it.
use Rattle.statements.proofs.Outside.{ℕ, true, false, List, [], ◌∷◌, codes, Some, None, refl, Null, Binary, Term, lit, col, Query, Schema, Values, Insert, Delete, Integer, everything}
use Rattle.statements.specs.declared.versions.TheConstants.{NEWEST_VERSION, OLDEST_VERSION_BELOW, VERSION_SIZE, ADD_VERSION, REMOVE_VERSION, LIST_VERSIONS}
use Rattle.statements.specs.Place.{StandsAt}
use Rattle.statements.specs.Schema.{version_table}
use Rattle.statements.proofs.SyntaxTrees as st
use Rattle.statements.proofs.Meaning.{Means, means}
use Rattle.statements.proofs.Writes.{plain_program}
use Rattle.statements.proofs.Answered.{point, ranked}
use Rattle.statements.proofs.Listed.{listing}
use Rattle.statements.proofs.Commands.{is_at, is_below, delete_query, point_rest, point_draft, ranked_draft, no_page, one_page, is_above, listing_draft}
use Rattle.statements.proofs.Selects.{Asks, asks}

abbrev pub newest_version_rest : Query
newest_version_rest = point_rest (is_at 1 0 ∷ is_at 2 1 ∷ []) (col 1 3 ∷ col 1 4 ∷ col 1 5 ∷ col 1 6 ∷ col 1 7 ∷ []) one_page

abbrev pub oldest_below_rest : Query
oldest_below_rest = point_rest (is_at 1 0 ∷ is_at 2 1 ∷ is_below 3 2 ∷ []) (col 1 3 ∷ col 1 4 ∷ col 1 5 ∷ col 1 6 ∷ col 1 7 ∷ []) one_page

abbrev pub version_size_rest : Query
version_size_rest = point_rest (is_at 1 0 ∷ is_at 2 1 ∷ is_at 3 2 ∷ []) (col 1 7 ∷ []) no_page

abbrev pub add_version_terms : List Term
add_version_terms = lit Null ∷ col 0 0 ∷ col 0 1 ∷ col 0 2 ∷ col 0 3 ∷ col 0 4 ∷ col 0 5 ∷ col 0 6 ∷ []

abbrev pub list_versions_rest : Query
list_versions_rest = point_rest (is_at 1 0 ∷ is_at 2 1 ∷ is_above 3 2 ∷ []) (col 1 3 ∷ col 1 4 ∷ col 1 5 ∷ col 1 6 ∷ col 1 7 ∷ []) no_page

abbrev pub list_versions_names : List (List ℕ)
list_versions_names = codes "number" ∷ codes "serial" ∷ codes "lineage" ∷ codes "created" ∷ codes "size" ∷ []

pub list_versions_asks : Asks version_table LIST_VERSIONS.now (λ tree. listing list_versions_rest tree 3) list_versions_names
unfolding everything
list_versions_asks =
    asks st.list_versions_core (st.by_column (codes "number")) None (λ tree. listing_draft list_versions_rest tree 3) (Some Binary ∷ Some Binary ∷ Some Binary ∷ Some Binary ∷ Some Binary ∷ []) refl refl (λ s tree. refl) (λ s again. refl)
    (λ s at tree h. rw (h.named, h.found, h.found, h.found, h.found) refl) (λ s at tree h. rw (h.low, h.treed) refl)

pub newest_version_asks : Asks version_table NEWEST_VERSION.now (λ tree. ranked newest_version_rest tree 3 true) (codes "number" ∷ codes "serial" ∷ codes "lineage" ∷ codes "created" ∷ codes "size" ∷ [])
unfolding everything
newest_version_asks =
    asks st.newest_version_core (st.by_column_and_rowid (codes "number") true) (Some (Integer (codes "1"))) (λ tree. ranked_draft newest_version_rest tree 3 true) (Some Binary ∷ Some Binary ∷ Some Binary ∷ Some Binary ∷ Some Binary ∷ []) refl refl (λ s tree. refl) (λ s again. refl)
    (λ s at tree h. rw (h.named, h.found, h.found, h.found, h.found, h.small) refl) (λ s at tree h. rw (h.low, h.treed) refl)

pub oldest_below_asks : Asks version_table OLDEST_VERSION_BELOW.now (λ tree. ranked oldest_below_rest tree 3 false) (codes "number" ∷ codes "serial" ∷ codes "lineage" ∷ codes "created" ∷ codes "size" ∷ [])
unfolding everything
oldest_below_asks =
    asks st.oldest_below_core (st.by_column_and_rowid (codes "number") false) (Some (Integer (codes "1"))) (λ tree. ranked_draft oldest_below_rest tree 3 false) (Some Binary ∷ Some Binary ∷ Some Binary ∷ Some Binary ∷ Some Binary ∷ []) refl refl (λ s tree. refl) (λ s again. refl)
    (λ s at tree h. rw (h.named, h.found, h.found, h.found, h.found, h.small) refl) (λ s at tree h. rw (h.low, h.treed) refl)

pub version_size_asks : Asks version_table VERSION_SIZE.now (λ tree. point version_size_rest tree false) (codes "size" ∷ [])
unfolding everything
version_size_asks =
    asks st.version_size_core (st.by_rowid false) None (λ tree. point_draft version_size_rest tree false) (Some Binary ∷ []) refl refl (λ s tree. refl) (λ s again. refl)
    (λ s at tree h. rw (h.named, h.found, h.found, h.found, h.small) refl) (λ s at tree h. rw (h.low, h.treed) refl)

module _ (s : Schema) (at tree : ℕ) (h : StandsAt s (codes "version") version_table at tree) where
  pub add_version_means : Means s (Insert at (Values add_version_terms 8)) ADD_VERSION.now
  unfolding everything
  add_version_means = means s ADD_VERSION.now st.add_version refl (rw (h.named, h.found) refl) (λ _. refl) (λ base. rw (h.named, h.found) refl)

  pub remove_version_means : Means s (Delete at (plain_program (delete_query tree (is_at 1 0 ∷ is_at 2 1 ∷ is_at 3 2 ∷ [])))) REMOVE_VERSION.now
  unfolding everything
  remove_version_means = means s REMOVE_VERSION.now st.remove_version refl refl (λ _. refl) (λ base. rw (h.named, h.found, h.found, h.found, h.treed, h.low) refl)
