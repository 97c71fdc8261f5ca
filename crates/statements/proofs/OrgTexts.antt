-- What the texts on the table org mean, in each schema that has it.
use Rattle.statements.proofs.Outside.{ℕ, false, List, [], ◌∷◌, codes, Some, None, refl, Null, Binary, lit, col, Query, Schema, Values, Insert, Update, Delete, everything}
use Rattle.statements.specs.declared.organizations.TheConstants.{ADD_ORG, SET_CAP, REMOVE_ORG, ORG_CAP, LIST_ORGS}
use Rattle.statements.specs.Place.{StandsAt}
use Rattle.statements.specs.Schema.{org_table}
use Rattle.statements.proofs.SyntaxTrees as st
use Rattle.statements.proofs.Meaning.{Means, means}
use Rattle.statements.proofs.Writes.{plain_program}
use Rattle.statements.proofs.Answered.{point}
use Rattle.statements.proofs.Listed.{listing}
use Rattle.statements.proofs.Commands.{is_at, update_query, delete_query, point_rest, point_draft, no_page, listing_draft}
use Rattle.statements.proofs.Selects.{Asks, asks}

abbrev pub org_cap_rest : Query
org_cap_rest = point_rest (is_at 1 0 ∷ []) (col 1 2 ∷ []) no_page

abbrev pub list_orgs_rest : Query
list_orgs_rest = point_rest [] (col 1 1 ∷ col 1 2 ∷ []) no_page

abbrev pub list_orgs_names : List (List ℕ)
list_orgs_names = codes "name" ∷ codes "cap" ∷ []

pub list_orgs_asks : Asks org_table LIST_ORGS.now (λ tree. listing list_orgs_rest tree 1) list_orgs_names
unfolding everything
list_orgs_asks =
    asks st.list_orgs_core (st.by_column (codes "name")) None (λ tree. listing_draft list_orgs_rest tree 1) (Some Binary ∷ Some Binary ∷ []) refl refl (λ s tree. refl) (λ s again. refl)
    (λ s at tree h. rw (h.named, h.found, h.found, h.found, h.found) refl) (λ s at tree h. rw (h.low, h.treed) refl)

pub org_cap_asks : Asks org_table ORG_CAP.now (λ tree. point org_cap_rest tree false) (codes "cap" ∷ [])
unfolding everything
org_cap_asks =
    asks st.org_cap_core (st.by_rowid false) None (λ tree. point_draft org_cap_rest tree false) (Some Binary ∷ []) refl refl (λ s tree. refl) (λ s again. refl)
    (λ s at tree h. rw (h.named, h.found, h.found, h.found, h.small) refl) (λ s at tree h. rw (h.low, h.treed) refl)

module _ (s : Schema) (at tree : ℕ) (h : StandsAt s (codes "org") org_table at tree) where
  pub add_org_means : Means s (Insert at (Values (lit Null ∷ col 0 0 ∷ col 0 1 ∷ []) 3)) ADD_ORG.now
  unfolding everything
  add_org_means = means s ADD_ORG.now st.add_org refl (rw (h.named, h.found) refl) (λ _. refl) (λ base. rw (h.named, h.found) refl)

  pub set_cap_means : Means s (Update at (plain_program (update_query tree (is_at 1 0 ∷ []) (col 1 1 ∷ col 0 1 ∷ [])))) SET_CAP.now
  unfolding everything
  set_cap_means = means s SET_CAP.now st.set_cap refl refl (λ _. refl) (λ base. rw (h.named, h.found, h.found, h.found, h.treed, h.low) refl)

  pub remove_org_means : Means s (Delete at (plain_program (delete_query tree (is_at 1 0 ∷ [])))) REMOVE_ORG.now
  unfolding everything
  remove_org_means = means s REMOVE_ORG.now st.remove_org refl refl (λ _. refl) (λ base. rw (h.named, h.found, h.found, h.found, h.treed, h.low) refl)
