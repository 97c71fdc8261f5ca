-- The statements on the table vpage: how they are written, and what their texts mean in each schema that has it.
use Rattle.texts.proofs.Outside.{ℕ, false, List, [], ◌∷◌, codes, Some, None, refl, Null, Binary, Term, lit, col, Query, Schema, Insert, Delete, Expr, Parameter, everything, StandsAt, vpage_table, Means, means, plain_program, is_at, delete_query, point_rest, point_draft, listing_draft, no_page, listing, Asks, asks}
use Rattle.sqlite_schema.specs.declared.command.Source.TheVariants.{Values}
use Rattle.statements.proofs.SyntaxTrees as st
use Rattle.statements.proofs.Answered.{point}
use Rattle.texts.specs.declared.places.TheConstants.{ADD_PLACE, REMOVE_PLACES, PLACES, PAGE_AT}

-- WHERE of a place of a version
abbrev at_place : Expr
at_place = st.also (st.also (st.at_key (codes "org") (codes "ws")) (st.is_given (codes "number") 3)) (st.is_given (codes "place") 4)

abbrev at_place_terms : List Term
at_place_terms = is_at 1 0 ∷ is_at 2 1 ∷ is_at 3 2 ∷ is_at 4 3 ∷ []

-- WHERE of a version
abbrev of_version : Expr
of_version = st.also (st.at_key (codes "org") (codes "ws")) (st.is_given (codes "number") 3)

abbrev of_version_terms : List Term
of_version_terms = is_at 1 0 ∷ is_at 2 1 ∷ is_at 3 2 ∷ []

abbrev pub places_names : List (List ℕ)
places_names = codes "pkey" ∷ codes "twin" ∷ codes "place" ∷ []

abbrev pub places_rest : Query
places_rest = point_rest of_version_terms (col 1 5 ∷ col 1 6 ∷ col 1 4 ∷ []) no_page

abbrev pub page_at_rest : Query
page_at_rest = point_rest at_place_terms (col 1 5 ∷ col 1 6 ∷ []) no_page

pub places_asks : Asks vpage_table PLACES.now (λ tree. listing places_rest tree 4) places_names
unfolding everything
places_asks =
    asks (st.from_table (st.shown_columns places_names) (codes "vpage") of_version) (st.by_column (codes "place")) None (λ tree. listing_draft places_rest tree 4) (Some Binary ∷ Some Binary ∷ Some Binary ∷ []) refl refl (λ s tree. refl) (λ s again. refl)
    (λ s at tree h. rw (h.named, h.found, h.found, h.found, h.found) refl) (λ s at tree h. rw (h.low, h.treed) refl)

pub page_at_asks : Asks vpage_table PAGE_AT.now (λ tree. point page_at_rest tree false) (codes "pkey" ∷ codes "twin" ∷ [])
unfolding everything
page_at_asks =
    asks (st.from_table (st.shown_columns (codes "pkey" ∷ codes "twin" ∷ [])) (codes "vpage") at_place) (st.by_rowid false) None (λ tree. point_draft page_at_rest tree false) (Some Binary ∷ Some Binary ∷ []) refl refl (λ s tree. refl) (λ s again. refl)
    (λ s at tree h. rw (h.named, h.found, h.found, h.found, h.small) refl) (λ s at tree h. rw (h.low, h.treed) refl)

module _ (s : Schema) (at tree : ℕ) (h : StandsAt s (codes "vpage") vpage_table at tree) where
  pub add_place_means : Means s (Insert at (Values (lit Null ∷ col 0 0 ∷ col 0 1 ∷ col 0 2 ∷ col 0 3 ∷ col 0 4 ∷ col 0 5 ∷ []) 7)) ADD_PLACE.now
  unfolding everything
  add_place_means = means s ADD_PLACE.now (st.insert (codes "vpage") (codes "org" ∷ codes "ws" ∷ codes "number" ∷ codes "place" ∷ codes "pkey" ∷ codes "twin" ∷ []) (Parameter 1 ∷ Parameter 2 ∷ Parameter 3 ∷ Parameter 4 ∷ Parameter 5 ∷ Parameter 6 ∷ [])) refl (rw (h.named, h.found) refl) (λ _. refl) (λ base. rw (h.named, h.found) refl)

  pub remove_places_means : Means s (Delete at (plain_program (delete_query tree of_version_terms))) REMOVE_PLACES.now
  unfolding everything
  remove_places_means = means s REMOVE_PLACES.now (st.delete (codes "vpage") of_version) refl refl (λ _. refl) (λ base. rw (h.named, h.found, h.found, h.found, h.treed, h.low) refl)
