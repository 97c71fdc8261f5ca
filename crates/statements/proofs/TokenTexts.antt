-- What the texts on the table token mean, in each schema that has it.
use Rattle.statements.proofs.Outside.{ℕ, false, List, [], ◌∷◌, codes, Some, None, refl, Null, Binary, lit, col, Query, Schema, Values, Insert, Delete, everything}
use Rattle.statements.specs.declared.tokens.TheConstants.{ADD_TOKEN, TOKEN_ROLE, NAMED_TOKEN_ROLE, LIST_DIGEST_TOKENS, REMOVE_TOKEN}
use Rattle.statements.specs.Place.{StandsAt}
use Rattle.statements.specs.Schema.{token_table}
use Rattle.statements.proofs.SyntaxTrees as st
use Rattle.statements.proofs.Meaning.{Means, means}
use Rattle.statements.proofs.Writes.{plain_program}
use Rattle.statements.proofs.Answered.{point}
use Rattle.statements.proofs.Listed.{listing}
use Rattle.statements.proofs.Commands.{is_at, delete_query, point_rest, point_draft, listing_draft, no_page}
use Rattle.statements.proofs.Selects.{Asks, asks}

abbrev pub token_role_rest : Query
token_role_rest = point_rest (is_at 1 0 ∷ is_at 3 1 ∷ []) (col 1 4 ∷ []) no_page

abbrev pub named_token_role_rest : Query
named_token_role_rest = point_rest (is_at 1 0 ∷ is_at 2 1 ∷ []) (col 1 4 ∷ []) no_page

abbrev pub digest_token_names : List (List ℕ)
digest_token_names = codes "name" ∷ codes "digest" ∷ codes "role" ∷ []

abbrev pub list_digest_tokens_rest : Query
list_digest_tokens_rest = point_rest (is_at 1 0 ∷ []) (col 1 2 ∷ col 1 3 ∷ col 1 4 ∷ []) no_page

pub token_role_asks : Asks token_table TOKEN_ROLE.now (λ tree. point token_role_rest tree false) (codes "role" ∷ [])
unfolding everything
token_role_asks =
    asks st.token_role_core (st.by_rowid false) None (λ tree. point_draft token_role_rest tree false) (Some Binary ∷ []) refl refl (λ s tree. refl) (λ s again. refl)
    (λ s at tree h. rw (h.named, h.found, h.found, h.found, h.small) refl) (λ s at tree h. rw (h.low, h.treed) refl)

pub named_token_role_asks : Asks token_table NAMED_TOKEN_ROLE.now (λ tree. point named_token_role_rest tree false) (codes "role" ∷ [])
unfolding everything
named_token_role_asks =
    asks st.named_token_role_core (st.by_rowid false) None (λ tree. point_draft named_token_role_rest tree false) (Some Binary ∷ []) refl refl (λ s tree. refl) (λ s again. refl)
    (λ s at tree h. rw (h.named, h.found, h.found, h.found, h.small) refl) (λ s at tree h. rw (h.low, h.treed) refl)

pub list_digest_tokens_asks : Asks token_table LIST_DIGEST_TOKENS.now (λ tree. listing list_digest_tokens_rest tree 2) digest_token_names
unfolding everything
list_digest_tokens_asks =
    asks st.list_digest_tokens_core (st.by_column (codes "name")) None (λ tree. listing_draft list_digest_tokens_rest tree 2) (Some Binary ∷ Some Binary ∷ Some Binary ∷ []) refl refl (λ s tree. refl) (λ s again. refl)
    (λ s at tree h. rw (h.named, h.found, h.found, h.found, h.found) refl) (λ s at tree h. rw (h.low, h.treed) refl)

module _ (s : Schema) (at tree : ℕ) (h : StandsAt s (codes "token") token_table at tree) where
  pub add_token_means : Means s (Insert at (Values (lit Null ∷ col 0 0 ∷ col 0 1 ∷ col 0 2 ∷ col 0 3 ∷ []) 5)) ADD_TOKEN.now
  unfolding everything
  add_token_means = means s ADD_TOKEN.now st.add_token refl (rw (h.named, h.found) refl) (λ _. refl) (λ base. rw (h.named, h.found) refl)

  pub remove_token_means : Means s (Delete at (plain_program (delete_query tree (is_at 1 0 ∷ is_at 2 1 ∷ [])))) REMOVE_TOKEN.now
  unfolding everything
  remove_token_means = means s REMOVE_TOKEN.now st.remove_token refl refl (λ _. refl) (λ base. rw (h.named, h.found, h.found, h.found, h.treed, h.low) refl)
