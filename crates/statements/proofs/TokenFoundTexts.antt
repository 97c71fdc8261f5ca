-- What the texts that find tokens with their rows of bound mean, by a digest or all of an organization, in each schema that has the tables
-- token and bound.
use Rattle.statements.proofs.Outside.{◌≡◌, ℕ, true, false, List, [], ◌∷◌, ◌++◌, codes, Some, None, Ok, refl, Binary, Eq, Compare, Term, col, op2, Query, Join, left, end, Schema, Select, Left, Bound, Level, Joined, nothing, Context, outermost, inside, named, lower, within, outputs, left_join, tests, sorts, everything}
use Rattle.sqlite_resolve.specs.declared.scope.Output.{Output}
use Rattle.statements.specs.declared.tokens.TheConstants.{FIND_TOKEN, LIST_TOKENS}
use Rattle.statements.specs.Place.{StandsAt}
use Rattle.statements.specs.Schema.{token_table, bound_table}
use Rattle.statements.specs.Calls.{IsQuery}
use Rattle.statements.proofs.SyntaxTrees as st
use Rattle.statements.proofs.Meaning.{Means}
use Rattle.statements.proofs.Selects.{IsSelect, asks_query, select_means}
use Rattle.statements.proofs.Writes.{plain_program}
use Rattle.statements.proofs.JoinParts.{composed, by_bytes, shown_as, read_so_far, no_tests, no_sorts}
use Rattle.statements.proofs.Joined.{matching}
use Rattle.statements.proofs.Listed.{sorted_by, joined_listing}
use Rattle.statements.proofs.Commands.{is_at, point_rest, matching_draft, joined_draft, no_page}

find_token_reads : IsSelect FIND_TOKEN.now st.find_token_core [] None
unfolding everything
find_token_reads = refl

pub find_token_is_query : IsQuery FIND_TOKEN.now
find_token_is_query = asks_query FIND_TOKEN.now st.find_token_core [] None find_token_reads

list_tokens_reads : IsSelect LIST_TOKENS.now st.list_tokens_core st.by_token_name None
unfolding everything
list_tokens_reads = refl

pub list_tokens_is_query : IsQuery LIST_TOKENS.now
list_tokens_is_query = asks_query LIST_TOKENS.now st.list_tokens_core st.by_token_name None list_tokens_reads

abbrev found_columns : List Term
found_columns = col 1 2 ∷ col 1 4 ∷ col 2 3 ∷ col 2 4 ∷ []

abbrev pub list_tokens_rest : Query
list_tokens_rest = point_rest (is_at 1 0 ∷ []) found_columns no_page

abbrev pub find_token_rest : Query
find_token_rest = point_rest (is_at 1 0 ∷ is_at 3 1 ∷ []) found_columns no_page

-- the row of bound is that of the token
abbrev pub of_token : List Term
of_token = op2 (Compare Eq Binary) (col 2 1) (col 0 0) ∷ op2 (Compare Eq Binary) (col 2 2) (col 1 2) ∷ []

abbrev pub find_token_names : List (List ℕ)
find_token_names = codes "name" ∷ codes "role" ∷ codes "until" ∷ codes "prefix" ∷ []

abbrev find_token_shown : List Output
find_token_shown = shown_as (codes "name") 1 2 ∷ shown_as (codes "role") 1 4 ∷ shown_as (codes "until") 2 3 ∷ shown_as (codes "prefix") 2 4 ∷ []

module _ (s : Schema) (at tree : ℕ) (h : StandsAt s (codes "token") token_table at tree) (bound_at bounds : ℕ) (k : StandsAt s (codes "bound") bound_table bound_at bounds) where
  abbrev with_bound : Join
  with_bound = left bounds of_token end

  abbrev tables : List Bound
  tables = record { name = codes "token"; table = at; slot = 1; shared = [] } ∷ record { name = codes "bound"; table = bound_at; slot = 2; shared = [] } ∷ []

  abbrev level : List Output → Level
  level shown = record { tables = tables; shown = shown }

  columns_are : outputs lower (within (outermost s) (level []) true) tables st.find_token_columns (read_so_far 3 100_000 nothing) ≡ Ok (find_token_shown, read_so_far 3 99_996 by_bytes)
  unfolding everything
  columns_are = rw (h.found, k.found, h.found, k.found) refl

  -- ON and WHERE, which may name the columns
  abbrev found_inside : Context
  found_inside = within (outermost s) (level find_token_shown) false

  joins_bound : (done : Joined) → left_join lower found_inside done bounds 2 [] (Some st.of_token) (read_so_far 3 99_996 by_bytes) ≡ Ok (record done { steps = done.steps ++ Left bounds of_token ∷ [] }, read_so_far 3 99_989 nothing)
  unfolding everything
  joins_bound done = rw (h.found, k.found, h.found, k.found, h.found, k.found) refl

  those_of_digest : tests lower found_inside [] (Some st.find_token_test) (read_so_far 3 99_989 nothing) ≡ Ok (is_at 1 0 ∷ is_at 3 1 ∷ [], read_so_far 3 99_982 nothing)
  unfolding everything
  those_of_digest = rw (h.found, k.found, h.found, h.found) refl

  find_token_named : named s st.find_token_core [] no_page ≡ Ok ((matching_draft find_token_rest tree with_bound), find_token_names, (Some Binary ∷ Some Binary ∷ Some Binary ∷ Some Binary ∷ []))
  unfolding composed
  find_token_named = rw (h.named, k.named, columns_are, h.found, no_tests found_inside (read_so_far 3 99_996 by_bytes))
      (rw (k.found, joins_bound _, those_of_digest) (rw (no_tests (inside s (level find_token_shown) false) (read_so_far 3 99_982 nothing), no_sorts (inside s (level find_token_shown) false) find_token_shown (read_so_far 3 99_982 nothing)) refl))

  pub find_token_means : Means s (Select (plain_program (matching find_token_rest tree with_bound)) find_token_names) FIND_TOKEN.now
  unfolding everything
  find_token_means =
      select_means FIND_TOKEN.now st.find_token_core [] None find_token_reads s no_page (matching_draft find_token_rest tree with_bound) (matching find_token_rest tree with_bound) find_token_names (Some Binary ∷ Some Binary ∷ Some Binary ∷ Some Binary ∷ []) refl refl (λ again. refl)
      find_token_named (rw (h.low, k.low, h.treed, k.treed) refl)

  those_of_org : tests lower found_inside [] (Some st.list_tokens_test) (read_so_far 3 99_989 nothing) ≡ Ok (is_at 1 0 ∷ [], read_so_far 3 99_986 nothing)
  unfolding everything
  those_of_org = rw (h.found, h.found, h.found) refl

  by_name : sorts lower (inside s (level find_token_shown) false) find_token_shown st.by_token_name (read_so_far 3 99_986 nothing) ≡ Ok (sorted_by 2, read_so_far 3 99_985 by_bytes)
  unfolding everything
  by_name = rw (h.found, h.found) refl

  list_tokens_named : named s st.list_tokens_core st.by_token_name no_page ≡ Ok ((joined_draft list_tokens_rest tree with_bound 2), find_token_names, (Some Binary ∷ Some Binary ∷ Some Binary ∷ Some Binary ∷ []))
  unfolding composed
  list_tokens_named = rw (h.named, k.named, columns_are, h.found, no_tests found_inside (read_so_far 3 99_996 by_bytes))
      (rw (k.found, joins_bound _, those_of_org) (rw (no_tests (inside s (level find_token_shown) false) (read_so_far 3 99_986 nothing), by_name) refl))

  pub list_tokens_means : Means s (Select (plain_program (joined_listing list_tokens_rest tree with_bound 2)) find_token_names) LIST_TOKENS.now
  unfolding everything
  list_tokens_means =
      select_means LIST_TOKENS.now st.list_tokens_core st.by_token_name None list_tokens_reads s no_page (joined_draft list_tokens_rest tree with_bound 2) (joined_listing list_tokens_rest tree with_bound 2) find_token_names (Some Binary ∷ Some Binary ∷ Some Binary ∷ Some Binary ∷ []) refl refl (λ again. refl)
      list_tokens_named (rw (h.low, k.low, h.treed, k.treed) refl)
