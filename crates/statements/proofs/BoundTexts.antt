-- What the texts on the table bound mean, in each schema that has it, and the table token.
use Rattle.statements.proofs.Outside.{◌≡◌, ℕ, false, List, [], ◌∷◌, codes, Some, None, Ok, refl, Null, Text, Binary, lit, col, Query, Schema, Insert, Delete, command, insert_or_abort, insert, new_rows, source_of, queried, timed, returning, shows, places, as_row, inserted, selected, program, query, everything}
use Rattle.sqlite_schema.specs.declared.command.Source.TheVariants.{Values, Query as Queried}
use Rattle.statements.specs.declared.bounds.TheConstants.{ADD_BOUND, FIND_BOUND, REMOVE_BOUND, FILL_BOUNDS}
use Rattle.statements.specs.Place.{StandsAt}
use Rattle.statements.specs.Schema.{bound_table, token_table}
use Rattle.statements.proofs.SyntaxTrees as st
use Rattle.statements.proofs.Meaning.{IsText, Means, means}
use Rattle.statements.proofs.Reading.{query_is}
use Rattle.statements.proofs.Writes.{plain_program}
use Rattle.statements.proofs.Answered.{point}
use Rattle.statements.proofs.Commands.{is_at, delete_query, point_rest, point_draft, no_page}
use Rattle.statements.proofs.Selects.{Asks, asks}

abbrev pub find_bound_rest : Query
find_bound_rest = point_rest (is_at 1 0 ∷ is_at 2 1 ∷ []) (col 1 3 ∷ col 1 4 ∷ []) no_page

abbrev pub find_bound_names : List (List ℕ)
find_bound_names = codes "until" ∷ codes "prefix" ∷ []

pub find_bound_asks : Asks bound_table FIND_BOUND.now (λ tree. point find_bound_rest tree false) find_bound_names
unfolding everything
find_bound_asks =
    asks st.find_bound_core (st.by_rowid false) None (λ tree. point_draft find_bound_rest tree false) (Some Binary ∷ Some Binary ∷ []) refl refl (λ s tree. refl) (λ s again. refl)
    (λ s at tree h. rw (h.named, h.found, h.found, h.found, h.small) refl) (λ s at tree h. rw (h.low, h.treed) refl)

module _ (s : Schema) (at tree : ℕ) (h : StandsAt s (codes "bound") bound_table at tree) where
  pub add_bound_means : Means s (Insert at (Values (lit Null ∷ col 0 0 ∷ col 0 1 ∷ col 0 2 ∷ col 0 3 ∷ []) 5)) ADD_BOUND.now
  unfolding everything
  add_bound_means = means s ADD_BOUND.now st.add_bound refl (rw (h.named, h.found) refl) (λ _. refl) (λ base. rw (h.named, h.found) refl)

  pub remove_bound_means : Means s (Delete at (plain_program (delete_query tree (is_at 1 0 ∷ is_at 2 1 ∷ [])))) REMOVE_BOUND.now
  unfolding everything
  remove_bound_means = means s REMOVE_BOUND.now st.remove_bound refl refl (λ _. refl) (λ base. rw (h.named, h.found, h.found, h.found, h.treed, h.low) refl)

-- ---- a row for each token

abbrev pub filled_rest : Query
filled_rest = record (point_rest [] (lit Null ∷ col 1 1 ∷ col 1 2 ∷ lit Null ∷ lit (Text []) ∷ []) no_page) { collations = Binary ∷ Binary ∷ Binary ∷ Binary ∷ Binary ∷ [] }

abbrev tokens_rest : Query
tokens_rest = point_rest [] (col 1 1 ∷ col 1 2 ∷ lit Null ∷ lit (Text []) ∷ []) no_page

abbrev fill_names : List (List ℕ)
fill_names = codes "org" ∷ codes "name" ∷ codes "NULL" ∷ codes "''" ∷ []

fill_bounds_reads : IsText FILL_BOUNDS.now st.fill_bounds
unfolding everything
fill_bounds_reads = refl

module _ (s : Schema) (at tree from source : ℕ) (h : StandsAt s (codes "bound") bound_table at tree) (k : StandsAt s (codes "token") token_table from source) where
  fill_query : query s (st.select st.fill_bounds_core (st.by_rowid false) None) ≡ Ok (((point_draft tokens_rest source false), fill_names, (Some Binary ∷ Some Binary ∷ None ∷ None ∷ [])), [])
  unfolding everything
  fill_query = query_is s (st.select st.fill_bounds_core (st.by_rowid false) None) st.fill_bounds_core (st.by_rowid false) no_page ((point_draft tokens_rest source false), fill_names, (Some Binary ∷ Some Binary ∷ None ∷ None ∷ [])) refl refl refl refl refl (λ again. refl) (rw (k.named, k.found, k.found, k.found, k.small) refl)

  fill_fits : program s [] (record (point_draft filled_rest source false) { collations = filled_rest.collations }) ≡ Ok (plain_program (point filled_rest source false))
  unfolding everything
  fill_fits = rw (k.low, k.treed) refl

  fill_places : places (record bound_table { tree = tree }) st.bound_columns ≡ Ok (1 ∷ 2 ∷ 3 ∷ 4 ∷ [])
  unfolding everything
  fill_places = refl

  fill_row : (base : ℕ) → as_row (record bound_table { tree = tree }) base (1 ∷ 2 ∷ 3 ∷ 4 ∷ []) (point_draft tokens_rest source false) ≡ Ok (filled_rest.project, filled_rest.collations)
  unfolding everything
  fill_row base = refl

  fill_bounds_is : (base : ℕ) → command s [] base st.fill_bounds ≡ Ok (Insert at (Queried (plain_program (point filled_rest source false))))
  unfolding command insert_or_abort insert new_rows inserted selected source_of queried
  fill_bounds_is base = rw (h.named, h.found, fill_places, fill_query, fill_row base, fill_fits) refl

  pub fill_bounds_means : Means s (Insert at (Queried (plain_program (point filled_rest source false)))) FILL_BOUNDS.now
  unfolding timed returning shows
  fill_bounds_means = means s FILL_BOUNDS.now st.fill_bounds fill_bounds_reads (rw (h.named, h.found) refl) (λ _. refl) fill_bounds_is
