-- What the texts on the table keeping mean, in each schema that has it, and the table ws.
use Rattle.statements.proofs.Outside.{◌≡◌, ℕ, pos, false, List, [], ◌∷◌, codes, Some, None, Ok, refl, Null, Int, Binary, lit, col, Query, Schema, Insert, Update, Delete, command, insert_or_abort, insert, new_rows, source_of, queried, timed, returning, shows, places, as_row, inserted, selected, program, query, everything}
use Rattle.sqlite_schema.specs.declared.command.Source.TheVariants.{Values, Query as Queried}
use Rattle.statements.specs.declared.retentions.TheConstants.{ADD_RETENTION, FIND_RETENTION, SET_RETENTION, REMOVE_RETENTION, FILL_RETENTIONS}
use Rattle.statements.specs.Place.{StandsAt}
use Rattle.statements.specs.Schema.{ws_table, retention_table}
use Rattle.statements.proofs.SyntaxTrees as st
use Rattle.statements.proofs.Meaning.{IsText, Means, means}
use Rattle.statements.proofs.Reading.{query_is}
use Rattle.statements.proofs.Writes.{plain_program}
use Rattle.statements.proofs.Answered.{point}
use Rattle.statements.proofs.Commands.{is_at, update_query, delete_query, point_rest, point_draft, no_page}
use Rattle.statements.proofs.Selects.{Asks, asks}

abbrev pub find_retention_rest : Query
find_retention_rest = point_rest (is_at 1 0 ∷ is_at 2 1 ∷ []) (col 1 3 ∷ []) no_page

abbrev pub find_retention_names : List (List ℕ)
find_retention_names = codes "keep" ∷ []

pub find_retention_asks : Asks retention_table FIND_RETENTION.now (λ tree. point find_retention_rest tree false) find_retention_names
unfolding everything
find_retention_asks =
    asks st.find_retention_core (st.by_rowid false) None (λ tree. point_draft find_retention_rest tree false) (Some Binary ∷ []) refl refl (λ s tree. refl) (λ s again. refl)
    (λ s at tree h. rw (h.named, h.found, h.found, h.found, h.small) refl) (λ s at tree h. rw (h.low, h.treed) refl)

module _ (s : Schema) (at tree : ℕ) (h : StandsAt s (codes "keeping") retention_table at tree) where
  pub add_retention_means : Means s (Insert at (Values (lit Null ∷ col 0 0 ∷ col 0 1 ∷ col 0 2 ∷ []) 4)) ADD_RETENTION.now
  unfolding everything
  add_retention_means = means s ADD_RETENTION.now st.add_retention refl (rw (h.named, h.found) refl) (λ _. refl) (λ base. rw (h.named, h.found) refl)

  pub set_retention_means : Means s (Update at (plain_program (update_query tree (is_at 1 0 ∷ is_at 2 1 ∷ []) (col 1 1 ∷ col 1 2 ∷ col 0 2 ∷ [])))) SET_RETENTION.now
  unfolding everything
  set_retention_means = means s SET_RETENTION.now st.set_retention refl refl (λ _. refl) (λ base. rw (h.named, h.found, h.found, h.found, h.treed, h.low) refl)

  pub remove_retention_means : Means s (Delete at (plain_program (delete_query tree (is_at 1 0 ∷ is_at 2 1 ∷ [])))) REMOVE_RETENTION.now
  unfolding everything
  remove_retention_means = means s REMOVE_RETENTION.now st.remove_retention refl refl (λ _. refl) (λ base. rw (h.named, h.found, h.found, h.found, h.treed, h.low) refl)

-- ---- a row for each workspace

abbrev pub filled_rest : Query
filled_rest = record (point_rest [] (lit Null ∷ col 1 1 ∷ col 1 2 ∷ lit (Int (pos 100)) ∷ []) no_page) { collations = Binary ∷ Binary ∷ Binary ∷ Binary ∷ [] }

abbrev wss_rest : Query
wss_rest = point_rest [] (col 1 1 ∷ col 1 2 ∷ lit (Int (pos 100)) ∷ []) no_page

abbrev fill_names : List (List ℕ)
fill_names = codes "org" ∷ codes "name" ∷ codes "100" ∷ []

fill_retentions_reads : IsText FILL_RETENTIONS.now st.fill_retentions
unfolding everything
fill_retentions_reads = refl

module _ (s : Schema) (at tree from source : ℕ) (h : StandsAt s (codes "keeping") retention_table at tree) (k : StandsAt s (codes "ws") ws_table from source) where
  fill_query : query s (st.select st.fill_retentions_core (st.by_rowid false) None) ≡ Ok (((point_draft wss_rest source false), fill_names, (Some Binary ∷ Some Binary ∷ None ∷ [])), [])
  unfolding everything
  fill_query = query_is s (st.select st.fill_retentions_core (st.by_rowid false) None) st.fill_retentions_core (st.by_rowid false) no_page ((point_draft wss_rest source false), fill_names, (Some Binary ∷ Some Binary ∷ None ∷ [])) refl refl refl refl refl (λ again. refl) (rw (k.named, k.found, k.found, k.found, k.small) refl)

  fill_fits : program s [] (record (point_draft filled_rest source false) { collations = filled_rest.collations }) ≡ Ok (plain_program (point filled_rest source false))
  unfolding everything
  fill_fits = rw (k.low, k.treed) refl

  fill_places : places (record retention_table { tree = tree }) st.retention_columns ≡ Ok (1 ∷ 2 ∷ 3 ∷ [])
  unfolding everything
  fill_places = refl

  fill_row : (base : ℕ) → as_row (record retention_table { tree = tree }) base (1 ∷ 2 ∷ 3 ∷ []) (point_draft wss_rest source false) ≡ Ok (filled_rest.project, filled_rest.collations)
  unfolding everything
  fill_row base = refl

  fill_retentions_is : (base : ℕ) → command s [] base st.fill_retentions ≡ Ok (Insert at (Queried (plain_program (point filled_rest source false))))
  unfolding command insert_or_abort insert new_rows inserted selected source_of queried
  fill_retentions_is base = rw (h.named, h.found, fill_places, fill_query, fill_row base, fill_fits) refl

  pub fill_retentions_means : Means s (Insert at (Queried (plain_program (point filled_rest source false)))) FILL_RETENTIONS.now
  unfolding timed returning shows
  fill_retentions_means = means s FILL_RETENTIONS.now st.fill_retentions fill_retentions_reads (rw (h.named, h.found) refl) (λ _. refl) fill_retentions_is
