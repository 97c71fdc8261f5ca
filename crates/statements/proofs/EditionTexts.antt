-- What the texts on the table edition mean and do, in each schema that has it.
use Rattle.statements.proofs.Outside.{ℕ, pos, true, false, List, [], ◌∷◌, map, codes, find, Option, Some, None, Ok, int_eq, refl, ◌∙◌, ◌<◌, arith, Null, Int, Binary, Row, overlay, Term, lit, col, eval_all, Query, Schema, Table, Database, Values, Insert, Update, everything, State, Executes, IsKeyedBy-insert_by, IsKeyedBy-update_where, at_ints, last_term}
use Rattle.sqlite_ast.specs.declared.Statement.TheVariants as written
use Rattle.sqlite_ast.specs.declared.Expr.TheVariants.{Parameter, Binary as Two}
use Rattle.sqlite_ast.specs.declared.Binary.TheVariants.{Eq}
use Rattle.sqlite_sql.specs.declared.ops.CompareOp.TheVariants as compare
use Rattle.statements.specs.declared.making.TheConstants.{SET_VERSION, MOVE_VERSION, EDITION, SCHEMA_VERSION}
use Rattle.statements.specs.Place.{StandsAt, tree_of}
use Rattle.statements.specs.Schema.{edition_table}
use Rattle.statements.specs.Rows.{Kept, id_of, stored, number, edition_cells}
use Rattle.statements.specs.Tables.{Tables, Holds, HoldsIn, count_in, edition_layout}
use Rattle.statements.specs.Changes.{edition_moved}
use Rattle.statements.specs.Making.{HasEdition, like_edition, stored_schema_version, edition_in}
use Rattle.statements.specs.Inner.Making.{Moved, Reported, edition_set}
use Rattle.statements.specs.Calls.{IsQuery, FirstRow, Pins, IsNumber}
use Rattle.statements.proofs.SyntaxTrees as st
use Rattle.statements.proofs.Meaning.{Means, means}
use Rattle.statements.proofs.Selects.{Asks, asks}
use Rattle.statements.proofs.Writes.{plain_program}
use Rattle.statements.proofs.Answered.{answered, point, first_is}
use Rattle.statements.proofs.Commands.{is_number, update_query, point_rest, point_draft, no_page}
use Rattle.statements.proofs.Own.{put_own, update_own, insert_others, stored_tree}
use Rattle.statements.proofs.Casts.{edition_casts}
use Rattle.statements.proofs.Frames.{Turns, moved_by, written_in, updated}
use Rattle.statements.proofs.Held.{IsHeld, editions, held_in, holds_all}
use Rattle.statements.proofs.PointReads.{pinned}
use Rattle.statements.proofs.ReadBack.{number_read}

abbrev set_version_terms : List Term
set_version_terms = lit (Int (pos 1)) ∷ lit Null ∷ col 0 0 ∷ []

abbrev move_version_query : ℕ → Query
move_version_query tree = update_query tree [] (lit Null ∷ col 0 0 ∷ [])

abbrev edition_rest : Query
edition_rest = point_rest (is_number 0 1 ∷ []) (col 1 2 ∷ []) no_page

module _ (s : Schema) (at tree : ℕ) (h : StandsAt s (codes "edition") edition_table at tree) where
  set_version_means : Means s (Insert at (Values set_version_terms 3)) SET_VERSION.now
  unfolding everything
  set_version_means = means s SET_VERSION.now (st.insert (codes "edition") (codes "one" ∷ codes "version" ∷ []) (st.one ∷ Parameter 1 ∷ [])) refl (rw (h.named, h.found) refl) (λ _. refl) (λ base. rw (h.named, h.found) refl)

  move_version_means : Means s (Update at (plain_program (move_version_query tree))) MOVE_VERSION.now
  unfolding everything
  move_version_means = means s MOVE_VERSION.now (written.Update (codes "edition") ((codes "version", Parameter 1) ∷ []) None []) refl refl (λ _. refl) (λ base. rw (h.named, h.found, h.treed, h.low) refl)

-- the query of its version, over each table of edition's columns
edition_asks : (table : Table) → Asks (like_edition table) EDITION.now (λ tree. point edition_rest tree false) (codes "version" ∷ [])
unfolding everything
edition_asks table =
    asks (st.from_table (st.shown_columns (codes "version" ∷ [])) (codes "edition") (Two Eq (st.named (codes "one")) st.one)) (st.by_rowid false) None (λ tree. point_draft edition_rest tree false) (Some Binary ∷ []) refl refl (λ s tree. refl) (λ s again. refl)
    (λ s at tree h. rw (h.named, h.found, h.found, h.found, h.small) refl) (λ s at tree h. rw (h.low, h.treed) refl)

pub edition_is_query : IsQuery EDITION.now
edition_is_query = (edition_asks edition_table).is_query

pub edition_reported : (old new : State) (table : Table) (editions : List (Kept ℕ)) → HasEdition old.now table editions → (row : Option Row) → FirstRow EDITION.now [] old new row → Pins IsNumber row (stored_schema_version editions)
edition_reported old new table editions has row first =
    let tree = tree_of old.now.schema edition_table.name in
    let got = answered EDITION.now [] old new (point edition_rest tree false) (codes "version" ∷ []) ((edition_asks table).meaning old.now.schema _ _ has.place) row first in
    pinned IsNumber (λ (x : Kept ℕ). eval_all edition_rest.project ([] ∷ stored edition_cells x ∷ [])) (λ x. x.1) (λ x y reported. number_read x.1 y reported) row (find (λ x. int_eq (id_of x) (pos 1)) editions)
    (got.2 ∙ first_is edition_cells (overlay old.now.trees []) tree editions (stored_tree old.now.trees tree has.place.low ∙ has.rows) has.keyed edition_rest []
    (λ x. int_eq (id_of x) (pos 1)) (λ x. last_term (at_ints _ compare.Eq (id_of x) (pos 1))) (λ l. refl) got.0 got.1)

-- what the tables of a version hold is a case of it
pub has_edition : (n : ℕ) → 9 < count_in n → (db : Database) (t : Tables) → HoldsIn n db t → HasEdition db edition_table t.editions
has_edition n some db t h = let held = held_in editions (count_in n) some db t h in record { place = held.own.place; rows = held.rows; keyed = held.keyed }

pub edition_shows : (old new : State) (t : Tables) → Holds old.now t → (row : Option Row) → FirstRow EDITION.now [] old new row → Pins IsNumber row (edition_in t)
edition_shows old new t h = edition_reported old new edition_table t.editions (has_edition SCHEMA_VERSION (omega arith) old.now t (holds_all old.now t h))

module _ (n : ℕ) (some : 9 < count_in n) (version : ℕ) (old new : State) (count : ℕ) where
  abbrev held : (t : Tables) → HoldsIn n old.now t → IsHeld edition_layout old.now t.editions
  held = held_in editions (count_in n) some old.now

  set_version_moves : Executes SET_VERSION.now (number version ∷ []) old new (Ok count) → Moved n (edition_set version) old.now new.now
  set_version_moves ran = moved_by n (edition_set version) old.now new.now (λ t h.
      let held = held t h in
      let left = put_own edition_cells edition_table edition_casts old new held.own held.steady t.editions held.rows held.keyed SET_VERSION.now (number version ∷ []) count ran
      set_version_terms 3 (set_version_means old.now.schema _ _ held.own.place) refl refl (pos 1, version) refl in
      written_in old.now new.now left.1 editions t _ (count_in n) some h tt left.0 (IsKeyedBy-insert_by id_of t.editions (pos 1, version) held.keyed))

  pub move_version_does : Executes MOVE_VERSION.now (number version ∷ []) old new (Ok count) → Moved n (edition_moved version) old.now new.now
  move_version_does ran = moved_by n (edition_moved version) old.now new.now (λ t h.
      let held = held t h in
      let moved : Kept ℕ → Kept ℕ = λ x. (x.0, version) in
      let left = update_own edition_cells edition_table edition_casts old new held.own held.steady t.editions held.rows held.keyed MOVE_VERSION.now (number version ∷ []) count ran
      (move_version_query (tree_of old.now.schema edition_table.name)) (move_version_means old.now.schema _ _ held.own.place) refl refl refl (λ rows. refl) (λ x. true) (λ x. refl) moved (λ x. refl) (λ x. refl) in
      written_in old.now new.now left.1 editions t (map moved t.editions) (count_in n) some h tt left.0 (IsKeyedBy-update_where id_of (λ x. true) moved (λ x. refl) t.editions held.keyed))

pub set_version_does : (n : ℕ) → 9 < count_in n → (old new : State) (count : ℕ) → Executes SET_VERSION.now (number n ∷ []) old new (Ok count) → Reported n old.now new.now
set_version_does n some old new count ran = record {
  moved = set_version_moves n some n old new count ran;
  leaves = λ own. insert_others edition_table old new own SET_VERSION.now (number n ∷ []) count ran (Values set_version_terms 3) (set_version_means old.now.schema _ _ own.place) refl refl;
}

-- the newest version is said once more
pub retold : (old new : State) (count : ℕ) (t : Tables) → Holds old.now t → Executes MOVE_VERSION.now (number SCHEMA_VERSION ∷ []) old new (Ok count) → Turns old.now new.now (edition_moved SCHEMA_VERSION t)
retold old new count t h ran = updated editions edition_casts old new count t h _ _ ran (move_version_means old.now.schema) (λ x. true) (λ x. refl) (λ r. SCHEMA_VERSION) (λ x. refl) tt
