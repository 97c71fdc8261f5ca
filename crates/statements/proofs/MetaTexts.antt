-- What the texts on the table meta mean and do, in each schema that has it.
use Rattle.statements.proofs.Outside.{◌≡◌, ℕ, pos, true, false, List, [], ◌∷◌, map, codes, find, Option, Some, None, Ok, int_eq, refl, ◌∙◌, subst, ◌<◌, arith, Binary, Row, overlay, col, eval_all, Query, Schema, Table, Database, Delete, everything, State, Executes, delete_where, at_ints, last_term}
use Rattle.sqlite_ast.specs.declared.Expr.TheVariants.{Binary as Two}
use Rattle.sqlite_ast.specs.declared.Binary.TheVariants.{Eq}
use Rattle.sqlite_sql.specs.declared.ops.CompareOp.TheVariants as compare
use Rattle.statements.specs.declared.making.TheConstants.{CLEAR_VERSION, VERSION, SCHEMA_VERSION}
use Rattle.statements.specs.Place.{StandsAt, tree_of}
use Rattle.statements.specs.Schema.{meta_table}
use Rattle.statements.specs.Rows.{Kept, id_of, stored, meta_cells}
use Rattle.statements.specs.Tables.{Tables, Holds, HoldsIn, count_in}
use Rattle.statements.specs.Making.{HasMeta, like_meta, stored_schema_version, schema_version_in}
use Rattle.statements.specs.Inner.Making.{Moved, schema_version_cleared}
use Rattle.statements.specs.Calls.{IsQuery, FirstRow, Pins, IsNumber}
use Rattle.statements.proofs.SyntaxTrees as st
use Rattle.statements.proofs.Meaning.{Means, means}
use Rattle.statements.proofs.Selects.{Asks, asks}
use Rattle.statements.proofs.Writes.{plain_program}
use Rattle.statements.proofs.Answered.{answered, point, first_is}
use Rattle.statements.proofs.Commands.{is_number, delete_query, point_rest, point_draft, no_page}
use Rattle.statements.proofs.Own.{Leads, delete_own, stored_tree}
use Rattle.statements.proofs.Casts.{meta_casts}
use Rattle.statements.proofs.Frames.{moved_by, written_in}
use Rattle.statements.proofs.Held.{metas, held_in, holds_all}
use Rattle.statements.proofs.PointReads.{pinned}
use Rattle.statements.proofs.ReadBack.{number_read}

abbrev clear_version_query : ℕ → Query
clear_version_query tree = delete_query tree []

abbrev version_rest : Query
version_rest = point_rest (is_number 0 1 ∷ []) (col 1 2 ∷ []) no_page

module _ (s : Schema) (at tree : ℕ) (h : StandsAt s (codes "meta") meta_table at tree) where
  clear_version_means : Means s (Delete at (plain_program (clear_version_query tree))) CLEAR_VERSION.now
  unfolding everything
  clear_version_means = means s CLEAR_VERSION.now st.clear_schema_version refl refl (λ _. refl) (λ base. rw (h.named, h.found, h.treed, h.low) refl)

-- the query of the version, over each table of meta's columns
version_asks : (table : Table) → Asks (like_meta table) VERSION.now (λ tree. point version_rest tree false) (codes "version" ∷ [])
unfolding everything
version_asks table =
    asks (st.from_table (st.shown_columns (codes "version" ∷ [])) (codes "meta") (Two Eq (st.named (codes "one")) st.one)) (st.by_rowid false) None (λ tree. point_draft version_rest tree false) (Some Binary ∷ []) refl refl (λ s tree. refl) (λ s again. refl)
    (λ s at tree h. rw (h.named, h.found, h.found, h.found, h.small) refl) (λ s at tree h. rw (h.low, h.treed) refl)

pub version_is_query : IsQuery VERSION.now
version_is_query = (version_asks meta_table).is_query

pub version_reported : (old new : State) (table : Table) (metas : List (Kept ℕ)) → HasMeta old.now table metas → (row : Option Row) → FirstRow VERSION.now [] old new row → Pins IsNumber row (stored_schema_version metas)
version_reported old new table metas has row first =
    let tree = tree_of old.now.schema meta_table.name in
    let got = answered VERSION.now [] old new (point version_rest tree false) (codes "version" ∷ []) ((version_asks table).meaning old.now.schema _ _ has.place) row first in
    pinned IsNumber (λ (x : Kept ℕ). eval_all version_rest.project ([] ∷ stored meta_cells x ∷ [])) (λ x. x.1) (λ x y reported. number_read x.1 y reported) row (find (λ x. int_eq (id_of x) (pos 1)) metas)
    (got.2 ∙ first_is meta_cells (overlay old.now.trees []) tree metas (stored_tree old.now.trees tree has.place.low ∙ has.rows) has.keyed version_rest []
    (λ x. int_eq (id_of x) (pos 1)) (λ x. last_term (at_ints _ compare.Eq (id_of x) (pos 1))) (λ l. refl) got.0 got.1)

-- what the tables of a version hold is a case of it
pub has_meta : (n : ℕ) → 0 < count_in n → (db : Database) (t : Tables) → HoldsIn n db t → HasMeta db meta_table t.metas
has_meta n some db t h = let held = held_in metas (count_in n) some db t h in record { place = held.own.place; rows = held.rows; keyed = held.keyed }

all_gone : {X : Type 0} (xs : List X) → delete_where (λ x. true) xs ≡ []
all_gone [] = refl
all_gone (x ∷ xs) = all_gone xs

pub clear_version_does : (old new : State) (count : ℕ) → Executes CLEAR_VERSION.now [] old new (Ok count) → Moved 2 schema_version_cleared old.now new.now
clear_version_does old new count ran = moved_by 2 schema_version_cleared old.now new.now (λ t h.
    let held = held_in metas 10 (omega arith) old.now t h in
    let left = delete_own meta_cells meta_table meta_casts old new held.own held.steady t.metas held.rows held.keyed CLEAR_VERSION.now [] count ran
    (clear_version_query (tree_of old.now.schema meta_table.name)) (clear_version_means old.now.schema _ _ held.own.place) refl refl refl (λ rows. refl) (λ x. true) (λ x. refl) (λ x. refl) in
    let leads = subst (λ (l : List (Kept ℕ)). Leads old.now.schema (tree_of old.now.schema meta_table.name) (map (stored meta_cells) l) old.now.trees new.now.trees) (all_gone t.metas) left.0 in
    written_in old.now new.now left.1 metas t [] 10 (omega arith) h tt leads tt)

pub version_shows : (old new : State) (t : Tables) → Holds old.now t → (row : Option Row) → FirstRow VERSION.now [] old new row → Pins IsNumber row (schema_version_in t)
version_shows old new t h = version_reported old new meta_table t.metas (has_meta SCHEMA_VERSION (omega arith) old.now t (holds_all old.now t h))
