-- All rows of one of our tables, in the order of their rowids.
use Rattle.statements.proofs.Outside.{◌≡◌, ℕ, true, false, List, [], ◌∷◌, map, Result, refl, ap, ◌∙◌, map-id, AllZip, IfOk-weaker, Row, Ghosts, Term, eval_all, Query, overlay, Draft, Select, Held, state, State, Shown, filter_all, all_of}
use Rattle.statements.specs.declared.making.TheConstants.{SCHEMA_VERSION}
use Rattle.statements.specs.Place.{tree_of}
use Rattle.statements.specs.Rows.{Kept, stored}
use Rattle.statements.specs.Tables.{Layout, count_in}
use Rattle.statements.specs.Calls.{AreAllRead}
use Rattle.statements.specs.Steps.{Equals, Queries}
use Rattle.statements.proofs.Meaning.{Means}
use Rattle.statements.proofs.Writes.{plain_program}
use Rattle.statements.proofs.Own.{stored_tree}
use Rattle.statements.proofs.Answered.{point, all_are}
use Rattle.statements.proofs.Listed.{all_listed, read_as}
use Rattle.statements.proofs.Held.{IsHeld, Ours, held_in, holds_all}
use Rattle.statements.proofs.Commands.{point_rest, point_draft, no_page}
use Rattle.statements.proofs.Selects.{Asks}

-- a query that shows these columns of each row of a table
abbrev pub whole : List Term → ℕ → Query
whole project tree = point (point_rest [] project no_page) tree false

abbrev pub whole_draft : List Term → ℕ → Draft
whole_draft project tree = point_draft (point_rest [] project no_page) tree false

-- a row that the query shows is read as the row that the table keeps
module _ {R : Type 0} (layout : Layout R) (old new : State) (xs : List (Kept R)) (held : IsHeld layout old.now xs) (text : List ℕ) (project : List Term) (names : List (List ℕ))
    (read : Row → Kept R) (back : (x : Kept R) → read (eval_all project ([] ∷ stored layout.cells x ∷ [])) ≡ x) where
  abbrev here : ℕ
  here = tree_of old.now.schema layout.table.name

  abbrev show : Kept R → Row
  show x = eval_all project ([] ∷ stored layout.cells x ∷ [])

  pub whole_are : Means old.now.schema (Select (plain_program (whole project here)) names) text → (rows : List Row) (ys : List (Kept R)) → Shown text [] old new rows
      → AllZip (λ row y. y ≡ read row) rows ys → ys ≡ xs
  whole_are means rows ys shown are =
      let each = filter_all (λ (x : Kept R). true) xs (all_of (λ x. true ≡ true) (λ x. refl) xs) in
      let answer = all_are layout.cells (overlay old.now.trees []) here xs (stored_tree old.now.trees here held.own.place.low ∙ held.rows) held.keyed (point_rest [] project no_page) [] (λ x. true) (λ x. refl) (λ l. refl) in
      let listed : rows ≡ map show xs = all_listed text [] old new (whole project here) names means rows _ answer shown ∙ ap (map show) each in
      read_as (λ row y. y ≡ read row) show (λ x. x) (λ x y reported. reported ∙ back x) xs rows ys listed are ∙ map-id xs

-- of a table of ours: a scan whose text means such a query gives its rows
pub scans : {S R E : Type 0} {text : List ℕ} {project : List Term} {names : List (List ℕ)} (g : Ghosts S) (x : Ours R) (old new : Held S) (result : Result (List (Kept R)) E)
    → Asks x.layout.table text (whole project) names → (read : Row → Kept R) → ((y : Kept R) → read (eval_all project ([] ∷ stored x.layout.cells y ∷ [])) ≡ y)
    → Queries g (λ ys _. AreAllRead (λ row y. y ≡ read row) text (state g old) (state g new) ys) old new result → Queries g (Equals x.rows) old new result
scans {text} {project} {names} g x old new result asks read back q = record {
  mode = q.mode;
  read = λ clean.
      let reported = q.read clean in (
        IfOk-weaker result _ _
            (λ ys gives t h.
            let held = held_in x (count_in SCHEMA_VERSION) x.low (state g old).now t (holds_all (state g old).now t h) in
            let all = gives t h in
            whole_are x.layout (state g old) (state g new) (x.rows t) held text project names read back (asks.meaning (state g old).now.schema _ _ held.own.place) all.0 ys all.1 all.2)
            reported.0,
        reported.1,
      );
  survives = q.survives;
}
