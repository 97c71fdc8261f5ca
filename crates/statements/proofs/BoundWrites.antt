-- What the writes to the table bound do to its rows.
use Rattle.statements.proofs.Outside.{◌≡◌, ℕ, List, [], ◌∷◌, Option, Ok, refl, ◌∙◌, map, true, false, ap, arith, Text, overlay, State, Executes, or_null, filter_all, all_of}
use Rattle.statements.specs.Place.{tree_of}
use Rattle.statements.specs.Schema.{bound_table, token_table}
use Rattle.statements.specs.Rows.{Kept, TokenRow, bound_cells, token_cells, number}
use Rattle.statements.specs.Tables.{Tables, Holds}
use Rattle.statements.specs.Changes.{is_bound, unbounded, bound_row_added, bound_row_removed, bounds_filled}
use Rattle.statements.specs.Inner.Making.{Moved}
use Rattle.statements.specs.declared.bounds.TheConstants.{ADD_BOUND, REMOVE_BOUND, FILL_BOUNDS}
use Rattle.statements.proofs.Held.{bounds, tokens, held_in}
use Rattle.statements.proofs.Own.{fill_own, stored_tree}
use Rattle.statements.proofs.Edits.{all_keyed}
use Rattle.statements.proofs.Casts.{bound_casts}
use Rattle.statements.proofs.Frames.{Turns, moved_by, written_in, deleted, inserted}
use Rattle.statements.proofs.Conditions.{two_texts}
use Rattle.statements.proofs.Answered.{point, all_are}
use Rattle.statements.proofs.BoundTexts.{add_bound_means, remove_bound_means, fill_bounds_means, filled_rest}

module _ (old new : State) (count : ℕ) (t : Tables) (h : Holds old.now t) where
  pub add_bound_does : (org name : List ℕ) (until : Option ℕ) (prefix : List ℕ) → Executes ADD_BOUND.now (Text org ∷ Text name ∷ or_null number until ∷ Text prefix ∷ []) old new (Ok count)
      → Turns old.now new.now (bound_row_added org name until prefix t)
  add_bound_does org name until prefix ran = inserted bounds bound_casts old new count t h _ _ ran (add_bound_means old.now.schema) refl refl (record { org = org; name = name; it = record { until = until; prefix = prefix } }) refl

  pub remove_bound_does : (org name : List ℕ) → Executes REMOVE_BOUND.now (Text org ∷ Text name ∷ []) old new (Ok count) → Turns old.now new.now (bound_row_removed org name t)
  remove_bound_does org name ran = deleted bounds bound_casts old new count t h _ _ ran (remove_bound_means old.now.schema) (is_bound org name) (λ x. two_texts x.1.org org x.1.name name) tt

-- a row for each token, in the order of the tokens
pub fill_bounds_does : (old new : State) (count : ℕ) → Executes FILL_BOUNDS.now [] old new (Ok count) → Moved 2 bounds_filled old.now new.now
fill_bounds_does old new count ran = moved_by 2 bounds_filled old.now new.now (λ t h.
    let held = held_in bounds 10 (omega arith) old.now t h in
    let tokens = held_in tokens 10 (omega arith) old.now t h in
    let from = tree_of old.now.schema token_table.name in
    let each = filter_all (λ (x : Kept TokenRow). true) t.tokens (all_of (λ x. true ≡ true) (λ x. refl) t.tokens) in
    let left = fill_own bound_cells bound_table bound_casts old new held.own held.steady t.bounds held.rows held.keyed FILL_BOUNDS.now [] count ran
    (point filled_rest from false) (fill_bounds_means old.now.schema _ _ _ _ held.own.place tokens.own.place) refl refl (λ (x : Kept TokenRow). unbounded x.1) t.tokens
    (λ rows answer. all_are token_cells (overlay old.now.trees []) from t.tokens (stored_tree old.now.trees from tokens.own.place.low ∙ tokens.rows) tokens.keyed filled_rest [] (λ x. true) (λ x. refl) (λ l. refl) rows answer
    ∙ ap (map _) each) in
    written_in old.now new.now left.1 bounds t _ 10 (omega arith) h tt left.0 (all_keyed bound_cells (map (λ (x : Kept TokenRow). unbounded x.1) t.tokens) t.bounds held.keyed))
