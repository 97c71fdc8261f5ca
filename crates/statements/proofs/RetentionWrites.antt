-- What the writes to the table keeping do to its rows.
use Rattle.statements.proofs.Outside.{◌≡◌, ℕ, List, [], ◌∷◌, Ok, refl, ◌∙◌, map, true, false, ap, arith, Text, overlay, State, Executes, filter_all, all_of}
use Rattle.statements.specs.Place.{tree_of}
use Rattle.statements.specs.Schema.{ws_table, retention_table}
use Rattle.statements.specs.Rows.{Kept, WsRow, ws_cells, retention_cells, number}
use Rattle.statements.specs.Tables.{Tables, Holds}
use Rattle.statements.specs.Changes.{is_retention, kept_first, retention_row_added, retention_changed, retention_row_removed, retentions_filled}
use Rattle.statements.specs.Inner.Making.{Moved}
use Rattle.statements.specs.declared.retentions.TheConstants.{ADD_RETENTION, SET_RETENTION, REMOVE_RETENTION, FILL_RETENTIONS}
use Rattle.statements.proofs.Held.{wss, retentions, held_in}
use Rattle.statements.proofs.Own.{fill_own, stored_tree}
use Rattle.statements.proofs.Edits.{all_keyed}
use Rattle.statements.proofs.Casts.{retention_casts}
use Rattle.statements.proofs.Frames.{Turns, moved_by, written_in, updated, deleted, inserted}
use Rattle.statements.proofs.Conditions.{two_texts}
use Rattle.statements.proofs.Answered.{point, all_are}
use Rattle.statements.proofs.RetentionTexts.{add_retention_means, set_retention_means, remove_retention_means, fill_retentions_means, filled_rest}

module _ (old new : State) (count : ℕ) (t : Tables) (h : Holds old.now t) where
  pub add_retention_does : (org ws : List ℕ) (retention : ℕ) → Executes ADD_RETENTION.now (Text org ∷ Text ws ∷ number retention ∷ []) old new (Ok count) → Turns old.now new.now (retention_row_added org ws retention t)
  add_retention_does org ws retention ran = inserted retentions retention_casts old new count t h _ _ ran (add_retention_means old.now.schema) refl refl (record { org = org; name = ws; it = retention }) refl

  pub set_retention_does : (org ws : List ℕ) (retention : ℕ) → Executes SET_RETENTION.now (Text org ∷ Text ws ∷ number retention ∷ []) old new (Ok count) → Turns old.now new.now (retention_changed retention org ws t)
  set_retention_does org ws retention ran = updated retentions retention_casts old new count t h _ _ ran (set_retention_means old.now.schema) (is_retention org ws) (λ x. two_texts x.1.org org x.1.name ws) (λ r. record r { it = retention }) (λ x. refl) tt

  pub remove_retention_does : (org ws : List ℕ) → Executes REMOVE_RETENTION.now (Text org ∷ Text ws ∷ []) old new (Ok count) → Turns old.now new.now (retention_row_removed org ws t)
  remove_retention_does org ws ran = deleted retentions retention_casts old new count t h _ _ ran (remove_retention_means old.now.schema) (is_retention org ws) (λ x. two_texts x.1.org org x.1.name ws) tt

-- a row for each workspace, in the order of the workspaces
pub fill_retentions_does : (old new : State) (count : ℕ) → Executes FILL_RETENTIONS.now [] old new (Ok count) → Moved 3 retentions_filled old.now new.now
fill_retentions_does old new count ran = moved_by 3 retentions_filled old.now new.now (λ t h.
    let held = held_in retentions 11 (omega arith) old.now t h in
    let wss = held_in wss 11 (omega arith) old.now t h in
    let from = tree_of old.now.schema ws_table.name in
    let each = filter_all (λ (x : Kept WsRow). true) t.wss (all_of (λ x. true ≡ true) (λ x. refl) t.wss) in
    let left = fill_own retention_cells retention_table retention_casts old new held.own held.steady t.retentions held.rows held.keyed FILL_RETENTIONS.now [] count ran
    (point filled_rest from false) (fill_retentions_means old.now.schema _ _ _ _ held.own.place wss.own.place) refl refl (λ (x : Kept WsRow). kept_first x.1) t.wss
    (λ rows answer. all_are ws_cells (overlay old.now.trees []) from t.wss (stored_tree old.now.trees from wss.own.place.low ∙ wss.rows) wss.keyed filled_rest [] (λ x. true) (λ x. refl) (λ l. refl) rows answer
    ∙ ap (map _) each) in
    written_in old.now new.now left.1 retentions t _ 11 (omega arith) h tt left.0 (all_keyed retention_cells (map (λ (x : Kept WsRow). kept_first x.1) t.wss) t.retentions held.keyed))
