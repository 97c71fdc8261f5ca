-- What the writes to the table ws do to its rows.
use Rattle.statements.proofs.Outside.{◌≡◌, ◌≢◌, ℕ, false, not, ◌==◌, is_some, List, [], ◌∷◌, None, Ok, refl, sym, ap, ◌∙◌, arith, Text, Row, first_key, Term, eval_all, Query, Update, State, Executes, all_weaker, RunSettings, Holder}
use Rattle.statements.specs.declared.rows.Workspace.{Workspace}
use Rattle.statements.specs.Place.{at_of, tree_of, StandsAt, IsOwn}
use Rattle.statements.specs.Schema.{ws_table, retention_table}
use Rattle.statements.specs.Rows.{Kept, WsRow, ws_cells, stored, run_settings_cells, kind_cell, lock_id_cell, lock_text_cell, run_cell, number}
use Rattle.statements.specs.Tables.{Tables, Holds, ws_layout, our_tables}
use Rattle.statements.specs.Changes.{is_ws, with_run_settings, held_by, released_from, with_next_version, with_next_run, workspace_made, ws_changed, ws_row_added, ws_row_removed, HasNoRetention}
use Rattle.statements.specs.Finds.{workspace_of}
use Rattle.statements.specs.declared.workspaces.TheConstants.{ADD_WS, SET_RUN_SETTINGS, HOLD, RELEASE_LOCK, SET_NEXT_VERSION, SET_NEXT_RUN, REMOVE_WS}
use Rattle.statements.proofs.Fresh.{insert_sound, none_alike, none_found}
use Rattle.statements.proofs.Held.{IsHeld, wss, wss_held, retentions_held, trees_apart}
use Rattle.statements.proofs.Follows.{retention_follows}
use Rattle.statements.proofs.Childless.{ws_goes}
use Rattle.statements.proofs.Meaning.{Means}
use Rattle.statements.proofs.Writes.{plain_program}
use Rattle.statements.proofs.Commands.{is_at, update_query}
use Rattle.statements.proofs.Own.{update_leaves, count_updated, insert_own, first_if_any}
use Rattle.statements.proofs.Casts.{ws_casts}
use Rattle.statements.proofs.Frames.{Turns, updated, deleted, inserted}
use Rattle.statements.proofs.Conditions.{two_texts}
use Rattle.statements.proofs.WsTexts.{add_ws_means, add_ws_terms, add_ws_width, set_run_settings_means, hold_means, release_lock_means, set_next_version_means, set_next_run_means, remove_ws_means}

module _ (old new : State) (count : ℕ) (t : Tables) (h : Holds old.now t) where
  abbrev held : IsHeld ws_layout old.now t.wss
  held = wss_held old.now t h

  retention_own : IsOwn old.now.schema retention_table
  retention_own = (retentions_held old.now t h).own

  retention_apart : tree_of old.now.schema retention_table.name ≢ tree_of old.now.schema ws_table.name
  retention_apart same = trees_apart old.now.schema our_tables 3 10 ws_table retention_table refl refl (omega arith) h.ours.apart (sym same)

  -- the numbers of versions to keep stay where no workspace goes
  retention_stays : (text : List ℕ) (params : Row) → Executes text params old new (Ok count) → (q : Query) → Means old.now.schema (Update (at_of old.now.schema ws_table.name) (plain_program q)) text
      → new.now.trees (tree_of old.now.schema retention_table.name) ≡ old.now.trees (tree_of old.now.schema retention_table.name)
  retention_stays text params ran q means =
      update_leaves ws_cells ws_table ws_casts old new held.own held.steady t.wss held.rows held.keyed text params count ran q means retention_table retention_own (retention_follows old.now.schema held.own) (refl, tt) retention_apart

  pub add_ws_does : (org name : List ℕ) (runs : RunSettings) → Executes ADD_WS.now (Text org ∷ Text name ∷ run_settings_cells runs) old new (Ok count) → Turns old.now new.now (ws_row_added org name runs t)
  add_ws_does org name runs ran = inserted wss ws_casts old new count t h _ _ ran (add_ws_means old.now.schema) refl refl (record { org = org; name = name; it = workspace_made runs }) refl

  pub add_ws_finds : (org name : List ℕ) (runs : RunSettings) → Executes ADD_WS.now (Text org ∷ Text name ∷ run_settings_cells runs) old new (Ok count) → workspace_of org name t ≡ None
  unfolding first_key
  add_ws_finds org name runs ran =
      let row : WsRow = record { org = org; name = name; it = workspace_made runs } in
      let given : Row = Text org ∷ Text name ∷ run_settings_cells runs in
      let means = add_ws_means old.now.schema _ _ held.own.place in
      let left = insert_own ws_cells ws_table ws_casts old new held.own held.steady t.wss held.rows held.keyed ADD_WS.now given count ran add_ws_terms add_ws_width means refl refl row refl in
      let alike = none_alike ws_cells (1 ∷ 2 ∷ []) ws_table old new held.own t.wss held.keyed row left.1 left.0.rows (insert_sound old new ADD_WS.now given _ _ means count ran) refl refl in
      none_found (is_ws org name) (λ x. x.1.it) t.wss (all_weaker _ (λ x. is_ws org name x ≡ false) (λ x e. sym (two_texts x.1.org org x.1.name name) ∙ e) t.wss alike)

  -- the text writes these cells to the row of the workspace
  abbrev SetsCells : List ℕ → List Term → Type 0
  SetsCells text terms = (at tree : ℕ) → StandsAt old.now.schema ws_table.name ws_table at tree → Means old.now.schema (Update at (plain_program (update_query tree (is_at 1 0 ∷ is_at 2 1 ∷ []) terms))) text

  changes : {terms : List Term} (text : List ℕ) (given : Row) (org name : List ℕ) (f : Workspace → Workspace) → Executes text (Text org ∷ Text name ∷ given) old new (Ok count) → SetsCells text terms
      → ((x : Kept WsRow) → eval_all terms ((Text org ∷ Text name ∷ given) ∷ stored ws_cells x ∷ []) ≡ ws_cells (record x.1 { it = f x.1.it })) → Turns old.now new.now (ws_changed f org name t)
  changes text given org name f ran means shows =
      updated wss ws_casts old new count t h _ _ ran means (is_ws org name) (λ x. two_texts x.1.org org x.1.name name) (λ r. record r { it = f r.it }) shows ((λ _. retention_stays _ _ ran _ (means _ _ held.own.place)), tt)

  finds : {terms : List Term} (text : List ℕ) (given : Row) (org name : List ℕ) → Executes text (Text org ∷ Text name ∷ given) old new (Ok count) → SetsCells text terms → not (count == 0) ≡ is_some (workspace_of org name t)
  finds text given org name ran means =
      let counted = count_updated ws_cells ws_table ws_casts old new held.own held.steady t.wss held.rows held.keyed _ _ count ran _ (means _ _ held.own.place) refl refl refl (λ rows. refl) (is_ws org name) (λ x. two_texts x.1.org org x.1.name name) in
      ap (λ n. not (n == 0)) counted ∙ first_if_any (is_ws org name) (λ x. x.1.it) t.wss

  pub set_run_settings_does : (org name : List ℕ) (runs : RunSettings) → Executes SET_RUN_SETTINGS.now (Text org ∷ Text name ∷ run_settings_cells runs) old new (Ok count) → Turns old.now new.now (ws_changed (with_run_settings runs) org name t)
  set_run_settings_does org name runs ran = changes _ _ org name (with_run_settings runs) ran (set_run_settings_means old.now.schema) (λ x. refl)

  pub hold_does : (org name : List ℕ) (holder : Holder) → Executes HOLD.now (Text org ∷ Text name ∷ kind_cell holder ∷ lock_id_cell holder ∷ lock_text_cell holder ∷ run_cell holder ∷ []) old new (Ok count) → Turns old.now new.now (ws_changed (held_by holder) org name t)
  hold_does org name holder ran = changes _ _ org name (held_by holder) ran (hold_means old.now.schema) (λ x. refl)

  pub release_lock_does : (org name id : List ℕ) → Executes RELEASE_LOCK.now (Text org ∷ Text name ∷ Text id ∷ []) old new (Ok count) → Turns old.now new.now (ws_changed (released_from id) org name t)
  release_lock_does org name id ran = changes _ _ org name (released_from id) ran (release_lock_means old.now.schema) (λ x. refl)

  pub set_next_version_does : (org name : List ℕ) (next : ℕ) → Executes SET_NEXT_VERSION.now (Text org ∷ Text name ∷ number next ∷ []) old new (Ok count) → Turns old.now new.now (ws_changed (with_next_version next) org name t)
  set_next_version_does org name next ran = changes _ _ org name (with_next_version next) ran (set_next_version_means old.now.schema) (λ x. refl)

  pub set_next_version_finds : (org name : List ℕ) (next : ℕ) → Executes SET_NEXT_VERSION.now (Text org ∷ Text name ∷ number next ∷ []) old new (Ok count) → not (count == 0) ≡ is_some (workspace_of org name t)
  set_next_version_finds org name next ran = finds _ _ org name ran (set_next_version_means old.now.schema)

  pub set_next_run_does : (org name : List ℕ) (next : ℕ) → Executes SET_NEXT_RUN.now (Text org ∷ Text name ∷ number next ∷ []) old new (Ok count) → Turns old.now new.now (ws_changed (with_next_run next) org name t)
  set_next_run_does org name next ran = changes _ _ org name (with_next_run next) ran (set_next_run_means old.now.schema) (λ x. refl)

  pub set_next_run_finds : (org name : List ℕ) (next : ℕ) → Executes SET_NEXT_RUN.now (Text org ∷ Text name ∷ number next ∷ []) old new (Ok count) → not (count == 0) ≡ is_some (workspace_of org name t)
  set_next_run_finds org name next ran = finds _ _ org name ran (set_next_run_means old.now.schema)

  pub remove_ws_does : (org name : List ℕ) → HasNoRetention org name t → Executes REMOVE_WS.now (Text org ∷ Text name ∷ []) old new (Ok count) → Turns old.now new.now (ws_row_removed org name t)
  remove_ws_does org name none ran = deleted wss ws_casts old new count t h _ _ ran (remove_ws_means old.now.schema) (is_ws org name) (λ x. two_texts x.1.org org x.1.name name) ((λ _. ws_goes org name old new t h count none ran), tt)
