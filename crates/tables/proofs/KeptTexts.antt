-- What sound tables say of texts still holds after a change of a workspace.
use Rattle.tables.proofs.Outside.{ℕ, Bool, true, false, List, Option, Some, None, refl, Edit, Make, Configure, Remove, AddVersion, Purge, Hold, Release, AddRun, Report, Change, Lock, Tables, held_by, released_from, ws_changed, run_acted, workspace_of}
use Rattle.statements.specs.declared.rows.Workspace.{Workspace as WorkspaceCells}
use Rattle.tables.specs.Sound.{IsSound}
use Rattle.tables.specs.Inner.Edits.{all_gone, removed_rows, made_rows, if_there, run_put, run_counted, freed_rows, edited_rows, started_rows, changed_rows, TakesEdit}
use Rattle.tables.proofs.TextRows.{AreTexts, texts_carried}
use Rattle.tables.proofs.VersionEdits.{all_go, settings_leave, versions_come}

there_texts : (w : Option WorkspaceCells) (after t : Tables) → AreTexts t → AreTexts after → AreTexts (if_there w after t)
there_texts None after t texts more = texts
there_texts (Some w) after t texts more = more

freed_texts : (frees : Bool) (org ws : List ℕ) (t : Tables) → AreTexts t → AreTexts (freed_rows frees org ws t)
freed_texts true org ws t texts = texts_carried t (freed_rows true org ws t) refl refl refl texts
freed_texts false org ws t texts = texts

module _ (keys : ℕ → List ℕ) (org ws : List ℕ) (t : Tables) (sound : IsSound t) where
  edited_texts : (edit : Edit) → TakesEdit keys org ws edit t → AreTexts (edited_rows keys org ws edit t)
  edited_texts (Make settings) takes = texts_carried t (made_rows org ws settings t) refl refl refl sound.contents
  edited_texts (Configure settings outgoing) takes = (settings_leave org ws t sound settings outgoing).texts
  edited_texts Remove takes = texts_carried (all_gone org ws t) (removed_rows org ws t) refl refl refl (all_go org ws t sound).texts
  edited_texts (AddVersion version outgoing) takes = (versions_come org ws t sound keys version takes outgoing).texts
  edited_texts Purge takes = (all_go org ws t sound).texts
  edited_texts (Hold id text) takes = texts_carried t (ws_changed (held_by (Lock id text)) org ws t) refl refl refl sound.contents
  edited_texts (Release id) takes = texts_carried t (ws_changed (released_from id) org ws t) refl refl refl sound.contents
  edited_texts (AddRun number ask created) takes =
      let after : Tables = run_put org ws number ask created (run_counted org ws number t) in
      there_texts (workspace_of org ws t) after t sound.contents (texts_carried t after refl refl refl sound.contents)
  edited_texts (Report number action status frees) takes =
      freed_texts frees org ws (run_acted status action org ws number t) (texts_carried t (run_acted status action org ws number t) refl refl refl sound.contents)

  started_texts : (start : Option ℕ) (u : Tables) → AreTexts u → AreTexts (started_rows org ws start u)
  started_texts None u texts = texts
  started_texts (Some n) u texts = texts_carried u (started_rows org ws (Some n) u) refl refl refl texts

  pub changed_texts : (change : Change) → TakesEdit keys org ws change.edit t → AreTexts (changed_rows keys org ws change t)
  changed_texts change takes = started_texts change.start (edited_rows keys org ws change.edit t) (edited_texts change.edit takes)
