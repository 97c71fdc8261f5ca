-- What the queries on the table run read of its rows.
use Rattle.statements.proofs.Outside.{AllZip, ◌≡◌, ℕ, List, [], ◌∷◌, Option, Some, codes, refl, ◌∙◌, Text, Row, first_taken, State}
use Rattle.statements.specs.Schema.{run_table}
use Rattle.statements.specs.Rows.{run_cells, number}
use Rattle.statements.specs.Tables.{Tables, Holds, run_layout}
use Rattle.statements.specs.Changes.{is_run_row, is_run_of}
use Rattle.statements.specs.Finds.{is_waiting_of, first_waiting_of, status_at_number, is_run_with_key, is_open_run_of, run_at_number, keyed_run_of, open_runs_of}
use Rattle.statements.specs.Calls.{FirstRow, FirstRows, Pins, IsNumber, IsStatus, IsRunRow}
use Rattle.basis.specs.declared.rows.RunRow.{RunRow as Run}
use Rattle.statements.specs.Listings.{run_rows_after, RunsApart}
use Rattle.statements.specs.declared.runs.TheConstants.{LIST_RUNS, FIRST_WAITING, RUN_STATUS, FIND_RUN, FIND_KEYED_RUN, COUNT_OPEN_RUNS}
use Rattle.statements.proofs.Held.{IsHeld, runs_held}
use Rattle.statements.proofs.Listed.{by_column, numbered_are}
use Rattle.statements.proofs.PointReads.{first_own, least_own, count_own}
use Rattle.statements.proofs.ReadBack.{number_read, status_read, run_reported, run_row_back}
use Rattle.statements.proofs.Conditions.{two_texts_number, two_texts_above, two_texts_key, two_texts_open, waits}
use Rattle.statements.proofs.RunTexts.{list_runs_asks, list_runs_rest, first_waiting_asks, first_waiting_rest, run_status_asks, run_status_rest, run_names, find_run_asks, find_run_rest, find_keyed_run_asks, find_keyed_run_rest, count_open_runs_asks, count_open_runs_rest}

module _ (old new : State) (t : Tables) (h : Holds old.now t) where
  abbrev held : IsHeld run_layout old.now t.runs
  held = runs_held old.now t h

  pub first_waiting_shows : (org ws : List ℕ) (row : Option Row) → FirstRow FIRST_WAITING.now (Text org ∷ Text ws ∷ []) old new row → Pins IsNumber row (first_waiting_of org ws t)
  first_waiting_shows org ws row first =
      least_own run_cells run_table old new held.own t.runs held.rows held.keyed FIRST_WAITING.now (Text org ∷ Text ws ∷ []) row first first_waiting_rest (codes "number" ∷ [])
      (is_waiting_of org ws) (λ x. waits x.1.org org x.1.name ws x.1.it.status x.1.it.plan_only) IsNumber (λ x. x.1.it.number) (λ x y reported. number_read x.1.it.number y reported)
      3 (λ x. x.1.it.number) (λ x y. refl) (first_waiting_asks.meaning old.now.schema _ _ held.own.place) first_taken

  pub run_status_shows : (org ws : List ℕ) (run : ℕ) (row : Option Row) → FirstRow RUN_STATUS.now (Text org ∷ Text ws ∷ number run ∷ []) old new row → Pins IsStatus row (status_at_number org ws run t)
  run_status_shows org ws run row first =
      first_own run_cells run_table old new held.own t.runs held.rows held.keyed RUN_STATUS.now (Text org ∷ Text ws ∷ number run ∷ []) row first run_status_rest (codes "status" ∷ [])
      (is_run_row org ws run) (λ x. two_texts_number x.1.org org x.1.name ws x.1.it.number run) IsStatus (λ x. x.1.it.status) (λ x y reported. status_read x.1.it.status y reported) (run_status_asks.meaning old.now.schema _ _ held.own.place) (λ l. refl)

  pub find_run_shows : (org ws : List ℕ) (n : ℕ) (row : Option Row) → FirstRow FIND_RUN.now (Text org ∷ Text ws ∷ number n ∷ []) old new row → Pins IsRunRow row (run_at_number org ws n t)
  find_run_shows org ws n row first =
      first_own run_cells run_table old new held.own t.runs held.rows held.keyed FIND_RUN.now (Text org ∷ Text ws ∷ number n ∷ []) row first find_run_rest run_names
      (is_run_row org ws n) (λ x. two_texts_number x.1.org org x.1.name ws x.1.it.number n) IsRunRow (λ x. x.1.it) (λ x y reported. run_reported 0 _ y reported ∙ run_row_back x.1.it) (find_run_asks.meaning old.now.schema _ _ held.own.place) (λ l. refl)

  pub find_keyed_run_shows : (org ws key : List ℕ) (row : Option Row) → FirstRow FIND_KEYED_RUN.now (Text org ∷ Text ws ∷ Text key ∷ []) old new row → Pins IsRunRow row (keyed_run_of org ws key t)
  find_keyed_run_shows org ws key row first =
      first_own run_cells run_table old new held.own t.runs held.rows held.keyed FIND_KEYED_RUN.now (Text org ∷ Text ws ∷ Text key ∷ []) row first find_keyed_run_rest run_names
      (is_run_with_key org ws key) (λ x. two_texts_key x.1.org org x.1.name ws key x.1.it.key) IsRunRow (λ x. x.1.it) (λ x y reported. run_reported 0 _ y reported ∙ run_row_back x.1.it) (find_keyed_run_asks.meaning old.now.schema _ _ held.own.place) (λ l. refl)

  pub list_runs_shows : (org ws : List ℕ) (after most : ℕ) (rows : List Row) (runs : List Run) → RunsApart org ws t → FirstRows most LIST_RUNS.now (Text org ∷ Text ws ∷ number after ∷ []) old new rows → AllZip IsRunRow rows runs
      → runs ≡ run_rows_after org ws after most t
  list_runs_shows org ws after most rows runs apart first read =
      numbered_are run_cells run_table old new held.own t.runs held.rows LIST_RUNS.now (Text org ∷ Text ws ∷ number after ∷ []) list_runs_rest 3 run_names
      IsRunRow (λ r. r.number) (λ x. x.1.it) (is_run_of org ws) after (λ x. two_texts_above x.1.org org x.1.name ws x.1.it.number after) (λ x y reported. run_reported 0 _ y reported ∙ run_row_back x.1.it)
      (λ x y. by_column x.1.it.number y.1.it.number) (list_runs_asks.meaning old.now.schema _ _ held.own.place) (λ l. refl) most rows runs apart first read

  pub count_open_runs_shows : (org ws : List ℕ) (row : Option Row) → FirstRow COUNT_OPEN_RUNS.now (Text org ∷ Text ws ∷ []) old new row → row ≡ Some (number (open_runs_of org ws t) ∷ [])
  count_open_runs_shows org ws row first =
      count_own run_cells run_table old new held.own t.runs held.rows held.keyed COUNT_OPEN_RUNS.now (Text org ∷ Text ws ∷ []) row first count_open_runs_rest (codes "count(*)" ∷ [])
      (is_open_run_of org ws) (λ x. two_texts_open x.1.org org x.1.name ws x.1.it.status) (count_open_runs_asks.meaning old.now.schema _ _ held.own.place) (λ l. refl)
