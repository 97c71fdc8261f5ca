-- What the writes to the table run do to its rows.
use Rattle.statements.proofs.Outside.{ℕ, Bool, List, [], ◌∷◌, Option, Some, Ok, refl, or_null, Text, State, Executes, RunStatus, RunAction}
use Rattle.statements.specs.Rows.{flag, number, status_code, action_code}
use Rattle.statements.specs.Tables.{Tables, Holds}
use Rattle.statements.specs.Changes.{is_run_row, is_run_of, run_changed_to, run_acted, run_added, run_made, runs_removed}
use Rattle.statements.specs.declared.runs.TheConstants.{SET_RUN_STATUS, RECORD_ACTION, ADD_RUN, REMOVE_RUNS}
use Rattle.statements.proofs.Held.{runs}
use Rattle.statements.proofs.Casts.{run_casts}
use Rattle.statements.proofs.Frames.{Turns, updated, deleted, inserted}
use Rattle.statements.proofs.Conditions.{two_texts, two_texts_number}
use Rattle.statements.proofs.RunTexts.{set_run_status_means, record_action_means, add_run_means, remove_runs_means}

module _ (old new : State) (count : ℕ) (t : Tables) (h : Holds old.now t) where
  pub set_run_status_does : (org ws : List ℕ) (run : ℕ) (status : RunStatus) → Executes SET_RUN_STATUS.now (Text org ∷ Text ws ∷ number run ∷ number (status_code status) ∷ []) old new (Ok count) → Turns old.now new.now (run_changed_to status org ws run t)
  set_run_status_does org ws run status ran = updated runs run_casts old new count t h _ _ ran (set_run_status_means old.now.schema) (is_run_row org ws run) (λ x. two_texts_number x.1.org org x.1.name ws x.1.it.number run) (λ r. record r { it = record r.it { status = status } }) (λ x. refl) tt

  pub record_action_does : (org ws : List ℕ) (run : ℕ) (status : RunStatus) (action : RunAction) → Executes RECORD_ACTION.now (Text org ∷ Text ws ∷ number run ∷ number (status_code status) ∷ number (action_code action) ∷ []) old new (Ok count) → Turns old.now new.now (run_acted status action org ws run t)
  record_action_does org ws run status action ran = updated runs run_casts old new count t h _ _ ran (record_action_means old.now.schema) (is_run_row org ws run) (λ x. two_texts_number x.1.org org x.1.name ws x.1.it.number run) (λ r. record r { it = record r.it { status = status; action = Some action } }) (λ x. refl) tt

  pub add_run_does : (org ws : List ℕ) (n : ℕ) (plan_only : Bool) (key : Option (List ℕ)) (message : List ℕ) (created : ℕ) (status : RunStatus) (action : Option RunAction) → Executes ADD_RUN.now (Text org ∷ Text ws ∷ number n ∷ flag plan_only ∷ or_null Text key ∷ Text message ∷ number created ∷ number (status_code status) ∷ or_null (λ a. number (action_code a)) action ∷ []) old new (Ok count) → Turns old.now new.now (run_added org ws (run_made n plan_only key message created status action) t)
  add_run_does org ws n plan_only key message created status action ran = inserted runs run_casts old new count t h _ _ ran (add_run_means old.now.schema) refl refl (record { org = org; name = ws; it = run_made n plan_only key message created status action }) refl

  pub remove_runs_does : (org ws : List ℕ) → Executes REMOVE_RUNS.now (Text org ∷ Text ws ∷ []) old new (Ok count) → Turns old.now new.now (runs_removed org ws t)
  remove_runs_does org ws ran = deleted runs run_casts old new count t h _ _ ran (remove_runs_means old.now.schema) (is_run_of org ws) (λ x. two_texts x.1.org org x.1.name ws) tt
