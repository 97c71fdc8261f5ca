-- What each write does to the rows and the runs of a workspace.
use Rattle.tables.proofs.Outside.{◌≡◌, ℕ, Bool, true, false, ◌&&◌, ◌==◌, cond, List, [], ◌∷◌, ◌++◌, map, filter, find, is_some, Option, Some, None, option_map, refl, ap, ◌∙◌, sym, and_assoc, bytes_eq, unwrap_or, next_key, map_same, slice-push_mine, slice-push_other, slice-delete_other, slice-update_mine, slice-update_other, RunSettings, RunStatus, Planning, RunAction, reported, begun, Kept, id_of, WsRow, RetentionRow, RunRow, Tables, is_ws, is_retention, ws_changed, ws_added, ws_removed, retention_changed, workspace_made, is_run_of, is_run_row, run_changed_to, run_acted, run_added, runs_removed, workspace_of, retention_of, find_changed, find_unchanged, find_deleted, find_left, find_pushed, find_pushed_other, filter_deleted, FIRST_KEPT}
use Rattle.basis.specs.declared.rows.RunRow.{RunRow as Run}
use Rattle.statements.specs.declared.rows.Workspace.{Workspace as WorkspaceCells}
use Rattle.tables.specs.Records.{retention_at}
use Rattle.tables.proofs.Ordered.{runs_in}
use Rattle.tables.proofs.Names.{is_pair, pair_is, pair_apart}

map_map : {A B C D : Type 0} (f : A → B) (g : B → C) (h : A → D) (k : D → C) → ((a : A) → g (f a) ≡ k (h a)) → (o : Option A) → option_map g (option_map f o) ≡ option_map k (option_map h o)
map_map f g h k same None = refl
map_map f g h k same (Some a) = ap Some (same a)

pub none_mapped : {A B : Type 0} (f : A → B) (o : Option A) → option_map f o ≡ None → o ≡ None
none_mapped f None e = refl
none_mapped f (Some a) e = absurd (let none : ⊥ = cc in none)

status_of_begun : (b : Bool) (r : Run) → cond b (record r { status = Planning }) r ≡ record r { status = cond b Planning r.status }
status_of_begun true r = refl
status_of_begun false r = refl

status_of_acted : (action : RunAction) (status : RunStatus) (b : Bool) (r : Run) → cond b (record r { status = status; action = Some action }) r ≡ record r { status = cond b status r.status; action = cond b (Some action) r.action }
status_of_acted action status true r = refl
status_of_acted action status false r = refl

pub first_two : (a b c : Bool) → (a && (b && c)) ≡ true → (a && b) ≡ true
first_two true true c e = refl
first_two true false c e = e
first_two false b c e = e

abbrev planned : Kept RunRow → Kept RunRow
planned x = (x.0, record x.1 { it = record x.1.it { status = Planning } })

abbrev acted : RunStatus → RunAction → Kept RunRow → Kept RunRow
acted status action x = (x.0, record x.1 { it = record x.1.it { status = status; action = Some action } })

abbrev kept_in : Option (Kept RetentionRow) → ℕ
kept_in r = unwrap_or (option_map (λ (x : Kept RetentionRow). x.1.it) r) FIRST_KEPT

module _ (org ws : List ℕ) where
  -- ---- the row

  module _ (f : WorkspaceCells → WorkspaceCells) (t : Tables) where
    pub row_changed : workspace_of org ws (ws_changed f org ws t) ≡ option_map f (workspace_of org ws t)
    row_changed =
        ap (option_map (λ (x : Kept WsRow). x.1.it)) (find_changed (is_ws org ws) (λ x. (x.0, record x.1 { it = f x.1.it })) (λ x. refl) t.wss)
        ∙ map_map (λ (x : Kept WsRow). (x.0, record x.1 { it = f x.1.it })) (λ (x : Kept WsRow). x.1.it) (λ (x : Kept WsRow). x.1.it) f (λ x. refl) (find (is_ws org ws) t.wss)

    pub row_unchanged : (a b : List ℕ) → is_pair org ws a b ≡ false → workspace_of a b (ws_changed f org ws t) ≡ workspace_of a b t
    row_unchanged a b other =
        ap (option_map (λ (x : Kept WsRow). x.1.it)) (find_unchanged (is_ws a b) (is_ws org ws) (λ x. pair_apart org ws a b x.1.org x.1.name other) (λ x. (x.0, record x.1 { it = f x.1.it })) (λ x. refl) t.wss)

  module _ (t : Tables) where
    pub row_removed : workspace_of org ws (ws_removed org ws t) ≡ None
    row_removed = ap (option_map (λ (x : Kept WsRow). x.1.it)) (find_deleted (is_ws org ws) t.wss)

    pub row_left : (a b : List ℕ) → is_pair org ws a b ≡ false → workspace_of a b (ws_removed org ws t) ≡ workspace_of a b t
    row_left a b other = ap (option_map (λ (x : Kept WsRow). x.1.it)) (find_left (is_ws a b) (is_ws org ws) (λ x. pair_apart org ws a b x.1.org x.1.name other) t.wss)

    pub row_added : (of_runs : RunSettings) (retention : ℕ) → workspace_of org ws t ≡ None → workspace_of org ws (ws_added org ws of_runs retention t) ≡ Some (workspace_made of_runs)
    row_added of_runs retention none = ap (option_map (λ (x : Kept WsRow). x.1.it)) (find_pushed (is_ws org ws) t.wss _ (none_mapped (λ (x : Kept WsRow). x.1.it) _ none) (pair_is org ws))

    pub row_added_other : (of_runs : RunSettings) (retention : ℕ) (a b : List ℕ) → is_pair org ws a b ≡ false → workspace_of a b (ws_added org ws of_runs retention t) ≡ workspace_of a b t
    row_added_other of_runs retention a b other =
        ap (option_map (λ (x : Kept WsRow). x.1.it)) (find_pushed_other (is_ws a b) t.wss (next_key id_of t.wss, record { org = org; name = ws; it = workspace_made of_runs }) (pair_apart org ws a b org ws other (pair_is org ws)))

    -- ---- how many versions it keeps

    pub retention_left : (a b : List ℕ) → is_pair org ws a b ≡ false → retention_at (ws_removed org ws t) a b ≡ retention_at t a b
    retention_left a b other = ap kept_in (find_left (is_retention a b) (is_retention org ws) (λ x. pair_apart org ws a b x.1.org x.1.name other) t.retentions)

    pub retention_added : (of_runs : RunSettings) (retention : ℕ) → retention_of org ws t ≡ None → retention_at (ws_added org ws of_runs retention t) org ws ≡ retention
    retention_added of_runs retention none =
        ap kept_in (find_pushed (is_retention org ws) t.retentions (next_key id_of t.retentions, record { org = org; name = ws; it = retention }) (none_mapped (λ (x : Kept RetentionRow). x.1.it) _ none) (pair_is org ws))

    pub retention_added_other : (of_runs : RunSettings) (retention : ℕ) (a b : List ℕ) → is_pair org ws a b ≡ false → retention_at (ws_added org ws of_runs retention t) a b ≡ retention_at t a b
    retention_added_other of_runs retention a b other =
        ap kept_in (find_pushed_other (is_retention a b) t.retentions (next_key id_of t.retentions, record { org = org; name = ws; it = retention }) (pair_apart org ws a b org ws other (pair_is org ws)))

    -- a number is set where there is a row for it
    pub retention_set : (retention : ℕ) → is_some (find (is_retention org ws) t.retentions) ≡ true → retention_at (retention_changed retention org ws t) org ws ≡ retention
    retention_set retention there = ap kept_in (find_changed (is_retention org ws) (λ x. (x.0, record x.1 { it = retention })) (λ x. refl) t.retentions) ∙ by_row (find (is_retention org ws) t.retentions) there
      where
        by_row : (r : Option (Kept RetentionRow)) → is_some r ≡ true → kept_in (option_map (λ (x : Kept RetentionRow). (x.0, record x.1 { it = retention })) r) ≡ retention
        by_row None e = absurd (let none : ⊥ = cc in none)
        by_row (Some x) e = refl

    pub retention_set_other : (retention : ℕ) (a b : List ℕ) → is_pair org ws a b ≡ false → retention_at (retention_changed retention org ws t) a b ≡ retention_at t a b
    retention_set_other retention a b other =
        ap kept_in (find_unchanged (is_retention a b) (is_retention org ws) (λ x. pair_apart org ws a b x.1.org x.1.name other) (λ x. (x.0, record x.1 { it = retention })) (λ x. refl) t.retentions)

    -- ---- its runs

    pub runs_begun : (n : ℕ) → runs_in (run_changed_to Planning org ws n t) org ws ≡ map (begun n) (runs_in t org ws)
    runs_begun n =
        ap (λ xs. map (λ (x : Kept RunRow). x.1.it) (filter (is_run_of org ws) xs)) (map_same (λ (x : Kept RunRow). cond (is_run_row org ws n x) (planned x) x) (λ (x : Kept RunRow). cond (is_run_of org ws x && x.1.it.number == n) (planned x) x) (λ x. ap (λ (b : Bool). cond b (planned x) x) (sym (and_assoc (bytes_eq x.1.org org) (bytes_eq x.1.name ws) (x.1.it.number == n)))) t.runs)
        ∙ slice-update_mine (is_run_of org ws) (λ (x : Kept RunRow). x.1.it) (λ (r : Run). r.number == n) planned (λ (r : Run). record r { status = Planning }) (λ x. refl) (λ x. refl) t.runs
        ∙ map_same (λ (r : Run). cond (r.number == n) (record r { status = Planning }) r) (begun n) (λ r. status_of_begun (r.number == n) r) (runs_in t org ws)

    pub runs_begun_other : (n : ℕ) (a b : List ℕ) → is_pair org ws a b ≡ false → runs_in (run_changed_to Planning org ws n t) a b ≡ runs_in t a b
    runs_begun_other n a b other =
        slice-update_other (is_run_of a b) (λ x. x.1.it) (is_run_row org ws n) (λ x e. pair_apart org ws a b x.1.org x.1.name other (first_two (bytes_eq x.1.org org) (bytes_eq x.1.name ws) (x.1.it.number == n) e)) planned (λ x. refl) t.runs

    pub runs_pushed : (r : Run) → runs_in (run_added org ws r t) org ws ≡ runs_in t org ws ++ r ∷ []
    runs_pushed r = slice-push_mine (is_run_of org ws) (λ x. x.1.it) t.runs (next_key id_of t.runs, record { org = org; name = ws; it = r }) (pair_is org ws)

    pub runs_pushed_other : (r : Run) (a b : List ℕ) → is_pair org ws a b ≡ false → runs_in (run_added org ws r t) a b ≡ runs_in t a b
    runs_pushed_other r a b other = slice-push_other (is_run_of a b) (λ x. x.1.it) t.runs (next_key id_of t.runs, record { org = org; name = ws; it = r }) (pair_apart org ws a b org ws other (pair_is org ws))

    module _ (status : RunStatus) (action : RunAction) (n : ℕ) where
      pub runs_acted : runs_in (run_acted status action org ws n t) org ws ≡ map (reported n action status) (runs_in t org ws)
      runs_acted =
          ap (λ xs. map (λ (x : Kept RunRow). x.1.it) (filter (is_run_of org ws) xs)) (map_same (λ (x : Kept RunRow). cond (is_run_row org ws n x) (acted status action x) x) (λ (x : Kept RunRow). cond (is_run_of org ws x && x.1.it.number == n) (acted status action x) x) (λ x. ap (λ (b : Bool). cond b (acted status action x) x) (sym (and_assoc (bytes_eq x.1.org org) (bytes_eq x.1.name ws) (x.1.it.number == n)))) t.runs)
          ∙ slice-update_mine (is_run_of org ws) (λ (x : Kept RunRow). x.1.it) (λ (r : Run). r.number == n) (acted status action) (λ (r : Run). record r { status = status; action = Some action }) (λ x. refl) (λ x. refl) t.runs
          ∙ map_same (λ (r : Run). cond (r.number == n) (record r { status = status; action = Some action }) r) (reported n action status) (λ r. status_of_acted action status (r.number == n) r) (runs_in t org ws)

      pub runs_acted_other : (a b : List ℕ) → is_pair org ws a b ≡ false → runs_in (run_acted status action org ws n t) a b ≡ runs_in t a b
      runs_acted_other a b other =
          slice-update_other (is_run_of a b) (λ x. x.1.it) (is_run_row org ws n) (λ x e. pair_apart org ws a b x.1.org x.1.name other (first_two (bytes_eq x.1.org org) (bytes_eq x.1.name ws) (x.1.it.number == n) e)) (acted status action) (λ x. refl) t.runs

    pub runs_gone : runs_in (runs_removed org ws t) org ws ≡ []
    runs_gone = ap (map (λ (x : Kept RunRow). x.1.it)) (filter_deleted (is_run_of org ws) t.runs)

    pub runs_gone_other : (a b : List ℕ) → is_pair org ws a b ≡ false → runs_in (runs_removed org ws t) a b ≡ runs_in t a b
    runs_gone_other a b other = slice-delete_other (is_run_of a b) (λ x. x.1.it) (is_run_of org ws) (λ x e. pair_apart org ws a b x.1.org x.1.name other e) t.runs
