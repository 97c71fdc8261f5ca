-- What the rows denote after a change of a workspace.
use Rattle.tables.proofs.Outside.{◌≡◌, ℕ, ◌+◌, Bool, true, false, cond, List, [], ◌∷◌, ◌++◌, map, filter, find, is_some, Option, Some, None, option_map, refl, sym, ap, subst, ◌∙◌, unwrap_or, FIRST_KEPT, RunSettings, Settings, RunAsk, RunStatus, Pending, Planning, RunAction, list_any, any_is_found, found_passes, found_holds, begun, started, started_if, left_above, edited, changed_by, purged, locked, released, new_run, with_run, reported, IsLawfulIfThere, new_workspace, Edit, Make, Configure, Remove, AddVersion, Purge, Hold, Release, AddRun, Report, Change, Version, Workspace, Kept, WsRow, RetentionRow, VersionRow, RunRow, Tables, workspace_of, retention_of}
use Rattle.basis.specs.declared.rows.RunRow.{RunRow as Run}
use Rattle.basis.specs.declared.rows.Holder.TheVariants.{Nobody, Lock, Run as HeldByRun}
use Rattle.statements.specs.declared.rows.Workspace.{Workspace as WorkspaceCells}
use Rattle.statements.specs.Changes.{is_ws, is_retention, is_run_of, with_run_settings, held_by, released_from, with_next_version, with_next_run, ws_changed, ws_added, runs_removed, run_made as new_run_cells, run_added, run_acted}
use Rattle.tables.specs.Records.{version_at, workspace_of_cells, retention_at, workspace_by}
use Rattle.tables.proofs.Ordered.{versions_in, runs_in, workspace_of_rows, ordered, workspace_ordered, changed_ordered}
use Rattle.tables.specs.Inner.Edits.{all_gone, removed_rows, made_rows, settings_rows, configured_rows, numbered_rows, if_there, versioned_rows, run_put, run_counted, run_rows, freed_rows, edited_rows, started_rows, changed_rows, TakesVersion, TakesEdit}
use Rattle.tables.specs.Sound.{IsSound}
use Rattle.tables.proofs.Absent.{none_kept}
use Rattle.tables.proofs.Finding.{no_version_rows, no_run_rows}
use Rattle.tables.proofs.TextRows.{KeepsRest, Becomes, versions_carried}
use Rattle.tables.proofs.VersionEdits.{all_go, settings_leave, versions_come}
use Rattle.tables.proofs.Parts.{row_changed, row_unchanged, row_removed, row_left, row_added, row_added_other, retention_left, retention_added, retention_added_other, retention_set, retention_set_other, runs_begun, runs_begun_other, runs_pushed, runs_pushed_other, runs_acted, runs_acted_other, runs_gone, runs_gone_other}
use Rattle.tables.proofs.Names.{is_pair, pair_first, pair_second}
use Rattle.tables.proofs.Sets.{Puts, same_parts}

-- ---- one workspace, as its rows stand

-- The rows of the workspace of this name stand for that one now, or it has none, and all else is as before.
pub record Stands (org ws : List ℕ) (w : Option Workspace) (t u : Tables) : Type 0 where
  pub orgs : u.orgs ≡ t.orgs
  pub tokens : u.tokens ≡ t.tokens
  pub bounds : u.bounds ≡ t.bounds
  pub own : workspace_of_rows u org ws ≡ w
  pub others : (a b : List ℕ) → is_pair org ws a b ≡ false → workspace_of_rows u a b ≡ workspace_of_rows t a b

stands_then : {v w : Option Workspace} (org ws : List ℕ) (t u z : Tables) → Stands org ws v t u → Stands org ws w u z → Stands org ws w t z
stands_then org ws t u z first second = record {
  orgs = second.orgs ∙ first.orgs;
  tokens = second.tokens ∙ first.tokens;
  bounds = second.bounds ∙ first.bounds;
  own = second.own;
  others = λ a b other. second.others a b other ∙ first.others a b other;
}

-- ---- the parts of a workspace that is changed

changed_row : (g : WorkspaceCells → WorkspaceCells) (f : Workspace → Workspace) (k : ℕ) (vs us : List Version) (rs ss : List Run)
    → ((c : WorkspaceCells) → workspace_of_cells k (g c) us ss ≡ f (workspace_of_cells k c vs rs)) → (row : Option WorkspaceCells)
    → option_map (λ (c : WorkspaceCells). workspace_of_cells k c us ss) (option_map g row) ≡ option_map f (option_map (λ (c : WorkspaceCells). workspace_of_cells k c vs rs) row)
changed_row g f k vs us rs ss same None = refl
changed_row g f k vs us rs ss same (Some c) = ap Some (same c)

kept_row : (row : Option WorkspaceCells) → option_map (λ (c : WorkspaceCells). c) row ≡ row
kept_row None = refl
kept_row (Some c) = refl

no_row : (f : Workspace → Workspace) (k : ℕ) (vs : List Version) (rs : List Run) (row : Option WorkspaceCells) → row ≡ None
    → option_map (λ (c : WorkspaceCells). workspace_of_cells k c vs rs) row ≡ option_map f (option_map (λ (c : WorkspaceCells). workspace_of_cells k c vs rs) row)
no_row f k vs rs None e = refl
no_row f k vs rs (Some c) e = absurd (let none : ⊥ = cc in none)

-- a run has taken an action, and its workspace is freed or not
abbrev after_report : ℕ → RunAction → RunStatus → Bool → Workspace → Workspace
after_report n action status frees w = record w { holder = cond frees Nobody w.holder; runs = map (reported n action status) w.runs }

-- how many versions a workspace keeps, by rows of keeping
abbrev kept_among : List ℕ → List ℕ → List (Kept RetentionRow) → ℕ
kept_among a b ks = unwrap_or (option_map (λ (x : Kept RetentionRow). x.1.it) (find (is_retention a b) ks)) FIRST_KEPT

-- where the other tables stay, so do the row of each workspace, how many versions it keeps, and its runs
module _ (t u : Tables) (rest : KeepsRest t u) (a b : List ℕ) where
  row_stays : workspace_of a b u ≡ workspace_of a b t
  row_stays = ap (λ (wss : List (Kept WsRow)). option_map (λ (x : Kept WsRow). x.1.it) (find (is_ws a b) wss)) rest.wss

  retention_stays : retention_at u a b ≡ retention_at t a b
  retention_stays = ap (λ (ks : List (Kept RetentionRow)). kept_among a b ks) rest.retentions

  runs_stay : runs_in u a b ≡ runs_in t a b
  runs_stay = ap (λ (rs : List (Kept RunRow)). map (λ (x : Kept RunRow). x.1.it) (filter (is_run_of a b) rs)) rest.runs

module _ (org ws : List ℕ) (t : Tables) where
  row : Option WorkspaceCells
  row = workspace_of org ws t

  -- what the row holds, and nothing else
  pub row_puts : (g : WorkspaceCells → WorkspaceCells) (f : Workspace → Workspace) → ((c : WorkspaceCells) (k : ℕ) (vs : List Version) (rs : List Run) → workspace_of_cells k (g c) vs rs ≡ f (workspace_of_cells k c vs rs))
      → Stands org ws (option_map f (workspace_of_rows t org ws)) t (ws_changed g org ws t)
  row_puts g f same = record {
    orgs = refl;
    tokens = refl;
    bounds = refl;
    own = same_parts _ _ _ _ _ _ _ _ (row_changed org ws g t) refl (versions_carried t (ws_changed g org ws t) refl refl refl org ws) refl
        ∙ changed_row g f (retention_at t org ws) (versions_in t org ws) (versions_in t org ws) (runs_in t org ws) (runs_in t org ws) (λ c. same c (retention_at t org ws) (versions_in t org ws) (runs_in t org ws)) (workspace_of org ws t);
    others = λ a b other. same_parts _ _ _ _ _ _ _ _ (row_unchanged org ws g t a b other) refl (versions_carried t (ws_changed g org ws t) refl refl refl a b) refl;
  }

  -- a workspace where there is no row of its name
  added_puts : (settings : Settings) → workspace_of org ws t ≡ None → retention_of org ws t ≡ None → versions_in t org ws ≡ [] → runs_in t org ws ≡ []
      → Stands org ws (Some (new_workspace settings)) t (ws_added org ws settings.runs settings.retention t)
  added_puts settings none no_retention_row no_version no_run =
      let of_runs : RunSettings = settings.runs in
      let retention : ℕ = settings.retention in
      let after : Tables = ws_added org ws settings.runs settings.retention t in
      record {
        orgs = refl;
        tokens = refl;
        bounds = refl;
        own = same_parts _ _ _ _ _ _ _ _ (row_added org ws t of_runs retention none) (retention_added org ws t of_runs retention no_retention_row) (versions_carried t after refl refl refl org ws ∙ no_version) no_run;
        others = λ a b other. same_parts _ _ _ _ _ _ _ _ (row_added_other org ws t of_runs retention a b other) (retention_added_other org ws t of_runs retention a b other) (versions_carried t after refl refl refl a b) refl;
      }

  -- versions come and go, and nothing else
  pub becomes_puts : (f : List Version → List Version) (u : Tables) → Becomes f org ws t u → Stands org ws (option_map (λ (w : Workspace). record w { versions = f w.versions }) (workspace_of_rows t org ws)) t u
  becomes_puts f u made = record {
    orgs = made.rest.orgs;
    tokens = made.rest.tokens;
    bounds = made.rest.bounds;
    own = same_parts _ _ _ _ _ _ _ _ (row_stays t u made.rest org ws ∙ sym (kept_row (workspace_of org ws t))) (retention_stays t u made.rest org ws) made.own (runs_stay t u made.rest org ws)
        ∙ changed_row (λ c. c) (λ (w : Workspace). record w { versions = f w.versions }) (retention_at t org ws) (versions_in t org ws) (f (versions_in t org ws)) (runs_in t org ws) (runs_in t org ws) (λ c. refl) (workspace_of org ws t);
    others = λ a b other. same_parts _ _ _ _ _ _ _ _ (row_stays t u made.rest a b) (retention_stays t u made.rest a b) (made.others a b other) (runs_stay t u made.rest a b);
  }

  -- a run comes behind the others, and nothing else
  pub run_comes : (r : Run) → Stands org ws (option_map (λ (w : Workspace). record w { runs = w.runs ++ r ∷ [] }) (workspace_of_rows t org ws)) t (run_added org ws r t)
  run_comes r = record {
    orgs = refl;
    tokens = refl;
    bounds = refl;
    own = same_parts _ _ _ _ _ _ _ _ (sym (kept_row (workspace_of org ws t))) refl (versions_carried t (run_added org ws r t) refl refl refl org ws) (runs_pushed org ws t r)
        ∙ changed_row (λ c. c) (λ (w : Workspace). record w { runs = w.runs ++ r ∷ [] }) (retention_at t org ws) (versions_in t org ws) (versions_in t org ws) (runs_in t org ws) (runs_in t org ws ++ r ∷ []) (λ c. refl) (workspace_of org ws t);
    others = λ a b other. same_parts _ _ _ _ _ _ _ _ refl refl (versions_carried t (run_added org ws r t) refl refl refl a b) (runs_pushed_other org ws t r a b other);
  }

  -- all versions of a workspace go, alone or with its row and its runs
  module _ (sound : IsSound t) where
    abbrev purged_rows : Tables
    purged_rows = all_gone org ws t

    gone : Becomes (λ vs. []) org ws t purged_rows
    gone = all_go org ws t sound

    removed_puts : Stands org ws None t (removed_rows org ws t)
    removed_puts = record {
      orgs = gone.rest.orgs;
      tokens = gone.rest.tokens;
      bounds = gone.rest.bounds;
      own = same_parts _ _ _ _ _ _ _ _ (row_removed org ws (runs_removed org ws purged_rows)) refl (versions_carried purged_rows (removed_rows org ws t) refl refl refl org ws ∙ gone.own) (runs_gone org ws purged_rows);
      others = λ a b other. same_parts _ _ _ _ _ _ _ _ (row_left org ws (runs_removed org ws purged_rows) a b other ∙ row_stays t purged_rows gone.rest a b) (retention_left org ws (runs_removed org ws purged_rows) a b other ∙ retention_stays t purged_rows gone.rest a b)
          (versions_carried purged_rows (removed_rows org ws t) refl refl refl a b ∙ gone.others a b other) (runs_gone_other org ws purged_rows a b other ∙ runs_stay t purged_rows gone.rest a b);
    }

    purge_puts : Stands org ws (option_map purged (workspace_of_rows t org ws)) t purged_rows
    purge_puts = becomes_puts (λ vs. []) purged_rows gone

  started_puts : (start : Option ℕ) → Stands org ws (option_map (started_if start) (workspace_of_rows t org ws)) t (started_rows org ws start t)
  started_puts None = record { orgs = refl; tokens = refl; bounds = refl; own = kept (workspace_of_rows t org ws); others = λ a b other. refl }
    where
      kept : (w : Option Workspace) → w ≡ option_map (started_if None) w
      kept None = refl
      kept (Some w) = refl
  started_puts (Some n) =
      let g : WorkspaceCells → WorkspaceCells = held_by (HeldByRun n) in
      record {
        orgs = refl;
        tokens = refl;
        bounds = refl;
        own = same_parts _ _ _ _ _ _ _ _ (row_changed org ws g t) refl (versions_carried t (started_rows org ws (Some n) t) refl refl refl org ws) (runs_begun org ws t n)
            ∙ changed_row (held_by (HeldByRun n)) (started n) (retention_at t org ws) (versions_in t org ws) (versions_in t org ws) (runs_in t org ws) (map (begun n) (runs_in t org ws)) (λ c. refl) (workspace_of org ws t);
        others = λ a b other. same_parts _ _ _ _ _ _ _ _ (row_unchanged org ws g t a b other) refl (versions_carried t (started_rows org ws (Some n) t) refl refl refl a b) (runs_begun_other org ws t n a b other);
      }

  -- ---- settings that are set

  abbrev with_fewer : Settings → Option ℕ → Workspace → Workspace
  with_fewer settings outgoing w = record w { settings = settings; versions = left_above outgoing w.versions }

  -- a workspace that has a row has one of keeping
  retention_there : IsSound t → (c : WorkspaceCells) → workspace_of org ws t ≡ Some c → is_some (find (is_retention org ws) t.retentions) ≡ true
  retention_there sound c e = by_row (find (is_ws org ws) t.wss) refl e
    where
      by_row : (r : Option (Kept WsRow)) → find (is_ws org ws) t.wss ≡ r → option_map (λ (x : Kept WsRow). x.1.it) r ≡ Some c → is_some (find (is_retention org ws) t.retentions) ≡ true
      by_row None f e = absurd (let none : ⊥ = cc in none)
      by_row (Some x) f e =
          let p = found_passes (is_ws org ws) t.wss x f in
          let kept : list_any (is_retention x.1.org x.1.name) t.retentions ≡ true = found_holds (λ (y : Kept WsRow). list_any (is_retention y.1.org y.1.name) t.retentions ≡ true) (is_ws org ws) t.wss x sound.wss_kept f in
          sym (any_is_found (is_retention org ws) t.retentions)
          ∙ subst (λ (a : List ℕ). list_any (is_retention a ws) t.retentions ≡ true) (pair_first org ws x.1.org x.1.name p) (subst (λ (b : List ℕ). list_any (is_retention x.1.org b) t.retentions ≡ true) (pair_second org ws x.1.org x.1.name p) kept)

  module _ (sound : IsSound t) (settings : Settings) (outgoing : Option ℕ) where
    abbrev with_set : Tables
    with_set = settings_rows org ws settings t

    abbrev configured : Tables
    configured = configured_rows org ws settings outgoing t

    leave : Becomes (left_above outgoing) org ws with_set configured
    leave = settings_leave org ws t sound settings outgoing

    configured_puts : Stands org ws (option_map (with_fewer settings outgoing) (workspace_of_rows t org ws)) t configured
    configured_puts = record {
      orgs = leave.rest.orgs;
      tokens = leave.rest.tokens;
      bounds = leave.rest.bounds;
      own = same_parts _ _ _ _ _ _ _ _ (row_stays with_set configured leave.rest org ws ∙ row_changed org ws (with_run_settings settings.runs) t) (retention_stays with_set configured leave.rest org ws) (leave.own ∙ ap (left_above outgoing) (versions_carried t with_set refl refl refl org ws)) (runs_stay with_set configured leave.rest org ws)
          ∙ by_row (workspace_of org ws t) refl;
      others = λ a b other. same_parts _ _ _ _ _ _ _ _ (row_stays with_set configured leave.rest a b ∙ row_unchanged org ws (with_run_settings settings.runs) t a b other) (retention_stays with_set configured leave.rest a b ∙ retention_set_other org ws t settings.retention a b other)
          (leave.others a b other ∙ versions_carried t with_set refl refl refl a b) (runs_stay with_set configured leave.rest a b);
    }
      where
        by_row : (r : Option WorkspaceCells) → workspace_of org ws t ≡ r
            → option_map (λ (c : WorkspaceCells). workspace_of_cells (retention_at with_set org ws) c (left_above outgoing (versions_in t org ws)) (runs_in t org ws)) (option_map (with_run_settings settings.runs) r)
            ≡ option_map (with_fewer settings outgoing) (option_map (λ (c : WorkspaceCells). workspace_of_cells (retention_at t org ws) c (versions_in t org ws) (runs_in t org ws)) r)
        by_row None e = refl
        by_row (Some c) e =
            ap (λ (k : ℕ). Some (workspace_of_cells k (with_run_settings settings.runs c) (left_above outgoing (versions_in t org ws)) (runs_in t org ws))) (retention_set org ws t settings.retention (retention_there sound c e))

  -- ---- a version more, a run more

  -- of a workspace that is there what comes is put, and of one that isn't nothing
  there_puts : (f : Workspace → Workspace) (after : Tables) → Stands org ws (option_map f (workspace_of_rows t org ws)) t after → Stands org ws (option_map f (workspace_of_rows t org ws)) t (if_there (workspace_of org ws t) after t)
  there_puts f after puts = by_row (workspace_of org ws t) refl
    where
      by_row : (r : Option WorkspaceCells) → workspace_of org ws t ≡ r → Stands org ws (option_map f (workspace_of_rows t org ws)) t (if_there r after t)
      by_row None e = record { orgs = refl; tokens = refl; bounds = refl; own = no_row f (retention_at t org ws) (versions_in t org ws) (runs_in t org ws) (workspace_of org ws t) e; others = λ a b other. refl }
      by_row (Some w) e = puts

  abbrev one_more : Version → Option ℕ → Workspace → Workspace
  one_more v outgoing w = record w { next_version = v.number + 1; versions = left_above outgoing (w.versions ++ v ∷ []) }

  module _ (sound : IsSound t) (keys : ℕ → List ℕ) (v : Version) (takes : TakesVersion keys org ws v t) (outgoing : Option ℕ) where
    abbrev with_number : Tables
    with_number = numbered_rows org ws v t

    abbrev versioned : Tables
    versioned = versioned_rows keys org ws v outgoing t

    come : Becomes (λ vs. left_above outgoing (vs ++ v ∷ [])) org ws with_number versioned
    come = versions_come org ws t sound keys v takes outgoing

    version_puts : Stands org ws (option_map (one_more v outgoing) (workspace_of_rows t org ws)) t versioned
    version_puts = record {
      orgs = come.rest.orgs;
      tokens = come.rest.tokens;
      bounds = come.rest.bounds;
      own = same_parts _ _ _ _ _ _ _ _ (row_stays with_number versioned come.rest org ws ∙ row_changed org ws (with_next_version (v.number + 1)) t) (retention_stays with_number versioned come.rest org ws)
          (come.own ∙ ap (λ (vs : List Version). left_above outgoing (vs ++ v ∷ [])) (versions_carried t with_number refl refl refl org ws)) (runs_stay with_number versioned come.rest org ws)
          ∙ changed_row (with_next_version (v.number + 1)) (one_more v outgoing) (retention_at t org ws) (versions_in t org ws) (left_above outgoing (versions_in t org ws ++ v ∷ [])) (runs_in t org ws) (runs_in t org ws) (λ c. refl) (workspace_of org ws t);
      others = λ a b other. same_parts _ _ _ _ _ _ _ _ (row_stays with_number versioned come.rest a b ∙ row_unchanged org ws (with_next_version (v.number + 1)) t a b other) (retention_stays with_number versioned come.rest a b)
          (come.others a b other ∙ versions_carried t with_number refl refl refl a b) (runs_stay with_number versioned come.rest a b);
    }

  module _ (number : ℕ) (ask : RunAsk) (created : ℕ) where
    run_puts : Stands org ws (option_map (with_run (new_run number ask created)) (workspace_of_rows t org ws)) t (run_rows org ws number ask created t)
    run_puts =
        let new : Run = new_run_cells number ask.plan_only ask.key ask.message created (cond ask.plan_only Planning Pending) None in
        there_puts (with_run (new_run number ask created)) (run_put org ws number ask created (run_counted org ws number t)) (record {
          orgs = refl;
          tokens = refl;
          bounds = refl;
          own = same_parts _ _ _ _ _ _ _ _ (row_changed org ws (with_next_run (number + 1)) t) refl (versions_carried t (run_put org ws number ask created (run_counted org ws number t)) refl refl refl org ws) (runs_pushed org ws t new)
              ∙ changed_row (with_next_run (number + 1)) (with_run (new_run number ask created)) (retention_at t org ws) (versions_in t org ws) (versions_in t org ws) (runs_in t org ws) (runs_in t org ws ++ new ∷ []) (λ c. refl) (workspace_of org ws t);
          others = λ a b other. same_parts _ _ _ _ _ _ _ _ (row_unchanged org ws (with_next_run (number + 1)) t a b other) refl (versions_carried t (run_put org ws number ask created (run_counted org ws number t)) refl refl refl a b) (runs_pushed_other org ws t new a b other);
        })

  module _ (n : ℕ) (action : RunAction) (status : RunStatus) where
    report_puts : (frees : Bool) → Stands org ws (option_map (after_report n action status frees) (workspace_of_rows t org ws)) t (freed_rows frees org ws (run_acted status action org ws n t))
    report_puts true = record {
      orgs = refl;
      tokens = refl;
      bounds = refl;
      own = same_parts _ _ _ _ _ _ _ _ (row_changed org ws (held_by Nobody) t) refl (versions_carried t (freed_rows true org ws (run_acted status action org ws n t)) refl refl refl org ws) (runs_acted org ws t status action n)
          ∙ changed_row (held_by Nobody) (after_report n action status true) (retention_at t org ws) (versions_in t org ws) (versions_in t org ws) (runs_in t org ws) (map (reported n action status) (runs_in t org ws)) (λ c. refl) (workspace_of org ws t);
      others = λ a b other. same_parts _ _ _ _ _ _ _ _ (row_unchanged org ws (held_by Nobody) t a b other) refl (versions_carried t (freed_rows true org ws (run_acted status action org ws n t)) refl refl refl a b) (runs_acted_other org ws t status action n a b other);
    }
    report_puts false = record {
      orgs = refl;
      tokens = refl;
      bounds = refl;
      own = same_parts _ _ _ _ _ _ _ _ (sym (kept_row (workspace_of org ws t))) refl (versions_carried t (run_acted status action org ws n t) refl refl refl org ws) (runs_acted org ws t status action n)
          ∙ changed_row (λ c. c) (after_report n action status false) (retention_at t org ws) (versions_in t org ws) (versions_in t org ws) (runs_in t org ws) (map (reported n action status) (runs_in t org ws)) (λ c. refl) (workspace_of org ws t);
      others = λ a b other. same_parts _ _ _ _ _ _ _ _ refl refl (versions_carried t (run_acted status action org ws n t) refl refl refl a b) (runs_acted_other org ws t status action n a b other);
    }

pub made_puts : (org ws : List ℕ) (t : Tables) → IsSound t → (settings : Settings) → workspace_of org ws t ≡ None → Stands org ws (Some (new_workspace settings)) t (made_rows org ws settings t)
made_puts org ws t sound settings none = added_puts org ws t settings none (none_kept org ws t none sound) (ap (map (λ (x : Kept VersionRow). version_at t org ws x.1.it)) (no_version_rows t sound org ws none)) (ap (map (λ (x : Kept RunRow). x.1.it)) (no_run_rows t sound org ws none))

module _ (keys : ℕ → List ℕ) (org ws : List ℕ) (t : Tables) (sound : IsSound t) where
  -- ---- an edit

  edited_puts : (edit : Edit) → TakesEdit keys org ws edit t → Stands org ws (edited edit (workspace_of_rows t org ws)) t (edited_rows keys org ws edit t)
  edited_puts (Make settings) takes = made_puts org ws t sound settings takes
  edited_puts (Configure settings outgoing) takes = configured_puts org ws t sound settings outgoing
  edited_puts Remove takes = removed_puts org ws t sound
  edited_puts (AddVersion v outgoing) takes = version_puts org ws t sound keys v takes outgoing
  edited_puts Purge takes = purge_puts org ws t sound
  edited_puts (Hold id text) takes = row_puts org ws t (held_by (Lock id text)) (locked id text) (λ c k vs rs. refl)
  edited_puts (Release id) takes = row_puts org ws t (released_from id) (released id) (λ c k vs rs. refl)
  edited_puts (AddRun number ask created) takes = run_puts org ws t number ask created
  edited_puts (Report number action status frees) takes = report_puts org ws t number action status frees

  changed_stands : (change : Change) → TakesEdit keys org ws change.edit t → Stands org ws (changed_by change (workspace_of_rows t org ws)) t (changed_rows keys org ws change t)
  changed_stands change takes =
      let u : Tables = edited_rows keys org ws change.edit t in
      let first : Stands org ws (edited change.edit (workspace_of_rows t org ws)) t u = edited_puts change.edit takes in
      let second : Stands org ws (option_map (started_if change.start) (workspace_of_rows u org ws)) u (changed_rows keys org ws change t) = started_puts org ws u change.start in
      subst (λ (w : Option Workspace). Stands org ws (option_map (started_if change.start) w) t (changed_rows keys org ws change t)) first.own (stands_then org ws t u (changed_rows keys org ws change t) first second)

  -- whatever becomes of the workspace, all others are as before
  pub changed_leaves : (change : Change) → TakesEdit keys org ws change.edit t → Puts org ws (workspace_by (changed_rows keys org ws change t) org ws) t (changed_rows keys org ws change t)
  changed_leaves change takes =
      let u : Tables = changed_rows keys org ws change t in
      let stands = changed_stands change takes in
      record {
        orgs = stands.orgs;
        tokens = stands.tokens;
        bounds = stands.bounds;
        own = refl;
        others = λ a b other. workspace_ordered u a b ∙ ap (option_map ordered) (stands.others a b other) ∙ sym (workspace_ordered t a b);
      }

  -- a workspace that is lawful afterwards is changed as its rows are
  pub changed_puts : (change : Change) → TakesEdit keys org ws change.edit t → IsLawfulIfThere (changed_by change (workspace_by t org ws)) → Puts org ws (changed_by change (workspace_by t org ws)) t (changed_rows keys org ws change t)
  changed_puts change takes lawful =
      let leaves = changed_leaves change takes in
      record {
        orgs = leaves.orgs;
        tokens = leaves.tokens;
        bounds = leaves.bounds;
        own = workspace_ordered (changed_rows keys org ws change t) org ws ∙ ap (option_map ordered) (changed_stands change takes).own
            ∙ changed_ordered change (workspace_of_rows t org ws) (subst (λ (w : Option Workspace). IsLawfulIfThere (changed_by change w)) (workspace_ordered t org ws) lawful)
            ∙ ap (changed_by change) (sym (workspace_ordered t org ws));
        others = leaves.others;
      }
