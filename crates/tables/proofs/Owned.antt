-- Which rows stand apart, and which belong to a row that is there, after a change of a workspace.
use Rattle.tables.proofs.Outside.{◌≡◌, ℕ, ◌+◌, Bool, true, false, cond, List, [], ◌∷◌, ◌++◌, find, filter, length, is_some, Option, Some, None, refl, sym, ap, subst, ◌∙◌, arith, AllByRecursion, list_any, next_key, AreApart, any_is_found, is_some-map, RunAsk, RunSettings, Settings, RunStatus, Pending, Planning, RunAction, Edit, Make, Configure, Remove, AddVersion, Purge, Hold, Release, AddRun, Report, Change, Version, Kept, id_of, OrgRow, WsRow, RetentionRow, RunRow, SCHEMA_VERSION, Tables, is_org, is_ws, is_retention, HasNoRetention, retention_changed, is_version_of, is_run_row, with_run_settings, held_by, released_from, with_next_version, with_next_run, ws_changed, ws_added, ws_removed, workspace_made, runs_removed, run_made, run_added, run_changed_to, run_acted, AreNamedApart, AreOfOrgs, AreAmong, workspace_of, left_above}
use Rattle.basis.specs.declared.rows.Holder.TheVariants.{Nobody, Lock, Run as HeldByRun}
use Rattle.statements.specs.declared.rows.Workspace.{Workspace as WorkspaceCells}
use Rattle.basis.specs.declared.rows.RunRow.{RunRow as Run}
use Rattle.tables.specs.Sound.{IsOrgRow, AreAccountsIn, IsSound}
use Rattle.tables.specs.Inner.Edits.{all_gone, removed_rows, made_rows, settings_rows, configured_rows, numbered_rows, versioned_rows, if_there, run_put, run_counted, freed_rows, edited_rows, started_rows, changed_rows, TakesVersion, TakesEdit}
use Rattle.tables.proofs.Ordered.{versions_in}
use Rattle.tables.proofs.Absent.{no_row, no_retention}
use Rattle.tables.proofs.TextRows.{Becomes, versions_counted}
use Rattle.tables.proofs.VersionEdits.{all_go, settings_leave, versions_come}
use Rattle.tables.proofs.Names.{pair_is}
use Rattle.tables.proofs.Belonging.{apart_changed, apart_gone, apart_more, of_orgs_changed, of_orgs_gone, of_orgs_more, among_changed, changed_among, among_more, more_among, among_left, both_more, both_left}
pub use Rattle.tables.specs.Inner.Standing.{AreOwned}

module _ {X : Type 0} where
  none_of : (p : X → Bool) (xs : List X) → length (filter p xs) ≡ 0 → AllByRecursion (λ x. p x ≡ false) xs
  none_of p [] e = tt
  none_of p (x ∷ xs) e = go (p x) refl e (none_of p xs)
    where
      go : (b : Bool) → p x ≡ b → length (cond b (x ∷ filter p xs) (filter p xs)) ≡ 0 → (length (filter p xs) ≡ 0 → AllByRecursion (λ y. p y ≡ false) xs) → (p x ≡ false) × AllByRecursion (λ y. p y ≡ false) xs
      go true is e more = absurd (omega (arith, e))
      go false is e more = (is, more e)

-- where organizations alone come and go
module _ (t : Tables) (orgs : List (Kept OrgRow)) (sound : IsSound t) where
  pub accounts_in : AreApart (λ a b. is_org a.1.name b) orgs → AllByRecursion IsOrgRow orgs → AreOfOrgs orgs t.tokens → AreAccountsIn SCHEMA_VERSION orgs t.tokens t.bounds
  accounts_in apart rows owned = record {
    orgs_apart = apart;
    tokens_apart = sound.tokens_apart;
    digests_apart = sound.digests_apart;
    bounds_apart = sound.bounds_apart;
    tokens_bound = sound.tokens_bound;
    tokens_owned = owned;
    bounds_owned = sound.bounds_owned;
    org_rows = rows;
    token_rows = sound.token_rows;
    bound_rows = sound.bound_rows;
  }

  pub owned_in : AreOfOrgs orgs t.wss → AreOwned (record t { orgs = orgs })
  owned_in owned = record {
    wss_apart = sound.wss_apart;
    retentions_apart = sound.retentions_apart;
    wss_kept = sound.wss_kept;
    wss_owned = owned;
    retentions_owned = sound.retentions_owned;
    versions_owned = sound.versions_owned;
    runs_owned = sound.runs_owned;
  }

module _ (org ws : List ℕ) (t : Tables) (owned : AreOwned t) where
  pub owned_row : (g : WorkspaceCells → WorkspaceCells) → AreOwned (ws_changed g org ws t)
  owned_row g = record {
    wss_apart = apart_changed t.wss (is_ws org ws) g owned.wss_apart;
    retentions_apart = owned.retentions_apart;
    wss_kept = changed_among t.retentions t.wss (is_ws org ws) g owned.wss_kept;
    wss_owned = of_orgs_changed t.wss t.orgs (is_ws org ws) g owned.wss_owned;
    retentions_owned = among_changed t.wss t.retentions (is_ws org ws) g owned.retentions_owned;
    versions_owned = among_changed t.wss t.versions (is_ws org ws) g owned.versions_owned;
    runs_owned = among_changed t.wss t.runs (is_ws org ws) g owned.runs_owned;
  }

  owned_kept : (retention : ℕ) → AreOwned (retention_changed retention org ws t)
  owned_kept retention = record {
    wss_apart = owned.wss_apart;
    retentions_apart = apart_changed t.retentions (is_retention org ws) (λ _. retention) owned.retentions_apart;
    wss_kept = among_changed t.retentions t.wss (is_retention org ws) (λ _. retention) owned.wss_kept;
    wss_owned = owned.wss_owned;
    retentions_owned = changed_among t.wss t.retentions (is_retention org ws) (λ _. retention) owned.retentions_owned;
    versions_owned = owned.versions_owned;
    runs_owned = owned.runs_owned;
  }

  -- where versions of one workspace come and go
  pub owned_becomes : (f : List Version → List Version) (o w : List ℕ) (u : Tables) → Becomes f o w t u → AreOwned u
  owned_becomes f o w u made = record {
    wss_apart = subst AreNamedApart (sym made.rest.wss) owned.wss_apart;
    retentions_apart = subst AreNamedApart (sym made.rest.retentions) owned.retentions_apart;
    wss_kept = subst (λ ks. AreAmong ks u.wss) (sym made.rest.retentions) (subst (AreAmong t.retentions) (sym made.rest.wss) owned.wss_kept);
    wss_owned = subst (λ orgs. AreOfOrgs orgs u.wss) (sym made.rest.orgs) (subst (AreOfOrgs t.orgs) (sym made.rest.wss) owned.wss_owned);
    retentions_owned = subst (λ wss. AreAmong wss u.retentions) (sym made.rest.wss) (subst (AreAmong t.wss) (sym made.rest.retentions) owned.retentions_owned);
    versions_owned = subst (λ wss. AreAmong wss u.versions) (sym made.rest.wss) (made.owned owned.versions_owned);
    runs_owned = subst (λ wss. AreAmong wss u.runs) (sym made.rest.wss) (subst (AreAmong t.wss) (sym made.rest.runs) owned.runs_owned);
  }

  -- where runs alone come and go
  owned_runs : (runs : List (Kept RunRow)) → AreAmong t.wss runs → AreOwned (record t { runs = runs })
  owned_runs runs among = record {
    wss_apart = owned.wss_apart;
    retentions_apart = owned.retentions_apart;
    wss_kept = owned.wss_kept;
    wss_owned = owned.wss_owned;
    retentions_owned = owned.retentions_owned;
    versions_owned = owned.versions_owned;
    runs_owned = among;
  }

  owned_begun : (n : ℕ) → AreOwned (run_changed_to Planning org ws n t)
  owned_begun n = owned_runs (run_changed_to Planning org ws n t).runs (changed_among t.wss t.runs (is_run_row org ws n) (λ r. record r { status = Planning }) owned.runs_owned)

  pub owned_run : (r : Run) → list_any (is_ws org ws) t.wss ≡ true → AreOwned (run_added org ws r t)
  owned_run r there = owned_runs (run_added org ws r t).runs (more_among t.wss t.runs (next_key id_of t.runs, record { org = org; name = ws; it = r }) there owned.runs_owned)

  owned_acted : (status : RunStatus) (action : RunAction) (n : ℕ) → AreOwned (run_acted status action org ws n t)
  owned_acted status action n =
      owned_runs (run_acted status action org ws n t).runs (changed_among t.wss t.runs (is_run_row org ws n) (λ r. record r { status = status; action = Some action }) owned.runs_owned)

  -- the row and the runs of a workspace go that has no version
  owned_taken : versions_in t org ws ≡ [] → AreOwned (ws_removed org ws (runs_removed org ws t))
  owned_taken none = record {
    wss_apart = apart_gone t.wss (is_ws org ws) owned.wss_apart;
    retentions_apart = apart_gone t.retentions (is_retention org ws) owned.retentions_apart;
    wss_kept = both_left t.retentions t.wss org ws owned.wss_kept;
    wss_owned = of_orgs_gone t.wss t.orgs (is_ws org ws) owned.wss_owned;
    retentions_owned = both_left t.wss t.retentions org ws owned.retentions_owned;
    versions_owned = among_left t.wss t.versions org ws (none_of (is_version_of org ws) t.versions (let length_none : length (filter (is_version_of org ws) t.versions) ≡ 0 = versions_counted t org ws ∙ ap length none in length_none)) owned.versions_owned;
    runs_owned = both_left t.wss t.runs org ws owned.runs_owned;
  }

  -- a workspace where there is no row of its name
  owned_added : (of_runs : RunSettings) (retention : ℕ) → AllByRecursion (λ x. is_ws org ws x ≡ false) t.wss → HasNoRetention org ws t → list_any (is_org org) t.orgs ≡ true → AreOwned (ws_added org ws of_runs retention t)
  owned_added of_runs retention none no_retention_row there = record {
    wss_apart = apart_more t.wss new none owned.wss_apart;
    retentions_apart = apart_more t.retentions new_retention no_retention_row owned.retentions_apart;
    wss_kept = both_more t.retentions t.wss new_retention new (pair_is org ws) owned.wss_kept;
    wss_owned = of_orgs_more t.wss t.orgs new there owned.wss_owned;
    retentions_owned = both_more t.wss t.retentions new new_retention (pair_is org ws) owned.retentions_owned;
    versions_owned = among_more t.wss t.versions new owned.versions_owned;
    runs_owned = among_more t.wss t.runs new owned.runs_owned;
  }
    where
      new : Kept WsRow
      new = (next_key id_of t.wss, record { org = org; name = ws; it = workspace_made of_runs })

      new_retention : Kept RetentionRow
      new_retention = (next_key id_of t.retentions, record { org = org; name = ws; it = retention })

module _ (org ws : List ℕ) (t : Tables) (sound : IsSound t) where
  abbrev purged_rows : Tables
  purged_rows = all_gone org ws t

  owned_purged : AreOwned purged_rows
  owned_purged = owned_becomes org ws t sound.owned (λ vs. []) org ws purged_rows (all_go org ws t sound)

  owned_removed : AreOwned (removed_rows org ws t)
  owned_removed = owned_taken org ws purged_rows owned_purged (all_go org ws t sound).own

  pub owned_made : (settings : Settings) → workspace_of org ws t ≡ None → list_any (is_org org) t.orgs ≡ true → AreOwned (made_rows org ws settings t)
  owned_made settings none there = owned_added org ws t sound.owned settings.runs settings.retention (no_row org ws t none) (no_retention org ws t none sound) there

  owned_configured : (settings : Settings) (outgoing : Option ℕ) → AreOwned (configured_rows org ws settings outgoing t)
  owned_configured settings outgoing =
      owned_becomes org ws (settings_rows org ws settings t) (owned_kept org ws (ws_changed (with_run_settings settings.runs) org ws t) (owned_row org ws t sound.owned (with_run_settings settings.runs)) settings.retention)
      (left_above outgoing) org ws (configured_rows org ws settings outgoing t) (settings_leave org ws t sound settings outgoing)

  owned_versioned : (keys : ℕ → List ℕ) (v : Version) (takes : TakesVersion keys org ws v t) (outgoing : Option ℕ) → AreOwned (versioned_rows keys org ws v outgoing t)
  owned_versioned keys v takes outgoing =
      owned_becomes org ws (numbered_rows org ws v t) (owned_row org ws t sound.owned (with_next_version (v.number + 1))) (λ vs. left_above outgoing (vs ++ v ∷ [])) org ws (versioned_rows keys org ws v outgoing t)
      (versions_come org ws t sound keys v takes outgoing)

module _ (org ws : List ℕ) where
  pub row_there : (t : Tables) (w : WorkspaceCells) → workspace_of org ws t ≡ Some w → list_any (is_ws org ws) t.wss ≡ true
  row_there t w e = any_is_found (is_ws org ws) t.wss ∙ sym (is_some-map (λ (x : Kept WsRow). x.1.it) (find (is_ws org ws) t.wss)) ∙ ap is_some e

  owned_run_rows : (number : ℕ) (ask : RunAsk) (created : ℕ) (t : Tables) → AreOwned t → (r : Option WorkspaceCells) → workspace_of org ws t ≡ r
      → AreOwned (if_there r (run_put org ws number ask created (run_counted org ws number t)) t)
  owned_run_rows number ask created t owned None e = owned
  owned_run_rows number ask created t owned (Some w) e =
      owned_row org ws (run_put org ws number ask created t)
      (owned_run org ws t owned (run_made number ask.plan_only ask.key ask.message created (cond ask.plan_only Planning Pending) None) (row_there t w e)) (with_next_run (number + 1))

  owned_freed : (frees : Bool) (t : Tables) → AreOwned t → AreOwned (freed_rows frees org ws t)
  owned_freed true t owned = owned_row org ws t owned (held_by Nobody)
  owned_freed false t owned = owned

  owned_edited : (keys : ℕ → List ℕ) (t : Tables) → IsSound t → list_any (is_org org) t.orgs ≡ true → (edit : Edit) → TakesEdit keys org ws edit t → AreOwned (edited_rows keys org ws edit t)
  owned_edited keys t sound there (Make settings) takes = owned_made org ws t sound settings takes there
  owned_edited keys t sound there (Configure settings outgoing) takes = owned_configured org ws t sound settings outgoing
  owned_edited keys t sound there Remove takes = owned_removed org ws t sound
  owned_edited keys t sound there (AddVersion v outgoing) takes = owned_versioned org ws t sound keys v takes outgoing
  owned_edited keys t sound there Purge takes = owned_purged org ws t sound
  owned_edited keys t sound there (Hold id text) takes = owned_row org ws t sound.owned (held_by (Lock id text))
  owned_edited keys t sound there (Release id) takes = owned_row org ws t sound.owned (released_from id)
  owned_edited keys t sound there (AddRun number ask created) takes = owned_run_rows number ask created t sound.owned (workspace_of org ws t) refl
  owned_edited keys t sound there (Report number action status frees) takes = owned_freed frees (run_acted status action org ws number t) (owned_acted org ws t sound.owned status action number)

  owned_started : (t : Tables) → AreOwned t → (start : Option ℕ) → AreOwned (started_rows org ws start t)
  owned_started t owned None = owned
  owned_started t owned (Some n) = owned_begun org ws (ws_changed (held_by (HeldByRun n)) org ws t) (owned_row org ws t owned (held_by (HeldByRun n))) n

  pub changed_are_owned : (keys : ℕ → List ℕ) (t : Tables) → IsSound t → list_any (is_org org) t.orgs ≡ true → (change : Change) → TakesEdit keys org ws change.edit t → AreOwned (changed_rows keys org ws change t)
  changed_are_owned keys t sound there change takes = owned_started (edited_rows keys org ws change.edit t) (owned_edited keys t sound there change.edit takes) change.start
