-- The rules: the answer to an act on a workspace, and the workspace after it. A refusal changes nothing.
use Rattle.std.specs.Prelude.{ℕ, ◌+◌, ◌-◌, Bool, false, not, ◌&&◌, nat_lt, ◌==◌, cond, List, [], ◌∷◌, ◌++◌, length, map, Option, Some, None}
use Rattle.std.specs.Str.{bytes_eq}
use Rattle.basis.specs.Numbers.{within}
use Rattle.basis.specs.declared.numbers.TheConstants.{MAX_NUMBER, FIRST_KEPT}
use Rattle.basis.specs.declared.refusals.Refusal.{Refusal}
use Rattle.basis.specs.declared.refusals.Refusal.TheVariants.{NotFound, OtherLineage, OldSerial, OverLimit, WrongState, HeldByRun, OpenRuns, Locked}
use Rattle.basis.specs.declared.acts.Query.{Query as AnyQuery}
use Rattle.basis.specs.declared.acts.Query.TheVariants as query
use Rattle.basis.specs.declared.rows.Settings.{Settings}
use Rattle.basis.specs.declared.rows.SettingsAsk.{SettingsAsk}
use Rattle.basis.specs.declared.rows.StateHead.{StateHead}
use Rattle.basis.specs.declared.rows.RunAsk.{RunAsk}
use Rattle.basis.specs.declared.rows.Listing.{Listing}
use Rattle.basis.specs.declared.rows.RunRow.{RunRow as Run}
use Rattle.basis.specs.declared.rows.VersionRow.{VersionRow}
use Rattle.basis.specs.Runs.{is_open}
use Rattle.basis.specs.declared.runs.RunStatus.{RunStatus}
use Rattle.basis.specs.declared.runs.RunStatus.TheVariants.{Pending, Planning}
use Rattle.basis.specs.declared.runs.RunAction.{RunAction}
use Rattle.machine.specs.Effects.{Effect, effect}
use Rattle.machine.specs.Laws.{holds, is_nobody}
use Rattle.machine.specs.RunSteps.{next_status, is_last}
use Rattle.machine.specs.Records.{Seen, missing, there}
use Rattle.machine.specs.Showing.{shown_of, versions_listed, runs_listed}
use Rattle.machine.specs.Units.{version_of}
use Rattle.machine.specs.Workspaces.{newest, last_of, max_open_runs, new_workspace, holder_status, run_of, keyed_run, open_runs}
use Rattle.machine.specs.Writing.{may_write}
use Rattle.machine.specs.Settling.{settled}
use Rattle.machine.specs.Succession.{Succession, first, same, other_lineage, old_serial, next, succession}
use Rattle.machine.specs.declared.acts.Act.{Act}
use Rattle.machine.specs.declared.acts.Act.TheVariants.{Query, PutWorkspace, DeleteWorkspace, UpdateState, PurgeState, Lock as LockAct, Unlock, ForceUnlock, MakeRun, ReportRun}
use Rattle.machine.specs.declared.acts.Shown.{Shown}
use Rattle.basis.specs.declared.rows.Holder.{Holder}
use Rattle.basis.specs.declared.rows.Holder.TheVariants.{Nobody, Lock, Run as HoldingRun}
use Rattle.machine.specs.declared.records.Version.{Version}
use Rattle.machine.specs.declared.records.Workspace.{Workspace}

-- the answer to an act
pub data Outcome : Type 0 where
  -- refused, for another reason than the holder
  refused : Refusal → Outcome
  -- refused, because this holder holds the workspace
  held : Holder → Outcome
  -- done, and there is nothing to show
  done : Outcome
  -- there is no state
  no_state : Outcome
  -- the text of a version
  state : List ℕ → Outcome
  -- the workspace after the act
  workspace : Shown → Outcome
  -- the run after the act
  the_run : Run → Outcome
  -- the list of versions
  versions : Listing VersionRow → Outcome
  -- the list of runs
  runs : Listing Run → Outcome

-- an answer, and the workspace after it, if there is one
abbrev pub Ruling : Type 0
Ruling = Effect Outcome (Option Workspace)

-- the greatest number of a version or a run
abbrev pub max_number : ℕ
max_number = MAX_NUMBER

-- an accepted update: the version gets the next number, and the oldest versions are removed, so that the workspace has no more than it
-- keeps
abbrev pub with_version : Workspace → ℕ → StateHead → List ℕ → ℕ → Workspace
with_version w number head text now =
    record w {
      next_version = number + 1;
      versions = last_of (w.settings.retention - 1) w.versions ++ (record { number = number; serial = head.serial; lineage = head.lineage; created = now; text = text }) ∷ [];
    }

-- an accepted change: the workspace settles, and the answer shows the workspace after that
abbrev pub done_with : Workspace → Ruling
done_with w = effect done (Some (settled w))

abbrev pub shown_with : Workspace → Ruling
shown_with w = effect (workspace (shown_of (settled w))) (Some (settled w))

-- nothing changes, and the act is accepted
abbrev pub done_already : Workspace → Ruling
done_already w = effect done (Some w)

-- the next number, if one is left
abbrev pub number_left : ℕ → Option ℕ
number_left n = within 1 max_number n

abbrev pub numbered_update : Option ℕ → Workspace → StateHead → List ℕ → ℕ → Ruling
numbered_update None w head text now = effect (refused OverLimit) (Some w)
numbered_update (Some number) w head text now = done_with (with_version w number head text now)

abbrev pub accepted_update : Workspace → StateHead → List ℕ → ℕ → Ruling
accepted_update w head text now = numbered_update (number_left w.next_version) w head text now

abbrev pub by_succession : Succession → Workspace → StateHead → List ℕ → ℕ → Ruling
by_succession first w head text now = accepted_update w head text now
by_succession same w head text now = done_already w
by_succession other_lineage w head text now = effect (refused OtherLineage) (Some w)
by_succession old_serial w head text now = effect (refused OldSerial) (Some w)
by_succession next w head text now = accepted_update w head text now

-- the answer to a refusal; for `Locked` it has the holder
abbrev pub refused_by : Refusal → Holder → Outcome
refused_by Locked holder = held holder
refused_by refusal holder = refused refusal

abbrev pub by_may_write : Option Refusal → Workspace → StateHead → List ℕ → ℕ → Ruling
by_may_write (Some refusal) w head text now = effect (refused_by refusal w.holder) (Some w)
by_may_write None w head text now = by_succession (succession w.versions text head) w head text now

abbrev pub update : Workspace → StateHead → List ℕ → Option (List ℕ) → ℕ → Ruling
update w head text id now = by_may_write (may_write w.holder (holder_status w.holder w.runs) id) w head text now

abbrev pub state_answer : Option Version → Outcome
state_answer None = no_state
state_answer (Some v) = state v.text

-- the number of versions to keep: the number asked for; if none is given, that from before, or FIRST_KEPT for a new workspace
abbrev pub kept_before : Option Settings → ℕ
kept_before None = FIRST_KEPT
kept_before (Some settings) = settings.retention

abbrev pub kept_for : Option ℕ → ℕ → ℕ
kept_for None before = before
kept_for (Some asked) before = asked

-- the settings that a PUT asks for, of a workspace with these settings or of a new one
abbrev pub settings_for : SettingsAsk → Option Settings → Settings
settings_for ask before = record { runs = ask.runs; retention = kept_for ask.retention (kept_before before) }

-- other settings: if the workspace has more versions than they keep, the oldest are removed
abbrev pub with_settings : Workspace → Settings → Workspace
with_settings w settings = record w { settings = settings; versions = last_of settings.retention w.versions }

-- whether keeping only this many versions would remove one while the workspace has a holder
abbrev pub takes_held : ℕ → Workspace → Bool
takes_held retention w = not (is_nobody w.holder) && nat_lt retention (length w.versions)

-- PUT of an existing workspace sets its settings, but is refused if this would remove a version while the workspace has a holder
abbrev pub put : Settings → Workspace → Ruling
put settings w = cond (takes_held settings.retention w) (effect (refused_by Locked w.holder) (Some w)) (shown_with (with_settings w settings))

-- a purge: every version is removed, and the next number is unchanged
abbrev pub purged : Workspace → Workspace
purged w = record w { versions = [] }

abbrev pub purge : Option Refusal → Workspace → Ruling
purge (Some refusal) w = effect (refused_by refusal w.holder) (Some w)
purge None w = done_with (purged w)

-- the answer to GET of a version by its number
abbrev pub version_answer : Option Version → Outcome
version_answer None = refused NotFound
version_answer (Some v) = state v.text

-- DELETE of a workspace: it is deleted, with its versions and runs, if no lock holds it and no run is open
abbrev pub delete_idle : ℕ → Workspace → Ruling
delete_idle busy w = cond (nat_lt 0 busy) (effect (refused OpenRuns) (Some w)) (effect done None)

abbrev pub delete : Holder → Workspace → Ruling
delete Nobody w = delete_idle (open_runs w.runs) w
delete (Lock id text) w = effect (refused_by Locked w.holder) (Some w)
delete (HoldingRun n) w = delete_idle (open_runs w.runs) w

-- the lock with this ID holds the workspace; its text is that of the LOCK that took it
abbrev pub locked : List ℕ → List ℕ → Workspace → Workspace
locked id text w = record w { holder = Lock id text }

-- LOCK: it takes the lock if the workspace has no holder, and is accepted again while the same ID holds
abbrev pub lock : Holder → List ℕ → List ℕ → Workspace → Ruling
lock Nobody id text w = done_with (locked id text w)
lock (Lock id_held text_held) id text w = cond (bytes_eq id id_held) (done_already w) (effect (refused_by Locked w.holder) (Some w))
lock (HoldingRun n) id text w = effect (refused_by Locked w.holder) (Some w)

-- the workspace has no holder any more, and the lock's ID is the one released last
abbrev pub released : List ℕ → Workspace → Workspace
released id w = record w { holder = Nobody; released = Some id }

abbrev pub is_released : Option (List ℕ) → List ℕ → Bool
is_released None id = false
is_released (Some last) id = bytes_eq id last

-- UNLOCK by an ID: it releases the lock with this ID, and is accepted again if the workspace has no holder or the ID was released last
abbrev pub unlock : Holder → List ℕ → Workspace → Ruling
unlock Nobody id w = done_already w
unlock (Lock id_held text) id w =
    cond (bytes_eq id id_held) (done_with (released id_held w))
    (cond (is_released w.released id) (done_already w) (effect (refused_by Locked w.holder) (Some w)))
unlock (HoldingRun n) id w = cond (is_released w.released id) (done_already w) (effect (refused HeldByRun) (Some w))

-- UNLOCK with an empty body: it releases whichever lock holds
abbrev pub force_unlock : Holder → Workspace → Ruling
force_unlock Nobody w = done_already w
force_unlock (Lock id_held text) w = done_with (released id_held w)
force_unlock (HoldingRun n) w = effect (refused HeldByRun) (Some w)

-- the answer that shows a run
abbrev pub run_answer : Option Run → Outcome
run_answer None = refused NotFound
run_answer (Some r) = the_run r

-- an accepted change: the workspace settles, and the answer shows a run as it is after that
abbrev pub run_shown_with : ℕ → Workspace → Ruling
run_shown_with n w = effect (run_answer (run_of n (settled w).runs)) (Some (settled w))

-- nothing changes, and the answer shows the run as it is
abbrev pub run_shown_already : Run → Workspace → Ruling
run_shown_already r w = effect (the_run r) (Some w)

-- a run at its creation: a plan-only run is planning, and a queued run is pending
abbrev pub new_run : ℕ → RunAsk → ℕ → Run
new_run number ask now = record { number = number; plan_only = ask.plan_only; key = ask.key; message = ask.message; created = now; status = cond ask.plan_only Planning Pending; action = None }

-- one more run, after the others
abbrev pub with_run : Run → Workspace → Workspace
with_run r w = record w { next_run = r.number + 1; runs = w.runs ++ r ∷ [] }

abbrev pub numbered_run : Option ℕ → Workspace → RunAsk → ℕ → Ruling
numbered_run None w ask now = effect (refused OverLimit) (Some w)
numbered_run (Some number) w ask now = run_shown_with number (with_run (new_run number ask now) w)

-- the creation of a run: if a run has the key, the answer shows it, before any limit is tested
abbrev pub make_run : Option Run → Workspace → RunAsk → ℕ → Ruling
make_run (Some r) w ask now = run_shown_already r w
make_run None w ask now =
    cond (nat_lt (open_runs w.runs) max_open_runs) (numbered_run (number_left w.next_run) w ask now) (effect (refused OverLimit) (Some w))

-- the run with this number has taken this action last and has this status
abbrev pub reported : ℕ → RunAction → RunStatus → Run → Run
reported n action status r = record r { status = cond (r.number == n) status r.status; action = cond (r.number == n) (Some action) r.action }

-- whether the run with this number is the holder and this status ends it
abbrev pub frees : ℕ → RunStatus → Holder → Bool
frees n status holder = holds holder n && not (is_open status)

-- if the holding run ends, the workspace has no holder
abbrev pub with_report : ℕ → RunAction → RunStatus → Workspace → Workspace
with_report n action status w = record w { holder = cond (frees n status w.holder) Nobody w.holder; runs = map (reported n action status) w.runs }

abbrev pub by_step : Option RunStatus → ℕ → RunAction → Workspace → Ruling
by_step None n action w = effect (refused WrongState) (Some w)
by_step (Some status) n action w = run_shown_with n (with_report n action status w)

-- an action on a run: the action that it took last is accepted again; auto-apply is as the workspace's settings are now
abbrev pub report : Option Run → ℕ → RunAction → Workspace → Ruling
report None n action w = effect (refused NotFound) (Some w)
report (Some r) n action w = cond (is_last action r.action) (run_shown_already r w) (by_step (next_status r.plan_only w.settings.runs.auto_apply r.status action) n action w)

-- the answer to a read-only act
abbrev pub query_answer : AnyQuery → Workspace → Outcome
query_answer query.Workspace w = workspace (shown_of w)
query_answer query.State w = state_answer (newest w.versions)
query_answer (query.Version n) w = version_answer (version_of n w.versions)
query_answer (query.Versions after) w = versions (versions_listed after w.versions)
query_answer (query.Run n) w = run_answer (run_of n w.runs)
query_answer (query.Runs after) w = runs (runs_listed after w.runs)

-- PUT creates a missing workspace if there is room; any other act does not find it
abbrev pub rules_missing : Act → Bool → Ruling
rules_missing (PutWorkspace ask) room = cond room (shown_with (new_workspace (settings_for ask None))) (effect (refused OverLimit) None)
rules_missing act room = effect (refused NotFound) None

abbrev pub rules_there : Act → ℕ → Workspace → Ruling
rules_there (PutWorkspace ask) now w = put (settings_for ask (Some w.settings)) w
rules_there (Query what) now w = effect (query_answer what w) (Some w)
rules_there (UpdateState head text id) now w = update w head text id now
rules_there (PurgeState id) now w = purge (may_write w.holder (holder_status w.holder w.runs) id) w
rules_there (LockAct id text) now w = lock w.holder id text w
rules_there (Unlock id) now w = unlock w.holder id w
rules_there ForceUnlock now w = force_unlock w.holder w
rules_there DeleteWorkspace now w = delete w.holder w
rules_there (MakeRun ask) now w = make_run (keyed_run ask.key w.runs) w ask now
rules_there (ReportRun n action) now w = report (run_of n w.runs) n action w

-- the rules: for an act at a time, on a workspace
abbrev pub rules : Act → ℕ → Seen → Ruling
rules act now (missing room) = rules_missing act room
rules act now (there w) = rules_there act now w
