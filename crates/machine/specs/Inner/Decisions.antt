-- Contracts between functions: decisions in the shape of the code that makes them, and what they mean for a workspace. The rules say what a
-- decision has to be; `Meets` ties the two.
use Rattle.std.specs.Prelude.{ℕ, Bool, not, ◌&&◌, nat_lt, ◌==◌, cond, List, Option, Some, None, is_some, option_map, ⊤}
use Rattle.std.specs.Str.{bytes_eq}
use Rattle.basis.specs.declared.refusals.Refusal.{Refusal}
use Rattle.basis.specs.declared.refusals.Refusal.TheVariants.{NotFound, OtherLineage, OldSerial, OverLimit, WrongState, HeldByRun, OpenRuns, Locked}
use Rattle.basis.specs.declared.acts.Query.{Query as AnyQuery}
use Rattle.basis.specs.declared.acts.Query.TheVariants as query
use Rattle.basis.specs.declared.rows.Settings.{Settings}
use Rattle.basis.specs.declared.rows.StateHead.{StateHead}
use Rattle.basis.specs.declared.rows.RunAsk.{RunAsk}
use Rattle.basis.specs.declared.runs.RunStatus.{RunStatus}
use Rattle.basis.specs.declared.runs.RunStatus.TheVariants.{Planning}
use Rattle.basis.specs.declared.runs.RunAction.{RunAction}
use Rattle.machine.specs.Workspaces.{max_open_runs}
use Rattle.machine.specs.Succession.{lineages_differ, is_newer}
use Rattle.machine.specs.Settling.{is_waiting, to_start}
use Rattle.machine.specs.Writing.{may_write}
use Rattle.machine.specs.Showing.{holder_id}
use Rattle.machine.specs.Laws.{is_nobody}
use Rattle.machine.specs.Ranges.{IsSettingsAsk}
use Rattle.machine.specs.Rules.{number_left, is_released, new_run, frees, settings_for}
use Rattle.machine.specs.RunSteps.{next_status, is_last}
use Rattle.machine.specs.declared.acts.Act.{Act}
use Rattle.machine.specs.declared.acts.Act.TheVariants.{Query, PutWorkspace, DeleteWorkspace, UpdateState, PurgeState, Lock as LockAct, Unlock, ForceUnlock, MakeRun, ReportRun}
use Rattle.machine.specs.declared.acts.Newest.{Newest}
use Rattle.machine.specs.declared.acts.WorkspaceUnit.{WorkspaceUnit}
use Rattle.machine.specs.declared.acts.Unit.{Unit as AnyUnit}
use Rattle.machine.specs.declared.acts.Unit.TheVariants.{Absent, Present}
use Rattle.machine.specs.declared.acts.Shown.{Shown}
use Rattle.machine.specs.declared.acts.Answer.{Answer}
use Rattle.machine.specs.declared.acts.Answer.TheVariants.{Done, NoState, State, Workspace as ShownWorkspace, Run as ShownRun, Versions, Runs}
use Rattle.machine.specs.declared.acts.Edit.{Edit}
use Rattle.machine.specs.declared.acts.Edit.TheVariants.{Make, Configure, Remove, AddVersion, Purge, Hold, Release, AddRun, Report}
use Rattle.machine.specs.declared.acts.Decision.{Decision}
use Rattle.machine.specs.declared.acts.Decision.TheVariants.{Refused, Accepted}
use Rattle.basis.specs.declared.rows.Holder.{Holder}
use Rattle.basis.specs.declared.rows.Holder.TheVariants.{Nobody, Lock, Run as HoldingRun}
use Rattle.basis.specs.declared.rows.RunRow.{RunRow as Run}

-- an accepted change
abbrev pub changing : Answer → Edit → Option ℕ → Decision
changing answer edit start = Accepted answer (Some (record { edit = edit; start = start }))

-- a workspace with these settings, as it is shown
abbrev pub shown_as : Settings → WorkspaceUnit → Shown
shown_as settings u = record { settings = settings; holder = holder_id u.holder; version = option_map (λ (v : Newest). v.number) u.newest }

abbrev pub new_shown : Settings → Shown
new_shown settings = record { settings = settings; holder = None; version = None }

-- an existing workspace gets settings, unless that would remove a version while it has a holder
abbrev pub decided_put : Settings → WorkspaceUnit → Decision
decided_put settings u = cond (not (is_nobody u.holder) && is_some u.outgoing) (Refused Locked) (changing (ShownWorkspace (shown_as settings u)) (Configure settings u.outgoing) None)

-- the settings that an act asks for are in range
abbrev pub AsksInRange : Act → Type 0
AsksInRange (PutWorkspace ask) = IsSettingsAsk ask
AsksInRange act = ⊤

-- one more version, if a number is left
abbrev pub decided_number : Option ℕ → WorkspaceUnit → StateHead → List ℕ → ℕ → Decision
decided_number None u head text now = Refused OverLimit
decided_number (Some number) u head text now =
    changing Done (AddVersion (record { number = number; serial = head.serial; lineage = head.lineage; created = now; text = text }) u.outgoing) None

abbrev pub decided_version : WorkspaceUnit → StateHead → List ℕ → ℕ → Decision
decided_version u head text now = decided_number (number_left u.next_version) u head text now

abbrev pub decided_after : Option Newest → WorkspaceUnit → StateHead → List ℕ → ℕ → Decision
decided_after None u head text now = decided_version u head text now
decided_after (Some v) u head text now =
    cond v.is_same (Accepted Done None)
    (cond (lineages_differ v.lineage head.lineage) (Refused OtherLineage)
    (cond (is_newer v.serial head.serial) (decided_version u head text now) (Refused OldSerial)))

abbrev pub decided_update : Option Refusal → WorkspaceUnit → StateHead → List ℕ → ℕ → Decision
decided_update (Some refusal) u head text now = Refused refusal
decided_update None u head text now = decided_after u.newest u head text now

abbrev pub decided_read : Option Newest → Decision
decided_read None = Accepted NoState None
decided_read (Some v) = Accepted (State v.number) None

abbrev pub decided_purge : Option Refusal → WorkspaceUnit → Decision
decided_purge (Some refusal) u = Refused refusal
decided_purge None u = changing Done Purge None

abbrev pub decided_idle : ℕ → Decision
decided_idle busy = cond (nat_lt 0 busy) (Refused OpenRuns) (changing Done Remove None)

abbrev pub decided_delete : Holder → ℕ → Decision
decided_delete Nobody busy = decided_idle busy
decided_delete (Lock id text) busy = Refused Locked
decided_delete (HoldingRun n) busy = decided_idle busy

abbrev pub decided_version_read : Bool → ℕ → Decision
decided_version_read has_version n = cond has_version (Accepted (State n) None) (Refused NotFound)

abbrev pub decided_lock : Holder → List ℕ → List ℕ → Decision
decided_lock Nobody id text = changing Done (Hold id text) None
decided_lock (Lock id_held text_held) id text = cond (bytes_eq id id_held) (Accepted Done None) (Refused Locked)
decided_lock (HoldingRun n) id text = Refused Locked

abbrev pub decided_unlock : Holder → WorkspaceUnit → List ℕ → Decision
decided_unlock Nobody u id = Accepted Done None
decided_unlock (Lock id_held text) u id =
    cond (bytes_eq id id_held) (changing Done (Release id_held) u.first_waiting)
    (cond (is_released u.released id) (Accepted Done None) (Refused Locked))
decided_unlock (HoldingRun n) u id = cond (is_released u.released id) (Accepted Done None) (Refused HeldByRun)

abbrev pub decided_force : Holder → WorkspaceUnit → Decision
decided_force Nobody u = Accepted Done None
decided_force (Lock id_held text) u = changing Done (Release id_held) u.first_waiting
decided_force (HoldingRun n) u = Refused HeldByRun

-- the run that starts after a run has been added; if the workspace has no holder, no other run is waiting
abbrev pub start_with : WorkspaceUnit → Run → Option ℕ
start_with u r = to_start u.holder (cond (is_waiting r) (Some r.number) None)

-- the status of a run after this run, if any, has started
abbrev pub status_begun : Option ℕ → ℕ → RunStatus → RunStatus
status_begun None number status = status
status_begun (Some n) number status = cond (number == n) Planning status

abbrev pub begun_by : Option ℕ → Run → Run
begun_by start r = record r { status = status_begun start r.number r.status }

abbrev pub decided_number_of_run : Option ℕ → WorkspaceUnit → RunAsk → ℕ → Decision
decided_number_of_run None u ask now = Refused OverLimit
decided_number_of_run (Some n) u ask now = changing (ShownRun (begun_by (start_with u (new_run n ask now)) (new_run n ask now))) (AddRun n ask now) (start_with u (new_run n ask now))

abbrev pub decided_make : Option Run → WorkspaceUnit → RunAsk → ℕ → Decision
decided_make (Some r) u ask now = Accepted (ShownRun r) None
decided_make None u ask now = cond (nat_lt u.open_runs max_open_runs) (decided_number_of_run (number_left u.next_run) u ask now) (Refused OverLimit)

abbrev pub decided_read_run : Option Run → Decision
decided_read_run None = Refused NotFound
decided_read_run (Some r) = Accepted (ShownRun r) None

-- a run that took an action
abbrev pub acted : RunAction → RunStatus → Run → Run
acted action status r = record r { status = status; action = Some action }

-- the run that starts after a run has ended
abbrev pub start_freed : Bool → WorkspaceUnit → Option ℕ
start_freed freed u = cond freed u.first_waiting None

abbrev pub decided_step : Option RunStatus → WorkspaceUnit → Run → ℕ → RunAction → Decision
decided_step None u r n action = Refused WrongState
decided_step (Some status) u r n action =
    changing (ShownRun (begun_by (start_freed (frees n status u.holder) u) (acted action status r))) (Report n action status (frees n status u.holder)) (start_freed (frees n status u.holder) u)

abbrev pub decided_report : Option Run → WorkspaceUnit → ℕ → RunAction → Decision
decided_report None u n action = Refused NotFound
decided_report (Some r) u n action = cond (is_last action r.action) (Accepted (ShownRun r) None) (decided_step (next_status r.plan_only u.settings.runs.auto_apply r.status action) u r n action)

-- the answer to a read-only act; nothing changes
abbrev pub decided_query : AnyQuery → WorkspaceUnit → Decision
decided_query query.Workspace u = Accepted (ShownWorkspace (shown_as u.settings u)) None
decided_query query.State u = decided_read u.newest
decided_query (query.Version n) u = decided_version_read u.has_version n
decided_query (query.Versions after) u = Accepted (Versions after) None
decided_query (query.Run n) u = decided_read_run u.asked_run
decided_query (query.Runs after) u = Accepted (Runs after) None

abbrev pub decision_missing : Act → Bool → Decision
decision_missing (PutWorkspace ask) room =
    cond room (changing (ShownWorkspace (new_shown (settings_for ask None))) (Make (settings_for ask None)) None) (Refused OverLimit)
decision_missing act room = Refused NotFound

abbrev pub decision_of : AnyUnit → Act → ℕ → Decision
decision_of (Absent workspaces limit) act now = decision_missing act (nat_lt workspaces limit)
decision_of (Present u) (PutWorkspace ask) now = decided_put (settings_for ask (Some u.settings)) u
decision_of (Present u) (Query what) now = decided_query what u
decision_of (Present u) (UpdateState head text id) now = decided_update (may_write u.holder u.holder_status id) u head text now
decision_of (Present u) (PurgeState id) now = decided_purge (may_write u.holder u.holder_status id) u
decision_of (Present u) (LockAct id text) now = decided_lock u.holder id text
decision_of (Present u) (Unlock id) now = decided_unlock u.holder u id
decision_of (Present u) ForceUnlock now = decided_force u.holder u
decision_of (Present u) DeleteWorkspace now = decided_delete u.holder u.open_runs
decision_of (Present u) (MakeRun ask) now = decided_make u.asked_run u ask now
decision_of (Present u) (ReportRun n action) now = decided_report u.asked_run u n action
