-- A decision means what the rules say.
use Rattle.machine.proofs.Outside.{get, Settings, SettingsAsk, ◌≡◌, ◌⊎◌, inl, inr, ℕ, ◌+◌, ◌-◌, ◌==◌, nat_lt, Bool, true, false, not, ◌&&◌, cond, List, [], ◌∷◌, length, map, Option, Some, None, is_some, is_none, option_map, Result, Ok, Err, IfSome, IfOk, refl, sym, ap, subst, ◌∙◌, eq-eqb, eqb-true, option_or, AllByRecursion, bytes_eq, le-ltb, Refusal, OpenRuns, StateHead, is_open, RunAsk, RunStatus, RunAction, Holder, Nobody, Lock, Run}
use Rattle.basis.specs.declared.numbers.TheConstants.{FIRST_KEPT}
use Rattle.machine.specs.declared.records.Organization.{Organization}
use Rattle.machine.specs.Changes.{left_above}
use Rattle.machine.specs.Workspaces.{max_open_runs, newest, last_of, holder_status, run_of, keyed_run, open_runs}
use Rattle.machine.specs.Writing.{may_write}
use Rattle.machine.specs.Succession.{after_newest, lineages_differ, is_newer, same, other_lineage, old_serial, next}
use Rattle.machine.specs.Showing.{holder_id, shown_of}
use Rattle.machine.specs.Rules.{rules, done, delete, by_may_write, by_succession, numbered_update, number_left, workspace, refused, the_run, run_answer, run_shown_with, run_shown_already, new_run, with_run, with_version, purged, shown_with, numbered_run, make_run, reported, frees, with_report, by_step, report, kept_for, settings_for, with_settings, put, purge, lock, unlock, force_unlock, is_released, released, done_with, done_already, refused_by, rules_there, rules_missing, Ruling}
use Rattle.machine.specs.Settling.{is_waiting, first_waiting, to_start, started_if}
use Rattle.machine.specs.RunSteps.{next_status, is_last}
use Rattle.machine.proofs.StepLemmas.{never_pending, pending_idle}
use Rattle.machine.proofs.LawLemmas.{number_left-is, none_waits, nobody_starts}
use Rattle.machine.proofs.CutLemmas.{left_is_last, left_before, all_last, some_go, newest_stays}
use Rattle.machine.proofs.RunLemmas.{run_of-number, run_of-map, run_of-started, run_of-push, none_numbered, first_waiting-push, first_waiting-map}
use Rattle.machine.specs.Needs.{needs, staying_for}
use Rattle.machine.specs.Units.{unit_of, workspace_unit, newest_unit, settings_unit, outgoing_by, unit_by}
use Rattle.machine.specs.declared.acts.Act.{Act}
use Rattle.machine.specs.declared.acts.Act.TheVariants.{Query, PutWorkspace, DeleteWorkspace, UpdateState, PurgeState, Lock as LockAct, Unlock, ForceUnlock, MakeRun, ReportRun}
use Rattle.machine.specs.declared.acts.Decision.{Decision}
use Rattle.machine.specs.declared.acts.Decision.TheVariants.{Refused, Accepted}
use Rattle.machine.specs.declared.acts.Answer.TheVariants.{Done, Workspace as ShownWorkspace, Run as ShownRun}
use Rattle.machine.specs.declared.acts.Shown.{Shown}
use Rattle.machine.specs.declared.acts.Edit.TheVariants.{Configure, Remove, Release}
use Rattle.machine.specs.declared.acts.Newest.{Newest}
use Rattle.basis.specs.declared.rows.RunRow.{RunRow as AnyRun}
use Rattle.machine.specs.declared.records.Version.{Version}
use Rattle.machine.specs.declared.records.Workspace.{Workspace}
use Rattle.machine.specs.declared.acts.Unit.{Unit as AnyUnit}
use Rattle.machine.proofs.RuleLemmas.{rules_are_lawful}
use Rattle.machine.specs.Effects.{effect}
use Rattle.machine.specs.Inner.Decisions.{AsksInRange, shown_as, decided_put, decided_delete, decision_of, decided_update, decided_after, decided_version, decided_number, decided_purge, decided_lock, decided_unlock, decided_force, decided_number_of_run, decided_make, decided_step, decided_report, start_freed, begun_by, acted, changing, decision_missing}
use Rattle.machine.specs.Meaning.{meaning, Meets, ChangeIsDue}
use Rattle.machine.specs.Laws.{is_nobody, AreVersions, IsRun, IsLawful, IsLawfulIfThere, IsLawfulOrganization, is_pending}
use Rattle.machine.specs.Records.{Seen, seen_by, standing, count_of, seen_in}
use Rattle.machine.specs.Ranges.{IsRetention, IsSettingsAsk, IsInRange, IsMoment}
use Rattle.machine.proofs.QueryLemmas.{all_queries}
use Rattle.machine.proofs.Rulings.{IsPut, Misses, put_or_missed}

-- where somebody holds none starts, and where nobody does none waits
none_starts : (w : Workspace) → IsLawful w → to_start w.holder (first_waiting w.runs) ≡ None
none_starts w lawful = nobody_starts w.holder w.runs lawful.runs.each

-- one more version, and the oldest of too many gone
number_model : (w : Workspace) (head : StateHead) (text : List ℕ) (id : Option (List ℕ)) (now : ℕ) → IsLawful w → (n : Option ℕ) → number_left w.next_version ≡ n
    → meaning (decided_number n (workspace_unit (UpdateState head text id) w) head text now) (Some w) ≡ numbered_update n w head text now
number_model w head text id now lawful None e = refl
number_model w head text id now lawful (Some n) e =
    let v : Version = record { number = n; serial = head.serial; lineage = head.lineage; created = now; text = text } in
    ap (λ (versions : List Version). effect done (Some (record w { next_version = n + 1; versions = versions })))
    (left_before (w.settings.retention - 1) w.next_version w.versions v lawful.versions.next.0 (number_left-is w.next_version n e).0 lawful.versions.rise)
    ∙ ap (λ (start : Option ℕ). effect done (Some (started_if start (with_version w n head text now)))) (sym (none_starts w lawful))

after_model : (w : Workspace) (head : StateHead) (text : List ℕ) (id : Option (List ℕ)) (now : ℕ) → IsLawful w → (o : Option Version)
    → meaning (decided_after (option_map (newest_unit (Some text)) o) (workspace_unit (UpdateState head text id) w) head text now) (Some w)
    ≡ by_succession (after_newest text head o) w head text now
after_model w head text id now lawful None = number_model w head text id now lawful (number_left w.next_version) refl
after_model w head text id now lawful (Some v) =
    chosen (bytes_eq v.text text) (lineages_differ v.lineage head.lineage) (is_newer v.serial head.serial)
  where
    chosen : (a b c : Bool)
        → meaning (cond a (Accepted Done None) (cond b (Refused Refusal.OtherLineage) (cond c (decided_version (workspace_unit (UpdateState head text id) w) head text now) (Refused Refusal.OldSerial)))) (Some w)
        ≡ by_succession (cond a same (cond b other_lineage (cond c next old_serial))) w head text now
    chosen true b c = refl
    chosen false true c = refl
    chosen false false true = number_model w head text id now lawful (number_left w.next_version) refl
    chosen false false false = refl

update_model : (w : Workspace) (head : StateHead) (text : List ℕ) (id : Option (List ℕ)) (now : ℕ) → IsLawful w → (m : Option Refusal)
    → meaning (decided_update m (workspace_unit (UpdateState head text id) w) head text now) (Some w) ≡ by_may_write m w head text now
update_model w head text id now lawful (Some refusal) = refl
update_model w head text id now lawful None = after_model w head text id now lawful (newest w.versions)

purge_model : (w : Workspace) (id : Option (List ℕ)) → IsLawful w → (m : Option Refusal)
    → meaning (decided_purge m (workspace_unit (PurgeState id) w)) (Some w) ≡ purge m w
purge_model w id lawful None = ap (λ (start : Option ℕ). effect done (Some (started_if start (purged w)))) (sym (none_starts w lawful))
purge_model w id lawful (Some refusal) = refl

lock_model : (id text : List ℕ) (w : Workspace) (h : Holder)
    → meaning (decided_lock h id text) (Some w) ≡ lock h id text w
lock_model id text w Nobody = refl
lock_model id text w (Lock id_held text_held) = chosen (bytes_eq id id_held)
  where
    chosen : (b : Bool) → meaning (cond b (Accepted Done None) (Refused Refusal.Locked)) (Some w) ≡ cond b (done_already w) (effect (refused_by Refusal.Locked w.holder) (Some w))
    chosen true = refl
    chosen false = refl
lock_model id text w (Run n) = refl

-- a released ID is answered again, any other is refused
again_model : (w : Workspace) (refusal : Refusal) (b : Bool)
    → meaning (cond b (Accepted Done None) (Refused refusal)) (Some w) ≡ cond b (done_already w) (effect (refused_by refusal w.holder) (Some w))
again_model w refusal true = refl
again_model w refusal false = refl

unlock_model : (id : List ℕ) (w : Workspace) (h : Holder)
    → meaning (decided_unlock h (workspace_unit (Unlock id) w) id) (Some w) ≡ unlock h id w
unlock_model id w Nobody = refl
unlock_model id w (Lock id_held text) = chosen (bytes_eq id id_held)
  where
    chosen : (b : Bool) → meaning (cond b (changing Done (Release id_held) (first_waiting w.runs)) (cond (is_released w.released id) (Accepted Done None) (Refused Refusal.Locked))) (Some w)
        ≡ cond b (done_with (released id_held w)) (cond (is_released w.released id) (done_already w) (effect (refused_by Refusal.Locked w.holder) (Some w)))
    chosen true = refl
    chosen false = again_model w Refusal.Locked (is_released w.released id)
unlock_model id w (Run n) = again_model w Refusal.HeldByRun (is_released w.released id)

force_model : (w : Workspace) (h : Holder)
    → meaning (decided_force h (workspace_unit ForceUnlock w)) (Some w) ≡ force_unlock h w
force_model w Nobody = refl
force_model w (Lock id_held text) = refl
force_model w (Run n) = refl

-- a PUT that asks for a number doesn't need the one that the workspace has
kept_same : (asked : Option ℕ) (retention : ℕ) → kept_for asked (cond (is_none asked) retention FIRST_KEPT) ≡ kept_for asked retention
kept_same None retention = refl
kept_same (Some k) retention = refl

settings_same : (ask : SettingsAsk) (s : Settings) → settings_for ask (Some (settings_unit (is_none ask.retention) s)) ≡ settings_for ask (Some s)
settings_same ask s = λ i. record { runs = ask.runs; retention = kept_same ask.retention s.retention i }

-- which versions go by a PUT: those before the last ones, and none where no number is asked for, whatever number is told
record GoesBy (going : Option ℕ) (retention : ℕ) (versions : List Version) : Type 0 where
  some : is_some going ≡ nat_lt retention (length versions)
  left : left_above going versions ≡ last_of retention versions
  newest_one : newest (last_of retention versions) ≡ newest versions

goes_by : (asked : Option ℕ) (known_retention retention top : ℕ) (versions : List Version) → IfSome asked IsRetention → AreVersions retention top versions
    → GoesBy (outgoing_by (staying_for asked) known_retention versions) (kept_for asked retention) versions
goes_by None known_retention retention top versions range are = record {
  some = sym (le-ltb retention (length versions) are.kept);
  left = sym (all_last retention versions are.kept);
  newest_one = ap newest (all_last retention versions are.kept);
}
goes_by (Some k) known_retention retention top versions range are = record { some = some_go k versions; left = left_is_last k top versions are.rise; newest_one = newest_stays k versions range.0 }

number_shown : (o : Option Version) → option_map (λ (v : Newest). v.number) (option_map (newest_unit None) o) ≡ option_map (λ (v : Version). v.number) o
number_shown None = refl
number_shown (Some v) = refl

put_model : (w : Workspace) (ask : SettingsAsk) → IsLawful w → IsSettingsAsk ask
    → meaning (decided_put (settings_for ask (Some w.settings)) (workspace_unit (PutWorkspace ask) w)) (Some w) ≡ put (settings_for ask (Some w.settings)) w
put_model w ask lawful range = chosen (not (is_nobody w.holder) && is_some going) (not (is_nobody w.holder) && nat_lt settings.retention (length w.versions)) (ap (λ (b : Bool). not (is_nobody w.holder) && b) goes.some)
  where
    settings : Settings
    settings = settings_for ask (Some w.settings)

    known_retention : ℕ
    known_retention = (settings_unit (is_none ask.retention) w.settings).retention

    going : Option ℕ
    going = outgoing_by (staying_for ask.retention) known_retention w.versions

    goes : GoesBy going settings.retention w.versions
    goes = goes_by ask.retention known_retention w.settings.retention w.next_version w.versions range lawful.versions

    shown_from : Option ℕ → Shown
    shown_from version = record { settings = settings; holder = holder_id w.holder; version = version }

    number : option_map (λ (v : Newest). v.number) (option_map (newest_unit None) (newest w.versions)) ≡ option_map (λ (v : Version). v.number) (newest (last_of settings.retention w.versions))
    number = number_shown (newest w.versions) ∙ ap (option_map (λ (v : Version). v.number)) (sym goes.newest_one)

    set : effect (workspace (shown_from (option_map (λ (v : Newest). v.number) (option_map (newest_unit None) (newest w.versions))))) (Some (record w { settings = settings; versions = left_above going w.versions }))
        ≡ shown_with (with_settings w settings)
    set =
        ap (λ (n : Option ℕ). effect (workspace (shown_from n)) (Some (record w { settings = settings; versions = left_above going w.versions }))) number
        ∙ ap (λ (vs : List Version). effect (workspace (shown_of (with_settings w settings))) (Some (record w { settings = settings; versions = vs }))) goes.left
        ∙ ap (λ (start : Option ℕ). effect (workspace (shown_of (started_if start (with_settings w settings)))) (Some (started_if start (with_settings w settings)))) (sym (none_starts w lawful))

    chosen : (b c : Bool) → b ≡ c
        → meaning (cond b (Refused Refusal.Locked) (changing (ShownWorkspace (shown_as settings (workspace_unit (PutWorkspace ask) w))) (Configure settings going) None)) (Some w)
        ≡ cond c (effect (refused_by Refusal.Locked w.holder) (Some w)) (shown_with (with_settings w settings))
    chosen true true e = refl
    chosen true false e = absurd (let none : ⊥ = cc in none)
    chosen false true e = absurd (let none : ⊥ = cc in none)
    chosen false false e = set

-- a run more: it is told as it is once one has started
added_model : (w : Workspace) (ask : RunAsk) (now n : ℕ) → IsLawful w → run_of n w.runs ≡ None
    → meaning (decided_number_of_run (Some n) (workspace_unit (MakeRun ask) w) ask now) (Some w) ≡ run_shown_with n (with_run (new_run n ask now) w)
added_model w ask now n lawful none =
    let r : AnyRun = new_run n ask now in
    let v : Workspace = with_run r w in
    let own : Option ℕ = cond (is_waiting r) (Some n) None in
    let start : Option ℕ = to_start w.holder own in
    subst (λ (f : Option ℕ). effect (the_run (begun_by start r)) (Some (started_if start v)) ≡ effect (run_answer (run_of n (started_if f v).runs)) (Some (started_if f v)))
    (sym (ap (to_start w.holder) (first_waiting-push w.runs r) ∙ own_starts w.holder (first_waiting w.runs) own (none_starts w lawful)))
    (ap (λ (o : Option AnyRun). effect (run_answer o) (Some (started_if start v))) (sym (run_of-started start n v ∙ ap (option_map (begun_by start)) (run_of-push n w.runs r none refl))))
  where
    own_starts : (h : Holder) (waiting own : Option ℕ) → to_start h waiting ≡ None → to_start h (option_or waiting own) ≡ to_start h own
    own_starts Nobody waiting own e = ap (λ (o : Option ℕ). option_or o own) e
    own_starts (Lock id text) waiting own e = refl
    own_starts (Run m) waiting own e = refl

make_model : (w : Workspace) (ask : RunAsk) (now : ℕ) → IsLawful w → (o : Option AnyRun)
    → meaning (decided_make o (workspace_unit (MakeRun ask) w) ask now) (Some w) ≡ make_run o w ask now
make_model w ask now lawful (Some r) = refl
make_model w ask now lawful None = chosen (nat_lt (open_runs w.runs) max_open_runs)
  where
    numbered : (m : Option ℕ) → number_left w.next_run ≡ m → meaning (decided_number_of_run m (workspace_unit (MakeRun ask) w) ask now) (Some w) ≡ numbered_run m w ask now
    numbered None e = refl
    numbered (Some n) e =
        added_model w ask now n lawful (ap (λ (k : ℕ). run_of k w.runs) (number_left-is w.next_run n e).0 ∙ none_numbered 0 w.runs w.next_run lawful.runs.rise)

    chosen : (b : Bool) → meaning (cond b (decided_number_of_run (number_left w.next_run) (workspace_unit (MakeRun ask) w) ask now) (Refused Refusal.OverLimit)) (Some w)
        ≡ cond b (numbered_run (number_left w.next_run) w ask now) (effect (refused Refusal.OverLimit) (Some w))
    chosen true = numbered (number_left w.next_run) refl
    chosen false = refl

-- who waits once a run has taken an action: nobody where nobody held, and the same ones where it held
waits_after : (w : Workspace) (n : ℕ) (action : RunAction) (status : RunStatus) (r : AnyRun) → next_status r.plan_only w.settings.runs.auto_apply r.status action ≡ Some status → IsLawful w
    → (h : Holder) → w.holder ≡ h
    → start_freed (frees n status h) (workspace_unit (ReportRun n action) w) ≡ to_start (cond (frees n status h) Nobody h) (first_waiting (map (reported n action status) w.runs))
waits_after w n action status r leads lawful Nobody e =
    sym (first_waiting-map (reported n action status) (λ x. refl) w.runs (as_before w.runs (subst (λ (h : Holder). AllByRecursion (IsRun h) w.runs) e lawful.runs.each))
    ∙ none_waits Nobody w.runs refl (subst (λ (h : Holder). AllByRecursion (IsRun h) w.runs) e lawful.runs.each))
  where
    one : (x : AnyRun) → IsRun Nobody x → (b : Bool) → is_waiting (record x { status = cond b status x.status }) ≡ is_waiting x
    one x is true = idle_after (is_pending x.status) refl
      where
        idle_after : (c : Bool) → is_pending x.status ≡ c → (is_pending status && not x.plan_only) ≡ (is_pending x.status && not x.plan_only)
        idle_after true p = absurd (let none : ⊥ = cc (is.waiting p).1 in none)
        idle_after false p = rw (never_pending r.plan_only w.settings.runs.auto_apply r.status action status leads, p) refl
    one x is false = refl

    as_before : (l : List AnyRun) → AllByRecursion (IsRun Nobody) l → AllByRecursion (λ (x : AnyRun). is_waiting (reported n action status x) ≡ is_waiting x) l
    as_before [] all = tt
    as_before (x ∷ l) all = (one x all.0 (x.number == n), as_before l all.1)
waits_after w n action status r leads lawful (Lock id text) e = refl
waits_after w n action status r leads lawful (Run m) e = by_end (m == n) refl (is_open status)
  where
    each : AllByRecursion (IsRun (Run m)) w.runs
    each = subst (λ (h : Holder). AllByRecursion (IsRun h) w.runs) e lawful.runs.each

    -- the run that holds is active, so it doesn't wait
    held_idle : (x : AnyRun) → IsRun (Run m) x → m ≡ x.number → (c d : Bool) → x.plan_only ≡ c → is_pending x.status ≡ d → (d && not c) ≡ false
    held_idle x is at true d k p = idle_kind d
      where
        idle_kind : (d : Bool) → (d && not true) ≡ false
        idle_kind true = refl
        idle_kind false = refl
    held_idle x is at false true k p = absurd (let none : ⊥ = cc (sym (pending_idle x.status p) ∙ is.active k ∙ eq-eqb m x.number at) in none)
    held_idle x is at false false k p = refl

    one : (x : AnyRun) → IsRun (Run m) x → m ≡ n → (b : Bool) → (x.number == n) ≡ b → is_waiting (record x { status = cond b status x.status }) ≡ is_waiting x
    one x is at true t =
        (rw (never_pending r.plan_only w.settings.runs.auto_apply r.status action status leads) refl)
        ∙ sym (held_idle x is (at ∙ sym (eqb-true x.number n t)) x.plan_only (is_pending x.status) refl refl)
    one x is at false t = refl

    as_before : m ≡ n → (l : List AnyRun) → AllByRecursion (IsRun (Run m)) l → AllByRecursion (λ (x : AnyRun). is_waiting (reported n action status x) ≡ is_waiting x) l
    as_before at [] all = tt
    as_before at (x ∷ l) all = (one x all.0 at (x.number == n) refl, as_before at l all.1)

    by_end : (b : Bool) → (m == n) ≡ b → (c : Bool)
        → cond (b && not c) (first_waiting w.runs) None ≡ to_start (cond (b && not c) Nobody (Run m)) (first_waiting (map (reported n action status) w.runs))
    by_end true t true = refl
    by_end true t false = sym (first_waiting-map (reported n action status) (λ x. refl) w.runs (as_before (eqb-true m n t) w.runs each))
    by_end false t c = refl

step_model : (w : Workspace) (n : ℕ) (action : RunAction) (r : AnyRun) → IsLawful w → run_of n w.runs ≡ Some r → (m : Option RunStatus) → next_status r.plan_only w.settings.runs.auto_apply r.status action ≡ m
    → meaning (decided_step m (workspace_unit (ReportRun n action) w) r n action) (Some w) ≡ by_step m n action w
step_model w n action r lawful there None leads = refl
step_model w n action r lawful there (Some status) leads =
    let v : Workspace = with_report n action status w in
    let start : Option ℕ = start_freed (frees n status w.holder) (workspace_unit (ReportRun n action) w) in
    subst (λ (s : Option ℕ). effect (the_run (begun_by start (acted action status r))) (Some (started_if start v)) ≡ effect (run_answer (run_of n (started_if s v).runs)) (Some (started_if s v)))
    (waits_after w n action status r leads lawful w.holder refl)
    (ap (λ (o : Option AnyRun). effect (run_answer o) (Some (started_if start v)))
    (sym (run_of-started start n v ∙ ap (option_map (begun_by start)) (run_of-map (reported n action status) (λ x. refl) n w.runs ∙ ap (option_map (reported n action status)) there ∙ ap Some own))))
  where
    own : reported n action status r ≡ acted action status r
    own = rw (eq-eqb r.number n (run_of-number n w.runs r there)) refl

report_model : (w : Workspace) (n : ℕ) (action : RunAction) → IsLawful w → (o : Option AnyRun) → run_of n w.runs ≡ o
    → meaning (decided_report o (workspace_unit (ReportRun n action) w) n action) (Some w) ≡ report o n action w
report_model w n action lawful None there = refl
report_model w n action lawful (Some r) there = chosen (is_last action r.action)
  where
    chosen : (b : Bool) → meaning (cond b (Accepted (ShownRun r) None) (decided_step (next_status r.plan_only w.settings.runs.auto_apply r.status action) (workspace_unit (ReportRun n action) w) r n action)) (Some w)
        ≡ cond b (run_shown_already r w) (by_step (next_status r.plan_only w.settings.runs.auto_apply r.status action) n action w)
    chosen true = refl
    chosen false = step_model w n action r lawful there (next_status r.plan_only w.settings.runs.auto_apply r.status action) refl

-- DELETE of a workspace
delete_model : (w : Workspace) (h : Holder) → meaning (decided_delete h (open_runs w.runs)) (Some w) ≡ delete h w
delete_model w Nobody = idle (nat_lt 0 (open_runs w.runs))
  where
    idle : (b : Bool) → meaning (cond b (Refused OpenRuns) (changing Done Remove None)) (Some w) ≡ cond b (effect (refused OpenRuns) (Some w)) (effect done None)
    idle true = refl
    idle false = refl
delete_model w (Lock id text) = refl
delete_model w (Run n) = idle (nat_lt 0 (open_runs w.runs))
  where
    idle : (b : Bool) → meaning (cond b (Refused OpenRuns) (changing Done Remove None)) (Some w) ≡ cond b (effect (refused OpenRuns) (Some w)) (effect done None)
    idle true = refl
    idle false = refl

there_model : (o : Organization) (w : Workspace) (act : Act) (now : ℕ) → IsLawful w → AsksInRange act → meaning (decision_of (unit_by o act (Some w)) act now) (Some w) ≡ rules_there act now w
there_model o w (PutWorkspace ask) now lawful asked = ap (λ (s : Settings). meaning (decided_put s (workspace_unit (PutWorkspace ask) w)) (Some w)) (settings_same ask w.settings) ∙ put_model w ask lawful asked
there_model o w (Query what) now lawful asked = (all_queries what w).model
there_model o w (UpdateState head text id) now lawful asked = update_model w head text id now lawful (may_write w.holder (holder_status w.holder w.runs) id)
there_model o w (PurgeState id) now lawful asked = purge_model w id lawful (may_write w.holder (holder_status w.holder w.runs) id)
there_model o w (LockAct id text) now lawful asked = lock_model id text w w.holder
there_model o w (Unlock id) now lawful asked = unlock_model id w w.holder
there_model o w ForceUnlock now lawful asked = force_model w w.holder
there_model o w DeleteWorkspace now lawful asked = delete_model w w.holder
there_model o w (MakeRun ask) now lawful asked = make_model w ask now lawful (keyed_run ask.key w.runs)
there_model o w (ReportRun n action) now lawful asked = report_model w n action lawful (run_of n w.runs) refl

missing_model : (o : Organization) (act : Act) → meaning (decision_missing act (nat_lt (cond (needs act).makes (count_of o) 0) (cond (needs act).makes o.limit 0))) None ≡ rules_missing act (nat_lt (count_of o) o.limit)
missing_model o act = by_act (put_or_missed act)
  where
    room : Bool
    room = nat_lt (count_of o) o.limit

    made : (room : Bool) (ask : SettingsAsk) → meaning (decision_missing (PutWorkspace ask) room) None ≡ rules_missing (PutWorkspace ask) room
    made true ask = refl
    made false ask = refl

    by_act : IsPut act ⊎ Misses act → meaning (decision_missing act (nat_lt (cond (needs act).makes (count_of o) 0) (cond (needs act).makes o.limit 0))) None ≡ rules_missing act room
    by_act (inl put) =
        subst (λ (a : Act). meaning (decision_missing a (nat_lt (cond (needs a).makes (count_of o) 0) (cond (needs a).makes o.limit 0))) None ≡ rules_missing a room) (sym put.1) (made room put.0)
    by_act (inr misses) = ap (λ (d : Decision). meaning d None) (misses (nat_lt (cond (needs act).makes (count_of o) 0) (cond (needs act).makes o.limit 0))).1 ∙ sym (misses room).0

model : (o : Organization) (w : Option Workspace) (act : Act) (now : ℕ) → IsLawfulIfThere w → AsksInRange act
    → meaning (decision_of (unit_by o act w) act now) (standing (seen_by (nat_lt (count_of o) o.limit) w)) ≡ rules act now (seen_by (nat_lt (count_of o) o.limit) w)
model o None act now lawful asked = missing_model o act
model o (Some w) act now lawful asked = there_model o w act now lawful asked

-- a change that means what the rules say is due
due_from : (s : Seen) (act : Act) (now : ℕ) (d : Decision) → meaning d (standing s) ≡ rules act now s → IsInRange act → IsMoment now → ChangeIsDue s d
due_from s act now (Refused refusal) e range moment = tt
due_from s act now (Accepted answer None) e range moment = tt
due_from s act now (Accepted answer (Some change)) e range moment =
    record { act = act; now = now; range = range; moment = moment; is = ap (λ (r : Ruling). r.left) e }

meets : (o : Organization) (w : Option Workspace) (act : Act) (now : ℕ) → IsLawfulIfThere w → AsksInRange act → Meets (seen_by (nat_lt (count_of o) o.limit) w) act now (decision_of (unit_by o act w) act now)
meets o w act now there asked =
    let s : Seen = seen_by (nat_lt (count_of o) o.limit) w in
    record {
      model = model o w act now there asked;
      due = λ range moment. due_from s act now (decision_of (unit_by o act w) act now) (model o w act now there asked) range moment;
      lawful = λ range moment lawful. rules_are_lawful act now s range moment lawful;
    }

lawful_there : (o : Organization) (name : List ℕ) → IsLawfulOrganization o → (w : Option Workspace) → get o.workspaces name ≡ w → IsLawfulIfThere w
lawful_there o name lawful None e = tt
lawful_there o name lawful (Some w) e = (lawful.workspaces name w e).lawful

pub met : {E : Type 0} (unit : AnyUnit) (act : Act) (now : ℕ) (r : Result Decision E) → AsksInRange act → IfOk r (λ d. d ≡ decision_of unit act now)
    → IfOk r (λ d. (o : Organization) (name : List ℕ) → IsLawfulOrganization o → unit ≡ unit_of o name act → Meets (seen_in o name) act now d)
met unit act now (Ok d) asked h = λ o name lawful e.
    let named : (w : Option Workspace) → get o.workspaces name ≡ w → IsLawfulIfThere w = lawful_there o name lawful in
    subst (λ (x : Decision). Meets (seen_in o name) act now x) (ap (λ (u : AnyUnit). decision_of u act now) (sym e) ∙ sym h) (meets o (get o.workspaces name) act now (named (get o.workspaces name) refl) asked)
met unit act now (Err e) asked h = tt
