-- What the rules come to, a clause an act: of a workspace that is there it stays, or goes, or is changed in one of a few ways and settles;
-- and an act that comes again changes nothing more.
use Rattle.machine.proofs.Outside.{Bool, IsSome, IsTrue, List, None, Option, Some, [], ap, arith, cond, eq-eqb, false, inl, inr, is_some, length, nat_lt, option_map, refl, subst, sym, true, ℕ, ◌++◌, ◌-◌, ◌<◌, ◌∙◌, ◌∷◌, ◌≡◌, ◌⊎◌, bytes_eq, ltb-true, bytes_eq-Decides, same_Some, is_free_id, run_id, Refusal, HeldByRun, Locked, NotApplying, NotFound, NotHeld, OldSerial, OtherLineage, OverLimit, RunAsk, Settings, SettingsAsk, StateHead, RunStatus, Applied, Applying, Canceled, Discarded, Errored, Pending, Planned, PlannedAndFinished, Planning, RunAction, Holder}
use Rattle.machine.specs.Custody.{IsRefusal, IsUnlocked, IsWriter, Releases, RepeatsChangeNothing, WritesWith}
use Rattle.machine.specs.Effects.{effect}
use Rattle.machine.specs.Inner.Decisions.{begun_by, decision_missing}
use Rattle.machine.specs.Ranges.{IsHeadInRange, IsInRange, IsRetention, IsRunAsk}
use Rattle.machine.specs.Records.{missing, there}
use Rattle.machine.specs.Rules.{Outcome, Ruling, by_may_write, by_succession, done, done_already, done_with, force_unlock, held, is_released, lock, locked, make_run, new_run, number_left, numbered_run, numbered_update, purge, purged, put, refused, refused_by, released, report, reported, rules, rules_missing, settings_for, takes_held, the_run, unlock, with_report, with_run, with_settings, with_version, workspace}
use Rattle.machine.specs.Settling.{first_waiting, settled, started, started_if, to_start}
use Rattle.machine.specs.Showing.{shown_of}
use Rattle.machine.specs.Succession.{Succession, first, next, old_serial, other_lineage, same, succession}
use Rattle.machine.specs.Workspaces.{holder_status, keyed_run, last_of, max_open_runs, new_workspace, newest, open_runs, run_of}
use Rattle.machine.specs.Writing.{is_applying, may_write}
use Rattle.machine.specs.declared.acts.Act.{Act}
use Rattle.machine.specs.declared.acts.Act.TheVariants.{DeleteWorkspace, ForceUnlock, Lock as LockAct, Query, MakeRun, PurgeState, PutWorkspace, ReportRun, Unlock, UpdateState}
use Rattle.machine.specs.declared.acts.Decision.TheVariants.{Refused}
use Rattle.basis.specs.declared.rows.Holder.TheVariants.{Lock, Nobody, Run as HoldingRun}
use Rattle.basis.specs.declared.rows.RunRow.{RunRow as Run}
use Rattle.machine.specs.declared.records.Workspace.{Workspace}
use Rattle.machine.proofs.DeletionLemmas.{IsGone, IsKept, delete_again, delete_comes}
use Rattle.machine.proofs.QueryLemmas.{all_queries}
use Rattle.machine.proofs.PuttingLemmas.{IsSet, asked_once, kept_in_range, put_becomes, put_comes, put_once}
use Rattle.machine.proofs.RefusedLemmas.{holder_named, never_done, refused_other, refuses}
use Rattle.machine.proofs.RunLemmas.{keyed-push, keyed-started, run_of-map, run_of-number, run_of-started, some_run-push}
use Rattle.machine.proofs.RunRulings.{IsMade, IsPlain, IsReported, comes_to, make_comes, plainly_answered, report_comes, answered_of}
use Rattle.machine.proofs.RunRulings as run
use Rattle.machine.specs.RunSteps.{is_last}
use Rattle.machine.proofs.LawLemmas.{number_left-is}
use Rattle.machine.proofs.StepLemmas.{same_action}
use Rattle.machine.proofs.CutLemmas.{last_length}
use Rattle.machine.specs.declared.records.Version.{Version}

-- ---- of a workspace that is missing: PUT makes it where there is room, and every other act misses it

abbrev pub Misses : Act → Type 0
Misses act = (room : Bool) → (rules_missing act room ≡ effect (refused NotFound) None) × (decision_missing act room ≡ Refused NotFound)

abbrev pub IsPut : Act → Type 0
IsPut act = (ask : SettingsAsk) × (act ≡ PutWorkspace ask)

pub put_or_missed : (act : Act) → IsPut act ⊎ Misses act
put_or_missed (PutWorkspace ask) = inl (ask, refl)
put_or_missed (Query what) = inr (λ room. (refl, refl))
put_or_missed (UpdateState head text id) = inr (λ room. (refl, refl))
put_or_missed (PurgeState id) = inr (λ room. (refl, refl))
put_or_missed (LockAct id text) = inr (λ room. (refl, refl))
put_or_missed (Unlock id) = inr (λ room. (refl, refl))
put_or_missed ForceUnlock = inr (λ room. (refl, refl))
put_or_missed DeleteWorkspace = inr (λ room. (refl, refl))
put_or_missed (MakeRun ask) = inr (λ room. (refl, refl))
put_or_missed (ReportRun n action) = inr (λ room. (refl, refl))

-- ---- of one that is there

-- it stays as it is: who is told of a holder is told of its holder
pub record Stays (ruling : Ruling) (w : Workspace) : Type 0 where
  pub left : ruling.left ≡ Some w
  pub reports : (holder : Holder) → ruling.answer ≡ held holder → holder ≡ w.holder
  pub unlocked : ruling.answer ≡ refused Locked → ⊥

-- it goes: by DELETE, where no lock holds and no run is open
pub record Goes (act : Act) (ruling : Ruling) (w : Workspace) : Type 0 where
  pub deletes : act ≡ DeleteWorkspace
  pub is : ruling ≡ effect done None
  pub unheld : IsUnlocked w.holder
  pub idle : open_runs w.runs ≡ 0

-- a text is judged the first or the next one
abbrev pub IsFirstOrNext : Workspace → StateHead → List ℕ → Type 0
IsFirstOrNext w head text = (succession w.versions text head ≡ first) ⊎ (succession w.versions text head ≡ next)

-- a version comes
pub record VersionComes (act : Act) (now : ℕ) (w u : Workspace) (answer : Outcome) : Type 0 where
  pub head : StateHead
  pub text : List ℕ
  pub id : Option (List ℕ)
  pub number : ℕ
  pub writes : WritesWith act id
  pub answered : answer ≡ done
  pub range : IsInRange act → IsHeadInRange head
  pub left : number_left w.next_version ≡ Some number
  pub judged : IsFirstOrNext w head text
  pub is : u ≡ with_version w number head text now

-- every version goes
pub record VersionsGo (act : Act) (w u : Workspace) (answer : Outcome) : Type 0 where
  pub id : Option (List ℕ)
  pub writes : WritesWith act id
  pub answered : answer ≡ done
  pub is : u ≡ purged w

-- other settings come: no version goes from under a holder
pub record SettingsCome (act : Act) (w u : Workspace) : Type 0 where
  pub settings : Settings
  pub range : IsInRange act → IsRetention w.settings.retention → IsRetention settings.retention
  pub free : takes_held settings.retention w ≡ false
  pub is : u ≡ with_settings w settings

-- a lock comes to hold, where nobody does
pub record LockComes (act : Act) (w u : Workspace) : Type 0 where
  pub id : List ℕ
  pub text : List ℕ
  pub range : IsInRange act → IsTrue (is_free_id id)
  pub nobody : w.holder ≡ Nobody
  pub is : u ≡ locked id text w

-- the lock that holds goes
pub record LockGoes (act : Act) (w u : Workspace) : Type 0 where
  pub id : List ℕ
  pub text : List ℕ
  pub holds : w.holder ≡ Lock id text
  pub releases : Releases act id
  pub is : u ≡ released id w

-- a run comes
pub record RunComes (act : Act) (now : ℕ) (w u : Workspace) : Type 0 where
  pub ask : RunAsk
  pub range : IsInRange act → IsRunAsk ask
  pub unkeyed : keyed_run ask.key w.runs ≡ None
  pub room : open_runs w.runs < max_open_runs
  pub made : IsMade w ask now u

-- a run goes on
pub record RunGoesOn (w u : Workspace) : Type 0 where
  pub n : ℕ
  pub action : RunAction
  pub reported : IsReported w n action u

-- the ways in which it is changed, before it settles
pub data Way (act : Act) (now : ℕ) (w u : Workspace) (answer : Outcome) : Type 0 where
  version_comes : VersionComes act now w u answer → Way act now w u answer
  versions_go : VersionsGo act w u answer → Way act now w u answer
  settings_come : SettingsCome act w u → Way act now w u answer
  lock_comes : LockComes act w u → Way act now w u answer
  lock_goes : LockGoes act w u → Way act now w u answer
  run_comes : RunComes act now w u → Way act now w u answer
  run_goes_on : RunGoesOn w u → Way act now w u answer

-- it is changed and settles, and the act is accepted
pub record Changes (act : Act) (now : ℕ) (w : Workspace) (ruling : Ruling) : Type 0 where
  pub to : Workspace
  pub answer : Outcome
  pub way : Way act now w to answer
  pub accepted : IsRefusal answer → ⊥
  pub is : ruling ≡ effect answer (Some (settled to))

pub data Comes (act : Act) (now : ℕ) (w : Workspace) (ruling : Ruling) : Type 0 where
  it_stays : Stays ruling w → Comes act now w ruling
  it_goes : Goes act ruling w → Comes act now w ruling
  it_changes : Changes act now w ruling → Comes act now w ruling

-- what leaves it so
stays_plainly : {ruling : Ruling} {w : Workspace} → IsPlain ruling w → Stays ruling w
stays_plainly plain = record { left = plain.left; reports = λ holder e. absurd (plain.unheld holder e); unlocked = plain.unlocked }

stays_refused : (refusal : Refusal) (w : Workspace) → Stays (effect (refused_by refusal w.holder) (Some w)) w
stays_refused refusal w = record { left = refl; reports = λ holder e. holder_named refusal w.holder holder e; unlocked = λ e. refused_other refusal w.holder e }

stays_done : (w : Workspace) → Stays (done_already w) w
stays_done w = record { left = refl; reports = λ holder e. absurd (let none : ⊥ = cc in none); unlocked = λ e. cc }

stays_either : (refusal : Refusal) (w : Workspace) (b : Bool) → Stays (cond b (done_already w) (effect (refused_by refusal w.holder) (Some w))) w
stays_either refusal w true = stays_done w
stays_either refusal w false = stays_refused refusal w

-- an update
numbered_comes : (head : StateHead) (text : List ℕ) (id : Option (List ℕ)) (now : ℕ) (w : Workspace) → IsFirstOrNext w head text → (n : Option ℕ) → number_left w.next_version ≡ n
    → Comes (UpdateState head text id) now w (numbered_update n w head text now)
numbered_comes head text id now w judged None e = it_stays (stays_refused OverLimit w)
numbered_comes head text id now w judged (Some number) e = it_changes (record {
  to = with_version w number head text now;
  answer = done;
  way = version_comes (record {
    head = head;
    text = text;
    id = id;
    number = number;
    writes = refl;
    answered = refl;
    range = λ range. range;
    left = e;
    judged = judged;
    is = refl;
  });
  accepted = λ is. is;
  is = refl;
})

succession_comes : (head : StateHead) (text : List ℕ) (id : Option (List ℕ)) (now : ℕ) (w : Workspace) (s : Succession) → succession w.versions text head ≡ s
    → Comes (UpdateState head text id) now w (by_succession s w head text now)
succession_comes head text id now w first t =
    numbered_comes head text id now w (inl t) (number_left w.next_version) refl
succession_comes head text id now w same t = it_stays (stays_done w)
succession_comes head text id now w other_lineage t = it_stays (stays_refused OtherLineage w)
succession_comes head text id now w old_serial t = it_stays (stays_refused OldSerial w)
succession_comes head text id now w next t =
    numbered_comes head text id now w (inr t) (number_left w.next_version) refl

update_comes : (head : StateHead) (text : List ℕ) (id : Option (List ℕ)) (now : ℕ) (w : Workspace) (m : Option Refusal) → Comes (UpdateState head text id) now w (by_may_write m w head text now)
update_comes head text id now w (Some refusal) = it_stays (stays_refused refusal w)
update_comes head text id now w None = succession_comes head text id now w (succession w.versions text head) refl

-- a purge
purge_comes : (id : Option (List ℕ)) (now : ℕ) (w : Workspace) (m : Option Refusal) → Comes (PurgeState id) now w (purge m w)
purge_comes id now w (Some refusal) = it_stays (stays_refused refusal w)
purge_comes id now w None =
    it_changes (record { to = purged w; answer = done; way = versions_go (record { id = id; writes = refl; answered = refl; is = refl }); accepted = λ is. is; is = refl })

-- PUT, and DELETE
set_comes : (ask : SettingsAsk) (now : ℕ) (w : Workspace) (settings : Settings) → settings_for ask (Some w.settings) ≡ settings → IsKept (put settings w) w ⊎ IsSet (put settings w) settings w
    → Comes (PutWorkspace ask) now w (put settings w)
set_comes ask now w settings e (inl kept) = it_stays (record { left = kept.left; reports = kept.reports; unlocked = kept.unlocked })
set_comes ask now w settings e (inr set) = it_changes (record {
  to = with_settings w settings;
  answer = workspace (shown_of (settled (with_settings w settings)));
  way = settings_come (record {
    settings = settings;
    range = λ range was. subst (λ (x : Settings). IsRetention x.retention) e (kept_in_range ask.retention w.settings.retention range was);
    free = set.free;
    is = refl;
  });
  accepted = λ is. is;
  is = set.is;
})

removal_comes : (now : ℕ) (w : Workspace) (ruling : Ruling) → IsKept ruling w ⊎ IsGone ruling w → Comes DeleteWorkspace now w ruling
removal_comes now w ruling (inl kept) = it_stays (record { left = kept.left; reports = kept.reports; unlocked = kept.unlocked })
removal_comes now w ruling (inr gone) = it_goes (record { deletes = refl; is = gone.is; unheld = gone.unheld; idle = gone.idle })

-- locks
locking_comes : (id text : List ℕ) (now : ℕ) (w : Workspace) (h : Holder) → w.holder ≡ h → Comes (LockAct id text) now w (lock h id text w)
locking_comes id text now w Nobody at = it_changes (record {
  to = locked id text w;
  answer = done;
  way = lock_comes (record { id = id; text = text; range = λ range. range; nobody = at; is = refl });
  accepted = λ is. is;
  is = refl;
})
locking_comes id text now w (Lock id_held text_held) at = it_stays (stays_either Locked w (bytes_eq id id_held))
locking_comes id text now w (HoldingRun n) at = it_stays (stays_refused Locked w)

release_comes : (act : Act) (now : ℕ) (w : Workspace) (id text : List ℕ) → w.holder ≡ Lock id text → Releases act id → Comes act now w (done_with (released id w))
release_comes act now w id text at releases = it_changes (record {
  to = released id w;
  answer = done;
  way = lock_goes (record { id = id; text = text; holds = at; releases = releases; is = refl });
  accepted = λ is. is;
  is = refl;
})

unlock_comes : (id : List ℕ) (now : ℕ) (w : Workspace) (h : Holder) → w.holder ≡ h → Comes (Unlock id) now w (unlock h id w)
unlock_comes id now w Nobody at = it_stays (stays_done w)
unlock_comes id now w (Lock id_held text) at = chosen (bytes_eq id id_held) refl
  where
    chosen : (b : Bool) → bytes_eq id id_held ≡ b
        → Comes (Unlock id) now w (cond b (done_with (released id_held w)) (cond (is_released w.released id) (done_already w) (effect (refused_by Locked w.holder) (Some w))))
    chosen true t = release_comes (Unlock id) now w id_held text at ((bytes_eq-Decides id id_held).0 t)
    chosen false t = it_stays (stays_either Locked w (is_released w.released id))
unlock_comes id now w (HoldingRun n) at = it_stays (stays_either HeldByRun w (is_released w.released id))

force_comes : (now : ℕ) (w : Workspace) (h : Holder) → w.holder ≡ h → Comes ForceUnlock now w (force_unlock h w)
force_comes now w Nobody at = it_stays (stays_done w)
force_comes now w (Lock id_held text) at = release_comes ForceUnlock now w id_held text at tt
force_comes now w (HoldingRun n) at = it_stays (stays_refused HeldByRun w)

-- runs
creation_comes : (ask : RunAsk) (now : ℕ) (w : Workspace) (o : Option Run) → keyed_run ask.key w.runs ≡ o → Comes (MakeRun ask) now w (make_run o w ask now)
creation_comes ask now w (Some r) keyed = it_stays (stays_plainly (plainly_answered r w))
creation_comes ask now w None unkeyed = chosen (nat_lt (open_runs w.runs) max_open_runs) refl
  where
    numbered : open_runs w.runs < max_open_runs → (m : Option ℕ) → number_left w.next_run ≡ m → Comes (MakeRun ask) now w (numbered_run m w ask now)
    numbered room None e = it_stays (stays_refused OverLimit w)
    numbered room (Some n) e =
        let r : Run = new_run n ask now in
        let found : (x : Run) × (run_of n (w.runs ++ r ∷ []) ≡ Some x) = some_run-push n w.runs r refl in
        let answered = answered_of n (with_run r w) found.0 found.1 in
        it_changes (record {
          to = with_run r w;
          answer = the_run answered.run;
          way = run_comes (record { ask = ask; range = λ range. range; unkeyed = unkeyed; room = room; made = (n, e, refl) });
          accepted = λ is. is;
          is = answered.is;
        })

    chosen : (b : Bool) → nat_lt (open_runs w.runs) max_open_runs ≡ b
        → Comes (MakeRun ask) now w (cond b (numbered_run (number_left w.next_run) w ask now) (effect (refused OverLimit) (Some w)))
    chosen true t = numbered (ltb-true (open_runs w.runs) max_open_runs t) (number_left w.next_run) refl
    chosen false t = it_stays (stays_refused OverLimit w)

action_comes : (n : ℕ) (action : RunAction) (now : ℕ) (w : Workspace) (ruling : Ruling) → run.Comes ruling w (IsReported w n action) → Comes (ReportRun n action) now w ruling
action_comes n action now w ruling (inl plain) = it_stays (stays_plainly plain)
action_comes n action now w ruling (inr answered) = it_changes (record {
  to = answered.0;
  answer = the_run answered.2.run;
  way = run_goes_on (record { n = n; action = action; reported = answered.1 });
  accepted = λ is. is;
  is = answered.2.is;
})

pub comes : (act : Act) (now : ℕ) (w : Workspace) → Comes act now w (rules act now (there w))
comes (PutWorkspace ask) now w = let settings : Settings = settings_for ask (Some w.settings) in set_comes ask now w settings refl (put_comes settings w)
comes (Query what) now w = it_stays (stays_plainly (all_queries what w).plain)
comes (UpdateState head text id) now w = update_comes head text id now w (may_write w.holder (holder_status w.holder w.runs) id)
comes (PurgeState id) now w = purge_comes id now w (may_write w.holder (holder_status w.holder w.runs) id)
comes (LockAct id text) now w = locking_comes id text now w w.holder refl
comes (Unlock id) now w = unlock_comes id now w w.holder refl
comes ForceUnlock now w = force_comes now w w.holder refl
comes DeleteWorkspace now w = removal_comes now w _ (delete_comes w)
comes (MakeRun ask) now w = creation_comes ask now w (keyed_run ask.key w.runs) refl
comes (ReportRun n action) now w = action_comes n action now w _ (report_comes w n action)

-- where a workspace is left, it is the one that was there, or the one that was changed, once it has settled
pub record Leaves (act : Act) (now : ℕ) (w v : Workspace) : Type 0 where
  pub to : Workspace
  pub answer : Outcome
  pub way : Way act now w to answer
  pub said : (rules act now (there w)).answer ≡ answer
  pub settles : settled to ≡ v

pub leaves : (act : Act) (now : ℕ) (w v : Workspace) → (rules act now (there w)).left ≡ Some v → (w ≡ v) ⊎ Leaves act now w v
leaves act now w v e = by_case (comes act now w)
  where
    one : (u : Workspace) → (rules act now (there w)).left ≡ Some u → u ≡ v
    one u is = let same_one : Some u ≡ Some v = sym is ∙ e in let own : u ≡ v = cc in own

    by_case : Comes act now w (rules act now (there w)) → (w ≡ v) ⊎ Leaves act now w v
    by_case (it_stays stays) = inl (one w stays.left)
    by_case (it_goes goes) = absurd (let none : ⊥ = cc (sym (ap (λ (r : Ruling). r.left) goes.is) ∙ e) in none)
    by_case (it_changes changes) = inr (record {
      to = changes.to;
      answer = changes.answer;
      way = changes.way;
      said = ap (λ (r : Ruling). r.answer) changes.is;
      settles = one (settled changes.to) (ap (λ (r : Ruling). r.left) changes.is);
    })

-- ---- of an act that writes

-- one that is accepted is done, and one that is done carried the holder's ID
pub record IsWrite (act : Act) (now : ℕ) (w : Workspace) (id : Option (List ℕ)) : Type 0 where
  pub accepted : (IsRefusal (rules act now (there w)).answer → ⊥) → (rules act now (there w)).answer ≡ done
  pub carries : (rules act now (there w)).answer ≡ done → IsWriter w.holder (holder_status w.holder w.runs) id

-- a run that may write is applying
applying_is : (status : Option RunStatus) → is_applying status ≡ true → status ≡ Some Applying
applying_is None e = absurd (let none : ⊥ = cc in none)
applying_is (Some Pending) e = absurd (let none : ⊥ = cc in none)
applying_is (Some Planning) e = absurd (let none : ⊥ = cc in none)
applying_is (Some Planned) e = absurd (let none : ⊥ = cc in none)
applying_is (Some Applying) e = refl
applying_is (Some Applied) e = absurd (let none : ⊥ = cc in none)
applying_is (Some PlannedAndFinished) e = absurd (let none : ⊥ = cc in none)
applying_is (Some Errored) e = absurd (let none : ⊥ = cc in none)
applying_is (Some Discarded) e = absurd (let none : ⊥ = cc in none)
applying_is (Some Canceled) e = absurd (let none : ⊥ = cc in none)

-- a write that isn't refused is the holder's
writer : (h : Holder) (status : Option RunStatus) (given : Option (List ℕ)) (out : Option Refusal → Outcome) → ((refusal : Refusal) → out (Some refusal) ≡ done → ⊥)
    → out (may_write h status given) ≡ done → IsWriter h status given
writer Nobody status None out isnt e = refl
writer Nobody status (Some id) out isnt e = absurd (isnt NotHeld e)
writer (Lock id_held text) status None out isnt e = absurd (isnt Locked e)
writer (Lock id_held text) status (Some id) out isnt e = decided (bytes_eq id id_held) refl e
  where
    decided : (b : Bool) → bytes_eq id id_held ≡ b → out (cond b None (Some Locked)) ≡ done → Some id ≡ Some id_held
    decided true t e = ap Some ((bytes_eq-Decides id id_held).0 t)
    decided false t e = absurd (isnt Locked e)
writer (HoldingRun n) status None out isnt e = absurd (isnt Locked e)
writer (HoldingRun n) status (Some id) out isnt e = decided (bytes_eq id (run_id n)) (is_applying status) refl refl e
  where
    decided : (b c : Bool) → bytes_eq id (run_id n) ≡ b → is_applying status ≡ c → out (cond b (cond c None (Some NotApplying)) (Some Locked)) ≡ done
        → (Some id ≡ Some (run_id n)) × (status ≡ Some Applying)
    decided true true t u e = (ap Some ((bytes_eq-Decides id (run_id n)).0 t), applying_is status u)
    decided true false t u e = absurd (isnt NotApplying e)
    decided false c t u e = absurd (isnt Locked e)

number_done : (w : Workspace) (head : StateHead) (text : List ℕ) (now : ℕ) (n : Option ℕ) → (IsRefusal (numbered_update n w head text now).answer → ⊥) → (numbered_update n w head text now).answer ≡ done
number_done w head text now None accepted = absurd (accepted tt)
number_done w head text now (Some n) accepted = refl

succession_done : (w : Workspace) (head : StateHead) (text : List ℕ) (now : ℕ) (s : Succession) → (IsRefusal (by_succession s w head text now).answer → ⊥) → (by_succession s w head text now).answer ≡ done
succession_done w head text now first accepted = number_done w head text now (number_left w.next_version) accepted
succession_done w head text now same accepted = refl
succession_done w head text now other_lineage accepted = absurd (accepted tt)
succession_done w head text now old_serial accepted = absurd (accepted tt)
succession_done w head text now next accepted = number_done w head text now (number_left w.next_version) accepted

update_done : (w : Workspace) (head : StateHead) (text : List ℕ) (now : ℕ) (m : Option Refusal) → (IsRefusal (by_may_write m w head text now).answer → ⊥) → (by_may_write m w head text now).answer ≡ done
update_done w head text now (Some refusal) accepted = absurd (accepted (refuses refusal w.holder))
update_done w head text now None accepted = succession_done w head text now (succession w.versions text head) accepted

purge_done : (w : Workspace) (m : Option Refusal) → (IsRefusal (purge m w).answer → ⊥) → (purge m w).answer ≡ done
purge_done w (Some refusal) accepted = absurd (accepted (refuses refusal w.holder))
purge_done w None accepted = refl

pub all_writes : (act : Act) (now : ℕ) (w : Workspace) (id : Option (List ℕ)) → WritesWith act id → IsWrite act now w id
all_writes (UpdateState head text given) now w id writes = record {
  accepted = update_done w head text now (may_write w.holder (holder_status w.holder w.runs) given);
  carries = λ e. subst (IsWriter w.holder (holder_status w.holder w.runs)) writes
      (writer w.holder (holder_status w.holder w.runs) given (λ m. (by_may_write m w head text now).answer) (λ refusal is. never_done refusal w.holder is) e);
}
all_writes (PurgeState given) now w id writes = record {
  accepted = purge_done w (may_write w.holder (holder_status w.holder w.runs) given);
  carries = λ e. subst (IsWriter w.holder (holder_status w.holder w.runs)) writes
      (writer w.holder (holder_status w.holder w.runs) given (λ m. (purge m w).answer) (λ refusal is. never_done refusal w.holder is) e);
}
all_writes (PutWorkspace ask) now w id writes = absurd writes
all_writes (Query what) now w id writes = absurd writes
all_writes (LockAct asked text) now w id writes = absurd writes
all_writes (Unlock asked) now w id writes = absurd writes
all_writes ForceUnlock now w id writes = absurd writes
all_writes DeleteWorkspace now w id writes = absurd writes
all_writes (MakeRun ask) now w id writes = absurd writes
all_writes (ReportRun n action) now w id writes = absurd writes

-- ---- of an act that comes again, on the workspace as the first left it

-- what a workspace is after a step that settles it

twice : (w : Workspace) (o : Option ℕ) → to_start w.holder (first_waiting w.runs) ≡ o → settled (started_if o w) ≡ started_if o w
twice w None e = ap (λ (x : Option ℕ). started_if x w) e
twice w (Some n) e = refl

settled_twice : (w : Workspace) → settled (settled w) ≡ settled w
settled_twice w = twice w (to_start w.holder (first_waiting w.runs)) refl

-- settling keeps settings and versions
pub settings_stay : (w : Workspace) (o : Option ℕ) → (started_if o w).settings ≡ w.settings
settings_stay w None = refl
settings_stay w (Some n) = refl

pub versions_stay : (w : Workspace) (o : Option ℕ) → (started_if o w).versions ≡ w.versions
versions_stay w None = refl
versions_stay w (Some n) = refl

none_stay : (w : Workspace) (o : Option ℕ) → purged (started_if o (purged w)) ≡ started_if o (purged w)
none_stay w None = refl
none_stay w (Some n) = refl

-- the newest, behind others
pub newest_push : (vs : List Version) (v : Version) → newest (vs ++ v ∷ []) ≡ Some v
newest_push [] v = refl
newest_push (u ∷ []) v = refl
newest_push (u ∷ x ∷ vs) v = newest_push (x ∷ vs) v

pub newest_with : (w : Workspace) (n : ℕ) (head : StateHead) (text : List ℕ) (now : ℕ)
    → newest (with_version w n head text now).versions ≡ Some (record { number = n; serial = head.serial; lineage = head.lineage; created = now; text = text })
newest_with w n head text now =
    newest_push (last_of (w.settings.retention - 1) w.versions) (record { number = n; serial = head.serial; lineage = head.lineage; created = now; text = text })

pub bytes_same : (a : List ℕ) → bytes_eq a a ≡ true
bytes_same a = (bytes_eq-Decides a a).1 refl

-- a text that is the newest is answered as done
same_again : (w : Workspace) (head : StateHead) (text : List ℕ) (later : ℕ) (v : Version) → newest w.versions ≡ Some v → v.text ≡ text
    → (by_succession (succession w.versions text head) w head text later).left ≡ Some w
same_again w head text later v e is = rw (e, is, bytes_same text) refl

-- what becomes of the workspace at each moment: it stays, or gets a version behind the others
abbrev pub Becomes : StateHead → List ℕ → Workspace → (ℕ → Option Workspace) → Type 0
Becomes head text w after = ((t : ℕ) → after t ≡ Some w) ⊎ (n : ℕ) × ((t : ℕ) → after t ≡ Some (settled (with_version w n head text t)))

number_becomes : (head : StateHead) (text : List ℕ) (w : Workspace) (n : Option ℕ) → Becomes head text w (λ t. (numbered_update n w head text t).left)
number_becomes head text w None = inl (λ t. refl)
number_becomes head text w (Some n) = inr (n, λ t. refl)

succession_becomes : (head : StateHead) (text : List ℕ) (w : Workspace) (s : Succession) → Becomes head text w (λ t. (by_succession s w head text t).left)
succession_becomes head text w first = number_becomes head text w (number_left w.next_version)
succession_becomes head text w same = inl (λ t. refl)
succession_becomes head text w other_lineage = inl (λ t. refl)
succession_becomes head text w old_serial = inl (λ t. refl)
succession_becomes head text w next = number_becomes head text w (number_left w.next_version)

pub update_becomes : (head : StateHead) (text : List ℕ) (w : Workspace) (m : Option Refusal) → Becomes head text w (λ t. (by_may_write m w head text t).left)
update_becomes head text w (Some refusal) = inl (λ t. refl)
update_becomes head text w None = succession_becomes head text w (succession w.versions text head)

-- a version that is there is not put there again
added_once : (head : StateHead) (text : List ℕ) (later : ℕ) (v : Workspace) (m : Option Refusal)
    → (by_succession (succession v.versions text head) v head text later).left ≡ Some v → (by_may_write m v head text later).left ≡ Some v
added_once head text later v (Some refusal) h = refl
added_once head text later v None h = h

added_again : (head : StateHead) (text : List ℕ) (id : Option (List ℕ)) (now later : ℕ) (w : Workspace) (n : ℕ)
    → (rules (UpdateState head text id) later (there (settled (with_version w n head text now)))).left ≡ Some (settled (with_version w n head text now))
added_again head text id now later w n =
    let u : Workspace = with_version w n head text now in
    let v : Workspace = settled u in
    let kept : v.versions ≡ u.versions = versions_stay u (to_start u.holder (first_waiting u.runs)) in
    added_once head text later v (may_write v.holder (holder_status v.holder v.runs) id)
    (same_again v head text later (record { number = n; serial = head.serial; lineage = head.lineage; created = now; text = text }) (ap newest kept ∙ newest_with w n head text now) refl)

-- once more, on the workspace as the first left it
abbrev Again : Act → ℕ → ℕ → Workspace → Type 0
Again act now later w = (v : Workspace) → (rules act now (there w)).left ≡ Some v → (rules act later (there v)).left ≡ Some v

again : (act : Act) (now later : ℕ) (w u : Workspace) → (rules act now (there w)).left ≡ Some u → (rules act later (there u)).left ≡ Some u → Again act now later w
again act now later w u e h v is = let same_one : u ≡ v = cc (sym e ∙ is) in subst (λ (x : Workspace). (rules act later (there x)).left ≡ Some x) same_one h

update_again : (head : StateHead) (text : List ℕ) (id : Option (List ℕ)) (now later : ℕ) (w : Workspace)
    → Becomes head text w (λ t. (rules (UpdateState head text id) t (there w)).left)
    → Again (UpdateState head text id) now later w
update_again head text id now later w (inl h) = again (UpdateState head text id) now later w w (h now) (h later)
update_again head text id now later w (inr h) =
    again (UpdateState head text id) now later w (settled (with_version w h.0 head text now)) (h.1 now) (added_again head text id now later w h.0)

-- a purge
pub purge_becomes : (w : Workspace) (m : Option Refusal) → ((purge m w).left ≡ Some w) ⊎ ((purge m w).left ≡ Some (settled (purged w)))
purge_becomes w (Some refusal) = inl refl
purge_becomes w None = inr refl

purged_once : (v : Workspace) (m : Option Refusal) → settled (purged v) ≡ v → (purge m v).left ≡ Some v
purged_once v (Some refusal) e = refl
purged_once v None e = ap Some e

purge_again : (id : Option (List ℕ)) (now later : ℕ) (w : Workspace)
    → ((rules (PurgeState id) now (there w)).left ≡ Some w) ⊎ ((rules (PurgeState id) now (there w)).left ≡ Some (settled (purged w)))
    → Again (PurgeState id) now later w
purge_again id now later w (inl h) = again (PurgeState id) now later w w h h
purge_again id now later w (inr h) =
    let v : Workspace = settled (purged w) in
    let none : settled (purged v) ≡ v = ap settled (none_stay w (to_start w.holder (first_waiting w.runs))) ∙ settled_twice (purged w) in
    again (PurgeState id) now later w v h (purged_once v (may_write v.holder (holder_status v.holder v.runs) id) none)

-- LOCK
pub stays_by : (b : Bool) (o : Outcome) (w : Workspace) → (cond b (done_already w) (effect o (Some w))).left ≡ Some w
stays_by true o w = refl
stays_by false o w = refl

pub lock_becomes : (id text : List ℕ) (w : Workspace) (h : Holder) → ((lock h id text w).left ≡ Some w) ⊎ ((lock h id text w).left ≡ Some (locked id text w))
lock_becomes id text w Nobody = inr refl
lock_becomes id text w (Lock own_id first_text) = inl (stays_by (bytes_eq id own_id) (refused_by Refusal.Locked w.holder) w)
lock_becomes id text w (HoldingRun n) = inl refl

lock_again : (id text : List ℕ) (now later : ℕ) (w : Workspace)
    → ((rules (LockAct id text) now (there w)).left ≡ Some w) ⊎ ((rules (LockAct id text) now (there w)).left ≡ Some (locked id text w))
    → Again (LockAct id text) now later w
lock_again id text now later w (inl h) = again (LockAct id text) now later w w h h
lock_again id text now later w (inr h) =
    again (LockAct id text) now later w (locked id text w) h (stays_by (bytes_eq id id) (refused_by Refusal.Locked (Lock id text)) (locked id text w))

-- UNLOCK
stays_by_two : (b c : Bool) (w v : Workspace) (o : Outcome)
    → ((cond b (done_with v) (cond c (done_already w) (effect o (Some w)))).left ≡ Some w) ⊎ ((cond b (done_with v) (cond c (done_already w) (effect o (Some w)))).left ≡ Some (settled v))
stays_by_two true c w v o = inr refl
stays_by_two false true w v o = inl refl
stays_by_two false false w v o = inl refl

abbrev pub Unlocks : Workspace → Option Workspace → Type 0
Unlocks w after = (after ≡ Some w) ⊎ (own_id : List ℕ) × (after ≡ Some (settled (released own_id w)))

with_held : (w : Workspace) (own_id : List ℕ) (after : Option Workspace) → (after ≡ Some w) ⊎ (after ≡ Some (settled (released own_id w))) → Unlocks w after
with_held w own_id after (inl h) = inl h
with_held w own_id after (inr h) = inr (own_id, h)

pub unlock_becomes : (id : List ℕ) (w : Workspace) (h : Holder) → Unlocks w (unlock h id w).left
unlock_becomes id w Nobody = inl refl
unlock_becomes id w (Lock own_id text) =
    with_held w own_id _ (stays_by_two (bytes_eq id own_id) (is_released w.released id) w (released own_id w) (refused_by Refusal.Locked w.holder))
unlock_becomes id w (HoldingRun n) = inl (stays_by (is_released w.released id) (refused Refusal.HeldByRun) w)

unlocked_once : (id : List ℕ) (w : Workspace) (own_id : List ℕ) (o : Option ℕ)
    → (unlock (started_if o (released own_id w)).holder id (started_if o (released own_id w))).left ≡ Some (started_if o (released own_id w))
unlocked_once id w own_id None = refl
unlocked_once id w own_id (Some n) = stays_by (bytes_eq id own_id) (refused Refusal.HeldByRun) (started n (released own_id w))

unlock_again : (id : List ℕ) (now later : ℕ) (w : Workspace) → Unlocks w (rules (Unlock id) now (there w)).left
    → Again (Unlock id) now later w
unlock_again id now later w (inl h) = again (Unlock id) now later w w h h
unlock_again id now later w (inr h) =
    again (Unlock id) now later w (settled (released h.0 w)) h.1 (unlocked_once id w h.0 (first_waiting w.runs))

pub force_becomes : (w : Workspace) (h : Holder) → Unlocks w (force_unlock h w).left
force_becomes w Nobody = inl refl
force_becomes w (Lock own_id text) = inr (own_id, refl)
force_becomes w (HoldingRun n) = inl refl

forced_once : (w : Workspace) (own_id : List ℕ) (o : Option ℕ)
    → (force_unlock (started_if o (released own_id w)).holder (started_if o (released own_id w))).left ≡ Some (started_if o (released own_id w))
forced_once w own_id None = refl
forced_once w own_id (Some n) = refl

force_again : (now later : ℕ) (w : Workspace) → Unlocks w (rules ForceUnlock now (there w)).left
    → Again ForceUnlock now later w
force_again now later w (inl h) = again ForceUnlock now later w w h h
force_again now later w (inr h) = again ForceUnlock now later w (settled (released h.0 w)) h.1 (forced_once w h.0 (first_waiting w.runs))

-- a run that was made with a key: it is told again
keyed_once : (ask : RunAsk) (later : ℕ) (v : Workspace) (o : Option Run) → is_some o ≡ true → (make_run o v ask later).left ≡ Some v
keyed_once ask later v None is = absurd (let none : ⊥ = cc in none)
keyed_once ask later v (Some r) is = refl

kept_some : (start : Option ℕ) (o : Option Run) → is_some o ≡ true → is_some (option_map (begun_by start) o) ≡ true
kept_some start None is = absurd (let none : ⊥ = cc in none)
kept_some start (Some r) is = refl

pub key_is_there : (key : List ℕ) (w : Workspace) (r : Run) → r.key ≡ Some key → is_some (keyed_run (Some key) (settled (with_run r w)).runs) ≡ true
key_is_there key w r e =
    let u : Workspace = with_run r w in
    let start : Option ℕ = to_start u.holder (first_waiting u.runs) in
    ap (λ (o : Option Run). is_some o) (keyed-started start key u) ∙ kept_some start (keyed_run (Some key) u.runs) (keyed-push key w.runs r e)

-- nothing was made for want of room: nothing is made later
refused_once : (ask : RunAsk) (now later : ℕ) (w : Workspace) (o : Option Run) → (make_run o w ask now).left ≡ Some w → ((n : ℕ) → number_left w.next_run ≡ Some n → (settled (with_run (new_run n ask now) w)).next_run ≡ w.next_run → ⊥)
    → (make_run o w ask later).left ≡ Some w
refused_once ask now later w (Some r) e grows = refl
refused_once ask now later w None e grows = chosen (nat_lt (open_runs w.runs) max_open_runs) e
  where
    numbered : (m : Option ℕ) → number_left w.next_run ≡ m → (numbered_run m w ask now).left ≡ Some w → (numbered_run m w ask later).left ≡ Some w
    numbered None left e = refl
    numbered (Some n) left e = absurd (grows n left (ap (λ (x : Workspace). x.next_run) (same_Some (settled (with_run (new_run n ask now) w)) w e)))

    chosen : (b : Bool) → (cond b (numbered_run (number_left w.next_run) w ask now) (effect (refused Refusal.OverLimit) (Some w))).left ≡ Some w
        → (cond b (numbered_run (number_left w.next_run) w ask later) (effect (refused Refusal.OverLimit) (Some w))).left ≡ Some w
    chosen true e = numbered (number_left w.next_run) refl e
    chosen false e = refl

next_run_of : (o : Option ℕ) (u : Workspace) → (started_if o u).next_run ≡ u.next_run
next_run_of None u = refl
next_run_of (Some n) u = refl

settled_next_run : (u : Workspace) → (settled u).next_run ≡ u.next_run
settled_next_run u = next_run_of (to_start u.holder (first_waiting u.runs)) u

make_grows : (ask : RunAsk) (now : ℕ) (w : Workspace) (n : ℕ) → number_left w.next_run ≡ Some n → (settled (with_run (new_run n ask now) w)).next_run ≡ w.next_run → ⊥
make_grows ask now w n left stays = omega (arith, (number_left-is w.next_run n left).0, settled_next_run (with_run (new_run n ask now) w), stays)

make_again : (ask : RunAsk) (key : List ℕ) (now later : ℕ) (w : Workspace) → ask.key ≡ Some key → Again (MakeRun ask) now later w
make_again ask key now later w e = by_becoming (comes_to (make_comes w ask now))
  where
    by_becoming : ((rules (MakeRun ask) now (there w)).left ≡ Some w) ⊎ (v : Workspace) × IsMade w ask now v × ((rules (MakeRun ask) now (there w)).left ≡ Some (settled v)) → Again (MakeRun ask) now later w
    by_becoming (inl h) = again (MakeRun ask) now later w w h (refused_once ask now later w (keyed_run ask.key w.runs) h (make_grows ask now w))
    by_becoming (inr h) =
        let u : Workspace = settled (with_run (new_run h.1.0 ask now) w) in
        let was : settled h.0 ≡ u = ap settled h.1.2 in
        again (MakeRun ask) now later w u (h.2 ∙ ap Some was)
        (keyed_once ask later u (keyed_run ask.key u.runs) (subst (λ (k : Option (List ℕ)). is_some (keyed_run k u.runs) ≡ true) (sym e) (key_is_there key w (new_run h.1.0 ask now) e)))

-- an action that was taken is answered again
report_again : (n : ℕ) (action : RunAction) (now later : ℕ) (w : Workspace) → Again (ReportRun n action) now later w
report_again n action now later w = by_becoming (comes_to (report_comes w n action))
  where
    taken : (start : Option ℕ) (status : RunStatus) (x : Run) → run_of n w.runs ≡ Some x → run_of n (started_if start (with_report n action status w)).runs ≡ Some (begun_by start (reported n action status x))
    taken start status x e =
        run_of-started start n (with_report n action status w) ∙ ap (option_map (begun_by start)) (run_of-map (reported n action status) (λ y. refl) n w.runs ∙ ap (option_map (reported n action status)) e)

    last : (start : Option ℕ) (status : RunStatus) (x : Run) → run_of n w.runs ≡ Some x → is_last action (begun_by start (reported n action status x)).action ≡ true
    last start status x e = rw (eq-eqb x.number n (run_of-number n w.runs x e)) (same_action action)

    answered_once : (v : Workspace) (x : Run) → run_of n v.runs ≡ Some x → is_last action x.action ≡ true → (report (run_of n v.runs) n action v).left ≡ Some v
    answered_once v x e is = rw (e, is) refl

    by_becoming : ((rules (ReportRun n action) now (there w)).left ≡ Some w) ⊎ (v : Workspace) × IsReported w n action v × ((rules (ReportRun n action) now (there w)).left ≡ Some (settled v))
        → Again (ReportRun n action) now later w
    by_becoming (inl h) = again (ReportRun n action) now later w w h h
    by_becoming (inr h) =
        let is : IsReported w n action h.0 = h.1 in
        let u : Workspace = with_report n action is.status w in
        let start : Option ℕ = to_start u.holder (first_waiting u.runs) in
        again (ReportRun n action) now later w (settled u) (h.2 ∙ ap Some (ap settled is.is))
        (answered_once (settled u) (begun_by start (reported n action is.status is.run)) (taken start is.status is.run is.there) (last start is.status is.run is.there))

-- a workspace that was made by PUT
made_again : (ask : SettingsAsk) (now later : ℕ) (v : Workspace) → (rules (PutWorkspace ask) now (missing true)).left ≡ Some v → (rules (PutWorkspace ask) later (there v)).left ≡ Some v
made_again ask now later v e =
    let settings : Settings = settings_for ask None in
    let same_one : new_workspace settings ≡ v = cc e in
    subst (λ (x : Workspace). (rules (PutWorkspace ask) later (there x)).left ≡ Some x) same_one
    (put_once (settings_for ask (Some settings)) (new_workspace settings) (sym (asked_once ask None)) (omega arith) refl)

-- one that was there: what goes is gone
put_again : (ask : SettingsAsk) (now later : ℕ) (w : Workspace)
    → ((rules (PutWorkspace ask) now (there w)).left ≡ Some w) ⊎ ((rules (PutWorkspace ask) now (there w)).left ≡ Some (settled (with_settings w (settings_for ask (Some w.settings)))))
    → Again (PutWorkspace ask) now later w
put_again ask now later w (inl h) = again (PutWorkspace ask) now later w w h h
put_again ask now later w (inr h) =
    let settings : Settings = settings_for ask (Some w.settings) in
    let u : Workspace = with_settings w settings in
    let start : Option ℕ = to_start u.holder (first_waiting u.runs) in
    let has : (settled u).settings ≡ settings_for ask (Some (settled u).settings) =
    settings_stay u start ∙ sym (asked_once ask (Some w.settings)) ∙ ap (λ (x : Settings). settings_for ask (Some x)) (sym (settings_stay u start)) in
    let keeps : (settings_for ask (Some (settled u).settings)).retention ≡ settings.retention = ap (λ (x : Settings). x.retention) (sym has ∙ settings_stay u start) in
    let left : length (settled u).versions ≡ length u.versions = ap (λ (vs : List Version). length vs) (versions_stay u start) in
    again (PutWorkspace ask) now later w (settled u) h
    (put_once (settings_for ask (Some (settled u).settings)) (settled u) has (omega (arith, keeps, left, last_length settings.retention w.versions)) (settled_twice u))

-- repeats change nothing
pub repeats : RepeatsChangeNothing
repeats act now later (missing room) v may e = by_act (put_or_missed act)
  where
    made : (room : Bool) (ask : SettingsAsk) → (rules_missing (PutWorkspace ask) room).left ≡ Some v → (rules (PutWorkspace ask) later (there v)).left ≡ Some v
    made true ask e = made_again ask now later v e
    made false ask e = absurd (let none : ⊥ = cc in none)

    by_act : IsPut act ⊎ Misses act → (rules act later (there v)).left ≡ Some v
    by_act (inl put) =
        subst (λ (a : Act). (rules a later (there v)).left ≡ Some v) (sym put.1) (made room put.0 (subst (λ (a : Act). (rules_missing a room).left ≡ Some v) put.1 e))
    by_act (inr misses) = absurd (let none : ⊥ = cc (sym (ap (λ (r : Ruling). r.left) (misses room).0) ∙ e) in none)
repeats (PutWorkspace ask) now later (there w) v may e = put_again ask now later w (put_becomes (settings_for ask (Some w.settings)) w) v e
repeats (UpdateState head text id) now later (there w) v may e =
    update_again head text id now later w (update_becomes head text w (may_write w.holder (holder_status w.holder w.runs) id)) v e
repeats (Query what) now later (there w) v may e = refl
repeats DeleteWorkspace now later (there w) v may e = delete_again w v e
repeats (PurgeState id) now later (there w) v may e = purge_again id now later w (purge_becomes w (may_write w.holder (holder_status w.holder w.runs) id)) v e
repeats (LockAct id text) now later (there w) v may e = lock_again id text now later w (lock_becomes id text w w.holder) v e
repeats (Unlock id) now later (there w) v may e = unlock_again id now later w (unlock_becomes id w w.holder) v e
repeats ForceUnlock now later (there w) v may e = force_again now later w (force_becomes w w.holder) v e
repeats (MakeRun ask) now later (there w) v may e = by_key ask.key refl may
  where
    by_key : (k : Option (List ℕ)) → ask.key ≡ k → IsSome k → (rules (MakeRun ask) later (there v)).left ≡ Some v
    by_key None at may = absurd (let none : ⊥ = cc in none)
    by_key (Some key) at may = make_again ask key now later w at v e
repeats (ReportRun n action) now later (there w) v may e = report_again n action now later w v e
