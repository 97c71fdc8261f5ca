-- Worked steps of one workspace, computed by the definitions themselves.
use Rattle.machine.proofs.Outside.{◌≡◌, ℕ, ◌<◌, ◌≤◌, inl, inr, [], ◌∷◌, List, replicate, filter, length, map, Bool, Option, Some, None, false, refl, true, sym, arith, AllByRecursion, range_with_len, codes, run_id, is_prefix, admits, NotFound, NotHeld, NotApplying, OtherLineage, OldSerial, OverLimit, WrongState, HeldByRun, OpenRuns, Locked, RunAsk, StateHead, RunStatus, Pending, Planning, Planned, Applying, Applied, PlannedAndFinished, Errored, Discarded, Canceled, RunAction, ReportPlanned, ReportUnchanged, Fail, Confirm, ReportApplied, Discard, Cancel, listing_of}
use Rattle.std.specs.Fmt.{digits}
use Rattle.basis.specs.Roles.{is_valid_at}
use Rattle.basis.specs.declared.roles.Caller.{Caller}
use Rattle.basis.specs.declared.roles.Role.TheVariants.{Read}
use Rattle.basis.specs.declared.acts.Query.TheVariants as query
use Rattle.machine.specs.RunSteps.{next_status}
use Rattle.machine.specs.Workspaces.{new_workspace}
use Rattle.machine.specs.Writing.{may_write}
use Rattle.machine.specs.Rules.{refused, held, done, no_state, state, workspace, the_run, versions, rules}
use Rattle.machine.specs.Showing.{shown_of, row_of, comes_after, workspaces_listed}
use Rattle.machine.specs.Ranges.{IsRetention}
use Rattle.machine.specs.Laws.{Rises, AreVersions, IsRun, IsHolder, KeysDiffer, IsLawful}
use Rattle.machine.specs.Settling.{is_waiting}
use Rattle.machine.specs.Queue.{is_active_run, GoesOn}
use Rattle.machine.specs.declared.acts.Act.TheVariants.{Query, PutWorkspace, DeleteWorkspace, UpdateState, PurgeState, Lock as LockAct, Unlock, ForceUnlock, MakeRun, ReportRun}
use Rattle.basis.specs.declared.rows.Holder.TheVariants.{Nobody, Lock, Run as HoldingRun}
use Rattle.machine.specs.declared.records.Version.{Version}
use Rattle.basis.specs.declared.rows.RunRow.{RunRow as Run}
use Rattle.machine.specs.declared.records.Workspace.{Workspace}
use Rattle.machine.specs.Effects.{effect}
use Rattle.machine.specs.Records.{missing, there}

abbrev net : List ℕ
net = codes "net"

abbrev x1 : List ℕ
x1 = codes "x1"

abbrev x2 : List ℕ
x2 = codes "x2"

-- a lock's text, with its spaces
abbrev t1 : List ℕ
t1 = codes "{ \"ID\": \"x1\" }"

abbrev t2 : List ℕ
t2 = codes "{\"ID\":\"x2\"}"

-- the states of serial 1 and 2
abbrev s1 : List ℕ
s1 = codes "{\"version\":4,\"serial\":1,\"lineage\":\"a1\"}"

abbrev s2 : List ℕ
s2 = codes "{\"version\":4,\"serial\":2,\"lineage\":\"a1\"}"

abbrev head : ℕ → List ℕ → StateHead
head serial lineage = record { serial = serial; lineage = lineage }

abbrev a1 : List ℕ
a1 = codes "a1"

abbrev empty : Workspace
empty = new_workspace (record { runs = record { auto_apply = false }; retention = 100 })

abbrev under_x1 : Workspace
under_x1 = record empty { holder = Lock x1 t1 }

abbrev version : ℕ → ℕ → List ℕ → List ℕ → Version
version number serial lineage text = record { number = number; serial = serial; lineage = lineage; created = 1_700_000_000; text = text }

abbrev with_s1 : Workspace
with_s1 = record empty { next_version = 2; versions = version 1 1 a1 s1 ∷ [] }

abbrev run : ℕ → RunStatus → Option RunAction → Run
run number status action = record { number = number; plan_only = false; key = None; message = []; created = 1_700_000_000; status = status; action = action }

-- an absent workspace is made by PUT alone
absent_locked : rules (LockAct x1 t1) 1_700_000_000 (missing true) ≡ effect (refused NotFound) None
absent_locked = refl

-- LOCK takes hold, and its text is kept
locked_first : rules (LockAct x1 t1) 1_700_000_000 (there empty) ≡ effect done (Some under_x1)
locked_first = refl

-- another LOCK is told the holder's text
locked_by_another : rules (LockAct x2 t2) 1_700_000_000 (there under_x1) ≡ effect (held (Lock x1 t1)) (Some under_x1)
locked_by_another = refl

-- LOCK by the holding ID with another text changes nothing
locked_again : rules (LockAct x1 t2) 1_700_000_000 (there under_x1) ≡ effect done (Some under_x1)
locked_again = refl

-- an update under a lock carries its ID
updated_without_id : rules (UpdateState (head 1 a1) s1 None) 1_700_000_000 (there under_x1) ≡ effect (held (Lock x1 t1)) (Some under_x1)
updated_without_id = refl

updated_with_another_id : rules (UpdateState (head 1 a1) s1 (Some x2)) 1_700_000_000 (there under_x1) ≡ effect (held (Lock x1 t1)) (Some under_x1)
updated_with_another_id = refl

updated_with_its_id : rules (UpdateState (head 1 a1) s1 (Some x1)) 1_700_000_000 (there under_x1)
    ≡ effect done (Some (record under_x1 { next_version = 2; versions = version 1 1 a1 s1 ∷ [] }))
updated_with_its_id = refl

-- an ID where nobody holds
updated_where_nobody_holds : rules (UpdateState (head 1 a1) s1 (Some x1)) 1_700_000_000 (there empty) ≡ effect (refused NotHeld) (Some empty)
updated_where_nobody_holds = refl

-- UNLOCK releases by the lock's ID, and is answered again
unlocked : rules (Unlock x1) 1_700_000_000 (there under_x1) ≡ effect done (Some (record empty { released = Some x1 }))
unlocked = refl

unlocked_again : rules (Unlock x1) 1_700_000_000 (there (record empty { released = Some x1 })) ≡ effect done (Some (record empty { released = Some x1 }))
unlocked_again = refl

unlocked_by_another : rules (Unlock x2) 1_700_000_000 (there under_x1) ≡ effect (held (Lock x1 t1)) (Some under_x1)
unlocked_by_another = refl

-- the ID released last, while another lock holds
released_before : rules (Unlock x2) 1_700_000_000 (there (record under_x1 { released = Some x2 })) ≡ effect done (Some (record under_x1 { released = Some x2 }))
released_before = refl

-- a forced release
forced : rules ForceUnlock 1_700_000_000 (there under_x1) ≡ effect done (Some (record empty { released = Some x1 }))
forced = refl

-- a purge under the lock: the next number stays
purged_without_id : rules (PurgeState None) 1_700_000_000 (there under_x1) ≡ effect (held (Lock x1 t1)) (Some under_x1)
purged_without_id = refl

purged_with_its_id : rules (PurgeState (Some x1)) 1_700_000_000 (there (record under_x1 { next_version = 2; versions = version 1 1 a1 s1 ∷ [] }))
    ≡ effect done (Some (record under_x1 { next_version = 2 }))
purged_with_its_id = refl

-- how a state follows the newest
same_text : rules (UpdateState (head 1 a1) s1 None) 1_700_000_001 (there with_s1) ≡ effect done (Some with_s1)
same_text = refl

another_text_of_its_serial : rules (UpdateState (head 1 a1) t1 None) 1_700_000_000 (there with_s1) ≡ effect (refused OldSerial) (Some with_s1)
another_text_of_its_serial = refl

another_lineage : rules (UpdateState (head 2 (codes "b2")) t2 None) 1_700_000_000 (there with_s1) ≡ effect (refused OtherLineage) (Some with_s1)
another_lineage = refl

next_state : rules (UpdateState (head 2 []) s2 None) 1_700_000_000 (there with_s1)
    ≡ effect done (Some (record with_s1 { next_version = 3; versions = version 1 1 a1 s1 ∷ version 2 2 [] s2 ∷ [] }))
next_state = refl

no_number_left : rules (UpdateState (head 1 a1) s1 None) 1_700_000_000 (there (record empty { next_version = 1_000_000_001 }))
    ≡ effect (refused OverLimit) (Some (record empty { next_version = 1_000_000_001 }))
no_number_left = refl

-- the newest text, or none
newest_read : rules (Query query.State) 1_700_000_000 (there with_s1) ≡ effect (state s1) (Some with_s1)
newest_read = refl

nothing_read : rules (Query query.State) 1_700_000_000 (there empty) ≡ effect no_state (Some empty)
nothing_read = refl

-- runs: the first is over, two wait behind a lock, and the first of these starts once it is released
abbrev queue : Workspace
queue = record under_x1 { next_run = 4; runs = run 1 Applied (Some ReportApplied) ∷ run 2 Pending None ∷ run 3 Pending None ∷ [] }

least_starts : rules (Unlock x1) 1_700_000_000 (there queue)
    ≡ effect done (Some (record queue { holder = HoldingRun 2; released = Some x1; runs = run 1 Applied (Some ReportApplied) ∷ run 2 Planning None ∷ run 3 Pending None ∷ [] }))
least_starts = refl

-- a run that holds is released by no UNLOCK
abbrev of_run : RunStatus → Workspace
of_run status = record empty { holder = HoldingRun 1; released = Some x1; next_run = 2; runs = run 1 status None ∷ [] }

run_unlocked : rules (Unlock x2) 1_700_000_000 (there (of_run Planning)) ≡ effect (refused HeldByRun) (Some (of_run Planning))
run_unlocked = refl

run_unlocked_by_the_released_id : rules (Unlock x1) 1_700_000_000 (there (of_run Planning)) ≡ effect done (Some (of_run Planning))
run_unlocked_by_the_released_id = refl

run_forced : rules ForceUnlock 1_700_000_000 (there (of_run Planning)) ≡ effect (refused HeldByRun) (Some (of_run Planning))
run_forced = refl

run_locked : rules (LockAct x1 t1) 1_700_000_000 (there (of_run Planning)) ≡ effect (held (HoldingRun 1)) (Some (of_run Planning))
run_locked = refl

-- and writes alone while it is applying
run_plans : may_write (HoldingRun 1) (Some Planned) (Some (codes "run-1")) ≡ Some NotApplying
unfolding run_id digits
run_plans = refl

run_applies : may_write (HoldingRun 1) (Some Applying) (Some (codes "run-1")) ≡ None
unfolding run_id digits
run_applies = refl

another_run : may_write (HoldingRun 1) (Some Applying) (Some (codes "run-2")) ≡ Some Locked
unfolding run_id digits
another_run = refl

-- ---- runs: how they are made, and how they go

abbrev ask : RunAsk
ask = record { key = None; message = []; plan_only = false }

abbrev plan : RunAsk
plan = record { key = None; message = []; plan_only = true }

abbrev k1 : List ℕ
k1 = codes "k1"

abbrev keyed : RunAsk
keyed = record { key = Some k1; message = []; plan_only = false }

abbrev plan_only : ℕ → RunStatus → Option RunAction → Run
plan_only number status action = record (run number status action) { plan_only = true }

abbrev with_key : Run → Run
with_key r = record r { key = Some k1 }

-- the first queued run starts at once, and the second waits
first_made : rules (MakeRun ask) 1_700_000_000 (there empty) ≡ effect (the_run (run 1 Planning None)) (Some (record empty { holder = HoldingRun 1; next_run = 2; runs = run 1 Planning None ∷ [] }))
first_made = refl

second_made : rules (MakeRun ask) 1_700_000_000 (there (record empty { holder = HoldingRun 1; next_run = 2; runs = run 1 Planning None ∷ [] }))
    ≡ effect (the_run (run 2 Pending None)) (Some (record empty { holder = HoldingRun 1; next_run = 3; runs = run 1 Planning None ∷ run 2 Pending None ∷ [] }))
second_made = refl

-- a plan-only run plans at once, and nobody holds
plan_made : rules (MakeRun plan) 1_700_000_000 (there empty) ≡ effect (the_run (plan_only 1 Planning None)) (Some (record empty { next_run = 2; runs = plan_only 1 Planning None ∷ [] }))
plan_made = refl

-- the run that has the key is told as it is, whatever else is asked
keyed_again : rules (MakeRun keyed) 1_700_000_001 (there (record empty { next_run = 2; runs = with_key (plan_only 1 Planning None) ∷ [] }))
    ≡ effect (the_run (with_key (plan_only 1 Planning None))) (Some (record empty { next_run = 2; runs = with_key (plan_only 1 Planning None) ∷ [] }))
keyed_again = refl

no_run_number_left : rules (MakeRun ask) 1_700_000_000 (there (record empty { next_run = 1_000_000_001 })) ≡ effect (refused OverLimit) (Some (record empty { next_run = 1_000_000_001 }))
no_run_number_left = refl

abbrev two : RunStatus → Option RunAction → Workspace
two status action = record empty { holder = HoldingRun 1; next_run = 3; runs = run 1 status action ∷ run 2 Pending None ∷ [] }

-- a plan that is made waits for Confirm, or is applied at once
planned_now : rules (ReportRun 1 ReportPlanned) 1_700_000_000 (there (two Planning None)) ≡ effect (the_run (run 1 Planned (Some ReportPlanned))) (Some (two Planned (Some ReportPlanned)))
planned_now = refl

applied_at_once : rules (ReportRun 1 ReportPlanned) 1_700_000_000 (there (record (two Planning None) { settings = record { runs = record { auto_apply = true }; retention = 100 } }))
    ≡ effect (the_run (run 1 Applying (Some ReportPlanned))) (Some (record (two Applying (Some ReportPlanned)) { settings = record { runs = record { auto_apply = true }; retention = 100 } }))
applied_at_once = refl

-- the action that was taken last is answered again, any other that no step has is refused
reported_again : rules (ReportRun 1 ReportPlanned) 1_700_000_000 (there (two Planned (Some ReportPlanned))) ≡ effect (the_run (run 1 Planned (Some ReportPlanned))) (Some (two Planned (Some ReportPlanned)))
reported_again = refl

reported_elsewhere : rules (ReportRun 1 ReportApplied) 1_700_000_000 (there (two Planned (Some ReportPlanned))) ≡ effect (refused WrongState) (Some (two Planned (Some ReportPlanned)))
reported_elsewhere = refl

-- a holding run that ends leaves the hold to the next
next_starts : rules (ReportRun 1 Fail) 1_700_000_000 (there (two Planning None))
    ≡ effect (the_run (run 1 Errored (Some Fail))) (Some (record empty { holder = HoldingRun 2; next_run = 3; runs = run 1 Errored (Some Fail) ∷ run 2 Planning None ∷ [] }))
next_starts = refl

-- one that waits may be discarded
waiting_discarded : rules (ReportRun 2 Discard) 1_700_000_000 (there (two Planning None))
    ≡ effect (the_run (run 2 Discarded (Some Discard))) (Some (record empty { holder = HoldingRun 1; next_run = 3; runs = run 1 Planning None ∷ run 2 Discarded (Some Discard) ∷ [] }))
waiting_discarded = refl

no_such_run : rules (ReportRun 3 Discard) 1_700_000_000 (there (two Planning None)) ≡ effect (refused NotFound) (Some (two Planning None))
no_such_run = refl

-- ---- a lawful workspace with runs of each kind, and what breaks each law of runs

abbrev each_kind : Workspace
each_kind = record empty {
  holder = HoldingRun 2;
  next_run = 6;
  runs = run 1 Applied (Some ReportApplied) ∷ with_key (run 2 Applying (Some Confirm)) ∷ run 3 Pending None ∷ plan_only 4 Planning None ∷ plan_only 5 PlannedAndFinished (Some ReportPlanned) ∷ [];
}

each_kind_is_lawful : IsLawful each_kind
each_kind_is_lawful = record {
  versions = record { retention = (omega arith, omega arith); next = (omega arith, omega arith); rise = tt; each = tt; kept = omega arith };
  runs = record {
    next = (omega arith, omega arith);
    rise = (omega arith, omega arith, (omega arith, omega arith, (omega arith, omega arith, (omega arith, omega arith, (omega arith, omega arith, tt)))));
    each = (
      record { key = tt; message = omega arith; created = omega arith; action = refl; active = λ _. refl; waiting = λ e. absurd (let none : ⊥ = cc in none) },
      (
        record { key = refl; message = omega arith; created = omega arith; action = refl; active = λ _. refl; waiting = λ e. absurd (let none : ⊥ = cc in none) },
        (
          record { key = tt; message = omega arith; created = omega arith; action = tt; active = λ _. refl; waiting = λ e. (refl, refl) },
          (
            record { key = tt; message = omega arith; created = omega arith; action = tt; active = λ e. absurd (let none : ⊥ = cc in none); waiting = λ e. absurd (let none : ⊥ = cc in none) },
            (record { key = tt; message = omega arith; created = omega arith; action = refl; active = λ e. absurd (let none : ⊥ = cc in none); waiting = λ e. absurd (let none : ⊥ = cc in none) }, tt),
          ),
        ),
      ),
    );
    open_runs = omega arith;
    keys = (tt, ((tt, (tt, (tt, tt))), (tt, (tt, (tt, tt)))));
    held = refl;
  };
  released = tt;
}

-- a second run is active
second_active : IsRun (HoldingRun 1) (run 2 Planning None) → ⊥
second_active is = let none : ⊥ = cc (is.active refl) in none

two_are_too_many : length (filter is_active_run (run 1 Planning None ∷ run 2 Applying (Some Confirm) ∷ [])) ≤ 1 → ⊥
two_are_too_many le = omega (arith, le)

-- a run waits where nobody holds
waits_for_nobody : IsRun Nobody (run 1 Pending None) → ⊥
waits_for_nobody is = let none : ⊥ = cc ((is.waiting refl).1) in none

-- a plan-only run waits, or holds
plan_only_waits : IsRun (HoldingRun 2) (plan_only 1 Pending None) → ⊥
plan_only_waits is = let none : ⊥ = cc ((is.waiting refl).0) in none

plan_only_holds : IsHolder (HoldingRun 1) (plan_only 1 Planning None ∷ []) → ⊥
plan_only_holds is = let none : ⊥ = cc is in none

-- a run that isn't there holds
nobody_s_run : IsHolder (HoldingRun 2) (run 1 Planning None ∷ []) → ⊥
nobody_s_run is = is

-- a run is where its last action doesn't end
elsewhere : IsRun Nobody (run 1 Applied (Some Confirm)) → ⊥
elsewhere is = let none : ⊥ = cc is.action in none

ended_by_nothing : IsRun Nobody (run 1 Errored None) → ⊥
ended_by_nothing is = let none : ⊥ = cc is.action in none

-- two runs have one key, or one number
one_key : KeysDiffer (with_key (run 1 Applied (Some ReportApplied)) ∷ with_key (run 2 Applied (Some ReportApplied)) ∷ []) → ⊥
one_key keys = let none : ⊥ = cc keys.0.0 in none

one_number : Rises 0 (1 ∷ 1 ∷ []) 3 → ⊥
one_number rise = omega (arith, rise.2.0)

-- the greater number starts first
starts_out_of_order : AllByRecursion (λ (r : Run). is_waiting r ≡ true → 3 < r.number) (run 2 Pending None ∷ run 3 Planning None ∷ []) → ⊥
starts_out_of_order all = omega (arith, all.0 refl)

-- a run that has ended goes on
ended_goes_on : GoesOn false (run 1 Errored (Some Fail)) (run 1 Planning (Some Fail)) → ⊥
ended_goes_on (inl as_before) = let none : ⊥ = cc as_before.0 in none
ended_goes_on (inr (inl begins)) = let none : ⊥ = cc begins.0 in none
ended_goes_on (inr (inr (action, leads, last))) = let none : ⊥ = cc (sym leads) in none

-- an action that was refused may be taken later, and a creation without a key makes another run
refused_now : rules (ReportRun 1 Fail) 1_700_000_000 (there (two Planned (Some ReportPlanned))) ≡ effect (refused WrongState) (Some (two Planned (Some ReportPlanned)))
refused_now = refl

taken_later : rules (ReportRun 1 Fail) 1_700_000_000 (there (record empty { holder = HoldingRun 1; next_run = 2; runs = run 1 Applying (Some Confirm) ∷ [] }))
    ≡ effect (the_run (run 1 Errored (Some Fail))) (Some (record empty { next_run = 2; runs = run 1 Errored (Some Fail) ∷ [] }))
taken_later = refl

made_once_more : (rules (MakeRun ask) 1_700_000_000 (there (record empty { next_run = 2; runs = run 1 Applied (Some ReportApplied) ∷ [] }))).left
    ≡ Some (record empty { holder = HoldingRun 2; next_run = 3; runs = run 1 Applied (Some ReportApplied) ∷ run 2 Planning None ∷ [] })
made_once_more = refl

-- DELETE of a workspace: it goes where no lock holds and no run is open
gone : rules DeleteWorkspace 1_700_000_000 (there with_s1) ≡ effect done None
gone = refl

lock_keeps_it : rules DeleteWorkspace 1_700_000_000 (there under_x1) ≡ effect (held (Lock x1 t1)) (Some under_x1)
lock_keeps_it = refl

abbrev with_run_1 : Workspace
with_run_1 = record empty { holder = HoldingRun 1; next_run = 2; runs = run 1 Planning None ∷ [] }

open_run_keeps_it : rules DeleteWorkspace 1_700_000_000 (there with_run_1) ≡ effect (refused OpenRuns) (Some with_run_1)
open_run_keeps_it = refl

-- one of its name begins anew
made_anew : rules (PutWorkspace (record { runs = record { auto_apply = false }; retention = None })) 1_700_000_000 (missing true) ≡ effect (workspace (shown_of empty)) (Some empty)
made_anew = refl

no_room : rules (PutWorkspace (record { runs = record { auto_apply = false }; retention = None })) 1_700_000_000 (missing false) ≡ effect (refused OverLimit) None
no_room = refl

-- ---- how many versions are kept

-- a workspace that keeps so many, with versions 1 to 3, and what is left of these
abbrev last_two : List Version
last_two = version 2 2 a1 s2 ∷ version 3 3 a1 t1 ∷ []

abbrev retaining : ℕ → List Version → Workspace
retaining retention stored = record empty { settings = record { runs = record { auto_apply = false }; retention = retention }; next_version = 4; versions = stored }

abbrev three : Workspace
three = retaining 3 (version 1 1 a1 s1 ∷ last_two)

abbrev held_three : Workspace
held_three = record three { holder = Lock x1 t1 }

-- a lower number lets the oldest go at once
lowered : rules (PutWorkspace (record { runs = record { auto_apply = false }; retention = Some 2 })) 1_700_000_000 (there three) ≡ effect (workspace (shown_of (retaining 2 last_two))) (Some (retaining 2 last_two))
lowered = refl

-- but none while somebody holds, who is told
lowered_under_a_lock : rules (PutWorkspace (record { runs = record { auto_apply = true }; retention = Some 2 })) 1_700_000_000 (there held_three) ≡ effect (held (Lock x1 t1)) (Some held_three)
lowered_under_a_lock = refl

-- any other PUT changes the settings under a lock, too, and without a number it keeps the one that is there
raised_under_a_lock : (rules (PutWorkspace (record { runs = record { auto_apply = false }; retention = Some 4 })) 1_700_000_000 (there held_three)).left
    ≡ Some (record held_three { settings = record { runs = record { auto_apply = false }; retention = 4 } })
raised_under_a_lock = refl

number_kept : (rules (PutWorkspace (record { runs = record { auto_apply = true }; retention = None })) 1_700_000_000 (there held_three)).left
    ≡ Some (record held_three { settings = record { runs = record { auto_apply = true }; retention = 3 } })
number_kept = refl

-- as one more comes, the oldest goes
oldest_goes : rules (UpdateState (head 4 a1) t2 None) 1_700_000_000 (there three) ≡ effect done (Some (record three { next_version = 5; versions = version 2 2 a1 s2 ∷ version 3 3 a1 t1 ∷ version 4 4 a1 t2 ∷ [] }))
oldest_goes = refl

-- and where one alone is kept, it is the one that came
newest_alone : rules (UpdateState (head 4 a1) t2 None) 1_700_000_000 (there (retaining 1 (version 3 3 a1 t1 ∷ []))) ≡ effect done (Some (record (retaining 1 (version 4 4 a1 t2 ∷ [])) { next_version = 5 }))
newest_alone = refl

-- three are too many where two are kept, and none or 1,001 is no such number
too_many : AreVersions 2 4 (version 1 1 a1 s1 ∷ last_two) → ⊥
too_many are = omega (arith, are.kept)

no_such_number : (IsRetention 0 → ⊥) × (IsRetention 1_001 → ⊥)
no_such_number = ((λ is. omega (arith, is.0)), (λ is. omega (arith, is.1)))

-- a version by its number, and one that isn't kept
first_read : rules (Query (query.Version 1)) 1_700_000_000 (there with_s1) ≡ effect (state s1) (Some with_s1)
first_read = refl

second_missing : rules (Query (query.Version 2)) 1_700_000_000 (there with_s1) ≡ effect (refused NotFound) (Some with_s1)
second_missing = refl

-- a list begins after the number that it follows, and tells a text's size
row_1 : rules (Query (query.Versions 0)) 1_700_000_000 (there with_s1)
    ≡ effect (versions (record { items = (record { created = 1_700_000_000; lineage = a1; number = 1; serial = 1; size = 39 }) ∷ []; more = false })) (Some with_s1)
row_1 = refl

none_after_1 : rules (Query (query.Versions 1)) 1_700_000_000 (there with_s1) ≡ effect (versions (record { items = []; more = false })) (Some with_s1)
none_after_1 = refl

-- 50 items are a page, and one more is told of
fifty : listing_of (range_with_len 1 50) ≡ record { items = range_with_len 1 50; more = false }
fifty = refl

fifty_one : listing_of (range_with_len 1 51) ≡ record { items = range_with_len 1 50; more = true }
fifty_one = refl

-- names come in the order of their bytes: capital letters first, and a name after those that it begins with
orders : (comes_after (Some (codes "Net")) (codes "a_1") ≡ true) × (comes_after (Some (codes "net")) (codes "net2") ≡ true) × (comes_after (Some (codes "net")) (codes "net") ≡ false)
orders = (refl, refl, refl)

-- a prefix is compared byte for byte: a low line is one, and stands for no other byte
abbrev a_ : List ℕ
a_ = codes "a_"

abbrev workspaces_of : List (List ℕ) → List (List ℕ × Workspace)
workspaces_of names = map (λ (name : List ℕ). (name, empty)) names

admitted_alone : workspaces_listed None a_ (workspaces_of (codes "A_1" ∷ codes "a_1" ∷ codes "ab1" ∷ [])) ≡ listing_of (row_of (codes "a_1") (shown_of empty) ∷ [])
admitted_alone = refl

-- the empty prefix admits each name, and a name is admitted by itself, and by none that is longer
admits_each : (admits [] net ≡ true) × (admits net net ≡ true) × (admits (codes "net2") net ≡ false)
admits_each = (refl, refl, refl)

-- a prefix of 90 bytes is one, and one of 91 isn't; nor is one with a dot, or with a space
prefixes : (is_prefix [] ≡ true) × (is_prefix a_ ≡ true) × (is_prefix (replicate 90 110) ≡ true) × (is_prefix (replicate 91 110) ≡ false) × (is_prefix (codes "a.") ≡ false) × (is_prefix (codes "a ") ≡ false)
prefixes = (refl, refl, refl, refl, refl, refl)

-- a token that ends at 1700000010 counts a second before, and no longer at that moment
abbrev until_10 : Caller
until_10 = record { role = Read; until = Some 1_700_000_010; prefix = a_ }

counted : (is_valid_at 1_700_000_009 until_10 ≡ true) × (is_valid_at 1_700_000_010 until_10 ≡ false)
counted = (refl, refl)

counted_without_end : is_valid_at 253_402_300_799 (record until_10 { until = None }) ≡ true
counted_without_end = refl

-- where the actions lead from each status: of a queued run, of one under auto-apply, and of a plan-only one
abbrev actions : List RunAction
actions = ReportPlanned ∷ ReportUnchanged ∷ Fail ∷ Confirm ∷ ReportApplied ∷ Discard ∷ Cancel ∷ []

abbrev ended : List RunStatus
ended = Applied ∷ PlannedAndFinished ∷ Errored ∷ Discarded ∷ Canceled ∷ []

abbrev lead_to : (plan_only auto_apply : Bool) → RunStatus → List (Option RunStatus)
lead_to plan_only auto_apply status = map (next_status plan_only auto_apply status) actions

abbrev nowhere : List (Option RunStatus)
nowhere = map (λ (action : RunAction). None) actions

queued_pending : lead_to false false Pending ≡ None ∷ None ∷ None ∷ None ∷ None ∷ Some Discarded ∷ None ∷ []
queued_pending = refl

queued_planning : lead_to false false Planning ≡ Some Planned ∷ Some PlannedAndFinished ∷ Some Errored ∷ None ∷ None ∷ None ∷ Some Canceled ∷ []
queued_planning = refl

queued_planned : lead_to false false Planned ≡ None ∷ None ∷ None ∷ Some Applying ∷ None ∷ Some Discarded ∷ None ∷ []
queued_planned = refl

queued_applying : lead_to false false Applying ≡ None ∷ None ∷ Some Errored ∷ None ∷ Some Applied ∷ None ∷ Some Canceled ∷ []
queued_applying = refl

auto_apply_pending : lead_to false true Pending ≡ None ∷ None ∷ None ∷ None ∷ None ∷ Some Discarded ∷ None ∷ []
auto_apply_pending = refl

auto_apply_planning : lead_to false true Planning ≡ Some Applying ∷ Some PlannedAndFinished ∷ Some Errored ∷ None ∷ None ∷ None ∷ Some Canceled ∷ []
auto_apply_planning = refl

auto_apply_planned : lead_to false true Planned ≡ None ∷ None ∷ None ∷ Some Applying ∷ None ∷ Some Discarded ∷ None ∷ []
auto_apply_planned = refl

auto_apply_applying : lead_to false true Applying ≡ None ∷ None ∷ Some Errored ∷ None ∷ Some Applied ∷ None ∷ Some Canceled ∷ []
auto_apply_applying = refl

plan_only_planning : (auto_apply : Bool) → lead_to true auto_apply Planning ≡ Some PlannedAndFinished ∷ Some PlannedAndFinished ∷ Some Errored ∷ None ∷ None ∷ None ∷ Some Canceled ∷ []
plan_only_planning auto_apply = refl

plan_only_elsewhere : (auto_apply : Bool) → map (lead_to true auto_apply) (Pending ∷ Planned ∷ Applying ∷ []) ≡ nowhere ∷ nowhere ∷ nowhere ∷ []
plan_only_elsewhere auto_apply = refl

queued_ended : map (lead_to false false) ended ≡ map (λ (status : RunStatus). nowhere) ended
queued_ended = refl

auto_apply_ended : map (lead_to false true) ended ≡ map (λ (status : RunStatus). nowhere) ended
auto_apply_ended = refl

plan_only_ended : (auto_apply : Bool) → map (lead_to true auto_apply) ended ≡ map (λ (status : RunStatus). nowhere) ended
plan_only_ended auto_apply = refl
