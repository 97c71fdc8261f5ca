-- Small histories of one workspace: how its periods are cut, and, for each law of the book, one that breaks it.
use Rattle.serve.proofs.Outside.{◌≡◌, ◌⊎◌, inl, inr, ℕ, zero, suc, Bool, true, false, List, [], ◌∷◌, Option, Some, None, refl, sym, ap, subst, ◌∙◌, arith, same_Some, codes, Contains, digits, chars, is_utf8, run_id, RunAsk, Pending, Planning, Planned, Applying, Applied, serde_json_on_literals, lock_id_of, run_ask, IsRepeatable, Releases, is_nobody, new_workspace, Act, Done, Version, Workspace, OfWorkspace, WsAct, Query, Put, Delete, UpdateState, PurgeState, Lock, Unlock, MakeRun, ReportRun, empty_answer}
use Rattle.basis.specs.declared.acts.Query.TheVariants as query
use Rattle.basis.specs.declared.runs.RunStatus.{RunStatus}
use Rattle.basis.specs.declared.runs.RunAction.TheVariants.{Confirm, ReportApplied}
use Rattle.machine.specs.declared.acts.Act.TheVariants.{PurgeState as PurgeAct, Unlock as UnlockAct, MakeRun as MakeRunAct, ReportRun as ReportRunAct}
use Rattle.basis.specs.declared.rows.Holder.TheVariants.{Nobody, Lock as HeldLock, Run as HeldRun}
use Rattle.basis.specs.declared.rows.RunRow.{RunRow as Run}
use Rattle.serve.specs.declared.steps.Admin.TheVariants.{OrgRemove}
use Rattle.serve.specs.Asks.{Ask, requests, commands}
use Rattle.serve.specs.Custody.{ForcesRemoval}
use Rattle.serve.specs.Steps.{replies, reports}
use Rattle.serve.specs.Book.{Entry, periods, is_held, is_lock, life, LosesVersion, IsApplying, IsRemovedByForce, LocksKeepOthersOut, RunsKeepOthersOut, NoIdWhereNobodyHolds, LocksEndByUnlock, OneRunAtATime, StartsRise, RepeatsLeaveIt, DoneOnceIsDone}
use Rattle.serve.proofs.CustodyLemmas.{is_one}

abbrev net : List ℕ
net = codes "net"

abbrev x1 : List ℕ
x1 = codes "x1"

abbrev empty : Workspace
empty = new_workspace (record { runs = record { auto_apply = false }; retention = 100 })

-- the lock x1 holds, and from it with so many versions behind
abbrev locked_before : ℕ → Workspace
locked_before next = record empty { holder = HeldLock x1 (codes "{\"ID\":\"x1\"}"); next_version = next }

abbrev run : ℕ → RunStatus → Run
run number status = record { number = number; plan_only = false; key = None; message = []; created = 1_700_000_000; status = status; action = None }

-- run n holds, in a status
abbrev held_by : ℕ → RunStatus → List Run → Workspace
held_by n status others = record empty { holder = HeldRun n; next_run = 3; runs = run n status ∷ others }

-- a request of the workspace, with an ID or none, at a moment
abbrev sent : ℕ → WsAct → Option (List ℕ) → List ℕ → Ask
sent at what id body = requests at false (record { caller = codes "acme"; secret = codes "wwwwwwwwwwwwwwww"; org = codes "acme"; act = OfWorkspace net what; lock_id = id }) None body

abbrev asks_at : ℕ → WsAct → Option (List ℕ) → Ask
asks_at at what id = sent at what id (codes "{\"key\":\"k1\"}")

abbrev asks : WsAct → Option (List ℕ) → Ask
asks what id = asks_at 1_700_000_000 what id

-- an accepted step
abbrev accepted : Ask → Workspace → Workspace → Entry
accepted ask w v = record { ask = ask; said = replies false 1_700_000_000 empty_answer; before = Some w; after = Some v }

-- ---- periods

abbrev locks : Entry
locks = accepted (asks Lock None) empty (locked_before 1)

abbrev posts : Entry
posts = accepted (asks UpdateState (Some x1)) (locked_before 1) (locked_before 2)

abbrev unlocks : Entry
unlocks = accepted (asks Unlock None) (locked_before 2) (record empty { released = Some x1; next_version = 2 })

abbrev reads : Entry
reads = accepted (asks (Query query.Workspace) None) (record empty { released = Some x1; next_version = 2 }) (record empty { released = Some x1; next_version = 2 })

-- a period begins behind the step after which it holds, and ends with the first after which it doesn't
period_of_a_lock : periods (is_held (is_lock x1)) (locks ∷ posts ∷ unlocks ∷ reads ∷ []) ≡ (posts ∷ unlocks ∷ []) ∷ []
period_of_a_lock = refl

-- two periods of one ID
periods_of_one_id : periods (is_held (is_lock x1)) (locks ∷ posts ∷ unlocks ∷ locks ∷ posts ∷ []) ≡ (posts ∷ unlocks ∷ []) ∷ (posts ∷ []) ∷ []
periods_of_one_id = refl

-- it begins at the start where it holds there
period_at_the_start : periods (is_held (is_lock x1)) (posts ∷ unlocks ∷ reads ∷ []) ≡ (posts ∷ unlocks ∷ []) ∷ []
period_at_the_start = refl

-- it holds to the end where nothing ends it, and there is none of another ID
period_to_the_end : periods (is_held (is_lock x1)) (locks ∷ posts ∷ []) ≡ (posts ∷ []) ∷ []
period_to_the_end = refl

period_of_another : periods (is_held (is_lock (codes "x2"))) (locks ∷ posts ∷ unlocks ∷ reads ∷ []) ≡ []
period_of_another = refl

-- a life ends with the step after which the workspace is gone
abbrev deletes : Entry
deletes = record { ask = asks Delete None; said = replies false 1_700_000_000 empty_answer; before = Some empty; after = None }

abbrev makes : Entry
makes = record { ask = asks Put None; said = replies false 1_700_000_000 empty_answer; before = None; after = Some empty }

life_of_a_workspace : life reads (reads ∷ deletes ∷ makes ∷ locks ∷ []) ≡ reads ∷ deletes ∷ []
life_of_a_workspace = refl

life_that_is_over : life deletes (makes ∷ locks ∷ []) ≡ []
life_that_is_over = refl

-- ---- what breaks a law

abbrev first_byte : Option (List ℕ) → ℕ
first_byte None = 0
first_byte (Some []) = 0
first_byte (Some (b ∷ bytes)) = b

-- what no forced removal is
not_by_force : {X : Type 0} (e : Entry) → (ForcesRemoval e.ask → ⊥) → X ⊎ IsRemovedByForce e → X
not_by_force e other (inl x) = x
not_by_force e other (inr forced) = absurd (other forced.0)

-- under a lock a version was made without its ID
abbrev posts_without_the_id : Entry
posts_without_the_id = accepted (asks UpdateState None) (locked_before 1) (locked_before 2)

update_without_the_id : LocksKeepOthersOut net (locks ∷ posts_without_the_id ∷ []) → ⊥
update_without_the_id law = let none : ⊥ = cc (not_by_force posts_without_the_id (λ forced. forced) ((law x1).0.0 (inl (omega arith)))).1 in none

-- under a lock a purge was accepted with another ID
abbrev purges_by_another_id : Entry
purges_by_another_id = accepted (asks PurgeState (Some (codes "y1"))) (locked_before 1) (locked_before 1)

purge_with_another_id : LocksKeepOthersOut net (locks ∷ purges_by_another_id ∷ []) → ⊥
purge_with_another_id law = omega (arith, ap first_byte (not_by_force purges_by_another_id (λ forced. forced) ((law x1).0.0 (inr (inl (refl, refl))))).1)

-- under a lock a version was let go, by a PUT of the workspace: that of number 1, of two
abbrev version : ℕ → Version
version number = record { number = number; serial = number; lineage = []; created = 1_700_000_000; text = [] }

abbrev keeps_two : Workspace
keeps_two = record (locked_before 3) { versions = version 1 ∷ version 2 ∷ [] }

abbrev keeps_one : Workspace
keeps_one = record (locked_before 3) { versions = version 2 ∷ [] }

first_is_gone : Contains (version 2 ∷ []) (version 1) → ⊥
first_is_gone (zero, low, same) = omega (arith, ap (λ (v : Version). v.number) same)
first_is_gone (suc k, low, same) = omega (arith, low)

version_let_go_under_a_lock : LocksKeepOthersOut net (accepted (asks Put None) keeps_two keeps_one ∷ []) → ⊥
version_let_go_under_a_lock law =
    let none : ⊥ = cc (not_by_force (accepted (asks Put None) keeps_two keeps_one) (λ forced. forced) ((law x1).0.0 (inr (inr (version 1, (0, omega arith, refl), first_is_gone))))).1 in none

-- one that is as it was is not let go
abbrev settings_alone : Entry
settings_alone = accepted (asks Put None) keeps_two (record keeps_two { settings = record { runs = record { auto_apply = true }; retention = 2 } })

version_that_stays : LosesVersion settings_alone → ⊥
version_that_stays loses = loses.2 loses.1

-- in the period of a run a version went with the workspace
abbrev run_keeps_one : Workspace
run_keeps_one = record (held_by 1 Applying []) { versions = version 1 ∷ []; next_version = 2 }

abbrev deletes_beside_a_run : Entry
deletes_beside_a_run = record { ask = asks Delete None; said = replies false 1_700_000_000 empty_answer; before = Some run_keeps_one; after = None }

none_is_left : Contains [] (version 1) → ⊥
none_is_left (k, low, same) = omega (arith, low)

version_gone_with_its_workspace : RunsKeepOthersOut net (deletes_beside_a_run ∷ []) → ⊥
version_gone_with_its_workspace law =
    let none : ⊥ = cc (not_by_force deletes_beside_a_run (λ forced. forced) ((law 1).0.0 (inr (inr (version 1, (0, omega arith, refl), none_is_left))))).1 in none

-- or with its organization, without force
abbrev removes : Bool → Workspace → Entry
removes is_forced w = record { ask = commands 1_700_000_000 (OrgRemove (codes "acme") is_forced); said = reports Done; before = Some w; after = None }

removal_beside_a_run : RunsKeepOthersOut net (removes false run_keeps_one ∷ []) → ⊥
removal_beside_a_run law =
    (not_by_force (removes false run_keeps_one) (λ forced. let none : ⊥ = cc forced in none) ((law 1).0.0 (inr (inr (version 1, (0, omega arith, refl), none_is_left))))).0

removal_by_force : IsRemovedByForce (removes true run_keeps_one)
removal_by_force = (refl, refl, refl)

-- in the period of a run a version was made while it was planned
abbrev posts_planned : Entry
posts_planned = accepted (asks UpdateState (Some (run_id 1))) (held_by 1 Planned []) (record (held_by 1 Planned []) { next_version = 2 })

update_of_a_planned_run : RunsKeepOthersOut net (posts_planned ∷ []) → ⊥
update_of_a_planned_run law =
    let applying : IsApplying 1 (Some (held_by 1 Planned [])) = (not_by_force posts_planned (λ forced. forced) ((law 1).0.0 (inl (omega arith)))).2 in
    let status : Planned ≡ Applying = ap (λ (r : Run). r.status) (same_Some (run 1 Planned) applying.0 applying.1) ∙ applying.2 in
    let none : ⊥ = cc status in none

-- nor without its ID
abbrev posts_without : Entry
posts_without = accepted (asks UpdateState (Some x1)) (held_by 1 Applying []) (record (held_by 1 Applying []) { next_version = 2 })

update_beside_a_run : RunsKeepOthersOut net (posts_without ∷ []) → ⊥
unfolding run_id digits
update_beside_a_run law =
    let apart : 120 ≡ 114 = ap first_byte (not_by_force posts_without (λ forced. forced) ((law 1).0.0 (inl (omega arith)))).1 in
    omega (arith, apart)

-- an ID was accepted where nobody holds
id_where_nobody_holds : NoIdWhereNobodyHolds net (accepted (asks UpdateState (Some x1)) empty (record empty { next_version = 2 }) ∷ []) → ⊥
id_where_nobody_holds law = let none : ⊥ = cc (law.0.0 (inl (refl, refl))) in none

no_id_where_nobody_holds : NoIdWhereNobodyHolds net (accepted (asks UpdateState None) empty (record empty { next_version = 2 }) ∷ [])
no_id_where_nobody_holds = (((λ how. refl), tt), tt)

-- a lock ended by a purge
abbrev purges_the_lock : Entry
purges_the_lock = accepted (asks PurgeState (Some x1)) (locked_before 1) empty

lock_ended_by_a_purge : LocksEndByUnlock net (purges_the_lock ∷ []) → ⊥
lock_ended_by_a_purge law =
    let ends = (not_by_force purges_the_lock (λ forced. forced) ((law x1).0.0 refl)).1 in
    subst (λ (a : Act). Releases a x1) (is_one (PurgeAct (Some x1)) ends.0 ends.1) ends.2

-- or by a removal of its organization, without force
lock_ended_by_a_removal : LocksEndByUnlock net (removes false (locked_before 1) ∷ []) → ⊥
lock_ended_by_a_removal law = (not_by_force (removes false (locked_before 1)) (λ forced. let none : ⊥ = cc forced in none) ((law x1).0.0 refl)).0

-- two runs are active
two_active_runs : OneRunAtATime net (accepted (asks (Query query.Workspace) None) (held_by 1 Planning (run 2 Planned ∷ [])) (held_by 1 Planning (run 2 Planned ∷ [])) ∷ []) → ⊥
two_active_runs law = omega (arith, law.0)

one_active_run : OneRunAtATime net (accepted (asks (Query query.Workspace) None) (held_by 1 Planning (run 2 Pending ∷ [])) (held_by 1 Planning (run 2 Pending ∷ [])) ∷ [])
one_active_run = (omega arith, tt)

-- run 2 starts before run 1
abbrev waits : Workspace
waits = record (locked_before 1) { next_run = 3; runs = run 1 Pending ∷ run 2 Pending ∷ [] }

abbrev begins_with_2 : Entry
begins_with_2 = accepted (asks Unlock None) waits (record waits { holder = HeldRun 2; runs = run 1 Pending ∷ run 2 Planning ∷ [] })

abbrev goes_on_with_1 : Entry
goes_on_with_1 = accepted (asks (ReportRun 2 ReportApplied) None) (record waits { holder = HeldRun 2; runs = run 1 Pending ∷ run 2 Planning ∷ [] })
    (record waits { holder = HeldRun 1; runs = run 1 Planning ∷ run 2 Applied ∷ [] })

newest_run_first : StartsRise net (begins_with_2 ∷ reads ∷ goes_on_with_1 ∷ []) → ⊥
newest_run_first law = omega (arith, (law.0 2 1 refl).1.0 refl)

-- a purge that was accepted came again to what it left, and changed something
abbrev purges : Entry
purges = accepted (asks PurgeState None) empty (record empty { next_version = 2 })

abbrev purges_again : Entry
purges_again = accepted (asks_at 1_700_000_060 PurgeState None) (record empty { next_version = 2 }) (record empty { next_version = 3 })

abbrev next_of : Option Workspace → ℕ
next_of None = 0
next_of (Some w) = w.next_version

repeat_that_changes : RepeatsLeaveIt net (purges ∷ purges_again ∷ []) → ⊥
repeat_that_changes law =
    let same : Some (record empty { next_version = 3 }) ≡ Some (record empty { next_version = 2 }) =
    (law.0 refl (λ act is. subst IsRepeatable (sym (is_one (PurgeAct None) act is)) tt) refl).0 (1_700_000_060, refl) refl in
    omega (arith, ap next_of same)

abbrev is_free_now : Option Workspace → Bool
is_free_now None = true
is_free_now (Some w) = is_nobody w.holder

-- an UNLOCK that was accepted came again to the run that it let start, and took its hold
abbrev waiting_1 : Workspace
waiting_1 = record (locked_before 1) { next_run = 2; runs = run 1 Pending ∷ [] }

abbrev started_1 : Workspace
started_1 = record waiting_1 { holder = HeldRun 1; released = Some x1; runs = run 1 Planning ∷ [] }

abbrev releases : Entry
releases = accepted (sent 1_700_000_000 Unlock None (codes "{\"ID\":\"x1\"}")) waiting_1 started_1

abbrev releases_again : Entry
releases_again = accepted (sent 1_700_000_060 Unlock None (codes "{\"ID\":\"x1\"}")) started_1 (record started_1 { holder = Nobody })

release_that_frees_a_run : RepeatsLeaveIt net (releases ∷ releases_again ∷ []) → ⊥
unfolding serde_json_on_literals chars is_utf8 lock_id_of
release_that_frees_a_run law =
    let same = (law.0 refl (λ act is. subst IsRepeatable (sym (is_one (UnlockAct x1) act is)) tt) refl).0 (1_700_000_060, refl) refl in
    let apart : true ≡ false = ap is_free_now same in
    let none : ⊥ = cc apart in none

-- an action that was accepted came again much later, and changed something
abbrev confirms : Entry
confirms = accepted (asks (ReportRun 1 Confirm) None) (held_by 1 Planned []) (held_by 1 Applying [])

abbrev ends : Entry
ends = accepted (asks (ReportRun 1 ReportApplied) None) (held_by 1 Applying []) (record empty { next_run = 3; runs = run 1 Applied ∷ [] })

abbrev confirms_again : Entry
confirms_again = accepted (asks_at 1_700_000_060 (ReportRun 1 Confirm) None) (record empty { next_run = 3; runs = run 1 Applied ∷ [] }) (held_by 1 Applying [])

action_taken_twice : DoneOnceIsDone net (confirms ∷ ends ∷ confirms_again ∷ []) → ⊥
action_taken_twice law =
    let same = (law.0 (ReportRunAct 1 Confirm) (ReportRun 1 Confirm, refl, refl) tt refl).1.0 (1_700_000_060, refl) in
    let apart : false ≡ true = ap is_free_now same in
    let none : ⊥ = cc apart in none

-- a creation with a key that was accepted came again, and made another run
abbrev keyed : RunAsk
keyed = record { plan_only = false; key = Some (codes "k1"); message = [] }

abbrev creates : Entry
creates = accepted (asks MakeRun None) empty (record empty { next_run = 2 })

abbrev creates_again : Entry
creates_again = accepted (asks_at 1_700_000_060 MakeRun None) (record empty { next_run = 2 }) (record empty { next_run = 3 })

abbrev next_run_of : Option Workspace → ℕ
next_run_of None = 0
next_run_of (Some w) = w.next_run

creation_made_twice : DoneOnceIsDone net (creates ∷ creates_again ∷ []) → ⊥
unfolding serde_json_on_literals chars is_utf8 run_ask
creation_made_twice law =
    let same = (law.0 (MakeRunAct keyed) (MakeRun, refl, refl) refl refl).0 (1_700_000_060, refl) in
    omega (arith, ap next_run_of same)
