-- What the book of a workspace rests on: who makes a version, which runs wait, and what comes after many acts.
use Rattle.machine.proofs.Outside.{◌≡◌, ◌⊎◌, inl, inr, ℕ, ◌<◌, ◌≤◌, ◌==◌, Bool, true, false, cond, List, [], ◌∷◌, ◌++◌, length, filter, Option, Some, None, IsSome, IsSomeAnd, refl, sym, ap, subst, ◌∙◌, arith, eqb-true, eq-eqb, AllByRecursion, is_open, Holder}
use Rattle.machine.specs.Laws.{Rises, holds, is_active, is_nobody, IsHolder, IsRun, IsLawful}
use Rattle.machine.specs.Ranges.{IsInRange, IsMoment}
use Rattle.machine.specs.Records.{there}
use Rattle.machine.specs.Workspaces.{run_of, open_runs}
use Rattle.machine.specs.Settling.{is_waiting, first_waiting, to_start, started_if}
use Rattle.machine.specs.Rules.{done, rules}
use Rattle.machine.specs.Custody.{IsUnlocked, WritesWith}
use Rattle.machine.specs.Queue.{is_active_run, Starts, WaitedOrIsNew, AreInRange, Leads}
use Rattle.machine.specs.declared.acts.Act.{Act}
use Rattle.basis.specs.declared.rows.Holder.TheVariants.{Nobody, Lock, Run as HoldingRun}
use Rattle.basis.specs.declared.rows.RunRow.{RunRow as Run}
use Rattle.machine.specs.declared.records.Workspace.{Workspace}
use Rattle.machine.proofs.StepLemmas.{ended_is_idle}
use Rattle.machine.proofs.CustodyLemmas.{workspaces_go_by_delete}
use Rattle.machine.proofs.RunLemmas.{run_of-number, all_found}
use Rattle.machine.proofs.RunRulings.{IsReported}
use Rattle.machine.proofs.Rulings.{Way, version_comes, versions_go, settings_come, lock_comes, lock_goes, run_comes, run_goes_on, Leaves, leaves}
use Rattle.machine.proofs.VersionLemmas.{numbers_rise}
use Rattle.machine.proofs.QueueLemmas.{numbers, lawful_after, active_once, runs_start_in_order, waited_before}

-- ---- who makes a version

-- an act that writes, with some ID, and is accepted
abbrev pub IsAcceptedWrite : Act → ℕ → Workspace → Type 0
IsAcceptedWrite act now w = (id : Option (List ℕ)) × WritesWith act id × ((rules act now (there w)).answer ≡ done)

next_stays : (o : Option ℕ) (u : Workspace) → (started_if o u).next_version ≡ u.next_version
next_stays None u = refl
next_stays (Some n) u = refl

-- where the next number stays, none is made
none_made : (w v : Workspace) (X : Type 0) → v.next_version ≡ w.next_version → w.next_version < v.next_version → X
none_made w v X e lt = absurd (omega (arith, e, lt))

-- a version is made by an accepted update alone
pub rises_by_write : (act : Act) (now : ℕ) (w v : Workspace) → (rules act now (there w)).left ≡ Some v → w.next_version < v.next_version → IsAcceptedWrite act now w
rises_by_write act now w v e lt = by_case (leaves act now w v e)
  where
    by_case : (w ≡ v) ⊎ Leaves act now w v → IsAcceptedWrite act now w
    by_case (inl still) = none_made w v _ (ap (λ (y : Workspace). y.next_version) (sym still)) lt
    by_case (inr l) = by_way l.way
      where
        kept : l.to.next_version ≡ w.next_version → IsAcceptedWrite act now w
        kept stays = none_made w v _ (ap (λ (y : Workspace). y.next_version) (sym l.settles) ∙ next_stays (to_start l.to.holder (first_waiting l.to.runs)) l.to ∙ stays) lt

        by_way : Way act now w l.to l.answer → IsAcceptedWrite act now w
        by_way (version_comes x) = (x.id, x.writes, l.said ∙ x.answered)
        by_way (versions_go x) = kept (ap (λ (y : Workspace). y.next_version) x.is)
        by_way (settings_come x) = kept (ap (λ (y : Workspace). y.next_version) x.is)
        by_way (lock_comes x) = kept (ap (λ (y : Workspace). y.next_version) x.is)
        by_way (lock_goes x) = kept (ap (λ (y : Workspace). y.next_version) x.is)
        by_way (run_comes x) = kept (ap (λ (y : Workspace). y.next_version) x.made.2)
        by_way (run_goes_on x) = let is : IsReported w x.n x.action l.to = x.reported in kept (ap (λ (y : Workspace). y.next_version) is.is)

-- ---- who takes a version away

-- and the workspace stays: a run that holds is open
open_found : (n : ℕ) (runs : List Run) (r : Run) → run_of n runs ≡ Some r → is_open r.status ≡ true → 1 ≤ open_runs runs
open_found n [] r found is = absurd (let none : ⊥ = cc in none)
open_found n (x ∷ runs) r found is = by_tests (x.number == n) (is_open x.status) refl found (λ rest. open_found n runs r rest is)
  where
    one : Some x ≡ Some r → x ≡ r
    one e = cc

    by_tests : (b c : Bool) → is_open x.status ≡ c → cond b (Some x) (run_of n runs) ≡ Some r → (run_of n runs ≡ Some r → 1 ≤ open_runs runs)
        → 1 ≤ length (cond c (x ∷ filter (λ (s : Run). is_open s.status) runs) (filter (λ (s : Run). is_open s.status) runs))
    by_tests b true o found more = omega arith
    by_tests true false o found more = absurd (let none : ⊥ = cc (sym o ∙ ap (λ (y : Run). is_open y.status) (one found) ∙ is) in none)
    by_tests false false o found more = more found

run_is_open : (w : Workspace) (n : ℕ) → IsLawful w → w.holder ≡ HoldingRun n → 1 ≤ open_runs w.runs
run_is_open w n lawful at = by_run (run_of n w.runs) refl (subst (λ (h : Holder). IsHolder h w.runs) at lawful.runs.held)
  where
    opened : (r : Run) (b : Bool) → is_open r.status ≡ b → is_active r.status ≡ true → b ≡ true
    opened r true o active = refl
    opened r false o active = absurd (let none : ⊥ = cc (sym (ended_is_idle r.status o) ∙ active) in none)

    by_run : (o : Option Run) → run_of n w.runs ≡ o → IsSomeAnd o (λ r. r.plan_only ≡ false) → 1 ≤ open_runs w.runs
    by_run None found queued = absurd queued
    by_run (Some r) found queued =
        let is : IsRun (HoldingRun n) r = all_found (IsRun (HoldingRun n)) n w.runs r (subst (λ (h : Holder). AllByRecursion (IsRun h) w.runs) at lawful.runs.each) found in
        open_found n w.runs r found (opened r (is_open r.status) refl (is.active queued ∙ eq-eqb n r.number (sym (run_of-number n w.runs r found))))

pub held_stays : (act : Act) (now : ℕ) (w : Workspace) → IsLawful w → is_nobody w.holder ≡ false → IsSome (rules act now (there w)).left
held_stays act now w lawful somebody = by_left (rules act now (there w)).left refl
  where
    none_goes : (rules act now (there w)).left ≡ None → (h : Holder) → w.holder ≡ h → is_nobody h ≡ false → ⊥
    none_goes e Nobody at b = let none : ⊥ = cc in none
    none_goes e (Lock id text) at b = subst IsUnlocked at (workspaces_go_by_delete act now w e).1
    none_goes e (HoldingRun n) at b = omega (arith, (workspaces_go_by_delete act now w e).2, run_is_open w n lawful at)

    by_left : (o : Option Workspace) → (rules act now (there w)).left ≡ o → IsSome o
    by_left (Some v) e = refl
    by_left None e = absurd (none_goes e w.holder refl somebody)

-- ---- who is active, and who starts

pub one_is_active : (v : Workspace) → IsLawful v → length (filter is_active_run v.runs) ≤ 1
one_is_active v lawful = active_once v.holder 0 v.runs v.next_run lawful.runs.rise lawful.runs.each

-- every run that waits, and every one that is yet to be made, has a greater number
pub record IsBelow (n : ℕ) (w : Workspace) : Type 0 where
  pub next : n < w.next_run
  pub waiting : (m : ℕ) (r : Run) → run_of m w.runs ≡ Some r → is_waiting r ≡ true → n < m

found_below : (n low : ℕ) (runs : List Run) (most : ℕ) (r : Run) → Rises low (numbers runs) most → run_of n runs ≡ Some r → n < most
found_below n low [] most r rise e = absurd (let none : ⊥ = cc in none)
found_below n low (x ∷ runs) most r rise e = by_test (x.number == n) refl e (λ found. found_below n x.number runs most r rise.2 found)
  where
    by_test : (b : Bool) → (x.number == n) ≡ b → cond b (Some x) (run_of n runs) ≡ Some r → (run_of n runs ≡ Some r → n < most) → n < most
    by_test true t e more = omega (arith, eqb-true x.number n t, rise.1)
    by_test false t e more = more e

-- who holds is there
holder_below : (v : Workspace) (n : ℕ) → IsLawful v → holds v.holder n ≡ true → n < v.next_run
holder_below v n lawful here = by_holder v.holder lawful.runs.held here
  where
    by_run : (o : Option Run) → run_of n v.runs ≡ o → IsSomeAnd o (λ r. r.plan_only ≡ false) → n < v.next_run
    by_run None e queued = absurd queued
    by_run (Some r) e queued = found_below n 0 v.runs v.next_run r lawful.runs.rise e

    by_holder : (h : Holder) → IsHolder h v.runs → holds h n ≡ true → n < v.next_run
    by_holder Nobody own e = absurd (let none : ⊥ = cc in none)
    by_holder (Lock id text) own e = absurd (let none : ⊥ = cc in none)
    by_holder (HoldingRun m) own e = by_run (run_of n v.runs) refl (subst (λ (k : ℕ). IsSomeAnd (run_of k v.runs) (λ r. r.plan_only ≡ false)) (eqb-true m n e) own)

-- a run that starts is below those that wait
pub starts_below : (act : Act) (now : ℕ) (w v : Workspace) (n : ℕ) → IsInRange act → IsMoment now → IsLawful w → (rules act now (there w)).left ≡ Some v → Starts n w v → IsBelow n v
starts_below act now w v n range moment lawful e starts =
    let after : IsLawful v = lawful_after act now (there w) v range moment lawful e in
    let all : AllByRecursion (λ (r : Run). is_waiting r ≡ true → n < r.number) v.runs = (runs_start_in_order act now w v n range moment lawful e starts).1 in
    record {
      next = holder_below v n after starts.1;
      waiting = λ m r found waits. omega (arith, all_found (λ (x : Run). is_waiting x ≡ true → n < x.number) m v.runs r all found waits, run_of-number m v.runs r found);
    }

-- and stays below them
pub stays_below : (act : Act) (now : ℕ) (w v : Workspace) (n : ℕ) → IsLawful w → (rules act now (there w)).left ≡ Some v → IsBelow n w → IsBelow n v
stays_below act now w v n lawful e below = record {
  next = omega (arith, below.next, (numbers_rise act now w v e).0);
  waiting = λ m r found waits. by_way m (waited_before act now w v m r lawful e found waits);
}
  where
    by_way : (m : ℕ) → WaitedOrIsNew m w → n < m
    by_way m (inl h) = below.waiting m h.0 h.1 h.2
    by_way m (inr new) = omega (arith, below.next, new)

-- so that who starts later has a greater number
pub starts_above : (act : Act) (now : ℕ) (w v : Workspace) (n m : ℕ) → IsInRange act → IsMoment now → IsLawful w → (rules act now (there w)).left ≡ Some v → IsBelow n w → Starts m w v → n < m
starts_above act now w v n m range moment lawful e below starts = by_way (runs_start_in_order act now w v m range moment lawful e starts).0
  where
    by_way : WaitedOrIsNew m w → n < m
    by_way (inl h) = below.waiting m h.0 h.1 h.2
    by_way (inr new) = omega (arith, below.next, new)

-- ---- many acts

-- what some acts in their ranges, one after another, leave
abbrev pub Reaches : Workspace → Workspace → Type 0
Reaches v u = (acts : List (Act × ℕ)) × AreInRange acts × Leads acts v u

pub reaches_itself : (v : Workspace) → Reaches v v
reaches_itself v = ([], tt, refl)

in_range_more : (acts : List (Act × ℕ)) (a : Act × ℕ) → AreInRange acts → IsInRange a.0 × IsMoment a.1 → AreInRange (acts ++ a ∷ [])
in_range_more [] a range one = (one, tt)
in_range_more (b ∷ acts) a range one = (range.0, in_range_more acts a range.1 one)

leads_more : (acts : List (Act × ℕ)) (a : Act × ℕ) (v u x : Workspace) → Leads acts v u → (rules a.0 a.1 (there u)).left ≡ Some x → Leads (acts ++ a ∷ []) v x
leads_more [] a v u x leads e = (x, subst (λ (y : Workspace). (rules a.0 a.1 (there y)).left ≡ Some x) leads e, refl)
leads_more (b ∷ acts) a v u x leads e = (leads.0, leads.1, leads_more acts a leads.0 u x leads.2 e)

pub reaches_more : (act : Act) (now : ℕ) (v u x : Workspace) → Reaches v u → IsInRange act → IsMoment now → (rules act now (there u)).left ≡ Some x → Reaches v x
reaches_more act now v u x h range moment e = (h.0 ++ (act, now) ∷ [], in_range_more h.0 (act, now) h.1 (range, moment), leads_more h.0 (act, now) v u x h.2 e)
