-- Settling, as a relation, allows one workspace: the one that the rules give.
use Rattle.machine.proofs.Outside.{◌≡◌, inl, inr, ℕ, ◌<◌, ◌≤◌, ◌==◌, Bool, true, false, cond, List, [], ◌∷◌, map, Option, Some, None, refl, sym, ap, subst, ◌∙◌, arith, eq-eqb, eqb-true, AllByRecursion, Holder}
use Rattle.std.specs.Prelude.{find, option_map}
use Rattle.machine.specs.Workspaces.{run_of, is_numbered}
use Rattle.machine.specs.Laws.{Rises}
use Rattle.machine.specs.Settling.{is_waiting, first_waiting, to_start, started_if, settled, NoneWaits, LeastStarts, Settles, SettlesOnce}
use Rattle.basis.specs.declared.rows.Holder.TheVariants.{Nobody, Lock, Run as HoldingRun}
use Rattle.basis.specs.declared.rows.RunRow.{RunRow as Run}
use Rattle.machine.specs.declared.records.Workspace.{Workspace}
use Rattle.machine.proofs.SettlingLemmas.{least_starts, first_alone}

-- what holds of all holds of what is found
found_of_all : (P : Run → Type 0) (test : Run → Bool) (runs : List Run) (f : Run) → AllByRecursion P runs → find test runs ≡ Some f → P f
found_of_all P test [] f all e = absurd (let none : ⊥ = cc in none)
found_of_all P test (r ∷ runs) f all e = passed (test r) e (λ is. found_of_all P test runs f all.1 is)
  where
    passed : (b : Bool) → cond b (Some r) (find test runs) ≡ Some f → (find test runs ≡ Some f → P f) → P f
    passed true is more = subst P (let same_one : r ≡ f = cc in same_one) all.0
    passed false is more = more is

-- what is found passes the test
pub found_passes : (test : Run → Bool) (runs : List Run) (f : Run) → find test runs ≡ Some f → test f ≡ true
found_passes test [] f e = absurd (let none : ⊥ = cc in none)
found_passes test (r ∷ runs) f e = passed (test r) refl e (λ is. found_passes test runs f is)
  where
    passed : (b : Bool) → test r ≡ b → cond b (Some r) (find test runs) ≡ Some f → (find test runs ≡ Some f → test f ≡ true) → test f ≡ true
    passed true t is more = ap test (let same_one : f ≡ r = cc in same_one) ∙ t
    passed false t is more = more is

pub none_found : (runs : List Run) → find is_waiting runs ≡ None → NoneWaits runs
none_found [] e = tt
none_found (r ∷ runs) e = passed (is_waiting r) refl e (λ is. none_found runs is)
  where
    passed : (b : Bool) → is_waiting r ≡ b → cond b (Some r) (find is_waiting runs) ≡ None → (find is_waiting runs ≡ None → NoneWaits runs) → NoneWaits (r ∷ runs)
    passed true t is more = absurd (let none : ⊥ = cc in none)
    passed false t is more = (t, more is)

none_to_find : (runs : List Run) → NoneWaits runs → find is_waiting runs ≡ None
none_to_find [] all = refl
none_to_find (r ∷ runs) all = ap (λ (b : Bool). cond b (Some r) (find is_waiting runs)) all.0 ∙ none_to_find runs all.1

-- where numbers rise, the run that was found is the one of its number
numbered_itself : (low : ℕ) (runs : List Run) (next : ℕ) (f : Run) → find is_waiting runs ≡ Some f → Rises low (map (λ (r : Run). r.number) runs) next → run_of f.number runs ≡ Some f
numbered_itself low [] next f found rise = absurd (let none : ⊥ = cc in none)
numbered_itself low (r ∷ runs) next f found rise = passed (is_waiting r) found (λ is. numbered_itself r.number runs next f is rise.2) (λ is. (first_alone r.number runs next f is rise.2).0)
  where
    passed : (b : Bool) → cond b (Some r) (find is_waiting runs) ≡ Some f → (find is_waiting runs ≡ Some f → run_of f.number runs ≡ Some f)
        → (find is_waiting runs ≡ Some f → r.number < f.number) → run_of f.number (r ∷ runs) ≡ Some f
    passed true is more above =
        let same_one : r ≡ f = cc in
        ap (λ (b : Bool). cond b (Some r) (run_of f.number runs)) (eq-eqb r.number f.number (ap (λ (s : Run). s.number) same_one)) ∙ ap Some same_one
    passed false is more above =
        apart (r.number == f.number) refl
      where
        apart : (b : Bool) → (r.number == f.number) ≡ b → cond b (Some r) (run_of f.number runs) ≡ Some f
        apart true t = absurd (omega (arith, above is, eqb-true r.number f.number t))
        apart false t = more is

-- the run that starts by the relation is the first that waits
first_is : (low : ℕ) (w v : Workspace) → Rises low (map (λ (r : Run). r.number) w.runs) w.next_run → (s : LeastStarts w v) → (o : Option Run) → find is_waiting w.runs ≡ o
    → option_map (λ (r : Run). r.number) o ≡ Some s.run.number
first_is low w v rise s None e =
    absurd (let waits : is_waiting s.run ≡ false = found_of_all (λ r. is_waiting r ≡ false) (is_numbered s.run.number) w.runs s.run (none_found w.runs e) s.there in
    let none : ⊥ = cc (sym s.waits ∙ waits) in none)
first_is low w v rise s (Some f) e =
    let below : s.run.number ≤ f.number = found_of_all (λ r. is_waiting r ≡ true → s.run.number ≤ r.number) is_waiting w.runs f s.least e (found_passes is_waiting w.runs f e) in
    let above : f.number ≤ s.run.number =
    found_of_all (λ r. is_waiting r ≡ true → f.number ≤ r.number) (is_numbered s.run.number) w.runs s.run
    (least_starts low w.runs w.next_run f.number (ap (option_map (λ (r : Run). r.number)) e) rise) s.there s.waits in
    ap Some (omega (arith, below, above))

idle : (w : Workspace) (h : Holder) → w.holder ≡ h → (w.holder ≡ Nobody → NoneWaits w.runs) → to_start h (first_waiting w.runs) ≡ None
idle w Nobody e none = ap (option_map (λ (r : Run). r.number)) (none_to_find w.runs (none e))
idle w (Lock id text) e none = refl
idle w (HoldingRun n) e none = refl

settles_to : (w v : Workspace) → Rises 0 (map (λ (r : Run). r.number) w.runs) w.next_run → Settles w v → v ≡ settled w
settles_to w v rise (inl h) = h.1 ∙ sym (ap (λ (o : Option ℕ). started_if o w) (idle w w.holder refl h.0))
settles_to w v rise (inr h) =
    h.1.after ∙ sym (ap (λ (o : Option ℕ). started_if o w)
    (ap (λ (x : Holder). to_start x (first_waiting w.runs)) h.0 ∙ first_is 0 w v rise h.1 (find is_waiting w.runs) refl))

settles_from : (w : Workspace) → Rises 0 (map (λ (r : Run). r.number) w.runs) w.next_run → (h : Holder) → w.holder ≡ h → Settles w (started_if (to_start h (first_waiting w.runs)) w)
settles_from w rise Nobody e = waiting (find is_waiting w.runs) refl
  where
    waiting : (o : Option Run) → find is_waiting w.runs ≡ o → Settles w (started_if (option_map (λ (r : Run). r.number) o) w)
    waiting None none = inl ((λ _. none_found w.runs none), refl)
    waiting (Some f) found = inr (
      e,
      record {
        run = f;
        there = numbered_itself 0 w.runs w.next_run f found rise;
        waits = found_passes is_waiting w.runs f found;
        least = least_starts 0 w.runs w.next_run f.number (ap (option_map (λ (r : Run). r.number)) found) rise;
        after = refl;
      },
    )
settles_from w rise (Lock id text) e = inl ((λ nobody. absurd (let none : ⊥ = cc (sym e ∙ nobody) in none)), refl)
settles_from w rise (HoldingRun n) e = inl ((λ nobody. absurd (let none : ⊥ = cc (sym e ∙ nobody) in none)), refl)

pub settles_once : SettlesOnce
settles_once w v rise = (settles_to w v rise, (λ e. subst (Settles w) (sym e) (settles_from w rise w.holder refl)))
