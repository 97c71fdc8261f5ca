-- What becomes of versions: numbers rise, what stays is unchanged, and what is posted is read.
use Rattle.machine.proofs.Outside.{◌≡◌, ◌⊎◌, inl, inr, ℕ, zero, suc, ◌+◌, ◌-◌, ◌≤◌, ◌==◌, Bool, true, false, cond, List, [], ◌∷◌, ◌++◌, length, drop, Option, Some, None, refl, sym, ap, subst, ◌∙◌, arith, option_or, bytes_eq, bytes_eq-Decides, same_Some, Refusal, Settings, StateHead, RunAsk}
use Rattle.machine.specs.Workspaces.{newest, holder_status}
use Rattle.machine.specs.Writing.{may_write}
use Rattle.machine.specs.Settling.{first_waiting, to_start, started_if, settled}
use Rattle.machine.specs.Succession.{Succession, first, same, other_lineage, old_serial, next, succession, after_newest, lineages_differ, is_newer}
use Rattle.machine.specs.Rules.{Outcome, done, no_state, state, state_answer, by_may_write, by_succession, numbered_update, number_left, with_version, with_settings, purge, purged, locked, released, new_run, with_run, with_report}
use Rattle.machine.proofs.RunRulings.{IsReported}
use Rattle.machine.proofs.Rulings.{Way, version_comes, versions_go, settings_come, lock_comes, lock_goes, run_comes, run_goes_on, Leaves, leaves, newest_with, versions_stay}
use Rattle.machine.specs.Units.{find_last, version_of}
use Rattle.machine.specs.Custody.{WhatIsPostedIsRead, NothingIsReadOfAPurge, KeepsVersions, GainsVersion, NumbersRise}
use Rattle.machine.proofs.LawLemmas.{number_left-is}
use Rattle.machine.proofs.PlainLemmas.{find_last_push}
use Rattle.machine.proofs.RefusedLemmas.{never_done}
use Rattle.machine.specs.declared.records.Version.{Version}
use Rattle.machine.specs.declared.records.Workspace.{Workspace}

-- the newest text of a workspace to which a version was added
added_is_read : (w v : Workspace) (n : ℕ) (head : StateHead) (text : List ℕ) (now : ℕ) → Some (settled (with_version w n head text now)) ≡ Some v → state_answer (newest v.versions) ≡ state text
added_is_read w v n head text now e =
    let u : Workspace = with_version w n head text now in
    ap (λ (x : Workspace). state_answer (newest x.versions)) (sym (same_Some (settled u) v e))
    ∙ ap (λ (vs : List Version). state_answer (newest vs)) (versions_stay u (to_start u.holder (first_waiting u.runs)))
    ∙ ap state_answer (newest_with w n head text now)

number_is_read : (w v : Workspace) (head : StateHead) (text : List ℕ) (now : ℕ) (n : Option ℕ) → (numbered_update n w head text now).answer ≡ done
    → (numbered_update n w head text now).left ≡ Some v → state_answer (newest v.versions) ≡ state text
number_is_read w v head text now None is e = absurd (let none : ⊥ = cc in none)
number_is_read w v head text now (Some n) is e = added_is_read w v n head text now e

-- a text that is repeated is the newest
same_is_newest : (head : StateHead) (text : List ℕ) (o : Option Version) → after_newest text head o ≡ same → state_answer o ≡ state text
same_is_newest head text None e = absurd (let none : ⊥ = cc in none)
same_is_newest head text (Some u) e = chosen (bytes_eq u.text text) (lineages_differ u.lineage head.lineage) (is_newer u.serial head.serial) refl e
  where
    chosen : (a b c : Bool) → bytes_eq u.text text ≡ a → cond a same (cond b other_lineage (cond c next old_serial)) ≡ same → state u.text ≡ state text
    chosen true b c t e = ap state ((bytes_eq-Decides u.text text).0 t)
    chosen false true c t e = absurd (let none : ⊥ = cc in none)
    chosen false false true t e = absurd (let none : ⊥ = cc in none)
    chosen false false false t e = absurd (let none : ⊥ = cc in none)

succession_is_read : (w v : Workspace) (head : StateHead) (text : List ℕ) (now : ℕ) (s : Succession) → succession w.versions text head ≡ s
    → (by_succession s w head text now).answer ≡ done → (by_succession s w head text now).left ≡ Some v → state_answer (newest v.versions) ≡ state text
succession_is_read w v head text now first t is e = number_is_read w v head text now (number_left w.next_version) is e
succession_is_read w v head text now same t is e =
    ap (λ (x : Workspace). state_answer (newest x.versions)) (sym (same_Some w v e)) ∙ same_is_newest head text (newest w.versions) t
succession_is_read w v head text now other_lineage t is e = absurd (let none : ⊥ = cc in none)
succession_is_read w v head text now old_serial t is e = absurd (let none : ⊥ = cc in none)
succession_is_read w v head text now next t is e = number_is_read w v head text now (number_left w.next_version) is e

update_is_read : (w v : Workspace) (head : StateHead) (text : List ℕ) (now : ℕ) (m : Option Refusal) → (by_may_write m w head text now).answer ≡ done
    → (by_may_write m w head text now).left ≡ Some v → state_answer (newest v.versions) ≡ state text
update_is_read w v head text now (Some refusal) is e = absurd (never_done refusal w.holder is)
update_is_read w v head text now None is e = succession_is_read w v head text now (succession w.versions text head) refl is e

pub what_is_posted_is_read : WhatIsPostedIsRead
what_is_posted_is_read head text id now later w v is e = update_is_read w v head text now (may_write w.holder (holder_status w.holder w.runs) id) is e

purge_is_read : (w v : Workspace) (m : Option Refusal) → (purge m w).answer ≡ done → (purge m w).left ≡ Some v → state_answer (newest v.versions) ≡ no_state
purge_is_read w v (Some refusal) is e = absurd (never_done refusal w.holder is)
purge_is_read w v None is e =
    ap (λ (x : Workspace). state_answer (newest x.versions)) (sym (same_Some (settled (purged w)) v e))
    ∙ ap (λ (vs : List Version). state_answer (newest vs)) (versions_stay (purged w) (to_start w.holder (first_waiting w.runs)))

pub nothing_is_read_of_a_purge : NothingIsReadOfAPurge
nothing_is_read_of_a_purge id now later w v is e = purge_is_read w v (may_write w.holder (holder_status w.holder w.runs) id) is e

-- what is found among the last of a list is found in it
or_some : {X : Type 0} (o p : Option X) (x : X) → o ≡ Some x → option_or o p ≡ Some x
or_some o p x e = rw e refl

found_in_last : {X : Type 0} (test : X → Bool) (k : ℕ) (xs : List X) (x : X) → find_last test (drop k xs) ≡ Some x → find_last test xs ≡ Some x
found_in_last test zero xs x e = e
found_in_last test (suc k) [] x e = e
found_in_last test (suc k) (y ∷ xs) x e = or_some (find_last test xs) (cond (test y) (Some y) None) x (found_in_last test k xs x e)

-- of versions of which the oldest went
found_or_made : (n k : ℕ) (vs : List Version) (made u : Version) → version_of n (drop k vs ++ made ∷ []) ≡ Some u → (u ≡ made) ⊎ (version_of n vs ≡ Some u)
found_or_made n k vs made u e =
    chosen (made.number == n) (sym (find_last_push (λ (v : Version). v.number == n) (drop k vs) made) ∙ e)
  where
    chosen : (b : Bool) → cond b (Some made) (version_of n (drop k vs)) ≡ Some u → (u ≡ made) ⊎ (version_of n vs ≡ Some u)
    chosen true e = inl (let same_one : made ≡ u = cc in sym same_one)
    chosen false e = inr (found_in_last (λ (v : Version). v.number == n) k vs u e)

abbrev Numbers : Workspace → Workspace → Type 0
Numbers w v = (w.next_run ≤ v.next_run) × (KeepsVersions w v ⊎ GainsVersion w v)

-- nothing is made, where the next numbers and the versions stay
kept_numbers : (w v : Workspace) → v.next_run ≡ w.next_run → v.next_version ≡ w.next_version → v.versions ≡ w.versions → Numbers w v
kept_numbers w v run version same_ones = (
  omega (arith, run),
  inl (record { next = version; left = λ n u e. subst (λ (vs : List Version). version_of n vs ≡ Some u) same_ones e }),
)

-- a run that starts leaves numbers and versions
started_numbers : (w u : Workspace) (o : Option ℕ) → Numbers w u → Numbers w (started_if o u)
started_numbers w u None h = h
started_numbers w u (Some n) (le, inl h) = (le, inl (record { next = h.next; left = h.left }))
started_numbers w u (Some n) (le, inr h) = (le, inr (record { made = h.made; number = h.number; newest = h.newest; next = h.next; left = h.left }))

made_numbers : (w : Workspace) (n : ℕ) (head : StateHead) (text : List ℕ) (now : ℕ) → number_left w.next_version ≡ Some n → Numbers w (with_version w n head text now)
made_numbers w n head text now e =
    let made : Version = record { number = n; serial = head.serial; lineage = head.lineage; created = now; text = text } in
    let is : n ≡ w.next_version = (number_left-is w.next_version n e).0 in (
      omega arith,
      inr (record {
        made = made;
        number = is;
        newest = newest_with w n head text now;
        next = ap (λ (m : ℕ). m + 1) is;
        left = λ m u found. found_or_made m (length w.versions - (w.settings.retention - 1)) w.versions made u found;
      }),
    )

-- what is left after a PUT was there
set_numbers : (w : Workspace) (settings : Settings) → Numbers w (with_settings w settings)
set_numbers w settings =
    (omega arith, inl (record { next = refl; left = λ n u e. found_in_last (λ (v : Version). v.number == n) (length w.versions - settings.retention) w.versions u e }))

-- none are left after a purge
purged_numbers : (w : Workspace) → Numbers w (purged w)
purged_numbers w = (omega arith, inl (record { next = refl; left = λ n u e. absurd (let none : ⊥ = cc in none) }))

-- a run more, or an action: versions stay
made_run_numbers : (w : Workspace) (ask : RunAsk) (now n : ℕ) → number_left w.next_run ≡ Some n → Numbers w (with_run (new_run n ask now) w)
made_run_numbers w ask now n e = (omega (arith, (number_left-is w.next_run n e).0), inl (record { next = refl; left = λ m u found. found }))

pub numbers_rise : NumbersRise
numbers_rise act now w v e = by_case (leaves act now w v e)
  where
    by_way : (u : Workspace) (answer : Outcome) → Way act now w u answer → Numbers w u
    by_way u answer (version_comes x) = subst (Numbers w) (sym x.is) (made_numbers w x.number x.head x.text now x.left)
    by_way u answer (versions_go x) = subst (Numbers w) (sym x.is) (purged_numbers w)
    by_way u answer (settings_come x) = subst (Numbers w) (sym x.is) (set_numbers w x.settings)
    by_way u answer (lock_comes x) = subst (Numbers w) (sym x.is) (kept_numbers w (locked x.id x.text w) refl refl refl)
    by_way u answer (lock_goes x) = subst (Numbers w) (sym x.is) (kept_numbers w (released x.id w) refl refl refl)
    by_way u answer (run_comes x) = subst (Numbers w) (sym x.made.2) (made_run_numbers w x.ask now x.made.0 x.made.1)
    by_way u answer (run_goes_on x) = let is : IsReported w x.n x.action u = x.reported in subst (Numbers w) (sym is.is) (kept_numbers w (with_report x.n x.action is.status w) refl refl refl)

    by_case : (w ≡ v) ⊎ Leaves act now w v → Numbers w v
    by_case (inl still) = subst (Numbers w) still (kept_numbers w w refl refl refl)
    by_case (inr l) = subst (Numbers w) l.settles (started_numbers w l.to (to_start l.to.holder (first_waiting l.to.runs)) (by_way l.to l.answer l.way))
