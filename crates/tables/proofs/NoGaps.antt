-- Versions without a gap: the rules leave none, and the number of the oldest ones that go follows from the next one.
use Rattle.tables.proofs.Outside.{◌≡◌, ◌⊎◌, inl, inr, ℕ, zero, suc, ◌+◌, ◌-◌, ◌≤◌, Bool, true, false, cond, List, [], ◌∷◌, ◌++◌, length, map, take, drop, slice_get, Option, Some, None, option_map, is_some, IfSome, refl, sym, ap, subst, ◌∙◌, arith, SettingsAsk, Rises, Seen, missing, there, standing, started_if, to_start, first_waiting, settled, version_of, newest, last_of, outgoing, Act, PutWorkspace, Version, Workspace, found_by_number, last_taken, none_up_to, there_is, IsPut, Misses, put_or_missed, Way, version_comes, versions_go, settings_come, lock_comes, lock_goes, run_comes, run_goes_on, Comes, it_stays, it_goes, it_changes, comes}
use Rattle.machine.specs.Rules.{Outcome, Ruling, with_version, with_settings, rules_missing, rules}
use Rattle.machine.proofs.LawLemmas.{number_left-is}
use Rattle.tables.specs.Sound.{HasNoGap, IsGapless}

-- without a gap: a number more at the end, and the first ones gone
no_gap-push : (vs : List Version) (v : Version) → HasNoGap (map (λ (v : Version). v.number) vs) v.number → HasNoGap (map (λ (v : Version). v.number) (vs ++ v ∷ [])) (v.number + 1)
no_gap-push [] v h = refl
no_gap-push (u ∷ []) v h = (h, refl)
no_gap-push (u ∷ w ∷ vs) v h = (h.0, no_gap-push (w ∷ vs) v h.1)

no_gap-drop : (k : ℕ) (vs : List Version) (next : ℕ) → HasNoGap (map (λ (v : Version). v.number) vs) next → HasNoGap (map (λ (v : Version). v.number) (drop k vs)) next
no_gap-drop zero vs next h = h
no_gap-drop (suc k) [] next h = tt
no_gap-drop (suc k) (v ∷ []) next h = no_gap-drop k [] next tt
no_gap-drop (suc k) (v ∷ w ∷ vs) next h = no_gap-drop k (w ∷ vs) next h.1

-- who starts has no part in it
started_is_gapless : (start : Option ℕ) (w : Workspace) → IsGapless w → IsGapless (started_if start w)
started_is_gapless None w gapless = gapless
started_is_gapless (Some n) w gapless = gapless

pub rules_leave_no_gap : (act : Act) (now : ℕ) (s : Seen) → IfSome (standing s) IsGapless → IfSome (rules act now s).left IsGapless
rules_leave_no_gap act now (missing room) gapless = by_act (put_or_missed act)
  where
    made : (room : Bool) (ask : SettingsAsk) → IfSome (rules_missing (PutWorkspace ask) room).left IsGapless
    made true ask = tt
    made false ask = tt

    by_act : IsPut act ⊎ Misses act → IfSome (rules_missing act room).left IsGapless
    by_act (inl put) = subst (λ (a : Act). IfSome (rules_missing a room).left IsGapless) (sym put.1) (made room put.0)
    by_act (inr misses) = subst (λ (r : Ruling). IfSome r.left IsGapless) (sym (misses room).0) tt
rules_leave_no_gap act now (there w) gapless = by_case (comes act now w)
  where
    settles : (u v : Workspace) → u ≡ v → IsGapless v → IsGapless (settled u)
    settles u v is follow = started_is_gapless (to_start u.holder (first_waiting u.runs)) u (subst IsGapless (sym is) follow)

    by_way : (u : Workspace) (answer : Outcome) → Way act now w u answer → IsGapless (settled u)
    by_way u answer (version_comes v) =
        let follow : HasNoGap (map (λ (x : Version). x.number) w.versions) v.number = subst (HasNoGap (map (λ (x : Version). x.number) w.versions)) (sym (number_left-is w.next_version v.number v.left).0) gapless in
        let staying : ℕ = w.settings.retention - 1 in
        settles u (with_version w v.number v.head v.text now) v.is
        (no_gap-push (last_of staying w.versions) (record { number = v.number; serial = v.head.serial; lineage = v.head.lineage; created = now; text = v.text }) (no_gap-drop (length w.versions - staying) w.versions v.number follow))
    by_way u answer (versions_go v) = settles u _ v.is tt
    by_way u answer (settings_come v) = settles u (with_settings w v.settings) v.is (no_gap-drop (length w.versions - v.settings.retention) w.versions w.next_version gapless)
    by_way u answer (lock_comes v) = settles u _ v.is gapless
    by_way u answer (lock_goes v) = settles u _ v.is gapless
    by_way u answer (run_comes v) = settles u _ v.made.2 gapless
    by_way u answer (run_goes_on v) = settles u _ v.reported.is gapless

    by_case : Comes act now w (rules act now (there w)) → IfSome (rules act now (there w)).left IsGapless
    by_case (it_stays stays) = subst (λ (o : Option Workspace). IfSome o IsGapless) (sym stays.left) gapless
    by_case (it_goes goes) = subst (λ (r : Ruling). IfSome r.left IsGapless) (sym goes.is) tt
    by_case (it_changes changes) = subst (λ (r : Ruling). IfSome r.left IsGapless) (sym changes.is) (by_way changes.to changes.answer changes.way)

-- a number is as far below the next one as its place is from the end
number_by_place : (i next : ℕ) (vs : List Version) (u : Version) → HasNoGap (map (λ (w : Version). w.number) vs) next → slice_get vs i ≡ Some u → u.number + length vs ≡ next + i
number_by_place zero next [] u follow e = absurd (let none : ⊥ = cc in none)
number_by_place (suc i) next [] u follow e = absurd (let none : ⊥ = cc in none)
number_by_place zero next (v ∷ []) u follow e =
    let same : v.number ≡ u.number = cc in
    omega (arith, follow, same)
number_by_place (suc zero) next (v ∷ []) u follow e = absurd (let none : ⊥ = cc in none)
number_by_place (suc (suc i)) next (v ∷ []) u follow e = absurd (let none : ⊥ = cc in none)
number_by_place zero next (v ∷ w ∷ vs) u follow e =
    let same : v.number ≡ u.number = cc in
    let later : w.number + length (w ∷ vs) ≡ next + 0 = number_by_place zero next (w ∷ vs) w follow.1 refl in
    omega (arith, follow.0, same, later)
number_by_place (suc i) next (v ∷ w ∷ vs) u follow e =
    let later : u.number + length (w ∷ vs) ≡ next + i = number_by_place i next (w ∷ vs) u follow.1 e in
    omega (arith, later)

-- no version is as far below the next one as there are versions
none_that_far : (staying next : ℕ) (vs : List Version) → length vs ≤ staying → Rises 0 (map (λ (u : Version). u.number) vs) next → HasNoGap (map (λ (u : Version). u.number) vs) next
    → version_of (next - 1 - staying) vs ≡ None
none_that_far staying next [] few rise follow = refl
none_that_far staying next (v ∷ vs) few rise follow =
    let far : v.number + length (v ∷ vs) ≡ next + 0 = number_by_place zero next (v ∷ vs) v follow refl in
    none_up_to (v.number - 1) next (next - 1 - staying) (v ∷ vs) (omega (arith, rise.0), rise.1, rise.2) (omega (arith, rise.0, few, far))

-- the greatest number of those that go is as far below the last one as versions stay, if a version has it
pub outgoing_by_number : (staying next : ℕ) (vs : List Version) → Rises 0 (map (λ (u : Version). u.number) vs) next → HasNoGap (map (λ (u : Version). u.number) vs) next
    → outgoing staying vs ≡ cond (is_some (version_of (next - 1 - staying) vs)) (Some (next - 1 - staying)) None
outgoing_by_number staying next vs rise follow = by_count (length vs - staying) refl
  where
    by_count : (k : ℕ) → length vs - staying ≡ k → option_map (λ (u : Version). u.number) (newest (take k vs)) ≡ cond (is_some (version_of (next - 1 - staying) vs)) (Some (next - 1 - staying)) None
    by_count zero e = sym (ap (λ (o : Option Version). cond (is_some o) (Some (next - 1 - staying)) None) (none_that_far staying next vs (omega (arith, e)) rise follow))
    by_count (suc n) e =
        let found : (u : Version) × (slice_get vs n ≡ Some u) = there_is n vs (omega (arith, e)) in
        let far : found.0.number + length vs ≡ next + n = number_by_place n next vs found.0 follow found.1 in
        let is : found.0.number ≡ next - 1 - staying = omega (arith, e, far) in
        ap (option_map (λ (u : Version). u.number)) (last_taken n vs (omega (arith, e)) ∙ found.1)
        ∙ sym (ap (λ (b : Bool). cond b (Some found.0.number) None) (found_by_number n vs found.0 found.1))
        ∙ ap (λ (m : ℕ). cond (is_some (version_of m vs)) (Some m) None) is
