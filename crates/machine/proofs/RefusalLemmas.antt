-- Refusals: they change nothing, they tell the holder, and an accepted write carried the holder's ID.
use Rattle.machine.proofs.Outside.{◌≡◌, ◌⊎◌, inl, inr, ℕ, Bool, true, false, Some, None, sym, ap, subst, ◌∙◌, refl, Locked, SettingsAsk, Holder}
use Rattle.machine.specs.Custody.{IsRefusal, RefusalsChangeNothing, RefusalsNameTheHolder, WritesCarryTheId}
use Rattle.machine.specs.Records.{Seen, missing, there}
use Rattle.machine.specs.Rules.{Outcome, refused, held, Ruling, rules, rules_missing}
use Rattle.machine.specs.declared.acts.Act.{Act}
use Rattle.machine.specs.declared.acts.Act.TheVariants.{PutWorkspace}
use Rattle.machine.proofs.Rulings.{IsPut, Misses, put_or_missed, Comes, it_stays, it_goes, it_changes, comes, all_writes}

pub refusals_change_nothing : RefusalsChangeNothing
refusals_change_nothing act now (missing room) is = by_act (put_or_missed act)
  where
    made : (room : Bool) (ask : SettingsAsk) → IsRefusal (rules_missing (PutWorkspace ask) room).answer → (rules_missing (PutWorkspace ask) room).left ≡ None
    made true ask is = absurd is
    made false ask is = refl

    by_act : IsPut act ⊎ Misses act → (rules_missing act room).left ≡ None
    by_act (inl put) =
        subst (λ (a : Act). (rules_missing a room).left ≡ None) (sym put.1) (made room put.0 (subst (λ (a : Act). IsRefusal (rules_missing a room).answer) put.1 is))
    by_act (inr misses) = ap (λ (r : Ruling). r.left) (misses room).0
refusals_change_nothing act now (there w) is = by_case (comes act now w)
  where
    by_case : Comes act now w (rules act now (there w)) → (rules act now (there w)).left ≡ Some w
    by_case (it_stays stays) = stays.left
    by_case (it_goes goes) = absurd (subst (λ (r : Ruling). IsRefusal r.answer) goes.is is)
    by_case (it_changes changes) = absurd (changes.accepted (subst (λ (r : Ruling). IsRefusal r.answer) changes.is is))

pub refusals_name_the_holder : RefusalsNameTheHolder
refusals_name_the_holder act now w holder e = by_case (comes act now w)
  where
    by_case : Comes act now w (rules act now (there w)) → holder ≡ w.holder
    by_case (it_stays stays) = stays.reports holder e
    by_case (it_goes goes) = absurd (let none : ⊥ = cc (sym (ap (λ (r : Ruling). r.answer) goes.is) ∙ e) in none)
    by_case (it_changes changes) = absurd (changes.accepted (subst IsRefusal (sym e ∙ ap (λ (r : Ruling). r.answer) changes.is) tt))

pub writes_carry_the_id : WritesCarryTheId
writes_carry_the_id act now w id writes e = (all_writes act now w id writes).carries e

-- a workspace that is missing has no holder to tell
pub missing_names_no_holder : (act : Act) (room : Bool) (holder : Holder) → (rules_missing act room).answer ≡ held holder → ⊥
missing_names_no_holder act room holder e = by_act (put_or_missed act)
  where
    made : (room : Bool) (ask : SettingsAsk) → (rules_missing (PutWorkspace ask) room).answer ≡ held holder → ⊥
    made true ask e = cc
    made false ask e = cc

    by_act : IsPut act ⊎ Misses act → ⊥
    by_act (inl put) = made room put.0 (subst (λ (a : Act). (rules_missing a room).answer ≡ held holder) put.1 e)
    by_act (inr misses) = let none : ⊥ = cc (sym (ap (λ (r : Ruling). r.answer) (misses room).0) ∙ e) in none

-- what is refused since somebody holds tells who
abbrev pub IsOther : Outcome → Type 0
IsOther o = o ≡ refused Locked → ⊥

missing_other : (act : Act) (room : Bool) → IsOther (rules_missing act room).answer
missing_other act room e = by_act (put_or_missed act)
  where
    made : (room : Bool) (ask : SettingsAsk) → IsOther (rules_missing (PutWorkspace ask) room).answer
    made true ask e = cc
    made false ask e = cc

    by_act : IsPut act ⊎ Misses act → ⊥
    by_act (inl put) = made room put.0 (subst (λ (a : Act). (rules_missing a room).answer ≡ refused Locked) put.1 e)
    by_act (inr misses) = let none : ⊥ = cc (sym (ap (λ (r : Ruling). r.answer) (misses room).0) ∙ e) in none

pub never_refused_as_locked : (act : Act) (now : ℕ) (s : Seen) → IsOther (rules act now s).answer
never_refused_as_locked act now (missing room) e = missing_other act room e
never_refused_as_locked act now (there w) e = by_case (comes act now w)
  where
    by_case : Comes act now w (rules act now (there w)) → ⊥
    by_case (it_stays stays) = stays.unlocked e
    by_case (it_goes goes) = let none : ⊥ = cc (sym (ap (λ (r : Ruling). r.answer) goes.is) ∙ e) in none
    by_case (it_changes changes) = changes.accepted (subst IsRefusal (sym e ∙ ap (λ (r : Ruling). r.answer) changes.is) tt)
