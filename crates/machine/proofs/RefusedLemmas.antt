-- What a refusal is answered: it, or who holds where it is `Locked`.
use Rattle.machine.proofs.Outside.{◌≡◌, ◌⊎◌, inl, inr, refl, sym, subst, ◌∙◌, Refusal, BadMessage, TwoTokens, BadQuery, BadDigest, BadState, BadLock, BadBody, NoToken, BadToken, NeedWrite, NeedAdmin, NoRoute, NotFound, NoMethod, NotHeld, NotApplying, OtherLineage, OldSerial, WrongState, HeldByRun, OpenRuns, OverLimit, Locked, NoLength, TooLarge, HeadTooLarge, Unavailable, BadSecret, Exists, Absent, InUse, Holder}
use Rattle.machine.specs.Custody.{IsRefusal}
use Rattle.machine.specs.Rules.{Outcome, refused, held, done, refused_by}

-- it is told as it is, and isn't `Locked`
abbrev IsRefusedPlainly : Refusal → Outcome → Type 0
IsRefusedPlainly refusal answer = (answer ≡ refused refusal) × (refusal ≡ Locked → ⊥)

answered_or_held : (refusal : Refusal) (h : Holder) → IsRefusedPlainly refusal (refused_by refusal h) ⊎ (refused_by refusal h ≡ held h)
answered_or_held BadMessage h = inl (refl, λ e. let none : ⊥ = cc in none)
answered_or_held TwoTokens h = inl (refl, λ e. let none : ⊥ = cc in none)
answered_or_held BadQuery h = inl (refl, λ e. let none : ⊥ = cc in none)
answered_or_held BadDigest h = inl (refl, λ e. let none : ⊥ = cc in none)
answered_or_held BadState h = inl (refl, λ e. let none : ⊥ = cc in none)
answered_or_held BadLock h = inl (refl, λ e. let none : ⊥ = cc in none)
answered_or_held BadBody h = inl (refl, λ e. let none : ⊥ = cc in none)
answered_or_held NoToken h = inl (refl, λ e. let none : ⊥ = cc in none)
answered_or_held BadToken h = inl (refl, λ e. let none : ⊥ = cc in none)
answered_or_held NeedWrite h = inl (refl, λ e. let none : ⊥ = cc in none)
answered_or_held NeedAdmin h = inl (refl, λ e. let none : ⊥ = cc in none)
answered_or_held NoRoute h = inl (refl, λ e. let none : ⊥ = cc in none)
answered_or_held NotFound h = inl (refl, λ e. let none : ⊥ = cc in none)
answered_or_held (NoMethod allow) h = inl (refl, λ e. let none : ⊥ = cc in none)
answered_or_held NotHeld h = inl (refl, λ e. let none : ⊥ = cc in none)
answered_or_held NotApplying h = inl (refl, λ e. let none : ⊥ = cc in none)
answered_or_held OtherLineage h = inl (refl, λ e. let none : ⊥ = cc in none)
answered_or_held OldSerial h = inl (refl, λ e. let none : ⊥ = cc in none)
answered_or_held WrongState h = inl (refl, λ e. let none : ⊥ = cc in none)
answered_or_held HeldByRun h = inl (refl, λ e. let none : ⊥ = cc in none)
answered_or_held OpenRuns h = inl (refl, λ e. let none : ⊥ = cc in none)
answered_or_held OverLimit h = inl (refl, λ e. let none : ⊥ = cc in none)
answered_or_held NoLength h = inl (refl, λ e. let none : ⊥ = cc in none)
answered_or_held TooLarge h = inl (refl, λ e. let none : ⊥ = cc in none)
answered_or_held HeadTooLarge h = inl (refl, λ e. let none : ⊥ = cc in none)
answered_or_held Unavailable h = inl (refl, λ e. let none : ⊥ = cc in none)
answered_or_held BadSecret h = inl (refl, λ e. let none : ⊥ = cc in none)
answered_or_held Exists h = inl (refl, λ e. let none : ⊥ = cc in none)
answered_or_held Absent h = inl (refl, λ e. let none : ⊥ = cc in none)
answered_or_held InUse h = inl (refl, λ e. let none : ⊥ = cc in none)
answered_or_held Locked h = inr refl

-- it is never done, tells of the holder alone, and never that one holds without who
pub never_done : (refusal : Refusal) (h : Holder) → refused_by refusal h ≡ done → ⊥
never_done refusal h e = by_way (answered_or_held refusal h)
  where
    by_way : IsRefusedPlainly refusal (refused_by refusal h) ⊎ (refused_by refusal h ≡ held h) → ⊥
    by_way (inl answered) = let none : ⊥ = cc (sym answered.0 ∙ e) in none
    by_way (inr holds) = let none : ⊥ = cc (sym holds ∙ e) in none

pub holder_named : (refusal : Refusal) (h holder : Holder) → refused_by refusal h ≡ held holder → holder ≡ h
holder_named refusal h holder e = by_way (answered_or_held refusal h)
  where
    by_way : IsRefusedPlainly refusal (refused_by refusal h) ⊎ (refused_by refusal h ≡ held h) → holder ≡ h
    by_way (inl answered) = absurd (let none : ⊥ = cc (sym answered.0 ∙ e) in none)
    by_way (inr holds) = let same : held h ≡ held holder = sym holds ∙ e in let one : h ≡ holder = cc in sym one

pub refused_other : (refusal : Refusal) (h : Holder) → refused_by refusal h ≡ refused Locked → ⊥
refused_other refusal h e = by_way (answered_or_held refusal h)
  where
    by_way : IsRefusedPlainly refusal (refused_by refusal h) ⊎ (refused_by refusal h ≡ held h) → ⊥
    by_way (inl answered) = answered.1 (let same : refused refusal ≡ refused Locked = sym answered.0 ∙ e in let one : refusal ≡ Locked = cc in one)
    by_way (inr holds) = let none : ⊥ = cc (sym holds ∙ e) in none

pub refuses : (refusal : Refusal) (h : Holder) → IsRefusal (refused_by refusal h)
refuses refusal h = by_way (answered_or_held refusal h)
  where
    by_way : IsRefusedPlainly refusal (refused_by refusal h) ⊎ (refused_by refusal h ≡ held h) → IsRefusal (refused_by refusal h)
    by_way (inl answered) = subst IsRefusal (sym answered.0) tt
    by_way (inr holds) = subst IsRefusal (sym holds) tt
