-- Looks at the heads of pages.
use Rattle.checks.proofs.Outside.{◌≡◌, ◌≤◌, ◌<◌, true, false, List, arith, refl, sym, ◌∙◌, true≢false, inl, inr, Kept, VpageRow, PageHead}
use Rattle.checks.specs.declared.found.Fault.{Fault}
use Rattle.checks.specs.declared.found.FaultKind.TheVariants as kind
use Rattle.checks.specs.declared.found.Found.{Found}
use Rattle.checks.specs.Judging.{noted, Judges}
use Rattle.checks.specs.Faults.{page_fault, OfHead}
use Rattle.checks.specs.Inner.Heads.{IsSoundHead}
use Rattle.checks.proofs.JudgingLemmas.{judges_this, judges_none}

module _ (vpages : List (Kept VpageRow)) (h : PageHead) (x y : Found) where
  pub unused_judged : h.uses < 1 → y.faults ≡ noted (page_fault kind.Uses vpages h) x.faults → Judges (OfHead vpages h) (IsSoundHead h) x y
  unused_judged low is = judges_this (page_fault kind.Uses vpages h) x y (λ law. let used = law.used in omega (arith, low, used)) is (inl (low, refl)) only
    where
      only : (f : Fault) → OfHead vpages h f → f ≡ page_fault kind.Uses vpages h
      only f (inl says) = says.1
      only f (inr (inl says)) = let used = says.0 in absurd (omega (arith, low, used))
      only f (inr (inr says)) = let used = says.0 in absurd (omega (arith, low, used))

  pub unkeyed_judged : 1 ≤ h.uses → h.is_keyed ≡ false → y.faults ≡ noted (page_fault kind.Key vpages h) x.faults → Judges (OfHead vpages h) (IsSoundHead h) x y
  unkeyed_judged used keyed is = judges_this (page_fault kind.Key vpages h) x y (λ law. true≢false (sym law.keyed ∙ keyed)) is (inr (inl (used, keyed, refl))) only
    where
      only : (f : Fault) → OfHead vpages h f → f ≡ page_fault kind.Key vpages h
      only f (inl says) = let low = says.0 in absurd (omega (arith, low, used))
      only f (inr (inl says)) = says.2
      only f (inr (inr says)) = absurd (true≢false (sym says.1 ∙ keyed))

  pub second_judged : 1 ≤ h.uses → h.is_keyed ≡ true → h.is_first ≡ false → y.faults ≡ noted (page_fault kind.SamePage vpages h) x.faults → Judges (OfHead vpages h) (IsSoundHead h) x y
  second_judged used keyed first is = judges_this (page_fault kind.SamePage vpages h) x y (λ law. true≢false (sym law.first ∙ first)) is (inr (inr (used, keyed, first, refl))) only
    where
      only : (f : Fault) → OfHead vpages h f → f ≡ page_fault kind.SamePage vpages h
      only f (inl says) = let low = says.0 in absurd (omega (arith, low, used))
      only f (inr (inl says)) = absurd (true≢false (sym keyed ∙ says.1))
      only f (inr (inr says)) = says.3

  pub sound_judged : 1 ≤ h.uses → h.is_keyed ≡ true → h.is_first ≡ true → Judges (OfHead vpages h) (IsSoundHead h) x x
  sound_judged used keyed first = judges_none x (record { used = used; keyed = keyed; first = first }) none
    where
      none : (f : Fault) → OfHead vpages h f → ⊥
      none f (inl says) = let low = says.0 in omega (arith, low, used)
      none f (inr (inl says)) = true≢false (sym keyed ∙ says.1)
      none f (inr (inr says)) = true≢false (sym first ∙ says.2)
