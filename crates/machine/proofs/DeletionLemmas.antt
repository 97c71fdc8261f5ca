-- What DELETE of a workspace comes to: it is refused and the workspace stays, or the workspace goes.
use Rattle.machine.proofs.Outside.{◌≡◌, ◌⊎◌, inl, inr, nat_lt, Bool, true, false, ◌||◌, cond, Some, None, refl, sym, ap, subst, ◌∙◌, arith, ltb-false, OpenRuns, Locked, Holder, Nobody, Lock, Run}
use Rattle.machine.specs.Effects.{effect}
use Rattle.machine.specs.Custody.{IsRefusal, IsUnlocked}
use Rattle.machine.specs.Removal.{is_locked, DeleteAsksTheSame}
use Rattle.machine.specs.Workspaces.{open_runs}
use Rattle.machine.specs.Rules.{refused, held, done, Ruling, delete}
use Rattle.machine.specs.declared.records.Workspace.{Workspace}

-- it is refused: the workspace stays, and whoever holds is told
pub record IsKept (ruling : Ruling) (w : Workspace) : Type 0 where
  pub left : ruling.left ≡ Some w
  pub refusal : IsRefusal ruling.answer
  pub reports : (holder : Holder) → ruling.answer ≡ held holder → holder ≡ w.holder
  pub unlocked : ruling.answer ≡ refused Locked → ⊥

-- it goes: no lock holds, and no run is open
pub record IsGone (ruling : Ruling) (w : Workspace) : Type 0 where
  pub is : ruling ≡ effect done None
  pub unheld : IsUnlocked w.holder
  pub idle : open_runs w.runs ≡ 0

idle_comes : (w : Workspace) → IsUnlocked w.holder → (b : Bool) → nat_lt 0 (open_runs w.runs) ≡ b
    → IsKept (cond b (effect (refused OpenRuns) (Some w)) (effect done None)) w ⊎ IsGone (cond b (effect (refused OpenRuns) (Some w)) (effect done None)) w
idle_comes w free true e = inl (record { left = refl; refusal = tt; reports = λ holder t. absurd (let none : ⊥ = cc in none); unlocked = λ t. cc })
idle_comes w free false e = inr (record { is = refl; unheld = free; idle = omega (arith, ltb-false 0 (open_runs w.runs) e) })

by_holder : (w : Workspace) (h : Holder) → w.holder ≡ h → IsKept (delete h w) w ⊎ IsGone (delete h w) w
by_holder w Nobody at = idle_comes w (subst IsUnlocked (sym at) tt) (nat_lt 0 (open_runs w.runs)) refl
by_holder w (Lock id text) at = inl (record { left = refl; refusal = tt; reports = λ holder t. cc; unlocked = λ t. cc })
by_holder w (Run n) at = idle_comes w (subst IsUnlocked (sym at) tt) (nat_lt 0 (open_runs w.runs)) refl

pub delete_comes : (w : Workspace) → IsKept (delete w.holder w) w ⊎ IsGone (delete w.holder w) w
delete_comes w = by_holder w w.holder refl

-- what is left of it is the workspace as it was
pub delete_left : (w v : Workspace) → (delete w.holder w).left ≡ Some v → Some w ≡ Some v
delete_left w v e = by_case (delete_comes w)
  where
    by_case : IsKept (delete w.holder w) w ⊎ IsGone (delete w.holder w) w → Some w ≡ Some v
    by_case (inl kept) = sym kept.left ∙ e
    by_case (inr gone) = absurd (let none : ⊥ = cc (sym (ap (λ (r : Ruling). r.left) gone.is) ∙ e) in none)

pub delete_again : (w v : Workspace) → (delete w.holder w).left ≡ Some v → (delete v.holder v).left ≡ Some v
delete_again w v e =
    let same_one : w ≡ v = let same = delete_left w v e in cc in
    subst (λ (x : Workspace). (delete x.holder x).left ≡ Some v) same_one e

-- it is refused where the workspace is in use, and only there
idle_asks : (w : Workspace) (b : Bool) → (b ≡ true → IsRefusal (cond b (effect (refused OpenRuns) (Some w)) (effect done None)).answer)
    × (b ≡ false → (cond b (effect (refused OpenRuns) (Some w)) (effect done None)).left ≡ None)
idle_asks w true = (λ used. tt, λ unused. absurd (let none : ⊥ = cc in none))
idle_asks w false = (λ used. absurd (let none : ⊥ = cc in none), λ unused. refl)

use_asks : (w : Workspace) (h : Holder) → ((is_locked h || nat_lt 0 (open_runs w.runs)) ≡ true → IsRefusal (delete h w).answer)
    × ((is_locked h || nat_lt 0 (open_runs w.runs)) ≡ false → (delete h w).left ≡ None)
use_asks w Nobody = idle_asks w (nat_lt 0 (open_runs w.runs))
use_asks w (Lock id text) = (λ used. tt, λ unused. absurd (let none : ⊥ = cc in none))
use_asks w (Run n) = idle_asks w (nat_lt 0 (open_runs w.runs))

pub delete_asks_the_same : DeleteAsksTheSame
delete_asks_the_same now w = use_asks w w.holder
