-- What PUT comes to of a workspace that is there: it is refused and the workspace stays, or the workspace gets the settings.
use Rattle.machine.proofs.Outside.{◌≡◌, ◌⊎◌, inl, inr, ℕ, ◌≤◌, nat_lt, Bool, true, false, not, ◌&&◌, cond, List, length, Option, Some, None, IfSome, refl, ap, subst, ◌∙◌, arith, ltb-false, le-ltb, Locked, Settings, SettingsAsk}
use Rattle.basis.specs.declared.rows.RunSettings.{RunSettings}
use Rattle.machine.specs.Effects.{effect}
use Rattle.machine.specs.Laws.{is_nobody}
use Rattle.machine.specs.Ranges.{IsRetention}
use Rattle.machine.specs.Settling.{settled}
use Rattle.machine.specs.Rules.{Ruling, refused_by, shown_with, kept_before, kept_for, settings_for, with_settings, takes_held, put}
use Rattle.machine.specs.declared.records.Version.{Version}
use Rattle.machine.specs.declared.records.Workspace.{Workspace}
use Rattle.machine.proofs.CutLemmas.{all_last}
use Rattle.machine.proofs.DeletionLemmas.{IsKept}

-- it gets the settings: no version goes from under a holder
pub record IsSet (ruling : Ruling) (settings : Settings) (w : Workspace) : Type 0 where
  pub is : ruling ≡ shown_with (with_settings w settings)
  pub free : takes_held settings.retention w ≡ false

pub put_comes : (settings : Settings) (w : Workspace) → IsKept (put settings w) w ⊎ IsSet (put settings w) settings w
put_comes settings w = by_test (takes_held settings.retention w) refl
  where
    ruling : Bool → Ruling
    ruling b = cond b (effect (refused_by Locked w.holder) (Some w)) (shown_with (with_settings w settings))

    by_test : (b : Bool) → takes_held settings.retention w ≡ b → IsKept (ruling b) w ⊎ IsSet (ruling b) settings w
    by_test true e = inl (record { left = refl; refusal = tt; reports = λ holder t. cc; unlocked = λ t. cc })
    by_test false e = inr (record { is = refl; free = e })

pub put_becomes : (settings : Settings) (w : Workspace) → ((put settings w).left ≡ Some w) ⊎ ((put settings w).left ≡ Some (settled (with_settings w settings)))
put_becomes settings w = by_case (put_comes settings w)
  where
    by_case : IsKept (put settings w) w ⊎ IsSet (put settings w) settings w → ((put settings w).left ≡ Some w) ⊎ ((put settings w).left ≡ Some (settled (with_settings w settings)))
    by_case (inl kept) = inl kept.left
    by_case (inr set) = inr (ap (λ (r : Ruling). r.left) set.is)

-- while somebody holds, no more stand there than are to stay
under_retention : (retention : ℕ) (w : Workspace) (b : Bool) → b ≡ false → (not b && nat_lt retention (length w.versions)) ≡ false → length w.versions ≤ retention
under_retention retention w true somebody free = absurd (let none : ⊥ = cc in none)
under_retention retention w false somebody free = omega (arith, ltb-false retention (length w.versions) free)

pub held_stay : (settings : Settings) (w : Workspace) → is_nobody w.holder ≡ false → takes_held settings.retention w ≡ false → (with_settings w settings).versions ≡ w.versions
held_stay settings w somebody free = all_last settings.retention w.versions (under_retention settings.retention w (is_nobody w.holder) somebody free)

-- where no more stand there than are to stay, none goes
takes_none : (retention : ℕ) (w : Workspace) → length w.versions ≤ retention → takes_held retention w ≡ false
takes_none retention w le = ap (λ (b : Bool). not (is_nobody w.holder) && b) (le-ltb retention (length w.versions) le) ∙ both_false (not (is_nobody w.holder))
  where
    both_false : (b : Bool) → (b && false) ≡ false
    both_false true = refl
    both_false false = refl

-- and settings that it has change nothing
same_settings : (settings : Settings) (w : Workspace) → w.settings ≡ settings → length w.versions ≤ settings.retention → with_settings w settings ≡ w
same_settings settings w e le =
    subst (λ (x : Settings). length w.versions ≤ x.retention → with_settings w x ≡ w) e
    (λ most. ap (λ (vs : List Version). record w { versions = vs }) (all_last w.settings.retention w.versions most)) le

pub put_once : (settings : Settings) (w : Workspace) → w.settings ≡ settings → length w.versions ≤ settings.retention → settled w ≡ w → (put settings w).left ≡ Some w
put_once settings w e le still =
    ap (λ (b : Bool). (cond b (effect (refused_by Locked w.holder) (Some w)) (shown_with (with_settings w settings))).left) (takes_none settings.retention w le)
    ∙ ap Some (ap settled (same_settings settings w e le) ∙ still)

-- what is asked for once is kept
kept_twice : (asked : Option ℕ) (before : ℕ) → kept_for asked (kept_for asked before) ≡ kept_for asked before
kept_twice None before = refl
kept_twice (Some retention) before = refl

abbrev settings_of : RunSettings → ℕ → Settings
settings_of runs retention = record { runs = runs; retention = retention }

pub asked_once : (ask : SettingsAsk) (before : Option Settings) → settings_for ask (Some (settings_for ask before)) ≡ settings_for ask before
asked_once ask before = ap (settings_of ask.runs) (kept_twice ask.retention (kept_before before))

-- the settings that are asked for are in range
pub kept_in_range : (asked : Option ℕ) (before : ℕ) → IfSome asked IsRetention → IsRetention before → IsRetention (kept_for asked before)
kept_in_range None before range was = was
kept_in_range (Some retention) before range was = range
