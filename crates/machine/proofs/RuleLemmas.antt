-- The rules keep the laws of a workspace: of every act.
use Rattle.machine.proofs.Outside.{◌⊎◌, inl, inr, ℕ, Bool, true, false, refl, sym, subst, arith, SettingsAsk}
use Rattle.machine.specs.Laws.{IsLawful, IsLawfulIfThere}
use Rattle.machine.specs.Ranges.{IsSettingsAsk, IsInRange, IsMoment}
use Rattle.machine.specs.Records.{Seen, missing, there, standing}
use Rattle.machine.specs.Rules.{Outcome, Ruling, with_version, purged, with_settings, rules_missing, rules}
use Rattle.machine.specs.Settling.{settled}
use Rattle.machine.specs.declared.acts.Act.{Act}
use Rattle.machine.specs.declared.acts.Act.TheVariants.{PutWorkspace}
use Rattle.machine.specs.declared.records.Workspace.{Workspace}
use Rattle.machine.proofs.LawLemmas.{still_is_lawful, version_is_lawful, purged_is_lawful, set_is_lawful, locked_is_lawful}
use Rattle.machine.proofs.PuttingLemmas.{kept_in_range}
use Rattle.machine.proofs.RunLawLemmas.{added_is_lawful, reported_is_lawful}
use Rattle.machine.proofs.RunRulings.{IsReported}
use Rattle.machine.proofs.Rulings.{IsPut, Misses, put_or_missed, Way, version_comes, versions_go, settings_come, lock_comes, lock_goes, run_comes, run_goes_on, Comes, it_stays, it_goes, it_changes, comes}
use Rattle.machine.proofs.SettlingLemmas.{release_is_lawful}

pub rules_are_lawful : (act : Act) (now : ℕ) (s : Seen) → IsInRange act → IsMoment now → IsLawfulIfThere (standing s) → IsLawfulIfThere (rules act now s).left
rules_are_lawful act now (missing room) range moment lawful = by_act (put_or_missed act)
  where
    made : (room : Bool) (ask : SettingsAsk) → IsSettingsAsk ask → IsLawfulIfThere (rules_missing (PutWorkspace ask) room).left
    made true ask asked = record {
      versions = record { retention = kept_in_range ask.retention 100 asked (omega arith, omega arith); next = (omega arith, omega arith); rise = tt; each = tt; kept = omega arith };
      runs = record { next = (omega arith, omega arith); rise = tt; each = tt; open_runs = omega arith; keys = tt; held = tt };
      released = tt;
    }
    made false ask asked = tt

    by_act : IsPut act ⊎ Misses act → IsLawfulIfThere (rules_missing act room).left
    by_act (inl put) = subst (λ (a : Act). IsLawfulIfThere (rules_missing a room).left) (sym put.1) (made room put.0 (subst IsInRange put.1 range))
    by_act (inr misses) = subst (λ (r : Ruling). IsLawfulIfThere r.left) (sym (misses room).0) tt
rules_are_lawful act now (there w) range moment lawful = by_case (comes act now w)
  where
    by_way : (u : Workspace) (answer : Outcome) → Way act now w u answer → IsLawful (settled u)
    by_way u answer (version_comes v) =
        subst (λ (x : Workspace). IsLawful (settled x)) (sym v.is)
        (still_is_lawful (with_version w v.number v.head v.text now) (version_is_lawful w v.number v.head v.text now v.left (v.range range) moment lawful))
    by_way u answer (versions_go v) = subst (λ (x : Workspace). IsLawful (settled x)) (sym v.is) (still_is_lawful (purged w) (purged_is_lawful w lawful))
    by_way u answer (settings_come v) =
        subst (λ (x : Workspace). IsLawful (settled x)) (sym v.is)
        (still_is_lawful (with_settings w v.settings) (set_is_lawful v.settings w (v.range range lawful.versions.retention) lawful))
    by_way u answer (lock_comes v) = subst (λ (x : Workspace). IsLawful (settled x)) (sym v.is) (locked_is_lawful v.id v.text w v.nobody (v.range range) lawful)
    by_way u answer (lock_goes v) = subst (λ (x : Workspace). IsLawful (settled x)) (sym v.is) (release_is_lawful v.id v.text w v.holds lawful)
    by_way u answer (run_comes v) =
        subst (λ (x : Workspace). IsLawful (settled x)) (sym v.made.2) (added_is_lawful w v.ask now v.made.0 w.holder refl v.made.1 v.room v.unkeyed (v.range range) moment lawful)
    by_way u answer (run_goes_on v) =
        let is : IsReported w v.n v.action u = v.reported in
        subst (λ (x : Workspace). IsLawful (settled x)) (sym is.is) (reported_is_lawful w v.n v.action is.status is.run is.there is.leads lawful)

    by_case : Comes act now w (rules act now (there w)) → IsLawfulIfThere (rules act now (there w)).left
    by_case (it_stays stays) = subst IsLawfulIfThere (sym stays.left) lawful
    by_case (it_goes goes) = subst (λ (r : Ruling). IsLawfulIfThere r.left) (sym goes.is) tt
    by_case (it_changes changes) = subst (λ (r : Ruling). IsLawfulIfThere r.left) (sym changes.is) (by_way changes.to changes.answer changes.way)
