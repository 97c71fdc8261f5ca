-- What a document asks of how runs go, as a function and as a relation.
use Rattle.docs.proofs.Outside.{◌≡◌, refl, Some, codes, Members, get_member}
use Rattle.basis.specs.declared.rows.RunSettings.{RunSettings}
use Rattle.docs.specs.Flags.{flag_of}
use Rattle.docs.specs.RunSettings.{make_run_settings, run_settings_in, AreRunSettings}
use Rattle.docs.proofs.FlagLemmas.{option_map_some, flag_read, flag_said}

-- what `run_settings_in` gives is asked
pub run_settings_read : (ms : Members) (runs : RunSettings) → run_settings_in ms ≡ Some runs → AreRunSettings ms runs
run_settings_read ms runs is =
    option_map_some make_run_settings (flag_of (get_member (codes "auto_apply") ms)) runs is (λ flag flag_is made.
    rw (← made) (record { auto_apply = flag_read (get_member (codes "auto_apply") ms) flag flag_is }))

-- what is asked is what `run_settings_in` gives
pub run_settings_said : (ms : Members) (runs : RunSettings) → AreRunSettings ms runs → run_settings_in ms ≡ Some runs
run_settings_said ms runs is = rw (flag_said (get_member (codes "auto_apply") ms) runs.auto_apply is.auto_apply) refl
