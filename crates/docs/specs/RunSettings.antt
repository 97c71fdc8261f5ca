-- What says how the runs of a workspace go: how a document asks for it, and how it is shown.
use Rattle.std.specs.Prelude.{Bool, Option, option_map, codes}
use Rattle.serde_json.specs.Data.{Members, boolean, member}
use Rattle.serde_json.specs.Find.{get_member}
use Rattle.basis.specs.declared.rows.RunSettings.{RunSettings}
use Rattle.docs.specs.Flags.{flag_of, IsFlag}

-- what says how runs go, of what is asked of each part
abbrev pub make_run_settings : Bool → RunSettings
make_run_settings auto_apply = record { auto_apply = auto_apply }

-- what the members of an object ask: each is off where it is absent
abbrev pub run_settings_in : Members → Option RunSettings
run_settings_in members = option_map make_run_settings (flag_of (get_member (codes "auto_apply") members))

-- the same as a relation: auto-apply is off where it is absent
pub record AreRunSettings (members : Members) (runs : RunSettings) : Type 0 where
  pub auto_apply : IsFlag (get_member (codes "auto_apply") members) runs.auto_apply

-- the members that show it, and those that follow
abbrev pub run_settings_members : RunSettings → Members → Members
run_settings_members runs rest = member (codes "auto_apply") (boolean runs.auto_apply) rest
