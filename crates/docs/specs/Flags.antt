-- A member of a document that is true or false.
use Rattle.std.specs.Prelude.{◌≡◌, Bool, false, Option, Some, None}
use Rattle.serde_json.specs.Data.{Data, boolean}
use Rattle.serde_json.specs.Find.{as_bool}

-- true or false; where the key is absent, false
abbrev pub flag_of : Option Data → Option Bool
flag_of None = Some false
flag_of (Some value) = as_bool value

-- absent, or true or false
abbrev pub IsFlag : Option Data → Bool → Type 0
IsFlag None flag = flag ≡ false
IsFlag (Some value) flag = value ≡ boolean flag
