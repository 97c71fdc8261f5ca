-- The head of a state, as its members are read one after another.
use Rattle.std.specs.Prelude.{◌≡◌, ℕ, List, Bool, true, false, Option, Some, None, option_map, option_and_then, codes}
use Rattle.json.specs.Json.{if_last, value}
use Rattle.json.specs.Token as json
use Rattle.serde_json.specs.Data.{Data, Members, Num}
use Rattle.serde_json.specs.Find.{get_member, as_number, as_object, as_str, as_u64}
use Rattle.serde_json.specs.Read.{of_json, max_depth}
use Rattle.serde_json.specs.View.{number_view}
use Rattle.basis.specs.declared.rows.TheConstants.{MAX_LINEAGE}
use Rattle.docs.specs.declared.heads.Head.{Head}
use Rattle.docs.specs.declared.heads.Part.{Part}
use Rattle.docs.specs.declared.heads.Part.TheVariants.{Number, Text, Other}
use Rattle.docs.specs.Documents.{text_within, optional_text}

-- an object begins with the token
abbrev pub opens_object : json.Token → Bool
opens_object json.begin_object = true
opens_object json.end_object = false
opens_object json.begin_array = false
opens_object json.end_array = false
opens_object (json.key s) = false
opens_object (json.string s) = false
opens_object (json.number s) = false
opens_object (json.boolean b) = false
opens_object json.null = false
opens_object json.bad = false

-- the members of the object that the tokens are
abbrev pub object_in : List json.Token → Option Members
object_in ts = option_and_then as_object (option_and_then of_json (option_and_then (λ p. if_last p.0 p.1) (value max_depth ts)))

-- the number and the text that a part is
abbrev pub number_in : Part → Option Num
number_in (Number n) = Some (number_view n)
number_in (Text text) = None
number_in Other = None

abbrev pub text_in : Part → Option (List ℕ)
text_in (Number n) = None
text_in (Text text) = Some text.now
text_in Other = None

-- the part has what is looked at of the value
abbrev pub IsPartOf : Part → Data → Type 0
IsPartOf part value = (number_in part ≡ as_number value) × (text_in part ≡ as_str value)

-- the whole number that a value is
abbrev pub whole_in : Data → Option ℕ
whole_in value = option_and_then as_u64 (as_number value)

-- the whole number and the lineage that a part may be
abbrev pub serial_in : Part → Option ℕ
serial_in part = option_and_then as_u64 (number_in part)

abbrev pub lineage_in : Part → Option (List ℕ)
lineage_in part = option_and_then (text_within 0 MAX_LINEAGE) (text_in part)

-- the head has what counts of the members
pub record IsHeadOf (head : Head) (members : Members) : Type 0 where
  pub serial : head.whole ≡ option_and_then whole_in (get_member (codes "serial") members)
  pub lineage : option_map (λ text. text.now) head.lineage ≡ optional_text MAX_LINEAGE (get_member (codes "lineage") members)
