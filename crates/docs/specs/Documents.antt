-- What documents say: a state, the information of a lock, a workspace's settings, a run's creation. Each is read by cases on
-- the JSON value that the bytes have; where a key stands twice, the value counts that the reading keeps.
use Rattle.std.specs.Prelude.{ℕ, List, [], ◌∷◌, length, Bool, nat_le, if◌then◌else◌, Option, Some, None, option_map, option_and_then, codes}
use Rattle.std.specs.Str.{is_utf8}
use Rattle.serde_json.specs.Data.{Data, Members, no_members}
use Rattle.serde_json.specs.Read.{read}
use Rattle.serde_json.specs.Find.{get_member, as_number, as_object, as_str, as_u64}
use Rattle.basis.specs.Names.{has_length, is_free_id}
use Rattle.basis.specs.Numbers.{within}
use Rattle.basis.specs.declared.rows.RunAsk.{RunAsk}
use Rattle.basis.specs.declared.numbers.TheConstants.{MAX_KEPT, MAX_SERIAL}
use Rattle.basis.specs.declared.rows.RunSettings.{RunSettings}
use Rattle.basis.specs.declared.rows.SettingsAsk.{SettingsAsk}
use Rattle.basis.specs.declared.rows.StateHead.{StateHead}
use Rattle.basis.specs.declared.rows.TheConstants.{MAX_LINEAGE}
use Rattle.basis.specs.declared.rows.TheConstants.{MAX_KEY, MAX_MESSAGE}
use Rattle.docs.specs.declared.documents.TheConstants.{MAX_SMALL}
use Rattle.docs.specs.Flags.{flag_of}
use Rattle.docs.specs.RunSettings.{run_settings_in}

-- the members of the object that a JSON text is (RFC 8259), in UTF-8 and nested at most 127 deep
abbrev pub object_of : List ℕ → Option Members
object_of bytes = if is_utf8 bytes then option_and_then as_object (read bytes) else None

-- a whole number that the reading holds as one, so neither 3.0 nor 1e0 nor -0: 0 to 2 ^ 63 - 1
abbrev pub serial_of : Data → Option ℕ
serial_of value = option_and_then (within 0 MAX_SERIAL) (option_and_then as_u64 (as_number value))

-- a text of so many bytes
abbrev pub text_within : ℕ → ℕ → List ℕ → Option (List ℕ)
text_within least most text = if has_length least most text then Some text else None

-- a text of at most so many bytes; where the key is absent, the empty one
abbrev pub optional_text : ℕ → Option Data → Option (List ℕ)
optional_text most None = Some []
optional_text most (Some value) = option_and_then (text_within 0 most) (as_str value)

-- what is kept of a state
abbrev pub make_head : ℕ → List ℕ → StateHead
make_head serial lineage = record { serial = serial; lineage = lineage }

-- a serial, which has to be there, and a lineage of at most MAX_LINEAGE bytes
abbrev pub head_in : Members → Option StateHead
head_in members =
    option_and_then (λ serial. option_map (make_head serial) (optional_text MAX_LINEAGE (get_member (codes "lineage") members)))
    (option_and_then serial_of (get_member (codes "serial") members))

-- what counts of a Terraform state
unfoldable pub state_head : List ℕ → Option StateHead
state_head bytes = option_and_then head_in (object_of bytes)

-- an ID that a lock may have
abbrev pub free_id : List ℕ → Option (List ℕ)
free_id id = if is_free_id id then Some id else None

-- an ID, which has to be there
abbrev pub lock_id_in : Members → Option (List ℕ)
lock_id_in members = option_and_then free_id (option_and_then as_str (get_member (codes "ID") members))

-- the ID of a lock, in the lock information of Terraform
unfoldable pub lock_id_of : List ℕ → Option (List ℕ)
lock_id_of bytes = option_and_then lock_id_in (object_of bytes)

-- the members of what a small request brings: no bytes are the empty object, and MAX_SMALL bytes are the most
abbrev pub small_object_of : List ℕ → Option Members
small_object_of [] = Some no_members
small_object_of (b ∷ bytes) = if nat_le (length (b ∷ bytes)) MAX_SMALL then object_of (b ∷ bytes) else None

-- a whole number that the reading holds as one, so neither 2.0 nor 1e0: 1 to MAX_KEPT; the key may be absent
abbrev pub retention_of : Option Data → Option (Option ℕ)
retention_of None = Some None
retention_of (Some value) = option_map Some (option_and_then (within 1 MAX_KEPT) (option_and_then as_u64 (as_number value)))

-- what is set of a workspace
abbrev pub make_settings : RunSettings → Option ℕ → SettingsAsk
make_settings runs retention = record { runs = runs; retention = retention }

-- how runs go and how many versions are to be kept, where they are there
abbrev pub settings_in : Members → Option SettingsAsk
settings_in members =
    option_and_then (λ runs. option_map (make_settings runs) (retention_of (get_member (codes "keep_versions") members)))
    (run_settings_in members)

-- what is asked of a workspace's settings
unfoldable pub settings_of : List ℕ → Option SettingsAsk
settings_of bytes = option_and_then settings_in (small_object_of bytes)

-- a text of 1 to MAX_KEY bytes; the key may be absent
abbrev pub key_of : Option Data → Option (Option (List ℕ))
key_of None = Some None
key_of (Some value) = option_map Some (option_and_then (text_within 1 MAX_KEY) (as_str value))

-- what is asked of a run
abbrev pub make_ask : Option (List ℕ) → List ℕ → Bool → RunAsk
make_ask key message plan_only = record { key = key; message = message; plan_only = plan_only }

-- key, message of at most MAX_MESSAGE bytes and kind, where they are there
abbrev pub ask_in : Members → Option RunAsk
ask_in members =
    option_and_then (λ key. option_and_then (λ message. option_map (make_ask key message) (flag_of (get_member (codes "plan_only") members)))
    (optional_text MAX_MESSAGE (get_member (codes "message") members)))
    (key_of (get_member (codes "key") members))

-- what the creation of a run asks
unfoldable pub run_ask : List ℕ → Option RunAsk
run_ask bytes = option_and_then ask_in (small_object_of bytes)
