-- The same documents as relations: which bytes say what.
use Rattle.std.specs.Prelude.{◌≡◌, ◌↔◌, ℕ, ◌<◌, ◌≤◌, ◌^◌, List, [], ◌∷◌, length, false, nat_eq, Option, Some, None, IsUtf8, codes}
use Rattle.std.specs.List.{starts_with}
use Rattle.serde_json.specs.Data.{Data, number, unsigned, string, object, Members, no_members}
use Rattle.serde_json.specs.Read.{read}
use Rattle.serde_json.specs.Find.{get_member}
use Rattle.basis.specs.declared.rows.RunAsk.{RunAsk}
use Rattle.basis.specs.declared.numbers.TheConstants.{MAX_KEPT}
use Rattle.basis.specs.declared.rows.SettingsAsk.{SettingsAsk}
use Rattle.basis.specs.declared.rows.StateHead.{StateHead}
use Rattle.basis.specs.declared.names.TheConstants.{MAX_LOCK_ID}
use Rattle.basis.specs.declared.rows.TheConstants.{MAX_LINEAGE}
use Rattle.basis.specs.declared.rows.TheConstants.{MAX_KEY, MAX_MESSAGE}
use Rattle.docs.specs.declared.documents.TheConstants.{MAX_SMALL}
use Rattle.docs.specs.Documents.{state_head, lock_id_of, settings_of, run_ask}
use Rattle.docs.specs.Flags.{IsFlag}
use Rattle.docs.specs.RunSettings.{AreRunSettings}

-- the bytes are a JSON object with these members, in UTF-8
pub record IsObject (bytes : List ℕ) (members : Members) : Type 0 where
  pub text : IsUtf8 bytes
  pub value : read bytes ≡ Some (object members)

-- absent, and then empty, or a text of at most so many bytes
abbrev pub IsText : ℕ → Option Data → List ℕ → Type 0
IsText most None text = text ≡ []
IsText most (Some value) text = (value ≡ string text) × (length text ≤ most)

-- a state: its serial is held as a whole number
pub record IsState (bytes : List ℕ) (head : StateHead) : Type 0 where
  pub members : Members
  pub document : IsObject bytes members
  pub serial : get_member (codes "serial") members ≡ Some (number (unsigned head.serial))
  pub signed : head.serial < 2 ^ 63
  pub lineage : IsText MAX_LINEAGE (get_member (codes "lineage") members) head.lineage

-- lock information: its ID is a text of 1 to MAX_LOCK_ID bytes that isn't the name of a run
pub record IsLock (bytes id : List ℕ) : Type 0 where
  pub members : Members
  pub document : IsObject bytes members
  pub id_text : get_member (codes "ID") members ≡ Some (string id)
  pub least : 1 ≤ length id
  pub most : length id ≤ MAX_LOCK_ID
  pub free : starts_with nat_eq id (codes "run-") ≡ false

-- no bytes, which are the empty object, or an object of at most MAX_SMALL bytes
abbrev pub IsSmallObject : List ℕ → Members → Type 0
IsSmallObject [] members = members ≡ no_members
IsSmallObject (b ∷ bytes) members = IsObject (b ∷ bytes) members × (length (b ∷ bytes) ≤ MAX_SMALL)

-- absent, or a whole number of 1 to MAX_KEPT
abbrev pub IsRetentionAsked : Option Data → Option ℕ → Type 0
IsRetentionAsked None keep = keep ≡ None
IsRetentionAsked (Some value) None = ⊥
IsRetentionAsked (Some value) (Some keep) = (value ≡ number (unsigned keep)) × (1 ≤ keep) × (keep ≤ MAX_KEPT)

-- settings: how runs go, and how many versions are to be kept
pub record IsSettings (bytes : List ℕ) (settings : SettingsAsk) : Type 0 where
  pub members : Members
  pub document : IsSmallObject bytes members
  pub runs : AreRunSettings members settings.runs
  pub retention : IsRetentionAsked (get_member (codes "keep_versions") members) settings.retention

-- absent, or a text of 1 to MAX_KEY bytes
abbrev pub IsKey : Option Data → Option (List ℕ) → Type 0
IsKey None key = key ≡ None
IsKey (Some value) None = ⊥
IsKey (Some value) (Some key) = (value ≡ string key) × (1 ≤ length key) × (length key ≤ MAX_KEY)

-- what the creation of a run asks
pub record IsAsk (bytes : List ℕ) (ask : RunAsk) : Type 0 where
  pub members : Members
  pub document : IsSmallObject bytes members
  pub key : IsKey (get_member (codes "key") members) ask.key
  pub message : IsText MAX_MESSAGE (get_member (codes "message") members) ask.message
  pub plan_only : IsFlag (get_member (codes "plan_only") members) ask.plan_only

-- ---- the functions of Documents say the same

-- `state_head` gives the heads of states, and no others
abbrev pub StateLaw : List ℕ → Type 0
StateLaw bytes = (head : StateHead) → (state_head bytes ≡ Some head) ↔ IsState bytes head

-- `lock_id_of` gives the IDs of locks
abbrev pub LockLaw : List ℕ → Type 0
LockLaw bytes = (id : List ℕ) → (lock_id_of bytes ≡ Some id) ↔ IsLock bytes id

-- `settings_of` gives settings
abbrev pub SettingsLaw : List ℕ → Type 0
SettingsLaw bytes = (settings : SettingsAsk) → (settings_of bytes ≡ Some settings) ↔ IsSettings bytes settings

-- `run_ask` gives what runs ask
abbrev pub AskLaw : List ℕ → Type 0
AskLaw bytes = (ask : RunAsk) → (run_ask bytes ≡ Some ask) ↔ IsAsk bytes ask
