-- What becomes of the versions and the settings of a workspace, as laws of the rules: how a version follows the one before it, which
-- versions are kept, and that a PUT sets what it asks for.
use Rattle.std.specs.Prelude.{◌≡◌, ◌<◌, ◌≤◌, ◌⊎◌, ◌+◌, ℕ, Bool, List, [], ◌∷◌, ◌++◌, length, Option, Some, None, IfSome, ⊤}
use Rattle.basis.specs.declared.rows.SettingsAsk.{SettingsAsk}
use Rattle.basis.specs.declared.rows.Settings.{Settings}
use Rattle.basis.specs.declared.rows.StateHead.{StateHead}
use Rattle.machine.specs.Custody.{IsRefusal, IsWriter}
use Rattle.machine.specs.Records.{Seen, missing, there, standing}
use Rattle.machine.specs.Rules.{done, rules}
use Rattle.machine.specs.Units.{version_of}
use Rattle.machine.specs.Workspaces.{newest, holder_status}
use Rattle.machine.specs.declared.acts.Act.{Act}
use Rattle.machine.specs.declared.acts.Act.TheVariants.{PutWorkspace, UpdateState}
use Rattle.machine.specs.declared.records.Version.{Version}
use Rattle.machine.specs.declared.records.Workspace.{Workspace}

-- one version follows another: its serial is greater, and their lineages are equal, or one of them is empty
pub record Follows (older newer : Version) : Type 0 where
  pub serial : older.serial < newer.serial
  pub lineage : (older.lineage ≡ newer.lineage) ⊎ ((older.lineage ≡ []) ⊎ (newer.lineage ≡ []))

-- each version follows the one before it
abbrev pub EachFollows : List Version → Type 0
EachFollows [] = ⊤
EachFollows (v ∷ []) = ⊤
EachFollows (v ∷ w ∷ vs) = Follows v w × EachFollows (w ∷ vs)

-- after every act the newest version is the same as before, or it follows that one, whether that one is kept or not
abbrev pub NewestVersionsFollow : Type 0
NewestVersionsFollow = (act : Act) (now : ℕ) (w v : Workspace) (older newer : Version) → (rules act now (there w)).left ≡ Some v
    → newest w.versions ≡ Some older → newest v.versions ≡ Some newer → (newer ≡ older) ⊎ Follows older newer

-- if each version follows the one before it, the same holds of those that an act leaves
abbrev pub KeptVersionsFollow : Type 0
KeptVersionsFollow = (act : Act) (now : ℕ) (s : Seen) (v : Workspace) → IfSome (standing s) (λ w. EachFollows w.versions)
    → (rules act now s).left ≡ Some v → EachFollows v.versions

-- the newest of all versions are left, at most `most`: those that are gone came before them, and if any is gone, exactly `most` are left
pub record AreNewest (most : ℕ) (all left : List Version) : Type 0 where
  pub gone : List Version
  pub is : all ≡ gone ++ left
  pub no_more : length left ≤ most
  pub no_fewer : (gone ≡ []) ⊎ (length left ≡ most)

-- the version that a posted text becomes, by its number, its head and the time
abbrev pub posted : ℕ → StateHead → List ℕ → ℕ → Version
posted number head text now = record { number = number; serial = head.serial; lineage = head.lineage; created = now; text = text }

-- a text is added: it is kept under the next number, and with it the newest versions before it, as many as the workspace keeps
pub record TextComes (head : StateHead) (text : List ℕ) (now : ℕ) (w v : Workspace) : Type 0 where
  pub stay : AreNewest w.settings.retention (w.versions ++ posted w.next_version head text now ∷ []) v.versions
  pub found : version_of w.next_version v.versions ≡ Some (posted w.next_version head text now)
  pub next : v.next_version ≡ w.next_version + 1

-- a text is not new: it is that of the newest version, and nothing changes
pub record TextIsThere (text : List ℕ) (w v : Workspace) : Type 0 where
  pub version : Version
  pub is : newest w.versions ≡ Some version
  pub text_is : version.text ≡ text
  pub same : v ≡ w

-- an accepted text is kept afterwards
abbrev pub AcceptedTextsStand : Type 0
AcceptedTextsStand = (head : StateHead) (text : List ℕ) (id : Option (List ℕ)) (now : ℕ) (w v : Workspace) → 1 ≤ w.settings.retention
    → (rules (UpdateState head text id) now (there w)).answer ≡ done → (rules (UpdateState head text id) now (there w)).left ≡ Some v
    → TextIsThere text w v ⊎ TextComes head text now w v

-- a text that the holder posts, and that follows the newest version, if there is one, is accepted while a number is left
abbrev pub FollowingTextsAreAccepted : Type 0
FollowingTextsAreAccepted = (head : StateHead) (text : List ℕ) (id : Option (List ℕ)) (now : ℕ) (w : Workspace) → IsWriter w.holder (holder_status w.holder w.runs) id
    → 1 ≤ w.next_version → w.next_version ≤ 1_000_000_000 → IfSome (newest w.versions) (λ older. Follows older (posted w.next_version head text now))
    → (rules (UpdateState head text id) now (there w)).answer ≡ done

-- the settings that a PUT asks for: those of runs as asked, and as many versions as asked, or as before if no number is given
pub record AreAsked (ask : SettingsAsk) (before : ℕ) (settings : Settings) : Type 0 where
  pub runs : settings.runs ≡ ask.runs
  pub given : (retention : ℕ) → ask.retention ≡ Some retention → settings.retention ≡ retention
  pub not_given : ask.retention ≡ None → settings.retention ≡ before

-- after an accepted PUT the settings are those asked for, and of the versions the newest are left, as many as the workspace then keeps
abbrev pub PutsLeaveWhatTheyAsk : Type 0
PutsLeaveWhatTheyAsk = (ask : SettingsAsk) (now : ℕ) (w v : Workspace)
    → (IsRefusal (rules (PutWorkspace ask) now (there w)).answer → ⊥) → (rules (PutWorkspace ask) now (there w)).left ≡ Some v
    → AreAsked ask w.settings.retention v.settings × AreNewest v.settings.retention w.versions v.versions

-- a PUT that creates the workspace sets the settings asked for, and 100 versions if no number is given
abbrev pub PutsMakeWhatTheyAsk : Type 0
PutsMakeWhatTheyAsk = (ask : SettingsAsk) (now : ℕ) (room : Bool) (v : Workspace) → (rules (PutWorkspace ask) now (missing room)).left ≡ Some v → AreAsked ask 100 v.settings
