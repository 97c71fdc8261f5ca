-- The records of a database, and its soundness, once its rows have changed.
use Rattle.tables.proofs.Outside.{◌≡◌, ◌≢◌, ℕ, pos, List, [], ◌∷◌, Some, None, IsTrue, refl, ◌∙◌, get, Database, is_ws_name, AreLawful, placed, seen_in, changed_by, IsDue, Change, Organization, SCHEMA_VERSION, Tables, Holds, no_rows, tables_of}
use Rattle.tables.specs.Inner.Edits.{changed_rows, TakesEdit}
use Rattle.tables.specs.Stores.{records_of, IsSoundStore}
use Rattle.tables.proofs.Databases.{store_by, records_by}
use Rattle.tables.proofs.Changes.{changed_own, changed_other}
use Rattle.tables.proofs.Kept.{changed_keeps, no_rows_are_sound, no_record}
use Rattle.tables.proofs.Lawful.{sound_is_lawful}

pub store_is_lawful : (db : Database) → IsSoundStore db → AreLawful (records_of db)
store_is_lawful db s = sound_is_lawful (tables_of db) s.sound

-- the tables that were just made
abbrev just_made : Tables
just_made = record no_rows { editions = (pos 1, SCHEMA_VERSION) ∷ [] }

module _ (db : Database) (made : Holds db just_made) where
  pub made_store_is_sound : IsSoundStore db
  made_store_is_sound = store_by db just_made made (no_rows_are_sound just_made.editions (refl, refl))

  pub made_store_is_empty : (org : List ℕ) → records_of db org ≡ None
  made_store_is_empty org = records_by db just_made made org ∙ no_record just_made.editions org

module _ (old new : Database) (s : IsSoundStore old) where
  abbrev rows_before : Tables
  rows_before = tables_of old

  -- ---- a change of a workspace

  module _ (keys : ℕ → List ℕ) (org ws : List ℕ) (change : Change) (moves : (t : Tables) → Holds old t → Holds new (changed_rows keys org ws change t)) (takes : (t : Tables) → Holds old t → TakesEdit keys org ws change.edit t) where
    pub store_changed_own : (o : Organization) → records_of old org ≡ Some o → IsDue (seen_in o ws) change → records_of new org ≡ Some (placed o ws (changed_by change (get o.workspaces ws)))
    store_changed_own o there due = records_by new _ (moves rows_before s.holds) org ∙ changed_own keys org ws rows_before s.sound change (takes rows_before s.holds) o there due

    pub store_changed_other : (q : List ℕ) → q ≢ org → records_of new q ≡ records_of old q
    store_changed_other q apart = records_by new _ (moves rows_before s.holds) q ∙ changed_other keys org ws rows_before s.sound change (takes rows_before s.holds) q apart

    pub store_changed_keeps : (o : Organization) → IsTrue (is_ws_name ws) → records_of old org ≡ Some o → IsDue (seen_in o ws) change → IsSoundStore new
    store_changed_keeps o named there due = store_by new _ (moves rows_before s.holds) (changed_keeps keys org ws rows_before s.sound change (takes rows_before s.holds) o named there due)
