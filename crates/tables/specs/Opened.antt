-- What opening a database promises, where it is opened, and where it is given back.
use Rattle.std.specs.Prelude.{◌≡◌, ℕ, true, false, List, Option, None}
use Rattle.sqlite_schema.specs.declared.schema.Schema.{Schema}
use Rattle.sqlite.specs.State.{State, KeepsCommit}
use Rattle.machine.specs.declared.records.Organization.{Organization}
use Rattle.statements.specs.Making.{KeepsTables, KeepsForeign}
use Rattle.statements.specs.Tables.{Tables, HoldsIn, schema_tables, our_tables, tables_of, tables_at}
use Rattle.tables.specs.Opening.{any_there, all_there, newest_there, has_edition, is_meta, is_edition, has_versions, StoresVersionIn, StoredBy, IsOther, GivesBack}
use Rattle.tables.specs.Scans.{ArePagesKeyed}
use Rattle.tables.specs.Stores.{records_of, IsSoundStore}
use Rattle.tables.specs.Versions.{HoldsSchema, schema_records}

-- A database as it was, and as a store has it that was opened on it, with these records. The store is sound, and its pages stand under their keys, where
-- that is said.
pub record IsOpened (key_of : List ℕ → List ℕ) (rows : List ℕ → Option Organization) (IsSoundHere IsKeyedHere : Type 0) (old new : State) : Type 0 where
  pub fresh : any_there old.now.schema ≡ false → IsSoundHere × ((o : List ℕ) → rows o ≡ None)
  pub others : any_there old.now.schema ≡ false → KeepsTables old.now new.committed
  pub held : newest_there old.now.schema ≡ true → (IsSoundStore old.now → IsSoundHere) × ((o : List ℕ) → rows o ≡ records_of old.now o)
  pub stays : newest_there old.now.schema ≡ true → new.committed ≡ old.now
  pub keyed :
      (any_there old.now.schema ≡ false → IsKeyedHere)
      × (newest_there old.now.schema ≡ true → ArePagesKeyed key_of (tables_of old.now) → IsKeyedHere)
      × ((n : ℕ) → HoldsSchema n old.now → ArePagesKeyed key_of (tables_at n old.now) → IsKeyedHere)
  pub version : (n : ℕ) → all_there n old.now.schema ≡ true → StoresVersionIn n old.now
  pub reports : (n : ℕ) → all_there n old.now.schema ≡ true → StoredBy n old.now
  pub climbed : (n : ℕ) → HoldsSchema n old.now → IsSoundHere × ((o : List ℕ) → rows o ≡ schema_records n old.now o)
  pub beside : (n : ℕ) → all_there n old.now.schema ≡ true → (t : Tables) → HoldsIn n old.now t → KeepsForeign (schema_tables n) our_tables old.now new.committed

-- A database as it was, and as it is given back; the schema may be the reason.
pub record IsLeft (IsSchema : Type 0) (old new : State) : Type 0 where
  pub back : GivesBack old new
  pub kept : IsSchema → KeepsCommit old new
  pub other : IsSchema → (any_there old.now.schema ≡ true) × IsOther old
  pub sound : IsSchema → (n : ℕ) → HoldsSchema n old.now → ⊥

-- A database is refused that has tables of ours, but of no version, or in which meta, edition or version hasn't the columns of ours.
pub record RefusesOthers (s : Schema) (IsRefused : Type 0) : Type 0 where
  pub foreign : any_there s ≡ true → is_meta s ≡ false → IsRefused
  pub edition : any_there s ≡ true → has_edition s ≡ true → is_edition s ≡ false → IsRefused
  pub missing : any_there s ≡ true → all_there 1 s ≡ false → has_edition s ≡ false → IsRefused
  pub older : any_there s ≡ true → has_versions s ≡ false → IsRefused
