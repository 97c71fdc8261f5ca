-- A store in a file: its records once it is open, and what its files hold once it is closed.
use Rattle.std.specs.Prelude.{◌≡◌, ◌⊎◌, true, false, ℕ, List, [], Option, None}
use Rattle.sqlite_trees.specs.Tree.{Trees}
use Rattle.sqlite_wal.specs.Recovery.{Image}
use Rattle.sqlite_wal.specs.Files.{outcomes}
use Rattle.sqlite_wal.specs.Reads.{AreClean}
use Rattle.sqlite_disk.specs.declared.Disk as disk
use Rattle.sqlite_disk.specs.declared.Files.{Files}
use Rattle.sqlite.specs.Closing.{HoldsAlone}
use Rattle.sqlite.specs.Effect.{Database, IsDatabase}
use Rattle.sqlite.specs.Files.{HoldsDatabase, image_of}
use Rattle.machine.specs.declared.records.Organization.{Organization}
use Rattle.tables.specs.Opening.{any_there, all_there, newest_there, has_edition}
use Rattle.tables.specs.Stores.{records_of, IsSoundStore}
use Rattle.tables.specs.Versions.{HoldsSchema, schema_records}

-- The database in a file and its WAL was opened. If it has one of our tables, it has all tables of some version. If they are those of this
-- version, the store has the database's records, and is sound if the database is. Whatever the version: if the database is sound as one of
-- that version, the store has the records that it denotes, and is sound. If it has none of our tables, the store has no organization, and is
-- sound. So it is if the file was empty, whatever its WAL held: a database was begun there.
pub record OpensOn (image : Image) (rows : List ℕ → Option Organization) (IsSound : Type 0) : Type 0 where
  pub found : Database
  pub is : IsDatabase found
  pub holds : (trees : Trees) → HoldsDatabase image trees → found.trees ≡ trees
  pub whole : any_there found.schema ≡ true → (all_there 1 found.schema ≡ true) ⊎ (has_edition found.schema ≡ true)
  pub there : newest_there found.schema ≡ true → ((org : List ℕ) → rows org ≡ records_of found org) × (IsSoundStore found → IsSound)
  pub climbed : (version : ℕ) → HoldsSchema version found → ((org : List ℕ) → rows org ≡ schema_records version found org) × IsSound
  pub fresh : any_there found.schema ≡ false → ((org : List ℕ) → rows org ≡ None) × IsSound
  pub begun : image.db ≡ [] → ((org : List ℕ) → rows org ≡ None) × IsSound

-- The database in a file and its WAL was opened, and it had one of our tables.
abbrev pub HadTables : Image → Type 0
HadTables image = (found : Database) × IsDatabase found × ((trees : Trees) → HoldsDatabase image trees → found.trees ≡ trees) × (any_there found.schema ≡ true)

-- The database in a file and its WAL was opened, and it had all tables of the newest version. This is what is committed: no table or row was changed.
abbrev pub IsAsFound : Image → Database → Type 0
IsAsFound image committed =
    (found : Database) × IsDatabase found × ((trees : Trees) → HoldsDatabase image trees → found.trees ≡ trees) × (newest_there found.schema ≡ true) × (committed ≡ found)

-- There is a database in the file with its WAL, and in the file without a WAL, as they read now and as a crash may leave them. It has the
-- store's records, if the store is sound.
pub record ClosesOn {D : Type 0} (g : disk.Ghosts D) (files : Files D) (rows : List ℕ → Option Organization) (IsSound : Type 0) : Type 0 where
  pub committed : Database
  pub records : IsSound → (org : List ℕ) → records_of committed org ≡ rows org
  pub seen : HoldsAlone (image_of g files) committed.trees
  pub left : (image : Image) → outcomes g files.log files.db image → HoldsAlone image committed.trees

-- the same, if the disk returned what was written
abbrev pub IsClosedOn : {D : Type 0} → disk.Ghosts D → Files D → (List ℕ → Option Organization) → Type 0 → Type 0
IsClosedOn g files rows IsSound = AreClean g files.log files.db → ClosesOn g files rows IsSound
