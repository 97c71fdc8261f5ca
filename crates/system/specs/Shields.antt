-- What remains to be assumed of the disk once a store in a file is open.
use Rattle.std.specs.Prelude.{◌⊎◌, ℕ, List}
use Rattle.sqlite_disk.specs.Events.{Event, HasCollision}
use Rattle.sqlite_disk.specs.declared.Disk as disk
use Rattle.sqlite_disk.specs.declared.Files.{Files}
use Rattle.sqlite_store.specs.declared.store.FileStore.{FileStore}
use Rattle.sqlite_store.specs.FileStore.{files}
use Rattle.sqlite.specs.Held.{Held}
use Rattle.sqlite_wal.specs.Reads.{AreClean}

module _ {D : Type 0} (g : disk.Ghosts D) (start : D → List ℕ) (history : D → List Event) where
  -- By the first contents of each of two files, and all calls on it since: a read of the WAL or of the file, whose bytes are compared with a
  -- digest of 64 bits, returned other bytes than were written there, and both have that digest under the key that came with the files.
  abbrev pub HasCollided : D → D → Type 0
  HasCollided log db = HasCollision (g.key_of log) (start log) (history log) ⊎ HasCollision (g.key_of log) (start db) (history db)

  -- the disk returned what was written, or a digest has collided
  abbrev pub AreCleanOrCollided : Files D → Type 0
  AreCleanOrCollided closed = AreClean g closed.log closed.db ⊎ HasCollided closed.log closed.db

-- the same for the two files of a store
abbrev pub StoreHasCollided : {D : Type 0} {g : disk.Ghosts D} → (D → List ℕ) → (D → List Event) → Held (FileStore D g) → Type 0
StoreHasCollided {D} {g} start history c = HasCollided g start history (files c.store).0 (files c.store).1
