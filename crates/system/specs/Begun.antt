-- Files in which a database may be begun, and why none was.
use Rattle.std.specs.Prelude.{◌≡◌, ◌⊎◌, ℕ, true, IsTrue, Option, Some, None}
use Rattle.sqlite_disk.specs.declared.Disk.{Ghosts}
use Rattle.sqlite_disk.specs.declared.tally.Tally.{Tally}
use Rattle.sqlite_pages.specs.PageMap.{PageMap}
use Rattle.sqlite_pool.specs.Opening.{IsBlankFile}
use Rattle.sqlite_pool.specs.Stored.{used_size, Recovers}
use Rattle.sqlite_wal.specs.Reads.{tally_of_files}
use Rattle.sqlite_wal.specs.Recovery.{Image}
use Rattle.sqlite_store.specs.Opening.{IsEmptyFile, FailsToOpen}
use Rattle.sqlite_store.specs.Unopened.{state_of, files_of, StopsCreating}
use Rattle.sqlite_store.specs.declared.error.OpenError.{OpenError}
use Rattle.sqlite_store.specs.declared.error.OpenError.TheVariants.{OutOfMemory}
use Rattle.sqlite_store.specs.declared.store.open.Unopened.{Unopened}
use Rattle.sqlite_store.specs.declared.store.FileStore.{FileStore}
use Rattle.sqlite_store.specs.FileStore.{view, is_shielded}
use Rattle.sqlite.specs.Steps.{IsFresh}
use Rattle.sqlite.specs.Files.{IsEmpty}

-- They hold no database, or one that has no table yet, in pages of which this many bytes are not the checksum.
abbrev pub MayBegin : ℕ → Image → Type 0
MayBegin size image = IsBlankFile size image ⊎ ((pages : PageMap) × Recovers size image pages × IsEmptyFile size pages)

-- No database with pages of this size was begun. There was no memory before the files were opened; or, as long as the disk returns what was
-- written, it was refused because they hold a database; otherwise the disk failed, there was no memory, or the file is full.
abbrev pub FailsToBegin : {D : Type 0} {g : Ghosts D} → ℕ → Image → OpenError → Option (Unopened D g) → Type 0
FailsToBegin bytes image error None = error ≡ OutOfMemory
FailsToBegin bytes image error (Some left) =
    IsTrue (state_of left).is_clean → (faults : ℕ) × FailsToOpen faults (state_of left).faults (StopsCreating left) (MayBegin (used_size bytes true) image) error

-- A database was begun: the store was just opened, no tree has a row, and each page ends with a checksum.
pub record IsBegun {D : Type 0} {g : Ghosts D} (store : FileStore D g) : Type 0 where
  pub fresh : IsFresh (view store)
  pub empty : IsEmpty (view store).trees
  pub sums : (view store).has_sums ≡ true
  pub guarded : is_shielded store

-- All errors of failed disk calls, if no database was begun: as before, if the files were not opened.
abbrev pub tally_since : {D : Type 0} {g : Ghosts D} → Tally → Option (Unopened D g) → Tally
tally_since before None = before
tally_since {g = g} before (Some left) = tally_of_files g (files_of left)
