-- Why no database was begun, by what the call that makes one says.
use Rattle.std.proofs.Common.{◌≡◌, ◌<◌, ℕ, List, [], length, refl, sym, subst, arith}
use Rattle.sqlite_disk.specs.declared.Disk.{Ghosts}
use Rattle.sqlite_wal.specs.Recovery.{Image}
use Rattle.sqlite_store.specs.Build.{CanBuild}
use Rattle.sqlite_store.specs.Opening.{FailsToOpen}
use Rattle.sqlite_store.specs.Unopened.{state_of, wanted_by, image, CanCreate, IsUnstarted}
use Rattle.sqlite_store.specs.declared.catalog.Wanted.{Wanted}
use Rattle.sqlite_store.specs.declared.error.OpenError.{OpenError}
use Rattle.sqlite_store.specs.declared.error.OpenError.TheVariants.{OutOfMemory, Io, Full, Refused}
use Rattle.sqlite_store.specs.declared.store.open.Unopened.{Unopened}
use Rattle.system.specs.Begun.{MayBegin}

-- it fails for less where less is wanted
pub fails_for : (old new : ℕ) (AtLimit Wanted Less : Type 0) (e : OpenError) → (Less → Wanted) → FailsToOpen old new AtLimit Wanted e → FailsToOpen old new AtLimit Less e
fails_for old new AtLimit Wanted Less OutOfMemory less fails = fails
fails_for old new AtLimit Wanted Less Io less fails = fails
fails_for old new AtLimit Wanted Less Full less fails = fails
fails_for old new AtLimit Wanted Less Refused less fails = λ is. fails (less is)

no_schema : (schema : List Wanted) → schema ≡ [] → (length schema < 65536) × CanBuild schema
no_schema schema none = rw none (omega arith, record { distinct = refl; shaped = λ k d low. absurd (omega (arith, low)); short = λ k d low. absurd (omega (arith, low)) })

-- the files are those that the call was given
pub may_begin : {D : Type 0} {g : Ghosts D} (it : Unopened D g) (size : ℕ) (at : Image) → (state_of it).page_size ≡ size → image it ≡ at → IsUnstarted it → MayBegin size at
may_begin it size at size_is image_is may = subst (MayBegin size) image_is (subst (λ s. MayBegin s (image it)) size_is may)

-- a database with no table can be made of files in which one may be begun
pub can_create : {D : Type 0} {g : Ghosts D} (it : Unopened D g) (size : ℕ) (at : Image) → (state_of it).page_size ≡ size → image it ≡ at → wanted_by it ≡ [] → MayBegin size at → CanCreate it
can_create it size at size_is image_is none may =
    let plain = no_schema (wanted_by it) none in
    record { few = plain.0; schema = plain.1; files = subst (λ s. MayBegin s (image it)) (sym size_is) (subst (MayBegin size) (sym image_is) may) }
