-- Why the system or SQLite refused a file, a port or a socket, in the program's words.
use Rattle.std.specs.Prelude.{◌≡◌, ◌<◌, nat_lt, if◌then◌else◌, Bool, true, false, Result, Ok, Err, ⊤}
use Rattle.std.specs.IoError.{error_kind}
use Rattle.std.specs.declared.io.ErrorKind.{ErrorKind}
use Rattle.std.specs.declared.io.ErrorKind.TheVariants as kind
use Rattle.sqlite.specs.declared.error.Error.{Error}
use Rattle.sqlite.specs.declared.error.Error.TheVariants.{SqliteFailure}
use Rattle.sqlite.specs.declared.error.ErrorCode.TheVariants as code
use Rattle.sqlite_disk.specs.declared.tally.Tally.{Tally}
use Rattle.sqlite_std_file.specs.declared.pair.OpenError.{OpenError as PairError}
use Rattle.sqlite_std_file.specs.declared.pair.OpenError.TheVariants as pair
use Rattle.sqlite_store.specs.declared.error.OpenError.{OpenError}
use Rattle.sqlite_store.specs.declared.error.OpenError.TheVariants as begin
use Rattle.program.specs.declared.reasons.Cause.{Cause}
use Rattle.program.specs.declared.reasons.Cause.TheVariants.{InUse, NotPermitted, NoFile, NoFolder, Missing, LogAlone, OldLog, NoTables, Journal, Corrupt, Unsound, NoRoom, NoMemory, Disk, Store, PortTaken, PortNotPermitted, Port, SocketNotPermitted, Socket}
use Rattle.program.specs.declared.environment.Standing.{Standing}
use Rattle.program.specs.declared.environment.Standing.TheVariants as standing
use Rattle.program.specs.declared.reasons.OpenFault.{OpenFault}
use Rattle.program.specs.declared.reasons.OtherSchema.{OtherSchema}
use Rattle.program.specs.declared.reasons.OtherSchema.TheVariants.{Older, Version, Unversioned}
use Rattle.statements.specs.declared.making.TheConstants.{SCHEMA_VERSION}
use Rattle.program.specs.declared.reasons.OpenFault.TheVariants.{Schema, Down, Memory}

-- a failed call on a file
abbrev pub system_cause : ErrorKind → Cause
system_cause kind.PermissionDenied = NotPermitted
system_cause kind.ReadOnlyFilesystem = NotPermitted
system_cause kind.Unsupported = NoFile
system_cause kind.IsADirectory = NoFile
system_cause kind.NotFound = NoFolder
system_cause kind.NotADirectory = NoFolder
system_cause kind.StorageFull = NoRoom
system_cause kind.QuotaExceeded = NoRoom
system_cause kind.OutOfMemory = NoMemory
system_cause _ = Disk

-- a failed open of a file and its WAL: `Busy` if another handle has them locked
abbrev pub pair_cause : PairError → Cause
pair_cause (pair.Io error) = system_cause (error_kind error)
pair_cause pair.OutOfMemory = NoMemory
pair_cause pair.Busy = InUse
pair_cause pair.HotJournal = Journal

-- a failed open of a database in files
abbrev pub database_cause : Error → Cause
database_cause (SqliteFailure code.OutOfMemory) = NoMemory
database_cause (SqliteFailure code.DiskFull) = NoRoom
database_cause (SqliteFailure code.DatabaseCorrupt) = Corrupt
database_cause (SqliteFailure code.NotADatabase) = Unsound
database_cause _ = Disk

-- Why no database was begun in files, by the failed disk calls before and since.
abbrev pub begun_cause : OpenError → Tally → Tally → Cause
begun_cause begin.OutOfMemory before since = NoMemory
begun_cause begin.Io before since = if nat_lt before.refused since.refused then NoRoom else Disk
begun_cause _ before since = Disk

-- a failed listen on a port
abbrev pub port_cause : ErrorKind → Cause
port_cause kind.AddrInUse = PortTaken
port_cause kind.PermissionDenied = PortNotPermitted
port_cause kind.OutOfMemory = NoMemory
port_cause _ = Port

-- a failed listen at a socket, or a failed look at what stands there
abbrev pub socket_cause : ErrorKind → Cause
socket_cause kind.PermissionDenied = SocketNotPermitted
socket_cause kind.OutOfMemory = NoMemory
socket_cause _ = Socket

-- what a socket is to which no connection was made, by why: nobody answers only if the system says that it was refused
abbrev pub standing_of : ErrorKind → Result Standing Cause
standing_of kind.ConnectionRefused = Ok standing.Silent
standing_of other = Err (socket_cause other)

-- Why a file is not opened, except for memory.
abbrev pub is_file_cause : Cause → Bool
is_file_cause InUse = true
is_file_cause NotPermitted = true
is_file_cause NoFile = true
is_file_cause NoFolder = true
is_file_cause Missing = true
is_file_cause LogAlone = true
is_file_cause OldLog = true
is_file_cause NoTables = true
is_file_cause Journal = true
is_file_cause Corrupt = true
is_file_cause Unsound = true
is_file_cause NoRoom = true
is_file_cause Disk = true
is_file_cause Store = true
is_file_cause _ = false

-- the same, or for memory
abbrev pub is_open_cause : Cause → Bool
is_open_cause NoMemory = true
is_open_cause cause = is_file_cause cause

-- an older version is one before the newest
abbrev pub IsOtherSchema : OtherSchema → Type 0
IsOtherSchema (Older version) = version < SCHEMA_VERSION
IsOtherSchema (Version version) = ⊤
IsOtherSchema Unversioned = ⊤

-- The result of opening the system's files: out of memory comes with the file's size, and every other cause is one of files.
abbrev pub IsFileFault : OpenFault → Type 0
IsFileFault (Schema other) = IsOtherSchema other
IsFileFault (Memory bytes) = ⊤
IsFileFault (Down cause) = is_file_cause cause ≡ true
