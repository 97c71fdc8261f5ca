-- The lines of the error stream.
use Rattle.std.specs.Prelude.{◌++◌, ℕ, List, [], ◌∷◌, Bool, true, false, Result, Ok, Err, codes, decimal}
use Rattle.serve.specs.declared.exchanges.LinkFault.{LinkFault}
use Rattle.serve.specs.declared.exchanges.LinkFault.TheVariants.{Ended, Read, Continue, Write}
use Rattle.program.specs.declared.reasons.Cause.{Cause}
use Rattle.program.specs.declared.reasons.Cause.TheVariants.{InUse, NotPermitted, NoFile, NoFolder, NoTargetFolder, Missing, LogAlone, OldLog, NoTables, Journal, Corrupt, Unsound, NoRoom, NoMemory, Disk, Store, Unfinished, Shut, Halted, Unknown, Input, PortTaken, PortNotPermitted, Port, SocketTaken, NoSocket, SocketNotPermitted, Socket, Accept, Clock, Log, Moved, Faults, SourceFaults, CopyFaults, NotCopied, Encoding, NoNull}
use Rattle.program.specs.declared.reasons.OtherSchema.{OtherSchema}
use Rattle.program.specs.declared.reasons.OtherSchema.TheVariants.{Older, Version, Unversioned}
use Rattle.program.specs.Streams.{Reported, Reports}

-- the text for a link fault
abbrev pub fault_text : LinkFault → List ℕ
fault_text Ended = codes "the peer closed the connection before its request was complete"
fault_text Read = codes "a read failed"
fault_text Continue = codes "100 Continue could not be sent"
fault_text Write = codes "the reply could not be sent completely"

-- a line about the connection of this number, from 1
abbrev pub connection_line : ℕ → List ℕ → List ℕ
connection_line connection text = codes "custody: connection " ++ decimal connection ++ codes ": " ++ text ++ 10 ∷ []

-- the line about a connection that got the 503 of a failed allocation or store (`true`); otherwise there is none
abbrev pub down_line : ℕ → Bool → List ℕ
down_line connection true = connection_line connection (codes "out of memory or the store failed; replied 503")
down_line connection false = []

-- the line about a connection that ended in a link fault; otherwise there is none
abbrev pub fault_line : {T : Type 0} → ℕ → Result T LinkFault → List ℕ
fault_line connection (Ok done) = []
fault_line connection (Err fault) = connection_line connection (fault_text fault)

-- the error stream gets the lines about the connection of this number: the line about the 503 exactly if that was the reply, then the line
-- about the link fault exactly if there was one
abbrev pub GetsConnectionLines : {T : Type 0} → ℕ → Bool → Result T LinkFault → Reported → Reported → Type 0
GetsConnectionLines connection is_down result old new = Reports old new (down_line connection is_down ++ fault_line connection result)

-- the line for a WAL that stays beside its file
abbrev pub log_line : List ℕ
log_line = codes "custody: the WAL could not be copied into the file: keep the file and its -wal together\n"

-- the line for a file or WAL that other users may read
abbrev pub readers_line : List ℕ
readers_line = codes "custody: users other than its owner may read the file or its -wal: chmod 600 ends that\n"

-- the line for operators that take more room than they may
abbrev pub long_operators_line : List ℕ
long_operators_line = codes "custody: the lines of the operators have more than 65536 bytes\n"

-- the line for a secret that is not valid
abbrev pub secret_line : List ℕ
secret_line = codes "custody: the secret must be one line of 16 to 64 ASCII letters or digits\n"

-- the line for a file that was created
abbrev pub new_line : List ℕ
new_line = codes "custody: there was no file at the path; a new one was created\n"

-- the line for each cause of `refused down`
abbrev pub cause_line : Cause → List ℕ
cause_line InUse = codes "custody: another program has the file open\n"
cause_line NotPermitted = codes "custody: no permission to read and write the file or its folder\n"
cause_line NoFile = codes "custody: the path does not lead to a file, or the file has more than one hard link\n"
cause_line NoFolder = codes "custody: the folder of the --db file does not exist\n"
cause_line NoTargetFolder = codes "custody: the folder of the --to file does not exist\n"
cause_line Missing = codes "custody: there is no file at the path, or it is empty; only org-add, serve without --check, and --to create one\n"
cause_line LogAlone = codes "custody: the file is missing or empty, and the -wal beside it may hold changes: put the file back\n"
cause_line OldLog = codes "custody: the -wal beside the file is older than the file, or damaged: put the right one back\n"
cause_line NoTables = codes "custody: the file is a database without custody's tables\n"
cause_line Journal = codes "custody: a rollback journal lies beside the file: open the file with sqlite3 first\n"
cause_line Corrupt = codes "custody: the file is damaged: a page's checksum or format is wrong\n"
cause_line Unsound = codes "custody: the file is not a database, or it is damaged: its rows break its schema\n"
cause_line NoRoom = codes "custody: there is no space left on the disk\n"
cause_line NoMemory = codes "custody: out of memory\n"
cause_line Disk = codes "custody: the disk or the system reported an error\n"
cause_line Store = codes "custody: out of memory or the store failed; no record was changed\n"
cause_line Unfinished = codes "custody: out of memory or a store failed before everything was copied: delete the new file and start again\n"
cause_line Shut = codes "custody: a disk error closed the store: check the disk\n"
cause_line Halted = codes "custody: a disk error closed the store: check the disk. The change may have been made: look before you repeat it\n"
cause_line Unknown = codes "custody: out of memory or the store failed. The change may have been made: look before you repeat it\n"
cause_line Input = codes "custody: the input could not be read, or out of memory\n"
cause_line PortTaken = codes "custody: the port is in use\n"
cause_line PortNotPermitted = codes "custody: no permission to use the port\n"
cause_line Port = codes "custody: could not listen on the port\n"
cause_line SocketTaken = codes "custody: another program answers at the socket\n"
cause_line NoSocket = codes "custody: something else than a socket stands at the path of --socket\n"
cause_line SocketNotPermitted = codes "custody: no permission to use the socket or its folder\n"
cause_line Socket = codes "custody: could not listen at the socket: its folder must exist, and its path have 1 to 107 bytes\n"
cause_line Accept = codes "custody: a connection could not be accepted\n"
cause_line Clock = codes "custody: the clock could not be read, or it is out of range\n"
cause_line Log = codes "custody: the exchange log could not be written, so the service stops\n"
cause_line Moved = codes "custody: the file at the path is gone or another one now, or its -wal is: put the right ones there before the next start\n"
cause_line Faults = codes "custody: the file's tables have faults, so the service does not start:\n"
cause_line SourceFaults = codes "custody: the file's tables have faults, so nothing is copied:\n"
cause_line CopyFaults = codes "custody: the tables of the --copied-to file have faults, so nothing is removed:\n"
cause_line NotCopied = codes "custody: the --copied-to file does not hold the same organization, so nothing is removed\n"
cause_line Encoding = codes "custody: an argument is not UTF-8\n"
cause_line NoNull = codes "custody: a standard stream is closed, and /dev/null could not be opened\n"

-- the line for a file of this many bytes for which there was not enough memory
abbrev pub memory_line : ℕ → List ℕ
memory_line bytes = codes "custody: out of memory while opening the file of " ++ (decimal bytes ++ codes " bytes\n")

-- the line for a stream that did not take everything
abbrev pub unprinted_line : List ℕ
unprinted_line = codes "custody: not everything could be printed to standard output or standard error\n"

-- a line about a file that has this version, with this end
abbrev pub version_line : ℕ → List ℕ → List ℕ
version_line version end = codes "custody: the file has version " ++ (decimal version ++ end)

-- the line for each cause of `refused schema`
abbrev pub other_line : OtherSchema → List ℕ
other_line (Older version) = version_line version (codes " of the schema, an older one: serve or admin raises it\n")
other_line (Version version) = version_line version (codes " of the schema, which this program does not know, or its tables are different\n")
other_line Unversioned = codes "custody: the file has tables with this schema's names, but no schema version\n"
