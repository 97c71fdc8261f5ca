-- How the program exits: its status, and the line on standard output.
use Rattle.std.specs.Prelude.{ℕ, List, [], codes}
use Rattle.program.specs.declared.exits.Exit.{Exit}
use Rattle.program.specs.declared.exits.Exit.TheVariants.{Done, Exists, Absent, InUse, Faults, Usage, BadFrame, Schema, Down, Unprinted}

-- the exit status
abbrev pub status_of : Exit → ℕ
status_of Done = 0
status_of Exists = 1
status_of Absent = 1
status_of InUse = 1
status_of Faults = 1
status_of Usage = 2
status_of BadFrame = 2
status_of Schema = 3
status_of Down = 3
status_of Unprinted = 3

-- the line, without its line feed
abbrev pub ending_line : Exit → List ℕ
ending_line Done = codes "ok"
ending_line Exists = codes "refused exists"
ending_line Absent = codes "refused absent"
ending_line InUse = codes "refused in-use"
ending_line Usage = codes "refused usage"
ending_line Schema = codes "refused schema"
ending_line Down = codes "refused down"
ending_line Faults = []
ending_line BadFrame = []
ending_line Unprinted = []
