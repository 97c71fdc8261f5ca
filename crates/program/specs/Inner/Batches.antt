-- Why a line is not read.
use Rattle.std.specs.Prelude.{◌≡◌, ℕ, List, None, ⊤}
use Rattle.program.specs.Batches.{line_of}
use Rattle.program.specs.LineFaults.{line_fault}
use Rattle.program.specs.declared.batches.LineUnread.{LineUnread}
use Rattle.program.specs.declared.batches.LineUnread.TheVariants.{Fault, Down}

-- the line is neither skipped nor a command, with this fault; if an allocation failed, it may be either
abbrev pub IsUnread : List ℕ → LineUnread → Type 0
IsUnread line (Fault fault) = (line_of line ≡ None) × (line_fault line ≡ fault)
IsUnread line Down = ⊤
