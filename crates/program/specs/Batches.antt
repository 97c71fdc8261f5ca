-- Operator's commands, one per line.
use Rattle.std.specs.Prelude.{◌≡◌, ◌++◌, ℕ, List, [], ◌∷◌, Bool, true, Option, Some, None, cond, nat_eq, nat_le, option_map, position, ◌==◌, length, codes, decimal}
use Rattle.serve.specs.declared.steps.Admin.{Admin}
use Rattle.serve.specs.Lines.{parted}
use Rattle.serve.specs.Words.{command_in_line}
use Rattle.program.specs.declared.batches.BatchLine.{BatchLine}
use Rattle.program.specs.declared.batches.BatchLine.TheVariants.{Skipped, Command}
use Rattle.program.specs.LineFaults.{fault_text, has_return, line_fault}
use Rattle.program.specs.declared.line_faults.LineFault.{LineFault}

abbrev pub parted_or : Option ℕ → List ℕ → List ℕ × List ℕ
parted_or (Some n) bytes = parted n bytes
parted_or None bytes = (bytes, [])

-- the first line, with or without its line feed (10), and everything after it; none if there are no bytes
abbrev pub line_and_rest : List ℕ → Option (List ℕ × List ℕ)
line_and_rest bytes = cond (nat_eq (length bytes) 0) None (Some (parted_or (position (λ b. b == 10) bytes) bytes))

-- the command that a line of at most 4,096 bytes is
abbrev pub command_of_line : List ℕ → Option Admin
command_of_line line = cond (nat_le (length line) 4096) (command_in_line line) None

-- nothing is done for an empty line, or for one that begins with `#` (35), whatever else it has
abbrev pub is_skipped : List ℕ → Bool
is_skipped [] = true
is_skipped (b ∷ line) = b == 35

-- what is done for a line: nothing, or its command; none if it ends with CR, or if it is neither skipped nor a command
abbrev pub line_of : List ℕ → Option BatchLine
line_of line = cond (has_return line) None (cond (is_skipped line) (Some Skipped) (option_map (λ command. Command command) (command_of_line line)))

-- at the end is nothing, or a line that is neither skipped nor a command, with this fault
abbrev pub Ends : List ℕ → Option LineFault → Type 0
Ends bytes None = bytes ≡ []
Ends bytes (Some fault) =
    (line : List ℕ) × (rest : List ℕ) × (line_and_rest bytes ≡ Some (line, rest)) × (line_of line ≡ None) × (line_fault line ≡ fault)

-- this is done for the lines of the bytes, in order, and then nothing follows, or a line that is neither skipped nor a command, with this fault
abbrev pub AreLines : List ℕ → List BatchLine → Option LineFault → Type 0
AreLines bytes [] fault = Ends bytes fault
AreLines bytes (it ∷ lines) fault =
    (line : List ℕ) × (rest : List ℕ) × (line_and_rest bytes ≡ Some (line, rest)) × (line_of line ≡ Some it) × AreLines rest lines fault

-- the first command among lines
abbrev pub first_command : List BatchLine → Option Admin
first_command [] = None
first_command (Skipped ∷ lines) = first_command lines
first_command (Command command ∷ lines) = Some command

-- which line is neither skipped nor a command, by its number from 1, and why
abbrev pub bad_line_text : ℕ → List ℕ
bad_line_text line = codes "custody: bad line " ++ (decimal line ++ 10 ∷ [])

abbrev pub bad_text : ℕ → LineFault → List ℕ
bad_text line fault = bad_line_text line ++ fault_text fault

-- after the command of which line no further one was carried out
abbrev pub stopped_text : ℕ → List ℕ
stopped_text line = codes "custody: stopped at line " ++ (decimal line ++ 10 ∷ [])
