-- How much each command reads of standard input. Those that read nothing leave it as it was, so a terminal or an open pipe delays none of
-- them. The others read all of it; `serve` up to a limit.
use Rattle.std.specs.Prelude.{◌≡◌, ◌⊎◌, ◌<◌, ℕ, List, length, IfSome, Bool, true, false, Option, Some}
use Rattle.std.specs.Io.KnownBytes.{IsAtEnd}
use Rattle.command_line.specs.Orders.{Asked, carries, adds_token, checks_file, copies, removes_copied, compacts, serves, carries_all, replays, reports_version}
use Rattle.command_line.specs.Words.{asked_in}
use Rattle.program.specs.declared.exits.Exit.{Exit}
use Rattle.program.specs.declared.reasons.Cause.TheVariants as cause
use Rattle.program.specs.Exits.{status_of}
use Rattle.program.specs.Outcomes.{Stream, Errors, error_stream, Refuses, RefusesWords, ReportsEnd}
use Rattle.program.specs.Streams.{Reported}

-- nothing is left of it; or a read or an allocation failed, which is reported
abbrev pub ReadsAll : Option (List ℕ) → Exit → Stream → Errors → Type 0
ReadsAll left e output errors = IsAtEnd left ⊎ Refuses cause.Input e output errors

-- if it is to be read (`true`), nothing is left of it; otherwise it is as it was
abbrev pub IsReadIf : Bool → Option (List ℕ) → Option (List ℕ) → Type 0
IsReadIf true old new = IsAtEnd new
IsReadIf false old new = new ≡ old

-- the operators of a door are read, if one is asked for (`true`): nothing is left, or there are more than 65,536 bytes, or a read or an
-- allocation failed. Otherwise the input is as it was
abbrev pub ReadsOperatorsIf : Bool → Option (List ℕ) → Option (List ℕ) → Exit → Stream → Errors → Type 0
ReadsOperatorsIf true old new e output errors = IfSome old (λ bytes. 65_536 < length bytes) ⊎ ReadsAll new e output errors
ReadsOperatorsIf false old new e output errors = new ≡ old

-- what is left of standard input, before and after a command: `token-add` reads its secret, `serve` its operators if its door is to be open,
-- `admin` and `replay` their lines and frames
abbrev pub LeavesInput : Asked → Option (List ℕ) → Option (List ℕ) → Exit → Stream → Errors → Type 0
LeavesInput (carries db command) old new e output errors = new ≡ old
LeavesInput (adds_token db org name role bounds) old new e output errors = ReadsAll new e output errors
LeavesInput (checks_file db) old new e output errors = new ≡ old
LeavesInput (copies from to org) old new e output errors = new ≡ old
LeavesInput (removes_copied db copy org is_forced) old new e output errors = new ≡ old
LeavesInput (compacts from to) old new e output errors = new ≡ old
LeavesInput (serves db site count timeouts logs checks operates) old new e output errors = ReadsOperatorsIf operates old new e output errors
LeavesInput (carries_all db) old new e output errors = ReadsAll new e output errors
LeavesInput replays old new e output errors = ReadsAll new e output errors
LeavesInput reports_version old new e output errors = new ≡ old

-- the same by the words; words that are refused read nothing
abbrev pub LeavesInputFor : List (List ℕ) → Option (List ℕ) → Option (List ℕ) → Exit → Stream → Errors → Type 0
LeavesInputFor words old new e output errors =
    ((asked : Asked) × (asked_in words ≡ Some asked) × LeavesInput asked old new e output errors) ⊎ (RefusesWords words e output errors × (new ≡ old))

-- the same by the program's exit status and all that it prints
abbrev pub LeavesInputAt : List (List ℕ) → ℕ → Option (List ℕ) → Option (List ℕ) → Stream → Errors → Type 0
LeavesInputAt words status old new output errors =
    (exit : Exit) × (reported : Reported) × (status ≡ status_of exit) × LeavesInputFor words old new exit output (error_stream errors.old reported) × ReportsEnd exit (error_stream reported errors.new)
