-- Contracts between functions: the door that is asked for.
use Rattle.std.specs.Prelude.{◌≡◌, ℕ, ◌+◌, ◌<◌, Bool, List, [], length, Option, Some, None, IfSome, Result, Ok, Err, ⊤}
use Rattle.std.specs.Io.KnownBytes.{IsAtEnd}
use Rattle.serve.specs.declared.doors.Door.{Door}
use Rattle.serve.specs.declared.doors.Door.TheVariants.{Open}
use Rattle.serve.specs.declared.operators.Operator.{Operator}
use Rattle.program.specs.Inputs.{IsReadIf}
use Rattle.program.specs.Operators.{AreOperators}
use Rattle.program.specs.Outcomes.{IsDoor}
use Rattle.program.specs.declared.line_faults.LineFault.{LineFault}
use Rattle.program.specs.declared.starting.Unopened.{Unopened}
use Rattle.program.specs.declared.starting.Unopened.TheVariants.{Line, Long, Down}

-- the door is open to these operators, or the line behind them is at fault
abbrev pub IsOpenedTo : List Operator → Option LineFault → Result Door Unopened → Type 0
IsOpenedTo operators fault (Ok door) = (fault ≡ None) × (door ≡ Open operators)
IsOpenedTo operators fault (Err (Line number why)) = (fault ≡ Some why) × (number ≡ length operators + 1)
IsOpenedTo operators fault (Err Long) = ⊥
IsOpenedTo operators fault (Err Down) = ⊥

-- the line of this number, from 1, is no operator, or there is none
abbrev pub IsBadLine : Option (List ℕ) → ℕ → LineFault → Type 0
IsBadLine input number fault = (operators : List Operator) × IfSome input (λ bytes. AreOperators [] bytes operators (Some fault)) × (number ≡ length operators + 1)

-- the door is that which is asked for, or a line of the input is no operator, or it is too long
abbrev pub OpensDoor : Bool → Option (List ℕ) → Result Door Unopened → Type 0
OpensDoor operates input (Ok door) = IsDoor operates input door
OpensDoor operates input (Err (Line number fault)) = IsBadLine input number fault
OpensDoor operates input (Err Long) = IfSome input (λ bytes. 65_536 < length bytes)
OpensDoor operates input (Err Down) = ⊤

-- the input is read, unless it is too long, memory was refused or a read failed
abbrev pub IsReadUnlessDown : {T : Type 0} → Option (List ℕ) → Result T Unopened → Type 0
IsReadUnlessDown left (Ok door) = IsAtEnd left
IsReadUnlessDown left (Err (Line number fault)) = IsAtEnd left
IsReadUnlessDown left (Err Long) = ⊤
IsReadUnlessDown left (Err Down) = ⊤

abbrev pub IsDoorRead : {T : Type 0} → Bool → Option (List ℕ) → Option (List ℕ) → Result T Unopened → Type 0
IsDoorRead operates old new (Ok door) = IsReadIf operates old new
IsDoorRead operates old new (Err (Line number fault)) = IsReadIf operates old new
IsDoorRead operates old new (Err Long) = ⊤
IsDoorRead operates old new (Err Down) = ⊤
