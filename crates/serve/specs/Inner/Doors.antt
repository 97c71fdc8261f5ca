-- Contracts between functions: what is answered at the operator's door, before it is written.
use Rattle.std.specs.Prelude.{◌≡◌, ◌⊎◌, ℕ, Bool, List, Option, Result, Ok, Err}
use Rattle.basis.specs.declared.refusals.Refusal.{Refusal}
use Rattle.docs.specs.Bodies.{error_text}
use Rattle.docs.specs.declared.logs.LogRow.{LogRow}
use Rattle.machine.specs.declared.keeps.AdminAnswer.{AdminAnswer}
use Rattle.machine.specs.declared.keeps.AdminAnswer.TheVariants.{Done}
use Rattle.machine.specs.declared.records.Organization.{Organization}
use Rattle.wire.specs.declared.messages.Message.{Message}
use Rattle.wire.specs.Replies.{Answer, refused_answer}
use Rattle.serve.specs.declared.doors.Door.TheVariants.{Open}
use Rattle.serve.specs.declared.doors.DoorCommand.{DoorCommand}
use Rattle.serve.specs.declared.doors.DoorCommand.TheVariants.{OnStore, Stop}
use Rattle.serve.specs.declared.doors.Operated.{Operated}
use Rattle.serve.specs.declared.operators.Operator.{Operator}
use Rattle.serve.specs.Asks.{Ask, commands, stops}
use Rattle.serve.specs.Doors.{commanded, reported_answer, asked_at_door, ComesToDoor}
use Rattle.serve.specs.Exchanges.{IsAnswered}
use Rattle.serve.specs.Operators.{operator_named}
use Rattle.serve.specs.Logs.{command_row, no_command_row, stop_row, IsUnavailableRow}
use Rattle.serve.specs.Service.{is_head, Carries, Stays, IsAdminAnswer}

-- what a command at the door asks
abbrev pub ask_commanded : ℕ → DoorCommand → Ask
ask_commanded at (OnStore command) = commands at command
ask_commanded at Stop = stops at

-- its row
abbrev pub row_commanded : ℕ → Option (List ℕ) → DoorCommand → Answer → LogRow
row_commanded at by (OnStore command) answer = command_row at by command answer
row_commanded at by Stop answer = stop_row at by answer

-- its answer
abbrev pub IsAnswerThere : (List ℕ → Option Organization) → DoorCommand → AdminAnswer → Type 0
IsAnswerThere old (OnStore command) answer = IsAdminAnswer old command answer
IsAnswerThere old Stop answer = answer ≡ Done

-- a command is carried out, and this is its reply and its row
pub record Operates (at : ℕ) (by : Option (List ℕ)) (command : DoorCommand) (old new : List ℕ → Option Organization) (done : Operated) : Type 0 where
  pub answer : AdminAnswer
  pub answered : IsAnswerThere old command answer
  pub carries : Carries (ask_commanded at command) old new
  pub reply : done.reply ≡ reported_answer answer
  pub row : done.row ≡ row_commanded at by command (reported_answer answer)

-- a message is refused, and this is its reply and its row
pub record TurnsAway (at : ℕ) (by : Option (List ℕ)) (refusal : Refusal) (head : Bool) (done : Operated) : Type 0 where
  pub reply : done.reply ≡ refused_answer refusal (error_text refusal) head
  pub row : done.row ≡ no_command_row at by (refused_answer refusal (error_text refusal) head)

-- the command that a message asks for is carried out, or the message is refused and nothing changes; the row has this operator's name
abbrev pub OperatesAs : Result DoorCommand Refusal → Option (List ℕ) → ℕ → Message → (List ℕ → Option Organization) → (List ℕ → Option Organization) → Operated → Type 0
OperatesAs asks by at message old new done =
    ((command : DoorCommand) × (asks ≡ Ok command) × Operates at by command old new done)
    ⊎ ((refusal : Refusal) × (asks ≡ Err refusal) × Stays old new × TurnsAway at by refusal (is_head message) done)

abbrev pub OperatesOrNot : List Operator → ℕ → Message → (List ℕ → Option Organization) → (List ℕ → Option Organization) → Operated → Type 0
OperatesOrNot operators at message old new done = OperatesAs (commanded operators at message) (operator_named operators at message) at message old new done

-- the row of the 503 to a message at the door
abbrev pub IsRowAs : Result DoorCommand Refusal → Option (List ℕ) → ℕ → Message → LogRow → Type 0
IsRowAs asks by at message row = (r : Option Organization) (awaited : Bool) → IsUnavailableRow by r (asked_at_door at awaited message asks) row

abbrev pub IsRowSoFar : List Operator → ℕ → Message → LogRow → Type 0
IsRowSoFar operators at message row = IsRowAs (commanded operators at message) (operator_named operators at message) at message row

-- a message at the open door is answered, whatever bytes it was read from
abbrev pub IsAnsweredThere : List Operator → ℕ → Message → (List ℕ → Option Organization) → (List ℕ → Option Organization) → List ℕ → Option LogRow → Bool → Type 0
IsAnsweredThere operators at message old new text row is_down = (received : List ℕ) (awaited : Bool) → ComesToDoor received message awaited → IsAnswered (Open operators) at received old new awaited text row is_down
