-- The operator's door: what bytes ask with it, and how what they ask is carried out and answered.
use Rattle.std.specs.Prelude.{◌≡◌, ℕ, Bool, false, true, nat_le, cond, if◌then◌else◌, List, length, Option, Some, None, option_and_then, option_map, bytes_eq, codes, Result, Ok, Err, IsTrue}
use Rattle.basis.specs.declared.refusals.Refusal.{Refusal}
use Rattle.basis.specs.declared.refusals.Refusal.TheVariants.{BadBody}
use Rattle.basis.specs.Checks.{or_refused, and_then}
use Rattle.machine.specs.declared.keeps.AdminAnswer.{AdminAnswer}
use Rattle.machine.specs.declared.keeps.AdminAnswer.TheVariants.{Done}
use Rattle.machine.specs.declared.records.Organization.{Organization}
use Rattle.route.specs.Asks.{asked_of}
use Rattle.route.specs.Doors.{is_at_door}
use Rattle.wire.specs.declared.messages.Message.{Message}
use Rattle.wire.specs.Messages.{Reading, Reads, unfinished, whole}
use Rattle.wire.specs.Messages as wire
use Rattle.wire.specs.Replies.{Answer, text_answer}
use Rattle.serve.specs.declared.doors.Door.{Door}
use Rattle.serve.specs.declared.doors.Door.TheVariants.{Closed, Open}
use Rattle.serve.specs.declared.doors.DoorCommand.{DoorCommand}
use Rattle.serve.specs.declared.doors.DoorCommand.TheVariants.{OnStore, Stop}
use Rattle.serve.specs.declared.operators.Operator.{Operator}
use Rattle.serve.specs.Asks.{Ask, silent, refused, requests, commands, stops}
use Rattle.serve.specs.Checks.{digest_checked}
use Rattle.serve.specs.Lines.{only_line}
use Rattle.serve.specs.Operators.{let_in, operator_named, permitted}
use Rattle.serve.specs.Service.{asked_by, ask_of, is_head, Carries, said_to, IsAdminAnswer, reported_text, reported_refusal}
use Rattle.serve.specs.Steps.{replies}
use Rattle.serve.specs.Words.{command_in_line}

-- the command at the door that a line is: `stop`, or an operator's command on the store
abbrev pub door_command : List ℕ → Option DoorCommand
door_command line = if bytes_eq line (codes "stop") then Some Stop else option_map OnStore (command_in_line line)

-- the command that a body of at most 4,096 bytes is: one line, with or without its line feed
abbrev pub command_in : List ℕ → Result DoorCommand Refusal
command_in body = or_refused BadBody (cond (nat_le (length body) 4096) (option_and_then door_command (only_line body)) None)

-- the command that a message asks for once it may enter, or the refusal of the first check that fails: Content-MD5, the body
abbrev pub command_asked : Message → Result DoorCommand Refusal
command_asked message = and_then (digest_checked message.content_md5 message.body) (λ _. command_in message.body)

-- the command that a message of this operator asks for, or the refusal of the first check that fails: Content-MD5, the body, what the operator
-- may ask for
abbrev pub command_permitted : Operator → Message → Result DoorCommand Refusal
command_permitted operator message = and_then (command_asked message) (permitted operator.lists_only)

-- the command that a message at the open door asks for at a moment, or the refusal of the first check that fails: the method, the query, the
-- secret, Content-MD5, the body, what its operator may ask for
abbrev pub commanded : List Operator → ℕ → Message → Result DoorCommand Refusal
commanded operators at message = and_then (let_in operators at message) (λ operator. command_permitted operator message)

-- the bytes are a message that comes to the door; whether `100 Continue` is awaited
pub record ComesToDoor (received : List ℕ) (message : Message) (awaited : Bool) : Type 0 where
  pub reads : Reads received (whole message awaited)
  pub at_door : IsTrue (is_at_door message)

-- the reply to a command that is carried out: what the program would print
abbrev pub reported_answer : AdminAnswer → Answer
reported_answer answer = text_answer (reported_refusal answer) (reported_text answer)

-- ---- what is asked

-- what a message at the open door asks at a moment: its command, or that it is turned away
abbrev pub asked_at_door : ℕ → Bool → Message → Result DoorCommand Refusal → Ask
asked_at_door at awaited message (Ok (OnStore command)) = commands at command
asked_at_door at awaited message (Ok Stop) = stops at
asked_at_door at awaited message (Err refusal) = refused at awaited refusal (is_head message) true

-- what the reading of a string of bytes asks at a moment, with this door
abbrev pub ask_with : Door → ℕ → Reading → Ask
ask_with Closed at reading = ask_of at reading
ask_with (Open operators) at unfinished = silent
ask_with (Open operators) at (wire.refused refusal head) = refused at false refusal head false
ask_with (Open operators) at (whole message awaited) =
    if is_at_door message then asked_at_door at awaited message (commanded operators at message) else asked_by at awaited message (asked_of message)

-- the name of the operator whom the reading of a string of bytes lets in at a moment, with this door
abbrev pub operator_with : Door → ℕ → Reading → Option (List ℕ)
operator_with Closed at reading = None
operator_with (Open operators) at unfinished = None
operator_with (Open operators) at (wire.refused refusal head) = None
operator_with (Open operators) at (whole message awaited) = operator_named operators at message

-- whether `100 Continue` comes before the reply
abbrev pub awaits : Reading → Bool
awaits unfinished = false
awaits (wire.refused refusal head) = false
awaits (whole message awaited) = awaited

-- what the bytes of a connection ask at a moment, with this door, and whether `100 Continue` comes before the reply
pub record AsksWith (door : Door) (at : ℕ) (bytes : List ℕ) (awaited : Bool) (ask : Ask) : Type 0 where
  pub reading : Reading
  pub reads : Reads bytes reading
  pub due : awaited ≡ awaits reading
  pub is : ask ≡ ask_with door at reading

-- the answer on a connection to what is asked, by the records before: to a command what the program would print; to `stop` the word `ok`
abbrev pub IsAnswerTo : (List ℕ → Option Organization) → ℕ → Bool → Ask → Answer → Type 0
IsAnswerTo rows at awaited silent answer = ⊥
IsAnswerTo rows at awaited (refused now due refusal is_head at_door) answer = said_to rows (refused now due refusal is_head at_door) ≡ replies awaited at answer
IsAnswerTo rows at awaited (requests now due asked content_md5 body) answer = said_to rows (requests now due asked content_md5 body) ≡ replies awaited at answer
IsAnswerTo rows at awaited (stops now) answer = answer ≡ reported_answer Done
IsAnswerTo rows at awaited (commands now command) answer = (a : AdminAnswer) × IsAdminAnswer rows command a × (answer ≡ reported_answer a)

-- what the bytes of a connection ask is carried out, and this is the answer
pub record CarriesOut (door : Door) (at : ℕ) (received : List ℕ) (awaited : Bool) (ask : Ask) (answer : Answer) (old new : List ℕ → Option Organization) : Type 0 where
  pub asks : AsksWith door at received awaited ask
  pub carries : Carries ask old new
  pub answers : IsAnswerTo old at awaited ask answer
