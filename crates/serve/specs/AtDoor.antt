-- What nobody learns at the operator's door without the secret of an operator, and what the secret of one opens.
use Rattle.std.specs.Prelude.{◌≡◌, ◌≢◌, ◌⊎◌, ℕ, Bool, true, false, if◌then◌else◌, is_none, bytes_eq, codes, List, Option, Some, None}
use Rattle.basis.specs.declared.refusals.Refusal.{Refusal}
use Rattle.basis.specs.declared.refusals.Refusal.TheVariants.{BadSecret, BadQuery, NoMethod}
use Rattle.basis.specs.declared.refusals.Allow.TheVariants.{Actions}
use Rattle.basis.specs.declared.roles.Bounds.{Bounds}
use Rattle.basis.specs.declared.roles.Role.{Role}
use Rattle.docs.specs.Bodies.{error_text}
use Rattle.docs.specs.declared.logs.LogRow.{LogRow}
use Rattle.machine.specs.declared.records.Organization.{Organization}
use Rattle.wire.specs.declared.messages.Message.{Message}
use Rattle.wire.specs.Replies.{Answer, IsReplyText, refused_answer, unavailable_answer}
use Rattle.serve.specs.declared.doors.Door.TheVariants.{Open}
use Rattle.serve.specs.declared.steps.Admin.TheVariants.{TokenAdd}
use Rattle.serve.specs.Doors.{ComesToDoor}
use Rattle.serve.specs.Operators.{BringsSecret, BringsSecretOf}
use Rattle.serve.specs.declared.operators.Operator.{Operator}
use Rattle.serve.specs.Exchanges.{IsAnswered}
use Rattle.serve.specs.Logs.{unavailable_row, command_row, no_command_row, names_stop}
use Rattle.serve.specs.Service.{is_head, Stays}

-- a message that comes to the open door is answered
pub record IsReportedAtDoor (operators : List Operator) (now : ℕ) (message : Message) (old new : List ℕ → Option Organization) (text : List ℕ) (row : Option LogRow) (is_down : Bool) : Type 0 where
  pub received : List ℕ
  pub awaited : Bool
  pub comes : ComesToDoor received message awaited
  pub answered : IsAnswered (Open operators) now received old new awaited text row is_down

-- a message without the secret of an operator that counts changes nothing at the door
abbrev pub OnlyTheSecretOpens : Type 0
OnlyTheSecretOpens = (operators : List Operator) (now : ℕ) (message : Message) (old new : List ℕ → Option Organization) (text : List ℕ) (row : Option LogRow) (is_down : Bool)
    → IsReportedAtDoor operators now message old new text row is_down → BringsSecret operators now message ⊎ Stays old new

-- what a message without the secret is refused for: the method or the query, which are judged first, or the secret
abbrev pub refusal_without : Message → Refusal
refusal_without message = if bytes_eq message.method (codes "POST") then (if is_none message.query then BadSecret else BadQuery) else NoMethod Actions

-- the answer to a message without the secret
abbrev pub answer_without : Message → Answer
answer_without message = refused_answer (refusal_without message) (error_text (refusal_without message)) (is_head message)

-- all that a message without the secret is told: that answer, and the row of the log says no more. Once the message was read, a 503 answers it
-- only if the refusal is for the method or the query; the row of the 503 of a message that had not been read names nothing
abbrev pub IsToldNothing : Message → ℕ → List ℕ → Option LogRow → Bool → Type 0
IsToldNothing message now text row false = IsReplyText (answer_without message) now text × (row ≡ Some (no_command_row now None (answer_without message)))
IsToldNothing message now text row true =
    ((refusal_without message ≢ BadSecret) × IsReplyText (unavailable_answer (is_head message)) now text × (row ≡ Some (no_command_row now None (unavailable_answer false))))
    ⊎ (IsReplyText (unavailable_answer false) now text × (row ≡ Some (unavailable_row now)))

-- whatever secret a message brings that is no operator's, or that has ended, whatever the records are, and whether or not memory is short
abbrev pub WithoutTheSecret : Type 0
WithoutTheSecret = (operators : List Operator) (now : ℕ) (message : Message) (old new : List ℕ → Option Organization) (text : List ℕ) (row : Option LogRow) (is_down : Bool)
    → (BringsSecret operators now message → ⊥) → IsReportedAtDoor operators now message old new text row is_down → Stays old new × IsToldNothing message now text row is_down

-- two messages that were read, and are refused for their secrets, get equal replies and equal rows at a moment, whatever the secrets, the
-- operators, the bodies and the records are
abbrev pub WrongSecretsAreAlike : Type 0
WrongSecretsAreAlike = (operators others : List Operator) (now : ℕ) (m n : Message) (old new old' new' : List ℕ → Option Organization) (text text' : List ℕ) (row row' : Option LogRow) (is_down is_down' : Bool)
    → m.method ≡ n.method → m.query ≡ n.query → (BringsSecret operators now m → ⊥) → (BringsSecret others now n → ⊥) → refusal_without m ≡ BadSecret
    → row ≢ Some (unavailable_row now) → row' ≢ Some (unavailable_row now)
    → IsReportedAtDoor operators now m old new text row is_down → IsReportedAtDoor others now n old' new' text' row' is_down' → (text ≡ text') × (row ≡ row')

-- operators who may only list change nothing, and do not end the service
abbrev pub ListersChangeNothing : Type 0
ListersChangeNothing = (operators : List Operator) (now : ℕ) (message : Message) (old new : List ℕ → Option Organization) (text : List ℕ) (row : Option LogRow) (is_down : Bool)
    → ((operator : Operator) → BringsSecretOf operators now message operator → operator.lists_only ≡ true)
    → IsReportedAtDoor operators now message old new text row is_down → Stays old new × (names_stop row ≡ false)

-- the operator whom a row names brought the secret of that operator, which counts
abbrev pub LoggedOperatorsAsk : Type 0
LoggedOperatorsAsk = (operators : List Operator) (now : ℕ) (message : Message) (old new : List ℕ → Option Organization) (text : List ℕ) (row : LogRow) (is_down : Bool) (name : List ℕ)
    → IsReportedAtDoor operators now message old new text (Some row) is_down → row.operator ≡ Some name → (operator : Operator) × BringsSecretOf operators now message operator × (operator.name ≡ name)

-- the secret of a token that is added is in no row, whatever the answer is
abbrev pub AddedSecretsAreNotLogged : Type 0
AddedSecretsAreNotLogged = (now : ℕ) (by : Option (List ℕ)) (org name : List ℕ) (role : Role) (secret other : List ℕ) (bounds : Bounds) (answer : Answer)
    → command_row now by (TokenAdd org name role secret bounds) answer ≡ command_row now by (TokenAdd org name role other bounds) answer
