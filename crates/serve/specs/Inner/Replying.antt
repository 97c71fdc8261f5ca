-- Contracts between functions: the reply to what was read, before its change is made and after it.
use Rattle.std.specs.Prelude.{◌≡◌, ℕ, Bool, true, false, List, Option, Some, Result, Ok, Err, ⊤}
use Rattle.machine.specs.declared.records.Organization.{Organization}
use Rattle.route.specs.Asks.{asked_of}
use Rattle.route.specs.Doors.{is_at_door}
use Rattle.wire.specs.declared.messages.Message.{Message}
use Rattle.wire.specs.declared.messages.WireFault.{WireFault}
use Rattle.wire.specs.declared.messages.WireFault.TheVariants.{Ended, Read, Continue, Refused, Down}
use Rattle.wire.specs.Links.{ReportsReceived}
use Rattle.wire.specs.Replies.{Answer, unavailable_answer}
use Rattle.docs.specs.declared.logs.LogRow.{LogRow}
use Rattle.serve.specs.Asks.{Ask, owner_of}
use Rattle.serve.specs.Asks as ask
use Rattle.serve.specs.Logs.{row_of_ask, unavailable_row, IsUnavailableRow}
use Rattle.serve.specs.Service.{is_head, asked_by, record_for, Carries, Stays}
use Rattle.serve.specs.Exchanges.{Exchanges}
use Rattle.serve.specs.declared.doors.Door.{Door}
use Rattle.serve.specs.declared.doors.Door.TheVariants.{Closed, Open}
use Rattle.serve.specs.declared.exchanges.LinkFault.{LinkFault}
use Rattle.serve.specs.Inner.Prepared.{IsPrepared}
use Rattle.serve.specs.Inner.Tracing.{as_unavailable}
use Rattle.serve.specs.declared.messages.Prepared.{Prepared}

-- whether the body of the reply to what was read is left out
abbrev pub without_body : Result Message WireFault → Bool
without_body (Ok message) = is_head message
without_body (Err (Refused refusal head)) = head
without_body (Err Down) = false
without_body (Err Ended) = false
without_body (Err Read) = false
without_body (Err Continue) = false

-- what is prepared is the reply to what was read, and the change that is to follow
abbrev pub PreparesFor : ℕ → (List ℕ → Option Organization) → Result Message WireFault → Prepared → Type 0
PreparesFor at rows (Ok message) p = (awaited : Bool) → IsPrepared rows (asked_by at awaited message (asked_of message)) p
PreparesFor at rows (Err (Refused refusal head)) p = IsPrepared rows (ask.refused at false refusal head false) p
PreparesFor at rows (Err Down) p = ⊥
PreparesFor at rows (Err Ended) p = ⊥
PreparesFor at rows (Err Read) p = ⊥
PreparesFor at rows (Err Continue) p = ⊥

-- the row of the log for what a request asks, by the records as they stand
abbrev pub IsLogged : (List ℕ → Option Organization) → Ask → LogRow → Type 0
IsLogged rows a row = (by : Option (List ℕ)) (answer : Answer) → row_of_ask by (record_for rows (owner_of a)) a answer ≡ Some row

abbrev pub LogsFor : ℕ → (List ℕ → Option Organization) → Result Message WireFault → LogRow → Type 0
LogsFor at rows (Ok message) row = (awaited : Bool) → IsLogged rows (asked_by at awaited message (asked_of message)) row
LogsFor at rows (Err (Refused refusal head)) row = IsLogged rows (ask.refused at false refusal head false) row
LogsFor at rows (Err Down) row = ⊥
LogsFor at rows (Err Ended) row = ⊥
LogsFor at rows (Err Read) row = ⊥
LogsFor at rows (Err Continue) row = ⊥

-- the row of the 503
abbrev pub IsLoggedDown : (List ℕ → Option Organization) → Ask → LogRow → Type 0
IsLoggedDown rows a row = (by : Option (List ℕ)) → IsUnavailableRow by (record_for rows (owner_of a)) a row

abbrev pub LogsDownFor : ℕ → (List ℕ → Option Organization) → Result Message WireFault → LogRow → Type 0
LogsDownFor at rows (Ok message) row = (awaited : Bool) → IsLoggedDown rows (asked_by at awaited message (asked_of message)) row
LogsDownFor at rows (Err (Refused refusal head)) row = row ≡ unavailable_row at
LogsDownFor at rows (Err Down) row = row ≡ unavailable_row at
LogsDownFor at rows (Err Ended) row = ⊥
LogsDownFor at rows (Err Read) row = ⊥
LogsDownFor at rows (Err Continue) row = ⊥

-- what was read is answered, with a door: by whatever was received that it reports, this is the exchange
abbrev pub AnswersTo : Door → ℕ → Result Message WireFault → (List ℕ → Option Organization) → (List ℕ → Option Organization) → Option (List ℕ) → Option (List ℕ) → Bool → Option LogRow → {T : Type 0} → Result T LinkFault → Type 0
AnswersTo door now read old new between after is_down row result =
    (received : List ℕ) (left before : Option (List ℕ)) → ReportsReceived received left before between read → Exchanges door now received left old new before after is_down row result

-- what was read passes by the door: the door is closed, or this is no message that comes to it
abbrev pub PassesBy : Door → Result Message WireFault → Type 0
PassesBy Closed read = ⊤
PassesBy (Open operators) (Ok message) = is_at_door message ≡ false
PassesBy (Open operators) (Err fault) = ⊤

-- it is answered so with every door that it passes by
abbrev pub AnswersPast : ℕ → Result Message WireFault → (List ℕ → Option Organization) → (List ℕ → Option Organization) → Option (List ℕ) → Option (List ℕ) → Bool → Option LogRow → {T : Type 0} → Result T LinkFault → Type 0
AnswersPast now read old new between after is_down row result = (door : Door) → PassesBy door read → AnswersTo door now read old new between after is_down row result

-- the row that is due: of what was prepared (`false`), or that of its 503 (`true`)
abbrev pub due_row : Bool → LogRow → LogRow
due_row false row = row
due_row true row = as_unavailable row

-- the reply that is due: what was prepared (`false`), or that of memory or a store that refused (`true`)
abbrev pub due_reply : Bool → Bool → Answer → Answer
due_reply false head reply = reply
due_reply true head reply = unavailable_answer head

-- the change that was prepared is made (`false`), or none is (`true`)
abbrev pub CommitsUnlessDown : Bool → Prepared → (List ℕ → Option Organization) → (List ℕ → Option Organization) → Type 0
CommitsUnlessDown false p old new = (a : Ask) → IsPrepared old a p → Carries a old new
CommitsUnlessDown true p old new = Stays old new
