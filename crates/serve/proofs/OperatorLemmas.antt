-- What an operator's secret opens, and whom the log names.
use Rattle.serve.proofs.Outside.{◌≡◌, inl, inr, ℕ, Bool, true, false, List, Option, Some, None, Result, Ok, Err, refl, sym, ap, subst, ◌∙◌, Refusal, LogRow, Organization, Reading, Answer, Message}
use Rattle.std.proofs.lemmas.Option.{same_Some}
use Rattle.serve.specs.Asks.{Ask, owner_of}
use Rattle.serve.specs.AtDoor.{ListersChangeNothing, LoggedOperatorsAsk}
use Rattle.serve.specs.Doors.{commanded, asked_at_door, ask_with, operator_with}
use Rattle.serve.specs.Exchanges.{IsUnavailable}
use Rattle.serve.specs.Logs.{names_stop, row_of_ask, IsUnreadRow, IsUnavailableRow}
use Rattle.serve.specs.Operators.{let_in, name_of, operator_named, permitted, BringsSecretOf}
use Rattle.serve.specs.Service.{record_for, Carries, Stays}
use Rattle.serve.specs.declared.doors.Door.TheVariants.{Open}
use Rattle.serve.specs.declared.doors.DoorCommand.{DoorCommand}
use Rattle.serve.specs.declared.doors.DoorCommand.TheVariants.{OnStore, Stop}
use Rattle.serve.specs.declared.operators.Operator.{Operator}
use Rattle.serve.specs.declared.steps.Admin.TheVariants.{OrgAdd, OrgLimit, OrgRemove, OrgList, TokenAdd, TokenList, TokenRevoke}
use Rattle.serve.proofs.DoorLemmas.{brought, brings, named_there, asks_message, carried_there}
use Rattle.serve.proofs.ServedLemmas.{down_names_no_stop}

-- ---- who may only list

-- what such an operator asks changes nothing, and is not `stop`
lists : (at : ℕ) (awaited : Bool) (message : Message) (by : Option (List ℕ)) (r : Option Organization) (old new : List ℕ → Option Organization) (answer : Answer) (asks : Result DoorCommand Refusal)
    → ((command : DoorCommand) → asks ≡ Ok command → permitted true command ≡ Ok command) → Carries (asked_at_door at awaited message asks) old new
    → Stays old new × (names_stop (row_of_ask by r (asked_at_door at awaited message asks) answer) ≡ false)
lists at awaited message by r old new answer (Err refusal) may carries = (carries, refl)
lists at awaited message by r old new answer (Ok (OnStore OrgList)) may carries = (carries, refl)
lists at awaited message by r old new answer (Ok (OnStore (TokenList org))) may carries = (carries, refl)
lists at awaited message by r old new answer (Ok (OnStore (OrgAdd org limit))) may carries = absurd (let none : ⊥ = cc (may (OnStore (OrgAdd org limit)) refl) in none)
lists at awaited message by r old new answer (Ok (OnStore (OrgLimit org limit))) may carries = absurd (let none : ⊥ = cc (may (OnStore (OrgLimit org limit)) refl) in none)
lists at awaited message by r old new answer (Ok (OnStore (OrgRemove org is_forced))) may carries = absurd (let none : ⊥ = cc (may (OnStore (OrgRemove org is_forced)) refl) in none)
lists at awaited message by r old new answer (Ok (OnStore (TokenAdd org name role secret bounds))) may carries = absurd (let none : ⊥ = cc (may (OnStore (TokenAdd org name role secret bounds)) refl) in none)
lists at awaited message by r old new answer (Ok (OnStore (TokenRevoke org name))) may carries = absurd (let none : ⊥ = cc (may (OnStore (TokenRevoke org name)) refl) in none)
lists at awaited message by r old new answer (Ok Stop) may carries = absurd (let none : ⊥ = cc (may Stop refl) in none)

pub listers_change_nothing : ListersChangeNothing
listers_change_nothing operators now message old new text row false only h =
    let served = h.answered in
    let by = operator_with (Open operators) now served.carried.asks.reading in
    let r = record_for old (owner_of served.ask) in
    let asks = carried_there operators now h.received message h.awaited h.comes h.awaited served.ask served.answer old new served.carried in
    let changes = lists now h.awaited message by r old new served.answer (commanded operators now message)
    (λ command e. let from = brings operators now message command e in
    let operator : Operator = from.0 in
    subst (λ (b : Bool). permitted b command ≡ Ok command) (only operator from.1) from.2)
    (subst (λ (a : Ask). Carries a old new) asks served.carried.carries) in
    (changes.0, ap names_stop (served.logged ∙ ap (λ (a : Ask). row_of_ask by r a served.answer) asks) ∙ changes.1)
listers_change_nothing operators now message old new text row true only h =
    (h.answered.1.stays, down_names_no_stop (Open operators) now h.received old new h.answered.0 h.awaited text row h.answered.1)

-- ---- whom the log names

named_by : (operators : List Operator) (at : ℕ) (message : Message) (name : List ℕ) → operator_named operators at message ≡ Some name
    → (operator : Operator) × BringsSecretOf operators at message operator × (operator.name ≡ name)
named_by operators at message name e = by_entry (let_in operators at message) refl e
  where
    by_entry : (entry : Result Operator Refusal) → let_in operators at message ≡ entry → name_of entry ≡ Some name → (operator : Operator) × BringsSecretOf operators at message operator × (operator.name ≡ name)
    by_entry (Ok operator) is same = (operator, brought operators at message operator is, same_Some operator.name name same)
    by_entry (Err refusal) is same = absurd (let none : ⊥ = cc in none)

-- the row of a message at the door names whom it lets in
row_names : (at : ℕ) (awaited : Bool) (message : Message) (by : Option (List ℕ)) (r : Option Organization) (answer : Answer) (asks : Result DoorCommand Refusal) (row : LogRow)
    → Some row ≡ row_of_ask by r (asked_at_door at awaited message asks) answer → row.operator ≡ by
row_names at awaited message by r answer (Ok (OnStore command)) row e = ap (λ (x : LogRow). x.operator) (same_Some row _ e)
row_names at awaited message by r answer (Ok Stop) row e = ap (λ (x : LogRow). x.operator) (same_Some row _ e)
row_names at awaited message by r answer (Err refusal) row e = ap (λ (x : LogRow). x.operator) (same_Some row _ e)

-- that of its 503 as well, or nobody
unread_names : (by : Option (List ℕ)) (at : ℕ) (row : LogRow) (name : List ℕ) → row.operator ≡ Some name → IsUnreadRow by at row → by ≡ Some name
unread_names by at row name e (inl is) = absurd (let none : ⊥ = cc (sym e ∙ ap (λ (x : LogRow). x.operator) is) in none)
unread_names by at row name e (inr is) = sym (ap (λ (x : LogRow). x.operator) is) ∙ e

down_names : (at : ℕ) (awaited : Bool) (message : Message) (by : Option (List ℕ)) (r : Option Organization) (asks : Result DoorCommand Refusal) (row : LogRow) (name : List ℕ) → row.operator ≡ Some name
    → IsUnavailableRow by r (asked_at_door at awaited message asks) row → by ≡ Some name
down_names at awaited message by r (Ok (OnStore command)) row name e (inl is) = unread_names by at row name e is
down_names at awaited message by r (Ok (OnStore command)) row name e (inr is) = sym (ap (λ (x : LogRow). x.operator) is) ∙ e
down_names at awaited message by r (Ok Stop) row name e (inl is) = unread_names by at row name e is
down_names at awaited message by r (Ok Stop) row name e (inr is) = sym (ap (λ (x : LogRow). x.operator) is) ∙ e
down_names at awaited message by r (Err refusal) row name e (_, is) = unread_names by at row name e is

pub logged_operators_ask : LoggedOperatorsAsk
logged_operators_ask operators now message old new text row false name h e =
    let served = h.answered in
    let by = operator_with (Open operators) now served.carried.asks.reading in
    let r = record_for old (owner_of served.ask) in
    let asks = carried_there operators now h.received message h.awaited h.comes h.awaited served.ask served.answer old new served.carried in
    let names = row_names now h.awaited message by r served.answer (commanded operators now message) row (served.logged ∙ ap (λ (a : Ask). row_of_ask by r a served.answer) asks) in
    named_by operators now message name (sym (named_there operators now h.received message h.awaited h.comes served.carried.asks.reading served.carried.asks.reads) ∙ sym names ∙ e)
logged_operators_ask operators now message old new text row true name h e = by_reading h.answered.0 h.answered.1
  where
    same_row : (reported : LogRow) → Some row ≡ Some reported → reported.operator ≡ Some name
    same_row reported is = ap (λ (x : LogRow). x.operator) (sym (same_Some row reported is)) ∙ e

    by_reading : (reading : Option Reading) → IsUnavailable (Open operators) now h.received old new reading h.awaited text (Some row) → (operator : Operator) × BringsSecretOf operators now message operator × (operator.name ≡ name)
    by_reading None down = absurd (let none : ⊥ = cc (sym (same_row down.reported down.reports) ∙ ap (λ (x : LogRow). x.operator) down.logged) in none)
    by_reading (Some reading) down =
        let there = named_there operators now h.received message h.awaited h.comes reading down.reads in
        let asks = asks_message operators now h.received message h.awaited h.comes reading down.reads in
        let logged = subst (λ (by : Option (List ℕ)). IsUnavailableRow by (record_for old (owner_of (ask_with (Open operators) now reading))) (ask_with (Open operators) now reading) down.reported) there down.logged in
        let logs = subst (λ (a : Ask). IsUnavailableRow (operator_named operators now message) (record_for old (owner_of (ask_with (Open operators) now reading))) a down.reported) asks logged in
        named_by operators now message name (down_names now h.awaited message (operator_named operators now message) (record_for old (owner_of (ask_with (Open operators) now reading))) (commanded operators now message) down.reported name (same_row down.reported down.reports) logs)
