-- An exchange with an open door.
use Rattle.basis.specs.Roles.{is_before}
use Rattle.serve.proofs.Outside.{◌≡◌, ◌≢◌, ◌⊎◌, inl, inr, ℕ, Bool, true, false, List, Option, Some, None, Result, Ok, Err, IfOk, IfErr, refl, sym, ap, ap₂, subst, ◌∙◌, bytes_eq, bytes_eq-Decides, sha256, or_refused, and_then, Refusal, NoMethod, BadQuery, BadSecret, BadDigest, BadBody, Unavailable, error_text, serde_json_on_literals, LogRow, Organization, asked_of, Writes, Reading, Reads, whole, Answer, IsReplyText, text_answer, refused_answer, unavailable_answer, secret_text, bad_secret_answer, Message, reads_one, one_reply}
use Rattle.std.specs.Prelude.{OnOk, OnErr, is_none, codes, if◌then◌else◌, cond, ◌&&◌, not, [], ◌∷◌, find, option_map}
use Rattle.std.proofs.lemmas.Option.{same_Some}
use Rattle.basis.specs.declared.refusals.Allow.TheVariants.{Actions}
use Rattle.basis.specs.declared.refusals.Refusal.TheVariants.{NeedAdmin}
use Rattle.route.specs.Doors.{is_at_door, operator_of, digest_in, digest_brought, passes as passes_if}
use Rattle.serve.specs.Asks.{Ask, commands, stops, owner_of}
use Rattle.serve.specs.Asks as ask
use Rattle.serve.specs.Checks.{require, fits, digest_checked}
use Rattle.serve.specs.Doors.{reported_answer, command_in, command_asked, command_permitted, commanded, ComesToDoor, asked_at_door, ask_with, operator_with, IsAnswerTo, CarriesOut}
use Rattle.serve.specs.Operators.{is_let_in, let_in, name_of, operator_named, is_list, permitted, IsAmong, BringsSecretOf, BringsSecret}
use Rattle.serve.specs.AtDoor.{OnlyTheSecretOpens, refusal_without, answer_without, IsToldNothing, WithoutTheSecret, WrongSecretsAreAlike, AddedSecretsAreNotLogged}
use Rattle.serve.specs.Exchanges.{IsShapedBy, IsUnavailable}
use Rattle.serve.specs.Logs.{unavailable_row, command_row, no_command_row, stop_row, row_of_ask, IsUnreadRow, IsUnavailableRow}
use Rattle.serve.specs.Service.{is_head, asked_by, record_for, Carries, Stays}
use Rattle.serve.specs.Steps.{replies}
use Rattle.serve.specs.Inner.Doors.{Operates, TurnsAway, OperatesAs, OperatesOrNot, IsRowAs, IsRowSoFar, IsAnsweredThere}
use Rattle.serve.specs.Inner.Replying.{AnswersTo}
use Rattle.serve.specs.Inner.Taking.{IsCarriedOut}
use Rattle.serve.specs.declared.commands.CommandReport.{CommandReport}
use Rattle.serve.specs.declared.doors.Door.TheVariants.{Open}
use Rattle.serve.specs.declared.doors.DoorCommand.{DoorCommand}
use Rattle.serve.specs.declared.doors.DoorCommand.TheVariants.{OnStore, Stop}
use Rattle.serve.specs.declared.doors.Operated.{Operated}
use Rattle.serve.specs.declared.operators.Operator.{Operator}
use Rattle.serve.specs.declared.exchanges.LinkFault.{LinkFault}
use Rattle.serve.specs.declared.exchanges.LinkFault.TheVariants.{Write as LinkWrite}
use Rattle.serve.specs.declared.steps.Admin.{Admin}
use Rattle.serve.proofs.ExchangeLemmas.{replied}

-- ---- at the door

-- a message at the door is answered there
pub at_door : {T : Type 0} (operators : List Operator) (now : ℕ) (message : Message) (old new : List ℕ → Option Organization) (b c : Option (List ℕ)) (is_down : Bool) (row : Option LogRow) (text : List ℕ) (result : Result T LinkFault)
    → is_at_door message ≡ true → IsAnsweredThere operators now message old new text row is_down → Writes b c text result → IfErr result (λ fault. fault ≡ LinkWrite)
    → AnswersTo (Open operators) now (Ok message) old new b c is_down row result
at_door operators now message old new b c is_down row text result comes is writes fault received left before reported =
    replied (Open operators) now (Ok message) old new is_down row b c text result
    (λ received left before after reported. (reported.0, reported.2, is received reported.0 (record { reads = reported.1; at_door = comes }))) writes fault received left before reported

-- what it asks
asks_there : (operators : List Operator) (at : ℕ) (message : Message) (awaited : Bool) → is_at_door message ≡ true → ask_with (Open operators) at (whole message awaited) ≡ asked_at_door at awaited message (commanded operators at message)
asks_there operators at message awaited comes =
    ap (λ (b : Bool). if b then asked_at_door at awaited message (commanded operators at message) else asked_by at awaited message (asked_of message)) comes

-- ---- what is told

-- a message that is not let in is refused for that
pub not_let_in : (operators : List Operator) (at : ℕ) (message : Message) (refusal : Refusal) → let_in operators at message ≡ Err refusal → commanded operators at message ≡ Err refusal
not_let_in operators at message refusal e = ap (λ (entry : Result Operator Refusal). and_then entry (λ o. command_permitted o message)) e

-- one that is asks for what its operator may ask for
pub asks_for : (operators : List Operator) (at : ℕ) (message : Message) (operator : Operator) → let_in operators at message ≡ Ok operator → commanded operators at message ≡ command_permitted operator message
asks_for operators at message operator e = ap (λ (entry : Result Operator Refusal). and_then entry (λ o. command_permitted o message)) e

pub named_none : (operators : List Operator) (at : ℕ) (message : Message) (refusal : Refusal) → let_in operators at message ≡ Err refusal → operator_named operators at message ≡ None
named_none operators at message refusal e = ap name_of e

named_some : (operators : List Operator) (at : ℕ) (message : Message) (operator : Operator) → let_in operators at message ≡ Ok operator → operator_named operators at message ≡ Some operator.name
named_some operators at message operator e = ap name_of e

-- what is carried out for the operator whom a message lets in is what it asks for
pub operates_for : {E : Type 0} (operators : List Operator) (at : ℕ) (message : Message) (operator : Operator) (old new : List ℕ → Option Organization) (res : Result Operated E) → let_in operators at message ≡ Ok operator
    → IfOk res (OperatesAs (command_permitted operator message) (Some operator.name) at message old new) → IfOk res (OperatesOrNot operators at message old new)
operates_for operators at message operator old new res e h =
    subst (λ (asks : Result DoorCommand Refusal). IfOk res (OperatesAs asks (operator_named operators at message) at message old new)) (sym (asks_for operators at message operator e))
    (subst (λ (by : Option (List ℕ)). IfOk res (OperatesAs (command_permitted operator message) by at message old new)) (sym (named_some operators at message operator e)) h)

pub row_for : {T : Type 0} (operators : List Operator) (at : ℕ) (message : Message) (operator : Operator) (res : Result T LogRow) → let_in operators at message ≡ Ok operator
    → IfErr res (IsRowAs (command_permitted operator message) (Some operator.name) at message) → IfErr res (IsRowSoFar operators at message)
row_for operators at message operator res e h =
    subst (λ (asks : Result DoorCommand Refusal). IfErr res (IsRowAs asks (operator_named operators at message) at message)) (sym (asks_for operators at message operator e))
    (subst (λ (by : Option (List ℕ)). IfErr res (IsRowAs (command_permitted operator message) by at message)) (sym (named_some operators at message operator e)) h)

same_refusal : (asked : Result DoorCommand Refusal) (a b : Refusal) → asked ≡ Err a → asked ≡ Err b → a ≡ b
same_refusal asked a b e f = cc

secret_is : secret_text ≡ error_text BadSecret
unfolding serde_json_on_literals error_text
secret_is = refl

-- the fixed text is that of the refusal
pub secret_answered : (head : Bool) → bad_secret_answer head ≡ refused_answer BadSecret (error_text BadSecret) head
secret_answered head = ap (λ (text : List ℕ). refused_answer BadSecret text head) secret_is

-- a command that is carried out has its reply and its row
pub carried_out : (at : ℕ) (by : Option (List ℕ)) (command : Admin) (old new : List ℕ → Option Organization) (reported : CommandReport) (done : Operated) → IsCarriedOut command old new reported
    → done.reply ≡ text_answer reported.refusal reported.text
    → done.row ≡ command_row at by command (text_answer reported.refusal reported.text)
    → Operates at by (OnStore command) old new done
carried_out at by command old new reported done carried reply row = record {
  answer = carried.answer;
  answered = carried.answered;
  carries = carried.carries at;
  reply = reply ∙ ap₂ text_answer carried.reports.refusal carried.reports.text;
  row = row ∙ ap₂ (λ (r : Option Refusal) (t : List ℕ). command_row at by command (text_answer r t)) carried.reports.refusal carried.reports.text;
}

-- a message that is turned away changes nothing
pub turned : {E : Type 0} (asks : Result DoorCommand Refusal) (by : Option (List ℕ)) (at : ℕ) (message : Message) (rows : List ℕ → Option Organization) (refusal : Refusal) (head : Bool) (res : Result Operated E) → head ≡ is_head message
    → (refusal ≢ Unavailable → asks ≡ Err refusal) → OnOk res (refusal ≢ Unavailable) → IfOk res (TurnsAway at by refusal head)
    → IfOk res (OperatesAs asks by at message rows rows)
turned asks by at message rows refusal head (Ok done) same refuses known away =
    inr (refusal, refuses known, (λ org. refl), subst (λ (h : Bool). TurnsAway at by refusal h done) same away)
turned asks by at message rows refusal head (Err e) same refuses known away = tt

pub turned_out : {E : Type 0} (operators : List Operator) (at : ℕ) (message : Message) (rows : List ℕ → Option Organization) (refusal : Refusal) (head : Bool) (res : Result Operated E) → head ≡ is_head message
    → let_in operators at message ≡ Err refusal → OnOk res (refusal ≢ Unavailable) → IfOk res (TurnsAway at None refusal head) → IfOk res (OperatesOrNot operators at message rows rows)
turned_out operators at message rows refusal head res same entry known away =
    subst (λ (by : Option (List ℕ)). IfOk res (OperatesAs (commanded operators at message) by at message rows rows)) (sym (named_none operators at message refusal entry))
    (turned (commanded operators at message) None at message rows refusal head res same (λ _. not_let_in operators at message refusal entry) known away)

-- what was done at the door is told
pub told_at_door : (operators : List Operator) (now : ℕ) (message : Message) (old new : List ℕ → Option Organization) (done : Operated) (text : List ℕ)
    → OperatesOrNot operators now message old new done → IsReplyText done.reply now text → IsAnsweredThere operators now message old new text (Some done.row) false
told_at_door operators now message old new done text (inl (Stop, spells, operates)) is received awaited comes = record {
  ask = stops now;
  answer = done.reply;
  carried = record {
    asks = record {
      reading = whole message awaited;
      reads = comes.reads;
      due = refl;
      is = sym (asks_there operators now message awaited comes.at_door ∙ ap (asked_at_door now awaited message) spells);
    };
    carries = operates.carries;
    answers = operates.reply ∙ ap reported_answer operates.answered;
  };
  is = is;
  logged = ap Some (operates.row ∙ ap (stop_row now (operator_named operators now message)) (sym operates.reply));
}
told_at_door operators now message old new done text (inl (OnStore command, spells, operates)) is received awaited comes = record {
  ask = commands now command;
  answer = done.reply;
  carried = record {
    asks = record {
      reading = whole message awaited;
      reads = comes.reads;
      due = refl;
      is = sym (asks_there operators now message awaited comes.at_door ∙ ap (asked_at_door now awaited message) spells);
    };
    carries = operates.carries;
    answers = (operates.answer, operates.answered, operates.reply);
  };
  is = is;
  logged = ap Some (operates.row ∙ ap (command_row now (operator_named operators now message) command) (sym operates.reply));
}
told_at_door operators now message old new done text (inr (refusal, refuses, stays, away)) is received awaited comes = record {
  ask = ask.refused now awaited refusal (is_head message) true;
  answer = done.reply;
  carried = record {
    asks = record {
      reading = whole message awaited;
      reads = comes.reads;
      due = refl;
      is = sym (asks_there operators now message awaited comes.at_door ∙ ap (asked_at_door now awaited message) refuses);
    };
    carries = stays;
    answers = ap (replies awaited now) (sym away.reply);
  };
  is = is;
  logged = ap Some away.row;
}

-- the row of a 503, unless the message is refused for its secret: no command had been read
unread_row : (by : Option (List ℕ)) (r : Option Organization) (at : ℕ) (awaited : Bool) (message : Message) (asks : Result DoorCommand Refusal) (row : LogRow) → (asks ≡ Err BadSecret → ⊥) → IsUnreadRow by at row
    → IsUnavailableRow by r (asked_at_door at awaited message asks) row
unread_row by r at awaited message (Ok (OnStore command)) row other is = inl is
unread_row by r at awaited message (Ok Stop) row other is = inl is
unread_row by r at awaited message (Err refusal) row other is = ((λ e. other (ap Err e)), is)

-- no check but that of the secret refuses for it
digest_other : (fits : Bool) → require BadDigest fits ≡ Err BadSecret → ⊥
digest_other true e = let no : ⊥ = cc in no
digest_other false e = let no : ⊥ = cc in no

body_other : (o : Option DoorCommand) → or_refused BadBody o ≡ Err BadSecret → ⊥
body_other None e = let no : ⊥ = cc in no
body_other (Some command) e = let no : ⊥ = cc in no

asked_other : (checked : Result (Unit {0}) Refusal) (asks : Result DoorCommand Refusal) → (checked ≡ Err BadSecret → ⊥) → (asks ≡ Err BadSecret → ⊥) → and_then checked (λ _. asks) ≡ Err BadSecret → ⊥
asked_other (Ok u) asks first second e = second e
asked_other (Err refusal) asks first second e = first (let same : refusal ≡ BadSecret = cc in ap Err same)

pub command_asked_other : (message : Message) → command_asked message ≡ Err BadSecret → ⊥
command_asked_other message e =
    asked_other (digest_checked message.content_md5 message.body) (command_in message.body) (digest_other (fits message.content_md5 message.body)) (body_other _) e

permitted_other : (lists_only : Bool) (command : DoorCommand) → permitted lists_only command ≡ Err BadSecret → ⊥
permitted_other lists_only command e = by_case (lists_only && not (is_list command)) e
  where
    by_case : (b : Bool) → (if b then Err NeedAdmin else Ok command) ≡ Err BadSecret → ⊥
    by_case true is = let no : ⊥ = cc in no
    by_case false is = let no : ⊥ = cc in no

permitted_after : (operator : Operator) (asks : Result DoorCommand Refusal) → (asks ≡ Err BadSecret → ⊥) → and_then asks (permitted operator.lists_only) ≡ Err BadSecret → ⊥
permitted_after operator (Ok command) other e = permitted_other operator.lists_only command e
permitted_after operator (Err refusal) other e = other (let same : refusal ≡ BadSecret = cc in ap Err same)

command_permitted_other : (operator : Operator) (message : Message) → command_permitted operator message ≡ Err BadSecret → ⊥
command_permitted_other operator message e = permitted_after operator (command_asked message) (command_asked_other message) e

-- the row of the 503 to a message that is not let in
pub row_of_none : {T : Type 0} (operators : List Operator) (at : ℕ) (message : Message) (refusal : Refusal) (res : Result T LogRow) → let_in operators at message ≡ Err refusal
    → OnErr res (refusal ≢ BadSecret) → IfErr res (λ row. row ≡ no_command_row at None (unavailable_answer false)) → IfErr res (IsRowSoFar operators at message)
row_of_none operators at message refusal (Ok done) entry known is = tt
row_of_none operators at message refusal (Err row) entry known is = λ r awaited.
    unread_row (operator_named operators at message) r at awaited message (commanded operators at message) row (λ e. known (same_refusal (commanded operators at message) refusal BadSecret (not_let_in operators at message refusal entry) e)) (inl is)

-- and to one that is, if no command of it had been read
pub unread_of : (operator : Operator) (by : Option (List ℕ)) (r : Option Organization) (at : ℕ) (awaited : Bool) (message : Message) (row : LogRow) → IsUnreadRow by at row
    → IsUnavailableRow by r (asked_at_door at awaited message (command_permitted operator message)) row
unread_of operator by r at awaited message row is = unread_row by r at awaited message (command_permitted operator message) row (command_permitted_other operator message) is

pub row_of_turned : {T : Type 0} (operator : Operator) (by given : Option (List ℕ)) (at : ℕ) (message : Message) (res : Result T LogRow) → given ≡ by
    → IfErr res (λ row. row ≡ no_command_row at given (unavailable_answer false)) → IfErr res (IsRowAs (command_permitted operator message) by at message)
row_of_turned operator by given at message (Ok done) same is = tt
row_of_turned operator by given at message (Err row) same is = λ r awaited.
    unread_of operator by r at awaited message row (inr (subst (λ (b : Option (List ℕ)). row ≡ no_command_row at b (unavailable_answer false)) same is))

-- a message at the door has a 503
pub unserved_at_door : (operators : List Operator) (now : ℕ) (message : Message) (old new : List ℕ → Option Organization) (row : LogRow) (text : List ℕ)
    → Stays old new → IsReplyText (unavailable_answer (is_head message)) now text → IsRowSoFar operators now message row → IsAnsweredThere operators now message old new text (Some row) true
unserved_at_door operators now message old new row text stays is logs received awaited comes = (
  Some (whole message awaited),
  record {
    stays = stays;
    reads = comes.reads;
    without_body = is_head message;
    shaped = (refl, refl);
    is = is;
    reported = row;
    reports = refl;
    logged = subst (λ (a : Ask). IsUnavailableRow (operator_named operators now message) (record_for old (owner_of a)) a row) (sym (asks_there operators now message awaited comes.at_door))
        (logs (record_for old (owner_of (asked_at_door now awaited message (commanded operators now message)))) awaited);
  },
)

-- ---- whom a secret lets in

-- the first that passes is among them, and passes
among : (p : Operator → Bool) (operators : List Operator) (operator : Operator) → find p operators ≡ Some operator → IsAmong operators operator × (p operator ≡ true)
among p [] operator e = absurd (let none : ⊥ = cc in none)
among p (first ∷ more) operator e = by_first (p first) refl e (among p more operator)
  where
    by_first : (b : Bool) → p first ≡ b → cond b (Some first) (find p more) ≡ Some operator → (find p more ≡ Some operator → IsAmong more operator × (p operator ≡ true)) → IsAmong (first ∷ more) operator × (p operator ≡ true)
    by_first true is found behind =
        let same : first ≡ operator = same_Some first operator found in
        (([], more, ap (λ (o : Operator). o ∷ more) same), subst (λ (o : Operator). p o ≡ true) same is)
    by_first false is found behind =
        let there = behind found in
        let place = there.0 in
        ((first ∷ place.0, place.1, ap (λ (os : List Operator). first ∷ os) place.2), there.1)

both_pass : (a b : Bool) → (a && b) ≡ true → (a ≡ true) × (b ≡ true)
both_pass true b e = (refl, e)
both_pass false b e = absurd (let none : ⊥ = cc in none)

-- a digest is that of a secret in a field
digest_from : (authorization : Option (List ℕ)) (digest : List ℕ) → digest_in authorization ≡ Some digest
    → (field : List ℕ) × (secret : List ℕ) × (authorization ≡ Some field) × (operator_of field ≡ Some secret) × (sha256 secret ≡ digest)
digest_from None digest e = absurd (let none : ⊥ = cc in none)
digest_from (Some field) digest e = by_secret (operator_of field) refl e
  where
    by_secret : (found : Option (List ℕ)) → operator_of field ≡ found → option_map sha256 found ≡ Some digest
        → (f : List ℕ) × (secret : List ℕ) × (Some field ≡ Some f) × (operator_of f ≡ Some secret) × (sha256 secret ≡ digest)
    by_secret None is same = absurd (let none : ⊥ = cc in none)
    by_secret (Some secret) is same = (field, secret, refl, is, same_Some (sha256 secret) digest same)

brings_of : (operators : List Operator) (at : ℕ) (message : Message) (digest : List ℕ) (operator : Operator) → digest_in message.authorization ≡ Some digest → find (is_let_in digest at) operators ≡ Some operator
    → BringsSecretOf operators at message operator
brings_of operators at message digest operator spelt e =
    let from = digest_from message.authorization digest spelt in
    let found = among (is_let_in digest at) operators operator e in
    let passes = both_pass (bytes_eq operator.digest digest) (is_before at operator.until) found.1 in record {
      among = found.0;
      field = from.0;
      brings = from.2;
      secret = from.1;
      spells = from.3;
      digest = from.4 ∙ sym ((bytes_eq-Decides operator.digest digest).0 passes.0);
      counts = passes.1;
    }

first_passes : {A B : Type 0} (m : Result A Refusal) (next : A → Result B Refusal) (b : B) → and_then m next ≡ Ok b → (a : A) × (m ≡ Ok a) × (next a ≡ Ok b)
first_passes (Ok a) next b e = (a, refl, e)
first_passes (Err refusal) next b e = absurd (let none : ⊥ = cc in none)

some_of : {A : Type 0} (refusal : Refusal) (o : Option A) (a : A) → or_refused refusal o ≡ Ok a → o ≡ Some a
some_of refusal None a e = absurd (let none : ⊥ = cc in none)
some_of refusal (Some x) a e = let same : x ≡ a = cc in ap Some same

-- the operator whom a message lets in is one whose secret it brings
pub brought : (operators : List Operator) (at : ℕ) (message : Message) (operator : Operator) → let_in operators at message ≡ Ok operator → BringsSecretOf operators at message operator
brought operators at message operator e =
    let enters = first_passes (digest_brought message) (λ digest. or_refused BadSecret (find (is_let_in digest at) operators)) operator e in
    let by_method = first_passes (passes_if (bytes_eq message.method (codes "POST")) (NoMethod Actions)) _ enters.0 enters.1 in
    let by_query = first_passes (passes_if (is_none message.query) BadQuery) _ enters.0 by_method.2 in
    brings_of operators at message enters.0 operator (some_of BadSecret (digest_in message.authorization) enters.0 by_query.2) (some_of BadSecret (find (is_let_in enters.0 at) operators) operator enters.2)

same_command : (lists_only : Bool) (asked command : DoorCommand) → permitted lists_only asked ≡ Ok command → asked ≡ command
same_command lists_only asked command e = by_case (lists_only && not (is_list asked)) e
  where
    by_case : (b : Bool) → (if b then Err NeedAdmin else Ok asked) ≡ Ok command → asked ≡ command
    by_case true is = absurd (let none : ⊥ = cc in none)
    by_case false is = let same : asked ≡ command = cc in same

-- a message that asks for a command brings the secret of an operator who may ask for it
pub brings : (operators : List Operator) (at : ℕ) (message : Message) (command : DoorCommand) → commanded operators at message ≡ Ok command
    → (operator : Operator) × BringsSecretOf operators at message operator × (permitted operator.lists_only command ≡ Ok command)
brings operators at message command asks =
    let enters = first_passes (let_in operators at message) (λ operator. command_permitted operator message) command asks in
    let operator : Operator = enters.0 in
    let asked = first_passes (command_asked message) (permitted operator.lists_only) command enters.2 in
    (operator, brought operators at message operator enters.1, subst (λ (c : DoorCommand). permitted operator.lists_only c ≡ Ok command) (same_command operator.lists_only asked.0 command asked.2) asked.2)

-- what is carried out of a message at the door is its command, or that it is turned away
module _ (operators : List Operator) (now : ℕ) (received : List ℕ) (message : Message) (awaited : Bool) (comes : ComesToDoor received message awaited) where
  pub asks_message : (reading : Reading) → Reads received reading → ask_with (Open operators) now reading ≡ asked_at_door now awaited message (commanded operators now message)
  asks_message reading reads =
      ap (ask_with (Open operators) now) (reads_one received reading (whole message awaited) reads comes.reads) ∙ asks_there operators now message awaited comes.at_door

  pub named_there : (reading : Reading) → Reads received reading → operator_with (Open operators) now reading ≡ operator_named operators now message
  named_there reading reads = ap (operator_with (Open operators) now) (reads_one received reading (whole message awaited) reads comes.reads)

  pub carried_there : (due : Bool) (ask : Ask) (answer : Answer) (old new : List ℕ → Option Organization) → CarriesOut (Open operators) now received due ask answer old new
      → ask ≡ asked_at_door now awaited message (commanded operators now message)
  carried_there due ask answer old new carried = carried.asks.is ∙ asks_message carried.asks.reading carried.asks.reads

opens_or_stays : (operators : List Operator) (now : ℕ) (awaited : Bool) (message : Message) (asks : Result DoorCommand Refusal) (old new : List ℕ → Option Organization) → commanded operators now message ≡ asks
    → Carries (asked_at_door now awaited message asks) old new → BringsSecret operators now message ⊎ Stays old new
opens_or_stays operators now awaited message (Ok command) old new spells carries = let by = brings operators now message command spells in inl (by.0, by.1)
opens_or_stays operators now awaited message (Err refusal) old new spells carries = inr carries

pub only_the_secret_opens : OnlyTheSecretOpens
only_the_secret_opens operators now message old new text row false h =
    opens_or_stays operators now h.awaited message (commanded operators now message) old new refl
    (subst (λ (a : Ask). Carries a old new) (carried_there operators now h.received message h.awaited h.comes h.awaited h.answered.ask h.answered.answer old new h.answered.carried) h.answered.carried.carries)
only_the_secret_opens operators now message old new text row true h = inr h.answered.1.stays

-- ---- what nobody without the secret learns

entry_of : (by_method by_query : Bool) (digest : Option (List ℕ)) (found_by : List ℕ → Option Operator) → ((d : List ℕ) → digest ≡ Some d → found_by d ≡ None)
    → and_then (and_then (passes_if by_method (NoMethod Actions)) (λ _. and_then (passes_if by_query BadQuery) (λ _. or_refused BadSecret digest))) (λ d. or_refused BadSecret (found_by d))
    ≡ Err (if by_method then (if by_query then BadSecret else BadQuery) else NoMethod Actions)
entry_of false by_query digest found_by none = refl
entry_of true false digest found_by none = refl
entry_of true true None found_by none = refl
entry_of true true (Some d) found_by none = ap (or_refused BadSecret) (none d refl)

not_found : (operators : List Operator) (at : ℕ) (message : Message) → (BringsSecret operators at message → ⊥) → (digest : List ℕ) → digest_in message.authorization ≡ Some digest
    → (found : Option Operator) → find (is_let_in digest at) operators ≡ found → found ≡ None
not_found operators at message none digest spelt None e = refl
not_found operators at message none digest spelt (Some operator) e = absurd (none (operator, brings_of operators at message digest operator spelt e))

-- it asks for nothing but its refusal
without : (operators : List Operator) (at : ℕ) (message : Message) → (BringsSecret operators at message → ⊥) → let_in operators at message ≡ Err (refusal_without message)
without operators at message none =
    entry_of (bytes_eq message.method (codes "POST")) (is_none message.query) (digest_in message.authorization) (λ digest. find (is_let_in digest at) operators)
    (λ digest spelt. not_found operators at message none digest spelt (find (is_let_in digest at) operators) refl)

same_answer : (due awaited : Bool) (at now : ℕ) (x y : Answer) → replies due at x ≡ replies awaited now y → x ≡ y
same_answer due awaited at now x y e = cc

-- the answer, and its row
module _ (now : ℕ) (message : Message) where
  turned_away : (awaited : Bool) (r : Option Organization) (text : List ℕ) (row : Option LogRow) (rows : List ℕ → Option Organization) (answer : Answer)
      → IsAnswerTo rows now awaited (asked_at_door now awaited message (Err (refusal_without message))) answer → IsReplyText answer now text
      → row ≡ row_of_ask None r (asked_at_door now awaited message (Err (refusal_without message))) answer → IsToldNothing message now text row false
  turned_away awaited r text row rows answer answers is logged =
      let same : answer_without message ≡ answer = same_answer awaited awaited now now (answer_without message) answer answers in
      (subst (λ (a : Answer). IsReplyText a now text) (sym same) is, logged)

told_unread : (at : ℕ) (row : LogRow) → IsUnreadRow None at row → row ≡ no_command_row at None (unavailable_answer false)
told_unread at row (inl is) = is
told_unread at row (inr is) = is

pub without_the_secret : WithoutTheSecret
without_the_secret operators now message old new text row false none h =
    let entry = without operators now message none in
    let refuses = not_let_in operators now message (refusal_without message) entry in
    let served = h.answered in
    let r = record_for old (owner_of served.ask) in
    let nobody : operator_with (Open operators) now served.carried.asks.reading ≡ None =
    named_there operators now h.received message h.awaited h.comes served.carried.asks.reading served.carried.asks.reads ∙ named_none operators now message (refusal_without message) entry in
    let asks : served.ask ≡ asked_at_door now h.awaited message (Err (refusal_without message)) =
    carried_there operators now h.received message h.awaited h.comes h.awaited served.ask served.answer old new served.carried ∙ ap (asked_at_door now h.awaited message) refuses in (
      subst (λ (a : Ask). Carries a old new) asks served.carried.carries,
      turned_away now message h.awaited r text row old served.answer
          (subst (λ (a : Ask). IsAnswerTo old now h.awaited a served.answer) asks served.carried.answers) served.is
          (served.logged ∙ ap (λ (by : Option (List ℕ)). row_of_ask by r served.ask served.answer) nobody ∙ ap (λ (a : Ask). row_of_ask None r a served.answer) asks),
    )
without_the_secret operators now message old new text row true none h =
    (h.answered.1.stays, by_reading h.answered.0 h.answered.1)
  where
    entry : let_in operators now message ≡ Err (refusal_without message)
    entry = without operators now message none

    by_reading : (reading : Option Reading) → IsUnavailable (Open operators) now h.received old new reading h.awaited text row → IsToldNothing message now text row true
    by_reading None down = inr (subst (λ (b : Bool). IsReplyText (unavailable_answer b) now text) down.shaped.1 down.is, down.reports ∙ ap Some down.logged)
    by_reading (Some reading) down =
        let is : reading ≡ whole message h.awaited = reads_one h.received reading (whole message h.awaited) down.reads h.comes.reads in
        let shape = subst (λ (r : Reading). IsShapedBy (Some r) h.awaited down.without_body) is down.shaped in
        let nobody : operator_with (Open operators) now reading ≡ None =
        named_there operators now h.received message h.awaited h.comes reading down.reads ∙ named_none operators now message (refusal_without message) entry in
        let asks : ask_with (Open operators) now reading ≡ asked_at_door now h.awaited message (Err (refusal_without message)) =
        asks_message operators now h.received message h.awaited h.comes reading down.reads ∙ ap (asked_at_door now h.awaited message) (not_let_in operators now message (refusal_without message) entry) in
        let logged = subst (λ (by : Option (List ℕ)). IsUnavailableRow by (record_for old (owner_of (ask_with (Open operators) now reading))) (ask_with (Open operators) now reading) down.reported) nobody down.logged in
        let logs = subst (λ (a : Ask). IsUnavailableRow None (record_for old (owner_of (ask_with (Open operators) now reading))) a down.reported) asks logged in
        inl (logs.0, subst (λ (b : Bool). IsReplyText (unavailable_answer b) now text) shape.1 down.is, down.reports ∙ ap Some (told_unread now down.reported logs.1))

same_without : (m n : Message) → m.method ≡ n.method → m.query ≡ n.query → refusal_without m ≡ refusal_without n
same_without m n by_method by_query =
    ap₂ (λ (method : List ℕ) (query : Option (List ℕ)). if bytes_eq method (codes "POST") then (if is_none query then BadSecret else BadQuery) else NoMethod Actions) by_method by_query

alike : (now : ℕ) (m n : Message) (text text' : List ℕ) (row row' : Option LogRow) (is_down is_down' : Bool) → m.method ≡ n.method → m.query ≡ n.query → refusal_without m ≡ BadSecret
    → row ≢ Some (unavailable_row now) → row' ≢ Some (unavailable_row now) → IsToldNothing m now text row is_down → IsToldNothing n now text' row' is_down' → (text ≡ text') × (row ≡ row')
alike now m n text text' row row' false false by_method by_query is read read' first second =
    let same = same_without m n by_method by_query in
    let heads : is_head m ≡ is_head n = ap (λ (method : List ℕ). bytes_eq method (codes "HEAD")) by_method in
    let answers : answer_without m ≡ answer_without n = ap₂ (λ (refusal : Refusal) (head : Bool). refused_answer refusal (error_text refusal) head) same heads in (
      one_reply (answer_without n) now text text' (subst (λ (a : Answer). IsReplyText a now text) answers first.0) second.0,
      first.1 ∙ ap (λ (a : Answer). Some (no_command_row now None a)) answers ∙ sym second.1,
    )
alike now m n text text' row row' true is_down' by_method by_query is read read' (inl first) second = absurd (first.0 is)
alike now m n text text' row row' true is_down' by_method by_query is read read' (inr first) second = absurd (read first.1)
alike now m n text text' row row' false true by_method by_query is read read' first (inl second) = absurd (second.0 (sym (same_without m n by_method by_query) ∙ is))
alike now m n text text' row row' false true by_method by_query is read read' first (inr second) = absurd (read' second.1)

pub wrong_secrets_are_alike : WrongSecretsAreAlike
wrong_secrets_are_alike operators others now m n old new old' new' text text' row row' is_down is_down' by_method by_query none none' is read read' first second =
    alike now m n text text' row row' is_down is_down' by_method by_query is read read'
    (without_the_secret operators now m old new text row is_down none first).1 (without_the_secret others now n old' new' text' row' is_down' none' second).1

pub added_secrets_are_not_logged : AddedSecretsAreNotLogged
added_secrets_are_not_logged now by org name role secret other bounds answer = refl
