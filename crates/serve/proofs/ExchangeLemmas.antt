-- One exchange: the reply to what was read, and what is written in all.
use Rattle.serve.proofs.Outside.{◌≡◌, ◌≢◌, ℕ, Bool, true, false, List, [], Option, Some, None, Result, Ok, Err, IsSome, IfSome, IfErr, IsErrOf, refl, sym, ap, subst, ◌∙◌, ◌⊎◌, inl, inr, ◌++◌, if◌then◌else◌, Appends, Consumes, bytes_eq, bytes_eq-Decides, same_Some, Appends-nil, Appends-trans, Consumes-nil, AreLawful, Organization, Asking, asked_of, asks, Message, ReportsReceived, ReportsInput, continue_if, Writes, Answer, IsReplyText, unavailable_answer, LogRow, Refusal}
use Rattle.route.specs.Asks as route
use Rattle.wire.specs.declared.messages.WireFault.{WireFault}
use Rattle.wire.specs.declared.messages.WireFault.TheVariants.{Refused, Down, Ended, Read, Continue}
use Rattle.wire.specs.Messages.{Reading, unfinished, refused, whole}
use Rattle.serve.specs.Doors.{commanded, asked_at_door, ask_with, operator_with, IsAnswerTo}
use Rattle.serve.specs.Logs.{silent_row, with_answer, unavailable_row, command_row, no_command_row, stop_row, IsUnreadRow, IsUnavailableRow, request_row, row_of_ask, token_named, id_spelt, task_read}
use Rattle.serve.specs.Asks.{Ask, Owner, owner_of, organization, unattributed, operator, silent, requests, commands, stops}
use Rattle.serve.specs.Asks as ask
use Rattle.serve.specs.Steps.{Said, replies, refusing, request_step, step}
use Rattle.serve.specs.Inner.Prepared.{IsPrepared}
use Rattle.serve.specs.Inner.Replying.{without_body, PreparesFor, LogsFor, LogsDownFor, AnswersTo, PassesBy, due_reply, due_row, CommitsUnlessDown}
use Rattle.serve.specs.Inner.Tracing.{as_unavailable}
use Rattle.serve.specs.Service.{same_owner, record_for, asked_by, ask_of, Asks, Carries, Stays, said_to, IsSaidText, is_head, after_ask}
use Rattle.serve.specs.Exchanges.{IsServed, IsUnavailableFor, IsAnswered, Exchanges, ChangesAtMostOne, ComesAsLogged, ChangesAsLogged}
use Rattle.serve.specs.declared.doors.Door.{Door}
use Rattle.serve.specs.declared.doors.Door.TheVariants.{Closed, Open}
use Rattle.serve.specs.declared.exchanges.LinkFault.{LinkFault}
use Rattle.serve.specs.declared.exchanges.LinkFault.TheVariants.{Ended as LinkEnded, Read as LinkRead, Continue as LinkContinue, Write as LinkWrite}
use Rattle.serve.specs.declared.messages.Prepared.{Prepared}
use Rattle.serve.proofs.LawLemmas.{refusals_change_nothing}
use Rattle.serve.proofs.RecordLemmas.{workspace_lawful}
use Rattle.serve.proofs.CommandChanges.{MakesNothing, command_reported}
use Rattle.serve.proofs.LoggedChanges.{request_as_logged, still_logged}
use Rattle.serve.proofs.TakenLemmas.{prepared_after, carries_after}

-- what is prepared is what is said
prepared_said : (rows : List ℕ → Option Organization) (at : ℕ) (awaited : Bool) (message : Message) (asking : Asking) (p : Prepared)
    → IsPrepared rows (asked_by at awaited message asking) p → said_to rows (asked_by at awaited message asking) ≡ replies awaited at p.reply
prepared_said rows at awaited message (route.refused refusal) p h = ap (replies awaited at) (sym h.0)
prepared_said rows at awaited message (asks asked) p h = ap (replies awaited at) (sym h.answer)

-- a message is prepared, and its change follows
pub message_answered : (old mid new : List ℕ → Option Organization) (at : ℕ) (awaited : Bool) (message : Message) (p : Prepared)
    → Stays old mid → IsPrepared old (asked_by at awaited message (asked_of message)) p
    → ((a : Ask) → IsPrepared mid a p → Carries a mid new)
    → Carries (asked_by at awaited message (asked_of message)) old new × (said_to old (asked_by at awaited message (asked_of message)) ≡ replies awaited at p.reply)
message_answered old mid new at awaited message p stays prepared carried =
    let a : Ask = asked_by at awaited message (asked_of message) in
    (carries_after old mid new a stays (carried a (prepared_after old mid a p stays prepared)), prepared_said old at awaited message (asked_of message) p prepared)

-- what is asked moves the record of one organization at most
pub carried_one : (a : Ask) (old new : List ℕ → Option Organization) → Carries a old new → ChangesAtMostOne old new
carried_one silent old new carries = ([], (λ other apart. carries other))
carried_one (ask.refused at awaited refusal is_head at_door) old new carries = ([], (λ other apart. carries other))
carried_one (requests at awaited asked content_md5 body) old new carries = (asked.caller, (λ other apart. carries other ∙ stays_apart (requests at awaited asked content_md5 body) other old (bytes_eq other asked.caller) refl apart))
  where
    stays_apart : (a : Ask) (other : List ℕ) (rows : List ℕ → Option Organization) (b : Bool) → bytes_eq other asked.caller ≡ b → other ≢ asked.caller → after_ask b a (rows other) ≡ rows other
    stays_apart a other rows true e apart = absurd (apart ((bytes_eq-Decides other asked.caller).0 e))
    stays_apart a other rows false e apart = refl
carried_one (stops at) old new carries = ([], (λ other apart. carries other))
carried_one (commands at command) old new carries = by_owner (ask.commanded_of command) carries
  where
    stays_apart : (org other : List ℕ) (b : Bool) → bytes_eq other org ≡ b → other ≢ org → after_ask b (commands at command) (old other) ≡ old other
    stays_apart org other true e apart = absurd (apart ((bytes_eq-Decides other org).0 e))
    stays_apart org other false e apart = refl

    by_owner : (w : Owner) → ((other : List ℕ) → new other ≡ after_ask (same_owner (organization other) w) (commands at command) (old other)) → ChangesAtMostOne old new
    by_owner (organization org) is = (org, (λ other apart. is other ∙ stays_apart org other (bytes_eq other org) refl apart))
    by_owner unattributed is = ([], (λ other apart. is other))
    by_owner operator is = ([], (λ other apart. is other))

pub stayed_one : (old new : List ℕ → Option Organization) → Stays old new → ChangesAtMostOne old new
stayed_one old new stays = ([], (λ other apart. stays other))

answered_one : (door : Door) (now : ℕ) (received : List ℕ) (old new : List ℕ → Option Organization) (awaited : Bool) (text : List ℕ) (row : Option LogRow) (is_down : Bool)
    → IsAnswered door now received old new awaited text row is_down → ChangesAtMostOne old new
answered_one door now received old new awaited text row false served = carried_one served.ask old new served.carried.carries
answered_one door now received old new awaited text row true unavailable = stayed_one old new unavailable.1.stays

pub silent_makes_nothing : (row : LogRow) (now : ℕ) → row ≡ silent_row now → MakesNothing row
silent_makes_nothing row now is = subst MakesNothing (sym is) (record { version = refl; run = refl })

pub unavailable_makes_nothing : (row : LogRow) (now : ℕ) → row ≡ unavailable_row now → MakesNothing row
unavailable_makes_nothing row now is = subst MakesNothing (sym is) (record { version = refl; run = refl })

unread_makes_nothing : (by : Option (List ℕ)) (at : ℕ) (row : LogRow) → IsUnreadRow by at row → MakesNothing row
unread_makes_nothing by at row (inl is) = subst MakesNothing (sym is) (record { version = refl; run = refl })
unread_makes_nothing by at row (inr is) = subst MakesNothing (sym is) (record { version = refl; run = refl })

row_makes_nothing : (by : Option (List ℕ)) (r : Option Organization) (a : Ask) (row : LogRow) → IsUnavailableRow by r a row → MakesNothing row
row_makes_nothing by r silent row h = absurd h
row_makes_nothing by r (ask.refused at awaited refusal is_head false) row h = unavailable_makes_nothing row at h
row_makes_nothing by r (ask.refused at awaited refusal is_head true) row h = unread_makes_nothing by at row h.1
row_makes_nothing by r (requests at awaited asked content_md5 body) row (inl is) = unavailable_makes_nothing row at is
row_makes_nothing by r (requests at awaited asked content_md5 body) row (inr request) = subst MakesNothing (sym request.is) (record { version = refl; run = refl })
row_makes_nothing by r (stops at) row (inl is) = unread_makes_nothing by at row is
row_makes_nothing by r (stops at) row (inr is) = subst MakesNothing (sym is) (record { version = refl; run = refl })
row_makes_nothing by r (commands at command) row (inl is) = unread_makes_nothing by at row is
row_makes_nothing by r (commands at command) row (inr is) = subst MakesNothing (sym is) (record { version = refl; run = refl })

down_makes_nothing : (door : Door) (now : ℕ) (old : List ℕ → Option Organization) (reading : Option Reading) (row : LogRow) → IsUnavailableFor door now old reading row → MakesNothing row
down_makes_nothing door now old None row h = unavailable_makes_nothing row now h
down_makes_nothing door now old (Some reading) row h = row_makes_nothing (operator_with door now reading) (record_for old (owner_of (ask_with door now reading))) (ask_with door now reading) row h

pub stayed_logged : (row : LogRow) (old new : List ℕ → Option Organization) → MakesNothing row → Stays old new → ChangesAsLogged row old new
stayed_logged row old new nothing stays = record {
  others = λ org apart. stays org;
  refused = λ some. stays;
  own = λ org named. subst (ComesAsLogged row (old org)) (sym (stays org)) (still_logged row (old org) nothing.version nothing.run);
  nobody = λ none. (nothing.version, nothing.run);
}

-- what is asked changes what its row tells
asked_reported : (by : Option (List ℕ)) (a : Ask) (now : ℕ) (due : Bool) (answer : Answer) (row : LogRow) (old new : List ℕ → Option Organization) → AreLawful old → Some row ≡ row_of_ask by (record_for old (owner_of a)) a answer
    → IsAnswerTo old now due a answer → Carries a old new → ChangesAsLogged row old new
asked_reported by silent now due answer row old new lawful is answers carries = absurd answers
asked_reported by (ask.refused at awaited refusal is_head false) now due answer row old new lawful is answers carries =
    subst (λ (x : LogRow). ChangesAsLogged x old new) (sym (same_Some row (with_answer (refusing refusal None).answer (silent_row at)) is))
    (stayed_logged (with_answer (refusing refusal None).answer (silent_row at)) old new (record { version = refl; run = refl }) carries)
asked_reported by (ask.refused at awaited refusal is_head true) now due answer row old new lawful is answers carries =
    subst (λ (x : LogRow). ChangesAsLogged x old new) (sym (same_Some row (no_command_row at by (refusing refusal None).answer) is))
    (stayed_logged (no_command_row at by (refusing refusal None).answer) old new (record { version = refl; run = refl }) carries)
asked_reported by (stops at) now due answer row old new lawful is answers carries =
    subst (λ (x : LogRow). ChangesAsLogged x old new) (sym (same_Some row (stop_row at by answer) is))
    (stayed_logged (stop_row at by answer) old new (record { version = refl; run = refl }) carries)
asked_reported by (commands at command) now due answer row old new lawful is answers carries =
    subst (λ (x : LogRow). ChangesAsLogged x old new) (sym (same_Some row (command_row at by command answer) is))
    (subst (λ (x : Answer). ChangesAsLogged (command_row at by command x) old new) (sym answers.2) (command_reported at by command answers.0 old new answers.1 carries))
asked_reported by (requests at awaited asked content_md5 body) now due answer row old new lawful is answers carries =
    let same : row ≡ request_row (old asked.caller) at asked content_md5 body = same_Some row (request_row (old asked.caller) at asked content_md5 body) is in
    subst (λ (x : LogRow). ChangesAsLogged x old new) (sym same) (record {
      others = λ org apart. carries org ∙ other_stays org (bytes_eq org asked.caller) refl apart;
      refused = λ some org. carries org ∙ refused_stays (request_step (old asked.caller) at asked content_md5 body).answer.refusal refl some org (bytes_eq org asked.caller) refl;
      own = λ org named. subst (λ (name : List ℕ). ComesAsLogged (request_row (old asked.caller) at asked content_md5 body) (old name) (new name)) (same_Some asked.caller org named)
          (request_as_logged (old asked.caller) (new asked.caller) at asked content_md5 body (λ ws. workspace_lawful old asked.caller ws lawful) own_step);
      nobody = λ none. absurd (let not_none : ⊥ = cc in not_none);
    })
  where
    own_step : new asked.caller ≡ (request_step (old asked.caller) at asked content_md5 body).left
    own_step = carries asked.caller ∙ ap (λ (b : Bool). after_ask b (requests at awaited asked content_md5 body) (old asked.caller)) ((bytes_eq-Decides asked.caller asked.caller).1 refl)

    other_stays : (org : List ℕ) (b : Bool) → bytes_eq org asked.caller ≡ b → Some asked.caller ≢ Some org → after_ask b (requests at awaited asked content_md5 body) (old org) ≡ old org
    other_stays org true e apart = absurd (apart (ap Some (sym ((bytes_eq-Decides org asked.caller).0 e))))
    other_stays org false e apart = refl

    refused_stays : (o : Option Refusal) → (request_step (old asked.caller) at asked content_md5 body).answer.refusal ≡ o → IsSome o
        → (org : List ℕ) (b : Bool) → bytes_eq org asked.caller ≡ b → after_ask b (requests at awaited asked content_md5 body) (old org) ≡ old org
    refused_stays None e some org b is = absurd (let none : ⊥ = cc in none)
    refused_stays (Some refusal) e some org true is =
        ap (λ (r : Option Organization). (step r (requests at awaited asked content_md5 body)).left) (ap old ((bytes_eq-Decides org asked.caller).0 is))
        ∙ (refusals_change_nothing (old asked.caller) (requests at awaited asked content_md5 body)).0 awaited at _ refusal refl e
        ∙ ap old (sym ((bytes_eq-Decides org asked.caller).0 is))
    refused_stays (Some refusal) e some org false is = refl

answered_reported : (door : Door) (now : ℕ) (received : List ℕ) (old new : List ℕ → Option Organization) (awaited : Bool) (text : List ℕ) (row : LogRow) (is_down : Bool) → AreLawful old
    → IsAnswered door now received old new awaited text (Some row) is_down → ChangesAsLogged row old new
answered_reported door now received old new awaited text row false lawful served =
    asked_reported (operator_with door now served.carried.asks.reading) served.ask now awaited served.answer row old new lawful served.logged served.carried.answers served.carried.carries
answered_reported door now received old new awaited text row true lawful (reading, unavailable) =
    stayed_logged row old new (subst MakesNothing (sym (same_Some row unavailable.reported unavailable.reports)) (down_makes_nothing door now old reading unavailable.reported unavailable.logged)) unavailable.stays

-- what passes by the door asks what it would without a door
asks_past : (door : Door) (at : ℕ) (message : Message) (awaited : Bool) → PassesBy door (Ok message) → ask_with door at (whole message awaited) ≡ asked_by at awaited message (asked_of message)
asks_past Closed at message awaited passes = refl
asks_past (Open operators) at message awaited passes =
    ap (λ (b : Bool). if b then asked_at_door at awaited message (commanded operators at message) else asked_by at awaited message (asked_of message)) passes

refuses_past : (door : Door) (at : ℕ) (refusal : Refusal) (head : Bool) → ask_with door at (refused refusal head) ≡ ask.refused at false refusal head false
refuses_past Closed at refusal head = refl
refuses_past (Open operators) at refusal head = refl

-- the answer to what is no command is what is said
asking_answered : (rows : List ℕ → Option Organization) (at : ℕ) (due awaited : Bool) (message : Message) (asking : Asking) (answer : Answer)
    → said_to rows (asked_by at due message asking) ≡ replies awaited at answer → IsAnswerTo rows at awaited (asked_by at due message asking) answer
asking_answered rows at due awaited message (route.refused refusal) answer said = said
asking_answered rows at due awaited message (asks asked) answer said = said

asking_said : (rows : List ℕ → Option Organization) (at : ℕ) (due awaited : Bool) (message : Message) (asking : Asking) (answer : Answer)
    → IsAnswerTo rows at awaited (asked_by at due message asking) answer → said_to rows (asked_by at due message asking) ≡ replies awaited at answer
asking_said rows at due awaited message (route.refused refusal) answer answers = answers
asking_said rows at due awaited message (asks asked) answer answers = answers

reading_said : (rows : List ℕ → Option Organization) (at : ℕ) (awaited : Bool) (reading : Reading) (answer : Answer) → IsAnswerTo rows at awaited (ask_of at reading) answer → said_to rows (ask_of at reading) ≡ replies awaited at answer
reading_said rows at awaited unfinished answer answers = absurd answers
reading_said rows at awaited (refused refusal head) answer answers = answers
reading_said rows at awaited (whole message due) answer answers = asking_said rows at due awaited message (asked_of message) answer answers

-- what was read of what received is answered by this text
abbrev pub AnswersRead : Door → ℕ → Result Message WireFault → (List ℕ → Option Organization) → (List ℕ → Option Organization) → Bool → List ℕ → Option LogRow → Type 0
AnswersRead door now read old new is_down text row = (received : List ℕ) (left before after : Option (List ℕ)) → ReportsReceived received left before after read
    → (awaited : Bool) × Appends before after (continue_if awaited) × IsAnswered door now received old new awaited text row is_down

-- memory or the store was refused, inside the reading or past it
pub refused_read : (door : Door) (now : ℕ) (read : Result Message WireFault) (old new : List ℕ → Option Organization) (text : List ℕ) (row : LogRow) → PassesBy door read
    → Stays old new → IsReplyText (unavailable_answer (without_body read)) now text → LogsDownFor now old read row → AnswersRead door now read old new true text (Some row)
refused_read door now (Ok message) old new text row passes stays is_text logs received left before after reported = (
  reported.0,
  reported.2,
  (
    Some (whole message reported.0),
    record {
      stays = stays;
      reads = reported.1;
      without_body = is_head message;
      shaped = (refl, refl);
      is = is_text;
      reported = row;
      reports = refl;
      logged = subst (λ (a : Ask). IsUnavailableRow (operator_with door now (whole message reported.0)) (record_for old (owner_of a)) a row) (sym (asks_past door now message reported.0 passes))
          (logs reported.0 (operator_with door now (whole message reported.0)));
    },
  ),
)
refused_read door now (Err (Refused refusal head)) old new text row passes stays is_text logs received left before after reported = (
  false,
  reported.1,
  (
    Some (refused refusal head),
    record {
      stays = stays;
      reads = reported.0;
      without_body = head;
      shaped = (refl, refl);
      is = is_text;
      reported = row;
      reports = refl;
      logged = subst (λ (a : Ask). IsUnavailableRow (operator_with door now (refused refusal head)) (record_for old (owner_of a)) a row) (sym (refuses_past door now refusal head)) logs;
    },
  ),
)
refused_read door now (Err Down) old new text row passes stays is_text logs received left before after reported =
    (false, reported, (None, record { stays = stays; reads = tt; without_body = false; shaped = (refl, refl); is = is_text; reported = row; reports = refl; logged = logs }))
refused_read door now (Err Ended) old new text row passes stays is_text logs received left before after reported = absurd logs
refused_read door now (Err Read) old new text row passes stays is_text logs received left before after reported = absurd logs
refused_read door now (Err Continue) old new text row passes stays is_text logs received left before after reported = absurd logs

-- the row of a 503 in place of an answer: all of it had been read
down_request : (by : Option (List ℕ)) (r : Option Organization) (at : ℕ) (awaited : Bool) (message : Message) (asking : Asking) (answer : Answer) (row : LogRow) → row_of_ask by r (asked_by at awaited message asking) answer ≡ Some row
    → IsUnavailableRow by r (asked_by at awaited message asking) (as_unavailable row)
down_request by r at awaited message (route.refused refusal) answer row e = ap as_unavailable (sym (same_Some (with_answer (refusing refusal r).answer (silent_row at)) row e))
down_request by r at awaited message (asks asked) answer row e =
    let content_md5 = message.content_md5 in
    let body = message.body in
    inr (record {
      token = token_named r at asked;
      id = id_spelt (task_read r at asked content_md5 body);
      read = inr (refl, inr refl);
      is = ap as_unavailable (sym (same_Some (request_row r at asked content_md5 body) row e));
    })

stays_both : (old mid new : List ℕ → Option Organization) → Stays old mid → Stays mid new → Stays old new
stays_both old mid new first second = λ org. second org ∙ first org

-- what was read is prepared, and its change is made, or isn't
pub answered_read : (door : Door) (now : ℕ) (read : Result Message WireFault) (old mid new : List ℕ → Option Organization) (p : Prepared) (row : LogRow) (is_down : Bool) (text : List ℕ)
    → PassesBy door read → Stays old mid → PreparesFor now old read p → LogsFor now old read row → CommitsUnlessDown is_down p mid new
    → IsReplyText (due_reply is_down (without_body read) p.reply) now text → AnswersRead door now read old new is_down text (Some (due_row is_down row))
answered_read door now (Ok message) old mid new p row false text passes stays prepared logs committed is_text received left before after reported =
    let h = message_answered old mid new now reported.0 message p stays (prepared reported.0) committed in (
      reported.0,
      reported.2,
      record {
        ask = asked_by now reported.0 message (asked_of message);
        answer = p.reply;
        carried = record {
          asks = record { reading = whole message reported.0; reads = reported.1; due = refl; is = sym (asks_past door now message reported.0 passes) };
          carries = h.0;
          answers = asking_answered old now reported.0 reported.0 message (asked_of message) p.reply h.1;
        };
        is = is_text;
        logged = sym (logs reported.0 (operator_with door now (whole message reported.0)) p.reply);
      },
    )
answered_read door now (Ok message) old mid new p row true text passes stays prepared logs committed is_text received left before after reported =
    refused_read door now (Ok message) old new text (as_unavailable row) passes (stays_both old mid new stays committed) is_text
    (λ due by. down_request by (record_for old (owner_of (asked_by now due message (asked_of message)))) now due message (asked_of message) p.reply row (logs due by p.reply)) received left before after reported
answered_read door now (Err (Refused refusal head)) old mid new p row false text passes stays prepared logs committed is_text received left before after reported =
    let a : Ask = ask.refused now false refusal head false in (
      false,
      reported.1,
      record {
        ask = a;
        answer = p.reply;
        carried = record {
          asks = record { reading = refused refusal head; reads = reported.0; due = refl; is = sym (refuses_past door now refusal head) };
          carries = carries_after old mid new a stays (committed a prepared);
          answers = ap (replies false now) (sym prepared.0);
        };
        is = is_text;
        logged = sym (logs (operator_with door now (refused refusal head)) p.reply);
      },
    )
answered_read door now (Err (Refused refusal head)) old mid new p row true text passes stays prepared logs committed is_text received left before after reported =
    refused_read door now (Err (Refused refusal head)) old new text (as_unavailable row) passes (stays_both old mid new stays committed) is_text
    (ap as_unavailable (sym (same_Some (with_answer (refusing refusal None).answer (silent_row now)) row (logs None p.reply)))) received left before after reported
answered_read door now (Err Down) old mid new p row is_down text passes stays prepared logs committed is_text received left before after reported = absurd prepared
answered_read door now (Err Ended) old mid new p row is_down text passes stays prepared logs committed is_text received left before after reported = absurd prepared
answered_read door now (Err Read) old mid new p row is_down text passes stays prepared logs committed is_text received left before after reported = absurd prepared
answered_read door now (Err Continue) old mid new p row is_down text passes stays prepared logs committed is_text received left before after reported = absurd prepared

-- what is prepared is of something that is asked
pub asks_something : (now : ℕ) (read : Result Message WireFault) (old mid : List ℕ → Option Organization) (p : Prepared) → Stays old mid → PreparesFor now old read p → (a : Ask) × IsPrepared mid a p
asks_something now (Ok message) old mid p stays prepared =
    let a : Ask = asked_by now false message (asked_of message) in (a, prepared_after old mid a p stays (prepared false))
asks_something now (Err (Refused refusal head)) old mid p stays prepared = (ask.refused now false refusal head false, prepared)
asks_something now (Err Down) old mid p stays prepared = absurd prepared
asks_something now (Err Ended) old mid p stays prepared = absurd prepared
asks_something now (Err Read) old mid p stays prepared = absurd prepared
asks_something now (Err Continue) old mid p stays prepared = absurd prepared

-- the text of an answer, as of an equal one
pub text_of : {T E : Type 0} (given wanted : Answer) (now : ℕ) (old new : Option (List ℕ)) (result : Result T E) → given ≡ wanted
    → (text : List ℕ) × IsReplyText given now text × Writes old new text result → (text : List ℕ) × IsReplyText wanted now text × Writes old new text result
text_of given wanted now old new result is h = (h.0, subst (λ (a : Answer). IsReplyText a now h.0) is h.1, h.2)

-- by what received: what was read, the reply to it, and what was written of it
abbrev Received : Option (List ℕ) → Option (List ℕ) → (List ℕ → Type 0) → Type 0
Received old new P = (received : List ℕ) × Consumes old new received × P received

-- the reply is written, or a part of it
pub replied : {T : Type 0} (door : Door) (now : ℕ) (read : Result Message WireFault) (old new : List ℕ → Option Organization) (is_down : Bool) (row : Option LogRow) (b c : Option (List ℕ)) (text : List ℕ) (result : Result T LinkFault)
    → AnswersRead door now read old new is_down text row → Writes b c text result → IfErr result (λ fault. fault ≡ LinkWrite)
    → AnswersTo door now read old new b c is_down row result
replied door now read old new is_down row b c text (Ok done) answers writes fault received left a reported =
    let r = answers received left a b reported in
    (r.0, text, r.2, Appends-trans a b c (continue_if r.0) text r.1 writes)
replied {T = T} door now read old new is_down row b c text (Err e) answers writes fault received left a reported =
    let r = answers received left a b reported in
    let is = subst (λ (x : List ℕ). IsAnswered door now received old new r.0 x row is_down) writes.3 r.2 in
    subst (λ (f : LinkFault). Exchanges door now received left old new a c is_down row {T = T} (Err f)) (sym fault)
    (r.0, writes.0, writes.1, writes.2, is, Appends-trans a b c (continue_if r.0) writes.0 r.1 writes.4)

nothing_passes : (door : Door) → PassesBy door (Err Down)
nothing_passes Closed = tt
nothing_passes (Open operators) = tt

-- nothing is read, and the refusal is written
pub refused_unread : {T : Type 0} (door : Door) (left : Option (List ℕ)) (now : ℕ) (rows : List ℕ → Option Organization) (row : LogRow) (a c : Option (List ℕ)) (text : List ℕ) (result : Result T LinkFault)
    → row ≡ unavailable_row now → IsReplyText (unavailable_answer false) now text → Writes a c text result → IfErr result (λ fault. fault ≡ LinkWrite)
    → Received left left (λ received. Exchanges door now received left rows rows a c true (Some row) result)
refused_unread door left now rows row a c text result is is_text writes fault = (
  [],
  Consumes-nil left,
  replied door now (Err Down) rows rows true (Some row) a c text result (refused_read door now (Err Down) rows rows text row (nothing_passes door) (λ org. refl) is_text is) writes fault [] left a (Appends-nil a),
)

-- no reply: what received is unfinished, or `100 Continue` wasn't taken
pub no_reply : (door : Door) (now : ℕ) (read : Result Message WireFault) (old new : List ℕ → Option Organization) (row : LogRow) (b : Option (List ℕ)) (fault : LinkFault)
    → row ≡ silent_row now → fault ≢ LinkWrite
    → (fault ≡ LinkEnded → read ≡ Err Ended) → (fault ≡ LinkRead → read ≡ Err Read) → (fault ≡ LinkContinue → read ≡ Err Continue)
    → AnswersTo door now read old new b b false (Some row) {T = Unit {0}} (Err fault)
no_reply door now read old new row b LinkEnded no_row write ended failed continued received left a reported =
    let r = subst (λ (r : Result Message WireFault). ReportsReceived received left a b r) (ended refl) reported in (refl, ap Some no_row, r.0, r.1, r.2)
no_reply door now read old new row b LinkRead no_row write ended failed continued received left a reported =
    let r = subst (λ (r : Result Message WireFault). ReportsReceived received left a b r) (failed refl) reported in (refl, ap Some no_row, r.0, r.1)
no_reply door now read old new row b LinkContinue no_row write ended failed continued received left a reported =
    let r = subst (λ (r : Result Message WireFault). ReportsReceived received left a b r) (continued refl) reported in (refl, ap Some no_row, r.0, r.1)
no_reply door now read old new row b LinkWrite no_row write ended failed continued received left a reported = absurd (write refl)

-- an exchange ended before a reply
abbrev pub EndsBefore : {T : Type 0} → Result T LinkFault → Type 0
EndsBefore result = IsErrOf result LinkEnded ⊎ (IsErrOf result LinkRead ⊎ IsErrOf result LinkContinue)

pub silent_logged : (row : Option LogRow) (now : ℕ) (old new : List ℕ → Option Organization) → row ≡ Some (silent_row now) → Stays old new → IfSome row (λ reported. ChangesAsLogged reported old new)
silent_logged row now old new is stays =
    subst (λ (r : Option LogRow). IfSome r (λ reported. ChangesAsLogged reported old new)) (sym is) (stayed_logged (silent_row now) old new (silent_makes_nothing (silent_row now) now refl) stays)

any_reported : (door : Door) (now : ℕ) (received : List ℕ) (old new : List ℕ → Option Organization) (awaited : Bool) (text : List ℕ) (row : Option LogRow) (is_down : Bool)
    → AreLawful old → IsAnswered door now received old new awaited text row is_down → IfSome row (λ reported. ChangesAsLogged reported old new)
any_reported door now received old new awaited text None is_down lawful h = tt
any_reported door now received old new awaited text (Some row) is_down lawful h = answered_reported door now received old new awaited text row is_down lawful h

-- at most one record changes
pub exchanged_one : {T : Type 0} (door : Door) (left : Option (List ℕ)) (now : ℕ) (received : List ℕ) (old new : List ℕ → Option Organization) (a c : Option (List ℕ)) (is_down : Bool) (row : Option LogRow) (result : Result T LinkFault)
    → Exchanges door now received left old new a c is_down row result → (EndsBefore result → Stays old new) → ChangesAtMostOne old new
exchanged_one door left now received old new a c is_down row (Ok done) h stays = answered_one door now received old new h.0 h.1 row is_down h.2
exchanged_one door left now received old new a c is_down row (Err LinkWrite) h stays = answered_one door now received old new h.0 (h.1 ++ h.2) row is_down h.4
exchanged_one door left now received old new a c is_down row (Err LinkEnded) h stays = stayed_one old new (stays (inl refl))
exchanged_one door left now received old new a c is_down row (Err LinkRead) h stays = stayed_one old new (stays (inr (inl refl)))
exchanged_one door left now received old new a c is_down row (Err LinkContinue) h stays = stayed_one old new (stays (inr (inr refl)))

-- and what changed is what the row tells
pub exchanged_logged : {T : Type 0} (door : Door) (left : Option (List ℕ)) (now : ℕ) (received : List ℕ) (old new : List ℕ → Option Organization) (a c : Option (List ℕ)) (is_down : Bool) (row : Option LogRow) (result : Result T LinkFault)
    → AreLawful old → Exchanges door now received left old new a c is_down row result → (EndsBefore result → Stays old new) → IfSome row (λ reported. ChangesAsLogged reported old new)
exchanged_logged door left now received old new a c is_down row (Ok done) lawful h stays = any_reported door now received old new h.0 h.1 row is_down lawful h.2
exchanged_logged door left now received old new a c is_down row (Err LinkWrite) lawful h stays = any_reported door now received old new h.0 (h.1 ++ h.2) row is_down lawful h.4
exchanged_logged door left now received old new a c is_down row (Err LinkEnded) lawful h stays = silent_logged row now old new h.1 (stays (inl refl))
exchanged_logged door left now received old new a c is_down row (Err LinkRead) lawful h stays = silent_logged row now old new h.1 (stays (inr (inl refl)))
exchanged_logged door left now received old new a c is_down row (Err LinkContinue) lawful h stays = silent_logged row now old new h.1 (stays (inr (inr refl)))

-- what was read of a whole input, as of what received
of_input : (at : ℕ) (rows : List ℕ → Option Organization) (read : Result Message WireFault) (p : Prepared) (bytes : List ℕ) (a b : Option (List ℕ)) → PreparesFor at rows read p → ReportsInput bytes a b read → ReportsReceived bytes None a b read
of_input at rows (Ok message) p bytes a b prepared reported = reported
of_input at rows (Err (Refused refusal head)) p bytes a b prepared reported = reported
of_input at rows (Err Down) p bytes a b prepared reported = absurd prepared
of_input at rows (Err Ended) p bytes a b prepared reported = absurd prepared
of_input at rows (Err Read) p bytes a b prepared reported = absurd prepared
of_input at rows (Err Continue) p bytes a b prepared reported = absurd prepared

-- what was read of a whole input, where nothing was written before
pub input_read : (left a b : Option (List ℕ)) (bytes : List ℕ) (read : Result Message WireFault) → left ≡ Some bytes → a ≡ Some [] → IfSome left (λ input. ReportsInput input a b read) → ReportsInput bytes (Some []) b read
input_read left a b bytes read is none reported =
    subst (λ (before : Option (List ℕ)). ReportsInput bytes before b read) none (subst (λ (l : Option (List ℕ)). IfSome l (λ input. ReportsInput input a b read)) is reported)

-- the text of the reply to a whole input, behind what was written before it
pub input_answered : (at : ℕ) (read : Result Message WireFault) (old mid new : List ℕ → Option Organization) (p : Prepared) (row : LogRow) (bytes : List ℕ) (b : Option (List ℕ)) (text all : List ℕ)
    → Stays old mid → PreparesFor at old read p → LogsFor at old read row → CommitsUnlessDown false p mid new → IsReplyText p.reply at text
    → ReportsInput bytes (Some []) b read → Appends b (Some all) text
    → (a : Ask) × Asks at bytes a × Carries a old new × IsSaidText (said_to old a) all
input_answered at read old mid new p row bytes b text all stays prepared logs committed is_text reported appends =
    let r = answered_read Closed at read old mid new p row false text tt stays prepared logs committed is_text bytes None (Some []) b (of_input at old read p bytes (Some []) b prepared reported) in
    let served : IsServed Closed at bytes old new r.0 text (Some row) = r.2 in
    let asks = served.carried.asks in
    let said : said_to old served.ask ≡ replies r.0 at served.answer =
    ap (said_to old) asks.is ∙ reading_said old at r.0 asks.reading served.answer (subst (λ (a : Ask). IsAnswerTo old at r.0 a served.answer) asks.is served.carried.answers) in (
      served.ask,
      record { reading = asks.reading; reads = asks.reads; is = asks.is },
      served.carried.carries,
      subst (λ (s : Said). IsSaidText s all) (sym said) (text, served.is, Appends-trans (Some []) b (Some all) (continue_if r.0) text r.1 appends),
    )
