-- Exchanges in a row: what one of them is, and what follows of each organization.
use Rattle.serve.proofs.Outside.{◌≡◌, inl, inr, ℕ, Bool, true, false, List, [], ◌∷◌, ◌++◌, Option, Some, None, IfSome, Result, Ok, Err, refl, sym, ap, subst, ◌∙◌, append_assoc, fun_ext, AllByRecursion, Appends, Refusal, LogRow, IsMoment, ListsOrganizations, AdminAnswer, Done, Exists, Absent, InUse, Organizations, Tokens, Organization, Asking, asked_of, asks, is_at_door, Message, continue_if, Reading, Reads, unfinished, whole, Answer, IsReplyText, Asked, AskedAct, ListWorkspaces, OfWorkspace, one_reply}
use Rattle.std.specs.Prelude.{if◌then◌else◌, ◌&&◌, is_none}
use Rattle.route.specs.Asks as route
use Rattle.wire.specs.Messages as wire
use Rattle.serve.specs.declared.doors.Door.{Door}
use Rattle.serve.specs.declared.doors.Door.TheVariants.{Closed, Open}
use Rattle.serve.specs.declared.doors.DoorCommand.{DoorCommand}
use Rattle.serve.specs.declared.doors.DoorCommand.TheVariants.{OnStore, Stop}
use Rattle.serve.specs.declared.exchanges.LinkFault.TheVariants.{Ended, Read, Continue, Write}
use Rattle.serve.specs.declared.operators.Operator.{Operator}
use Rattle.serve.specs.declared.steps.Admin.{Admin}
use Rattle.serve.specs.declared.steps.Admin.TheVariants.{OrgAdd, OrgLimit, OrgRemove, OrgList, TokenAdd, TokenList, TokenRevoke}
use Rattle.serve.specs.Asks.{Ask, silent, refused, requests, commands, stops, Owner, organization, unattributed, operator, owner_of, IsTimely}
use Rattle.serve.specs.Doors.{ComesToDoor, commanded, reported_answer, asked_at_door, ask_with, operator_with, AsksWith, IsAnswerTo}
use Rattle.serve.specs.Exchanges.{IsAnswered, IsUnavailableFor, IsUnavailable}
use Rattle.serve.specs.Laws.{ExchangesAreServed, EachIsServedAlone, ServedKeepCustody, AsksInTurn, ServedInTurn, WroteAlike, AllWroteAlike, TwoServedWorlds}
use Rattle.serve.specs.Runs.{IsOwnRecord}
use Rattle.serve.specs.Service.{Asks, ask_of, asked_by, is_own, with_own, own_asks, replies_at, record_for, after_ask, Carries, Stays, said_to, IsAdminAnswer}
use Rattle.serve.specs.Steps.{refusing, Said, nothing, reports, lists, lists_tokens, replies, step, own_said, own_record}
use Rattle.serve.specs.Promises.{ServicesAreAsPromised}
use Rattle.serve.specs.AbsentForms.{ServedRequest, record_at, ServedTellAbsentForms}
use Rattle.serve.proofs.AbsentLemmas.{looks_absent}
use Rattle.serve.specs.Logs.{act_logged, act_commanded, silent_row, with_answer, command_row, no_command_row, request_row, row_of_ask, IsUnreadRow, IsUnavailableRow, is_stop, names_stop}
use Rattle.serve.specs.Served.{Exchange, AsksToStop, IsLetIn, IsFrontOf, Replies, IsSaidBy, IsTold, IsCutShort, IsServedBy, IsServed, AreServedBy, AreServed, AreLetIn, with_carried, with_ask, asked_in, carried_in, AreTold, AreOwnTold}
use Rattle.serve.proofs.BookLemmas.{custody_is_kept}
use Rattle.serve.proofs.DoorLemmas.{brings}
use Rattle.serve.proofs.RunLemmas.{own_record-append, own_asks-append, IsOfOne, AreOfOne, own_of_one, owner_is, nobody_still, operator_still}
use Rattle.serve.proofs.TakenLemmas.{reading_timely}

-- ---- one exchange

-- the answer to `org-list` is the list of all organizations
list_said : (rows : List ℕ → Option Organization) (at : ℕ) (awaited : Bool) (a : AdminAnswer) (answer : Answer) → ListsOrganizations rows a → answer ≡ reported_answer a → IsSaidBy at awaited lists answer
list_said rows at awaited Done answer listed is = absurd listed
list_said rows at awaited Exists answer listed is = absurd listed
list_said rows at awaited Absent answer listed is = absurd listed
list_said rows at awaited InUse answer listed is = absurd listed
list_said rows at awaited (Organizations listing) answer listed is = (listing, is)
list_said rows at awaited (Tokens listing) answer listed is = absurd listed

-- the answer to a command is what the machine says
command_said_by : (rows : List ℕ → Option Organization) (now : ℕ) (command : Admin) (at : ℕ) (awaited : Bool) (a : AdminAnswer) (answer : Answer) → IsAdminAnswer rows command a → answer ≡ reported_answer a
    → IsSaidBy at awaited (said_to rows (commands now command)) answer
command_said_by rows now (OrgAdd org limit) at awaited a answer answered is = is ∙ ap reported_answer answered
command_said_by rows now (OrgLimit org limit) at awaited a answer answered is = is ∙ ap reported_answer answered
command_said_by rows now (OrgRemove org is_forced) at awaited a answer answered is = is ∙ ap reported_answer answered
command_said_by rows now OrgList at awaited a answer answered is = list_said rows at awaited a answer answered is
command_said_by rows now (TokenAdd org name role secret bounds) at awaited a answer answered is = is ∙ ap reported_answer answered
command_said_by rows now (TokenList org) at awaited a answer answered is = (a, is)
command_said_by rows now (TokenRevoke org name) at awaited a answer answered is = is ∙ ap reported_answer answered

-- so is the answer to whatever is asked
pub answer_said : (rows : List ℕ → Option Organization) (at : ℕ) (awaited : Bool) (ask : Ask) (answer : Answer) → IsAnswerTo rows at awaited ask answer → IsSaidBy at awaited (said_to rows ask) answer
answer_said rows at awaited silent answer answers = absurd answers
answer_said rows at awaited (refused now due refusal is_head at_door) answer answers = answers
answer_said rows at awaited (requests now due asked content_md5 body) answer answers = answers
answer_said rows at awaited (stops now) answer answers = answers
answer_said rows at awaited (commands now command) answer answers = command_said_by rows now command at awaited answers.0 answer answers.1 answers.2

-- only the row of `stop` is that of a `stop` that was answered `ok`
both_true : (b c : Bool) → b ≡ false → (b && c) ≡ true → ⊥
both_true true c e h = let no : ⊥ = cc in no
both_true false c e h = let no : ⊥ = cc in no

not_stop : (row : LogRow) → is_stop row.act ≡ false → names_stop (Some row) ≡ true → ⊥
not_stop row e h = both_true (is_stop row.act) (is_none row.refusal) e h

pub refused_not_stop : (row : LogRow) → is_none row.refusal ≡ false → names_stop (Some row) ≡ true → ⊥
refused_not_stop row e h = by_act (is_stop row.act) (is_none row.refusal) e h
  where
    by_act : (b c : Bool) → c ≡ false → (b && c) ≡ true → ⊥
    by_act true c is both = let no : ⊥ = cc in no
    by_act false c is both = let no : ⊥ = cc in no

act_not_stop : (what : AskedAct) → is_stop (Some (act_logged what)) ≡ false
act_not_stop (ListWorkspaces after) = refl
act_not_stop (OfWorkspace ws act) = refl

command_not_stop : (command : Admin) → is_stop (Some (act_commanded command)) ≡ false
command_not_stop (OrgAdd org limit) = refl
command_not_stop (OrgLimit org limit) = refl
command_not_stop (OrgRemove org is_forced) = refl
command_not_stop OrgList = refl
command_not_stop (TokenAdd org name role secret bounds) = refl
command_not_stop (TokenList org) = refl
command_not_stop (TokenRevoke org name) = refl

stop_asked : (by : Option (List ℕ)) (r : Option Organization) (ask : Ask) (answer : Answer) → names_stop (row_of_ask by r ask answer) ≡ true → (at : ℕ) × (ask ≡ stops at)
stop_asked by r silent answer h = absurd (let no : ⊥ = cc in no)
stop_asked by r (refused at due refusal is_head false) answer h = absurd (not_stop (with_answer (refusing refusal r).answer (silent_row at)) refl h)
stop_asked by r (refused at due refusal is_head true) answer h = absurd (not_stop (no_command_row at by (refusing refusal r).answer) refl h)
stop_asked by r (requests at due asked content_md5 body) answer h = absurd (not_stop (request_row r at asked content_md5 body) (act_not_stop asked.act) h)
stop_asked by r (commands at command) answer h = absurd (not_stop (command_row at by command answer) (command_not_stop command) h)
stop_asked by r (stops at) answer h = (at, refl)

-- no row of a 503 is
unread_refuses : (by : Option (List ℕ)) (at : ℕ) (row : LogRow) → IsUnreadRow by at row → is_none row.refusal ≡ false
unread_refuses by at row (inl is) = ap (λ (x : LogRow). is_none x.refusal) is
unread_refuses by at row (inr is) = ap (λ (x : LogRow). is_none x.refusal) is

down_not_stop : (by : Option (List ℕ)) (r : Option Organization) (ask : Ask) (row : LogRow) → IsUnavailableRow by r ask row → is_none row.refusal ≡ false
down_not_stop by r silent row h = absurd h
down_not_stop by r (refused at due refusal is_head false) row h = ap (λ (x : LogRow). is_none x.refusal) h
down_not_stop by r (refused at due refusal is_head true) row h = unread_refuses by at row h.1
down_not_stop by r (requests at due asked content_md5 body) row (inl is) = ap (λ (x : LogRow). is_none x.refusal) is
down_not_stop by r (requests at due asked content_md5 body) row (inr request) = ap (λ (x : LogRow). is_none x.refusal) request.is
down_not_stop by r (commands at command) row (inl is) = unread_refuses by at row is
down_not_stop by r (commands at command) row (inr is) = ap (λ (x : LogRow). is_none x.refusal) is
down_not_stop by r (stops at) row (inl is) = unread_refuses by at row is
down_not_stop by r (stops at) row (inr is) = ap (λ (x : LogRow). is_none x.refusal) is

down_refuses : (door : Door) (now : ℕ) (old : List ℕ → Option Organization) (reading : Option Reading) (row : LogRow) → IsUnavailableFor door now old reading row → is_none row.refusal ≡ false
down_refuses door now old None row h = ap (λ (x : LogRow). is_none x.refusal) h
down_refuses door now old (Some reading) row h = down_not_stop (operator_with door now reading) (record_for old (owner_of (ask_with door now reading))) (ask_with door now reading) row h

stops_of : (row reported : Option LogRow) → row ≡ reported → names_stop row ≡ true → names_stop reported ≡ true
stops_of row reported is h = subst (λ (x : Option LogRow). names_stop x ≡ true) is h

-- nor is the row of an exchange that had one
pub down_names_no_stop : (door : Door) (now : ℕ) (received : List ℕ) (old new : List ℕ → Option Organization) (reading : Option Reading) (awaited : Bool) (text : List ℕ) (row : Option LogRow)
    → IsUnavailable door now received old new reading awaited text row → names_stop row ≡ false
down_names_no_stop door now received old new reading awaited text row down = by_case (names_stop row) refl
  where
    by_case : (b : Bool) → names_stop row ≡ b → b ≡ false
    by_case true is = absurd (refused_not_stop down.reported (down_refuses door now old reading down.reported down.logged) (stops_of row (Some down.reported) down.reports is))
    by_case false is = refl

abbrev Found : Door → ℕ → List ℕ → (List ℕ → Option Organization) → (List ℕ → Option Organization) → Option (List ℕ) → Option (List ℕ) → Option LogRow → Type 0
Found door at received old new before after row =
    (e : Exchange) × (e.at ≡ at) × (e.received ≡ received) × Appends before after e.written × IsServed door e old new × (names_stop row ≡ true → AsksToStop e)

-- an exchange with a reply, as far as it was written
answered : (door : Door) (at : ℕ) (received : List ℕ) (old new : List ℕ → Option Organization) (before after : Option (List ℕ)) (awaited : Bool) (text : List ℕ) (row : Option LogRow) (is_whole : Bool) (written : List ℕ) (is_down : Bool)
    → IsMoment at → IsFrontOf is_whole written (continue_if awaited ++ text) → Appends before after written → IsAnswered door at received old new awaited text row is_down
    → Found door at received old new before after row
answered door at received old new before after awaited text row is_whole written false moment front appends served = (
  record { at = at; received = received; awaited = awaited; written = written; is_whole = is_whole; ask = Some served.ask },
  refl,
  refl,
  appends,
  (moment, (served.answer, served.carried, (text, served.is, front))),
  λ stopped. let by = operator_with door at served.carried.asks.reading in
      let asked = stop_asked by (record_for old (owner_of served.ask)) served.ask served.answer (stops_of row (row_of_ask by (record_for old (owner_of served.ask)) served.ask served.answer) served.logged stopped) in
      (asked.0, ap Some asked.1),
)
answered door at received old new before after awaited text row is_whole written true moment front appends down = (
  record { at = at; received = received; awaited = awaited; written = written; is_whole = is_whole; ask = None },
  refl,
  refl,
  appends,
  (moment, (down.1.stays, inl (down.1.without_body, (text, down.1.is, front)))),
  λ stopped. absurd (refused_not_stop down.1.reported (down_refuses door at old down.0 down.1.reported down.1.logged) (stops_of row (Some down.1.reported) down.1.reports stopped)),
)

-- an exchange without a reply
unanswered : (door : Door) (at : ℕ) (received : List ℕ) (old new : List ℕ → Option Organization) (before after : Option (List ℕ)) (row : Option LogRow) (written : List ℕ) (awaited : Bool) → row ≡ Some (silent_row at) → IsMoment at → Stays old new
    → IsCutShort (record { at = at; received = received; awaited = awaited; written = written; is_whole = false; ask = None }) → Appends before after written → Found door at received old new before after row
unanswered door at received old new before after row written awaited blank moment stays cut appends = (
  record { at = at; received = received; awaited = awaited; written = written; is_whole = false; ask = None },
  refl,
  refl,
  appends,
  (moment, (stays, inr (refl, cut))),
  λ stopped. absurd (not_stop (silent_row at) refl (stops_of row (Some (silent_row at)) blank stopped)),
)

pub exchanges_are_served : ExchangesAreServed
exchanges_are_served door at received left old new before after is_down row (Ok done) moment h stays =
    answered door at received old new before after h.0 h.1 row true (continue_if h.0 ++ h.1) is_down moment refl h.3 h.2
exchanges_are_served door at received left old new before after is_down row (Err Write) moment h stays =
    answered door at received old new before after h.0 (h.1 ++ h.2) row false (continue_if h.0 ++ h.1) is_down moment (h.2, h.3, sym (append_assoc (continue_if h.0) h.1 h.2)) h.5 h.4
exchanges_are_served door at received left old new before after is_down row (Err Ended) moment h stays =
    let continues = h.4 in
    unanswered door at received old new before after row (continue_if continues.0) continues.0 h.1 moment (stays (inl refl)) (inl (h.2, continues.1, refl)) continues.2
exchanges_are_served door at received left old new before after is_down row (Err Read) moment h stays =
    let continues = h.3 in
    unanswered door at received old new before after row (continue_if continues.0) continues.0 h.1 moment (stays (inr (inl refl))) (inl (h.2, continues.1, refl)) continues.2
exchanges_are_served door at received left old new before after is_down row (Err Continue) moment h stays =
    let cut = h.3 in
    unanswered door at received old new before after row cut.0 true h.1 moment (stays (inr (inr refl))) (inr (h.2, (cut.1, cut.2, cut.3))) cut.4

-- ---- exchanges in a row

pub served_rows : (doors : List Door) (es : List Exchange) (old new : List ℕ → Option Organization) → AreServedBy doors es old new → (org : List ℕ) → IsOwnRecord (asked_in es) old new org
served_rows [] [] old new stays org = stays org
served_rows [] (e ∷ es) old new h org = absurd h
served_rows (door ∷ doors) [] old new h org = absurd h
served_rows (door ∷ doors) (e ∷ es) old new h org = by_ask e.ask h.1.1 (served_rows doors es h.0 new h.2 org)
  where
    by_owner : (a : Ask) (b : Bool) → own_record (after_ask b a (old org)) (own_asks (organization org) (asked_in es)) ≡ own_record (old org) (with_own b a (own_asks (organization org) (asked_in es)))
    by_owner a true = refl
    by_owner a false = refl

    by_ask : (o : Option Ask) → IsServedBy door e o old h.0 → new org ≡ own_record (h.0 org) (own_asks (organization org) (asked_in es)) → new org ≡ own_record (old org) (own_asks (organization org) (with_ask o (asked_in es)))
    by_ask None one rest = rest ∙ ap (λ (r : Option Organization). own_record r (own_asks (organization org) (asked_in es))) (one.0 org)
    by_ask (Some a) one rest = rest ∙ ap (λ (r : Option Organization). own_record r (own_asks (organization org) (asked_in es))) (one.1.carries org) ∙ by_owner a (is_own (organization org) a)

-- the record that the owner's next exchange reads
pub record_then : (owner : Owner) (a : Ask) (old mid : List ℕ → Option Organization) → Carries a old mid → (b : Bool) → is_own owner a ≡ b → record_for mid owner ≡ after_ask b a (record_for old owner)
record_then (organization org) a old mid carries b e = carries org ∙ ap (λ (t : Bool). after_ask t a (old org)) e
record_then unattributed a old mid carries true e = sym (nobody_still a None e)
record_then unattributed a old mid carries false e = refl
record_then operator a old mid carries true e = sym (operator_still a None e)
record_then operator a old mid carries false e = refl

record_stays : (owner : Owner) (old mid : List ℕ → Option Organization) → Stays old mid → record_for mid owner ≡ record_for old owner
record_stays (organization org) old mid stays = stays org
record_stays unattributed old mid stays = refl
record_stays operator old mid stays = refl

pub served_told : (doors : List Door) (es : List Exchange) (old new : List ℕ → Option Organization) → AreServedBy doors es old new → (owner : Owner) → AreOwnTold es old owner
served_told [] [] old new h owner = tt
served_told [] (e ∷ es) old new h owner = absurd h
served_told (door ∷ doors) [] old new h owner = absurd h
served_told (door ∷ doors) (e ∷ es) old new h owner = by_ask e.ask h.1.1 (served_told doors es h.0 new h.2 owner)
  where
    by_own : (a : Ask) (b : Bool) → is_own owner a ≡ b → IsServedBy door e (Some a) old h.0 → AreTold (own_said (record_for h.0 owner) (own_asks owner (asked_in es))) (replies_at owner (asked_in es) (carried_in es))
        → AreTold (own_said (record_for old owner) (with_own b a (own_asks owner (asked_in es)))) (with_own b e (replies_at owner (asked_in es) (carried_in es)))
    by_own a true own one rest = (
      (
        one.0,
        subst (λ (o : Owner). IsSaidBy e.at e.awaited (step (record_for old o) a).answer one.0) (sym (owner_is owner (owner_of a) own)) (answer_said old e.at e.awaited a one.0 one.1.answers),
        one.2,
      ),
      subst (λ (r : Option Organization). AreTold (own_said r (own_asks owner (asked_in es))) (replies_at owner (asked_in es) (carried_in es))) (record_then owner a old h.0 one.1.carries true own) rest,
    )
    by_own a false own one rest = subst (λ (r : Option Organization). AreTold (own_said r (own_asks owner (asked_in es))) (replies_at owner (asked_in es) (carried_in es))) (record_then owner a old h.0 one.1.carries false own) rest

    by_ask : (o : Option Ask) → IsServedBy door e o old h.0 → AreTold (own_said (record_for h.0 owner) (own_asks owner (asked_in es))) (replies_at owner (asked_in es) (carried_in es))
        → AreTold (own_said (record_for old owner) (own_asks owner (with_ask o (asked_in es)))) (replies_at owner (with_ask o (asked_in es)) (with_carried o e (carried_in es)))
    by_ask None one rest = subst (λ (r : Option Organization). AreTold (own_said r (own_asks owner (asked_in es))) (replies_at owner (asked_in es) (carried_in es))) (record_stays owner old h.0 one.0) rest
    by_ask (Some a) one rest = by_own a (is_own owner a) refl one rest

pub each_is_served_alone : EachIsServedAlone
each_is_served_alone doors es old new h org = record { own_replies = served_told doors es old new h (organization org); own_record = served_rows doors es old new h org }

-- the moments of what is carried out
module _ (at : ℕ) (moment : IsMoment at) where
  asking_timely : (awaited : Bool) (message : Message) (asking : Asking) → IsTimely (asked_by at awaited message asking)
  asking_timely awaited message (route.refused refusal) = tt
  asking_timely awaited message (asks asked) = moment

  door_timely : (awaited : Bool) (message : Message) (asks : Result DoorCommand Refusal) → IsTimely (asked_at_door at awaited message asks)
  door_timely awaited message (Ok (OnStore command)) = tt
  door_timely awaited message (Ok Stop) = tt
  door_timely awaited message (Err refusal) = tt

  open_timely : (operators : List Operator) (message : Message) (awaited b : Bool) → IsTimely (if b then asked_at_door at awaited message (commanded operators at message) else asked_by at awaited message (asked_of message))
  open_timely operators message awaited true = door_timely awaited message (commanded operators at message)
  open_timely operators message awaited false = asking_timely awaited message (asked_of message)

  with_timely : (door : Door) (reading : Reading) → IsTimely (ask_with door at reading)
  with_timely Closed reading = reading_timely at reading moment
  with_timely (Open operators) unfinished = tt
  with_timely (Open operators) (wire.refused refusal head) = tt
  with_timely (Open operators) (whole message awaited) = open_timely operators message awaited (is_at_door message)

asks_timely : (door : Door) (at : ℕ) (received : List ℕ) (awaited : Bool) (a : Ask) → IsMoment at → AsksWith door at received awaited a → IsTimely a
asks_timely door at received awaited a moment is = subst IsTimely (sym is.is) (with_timely at moment door is.reading)

pub served_timely : (doors : List Door) (es : List Exchange) (old new : List ℕ → Option Organization) → AreServedBy doors es old new → AllByRecursion IsTimely (asked_in es)
served_timely [] [] old new h = tt
served_timely [] (e ∷ es) old new h = absurd h
served_timely (door ∷ doors) [] old new h = absurd h
served_timely (door ∷ doors) (e ∷ es) old new h = by_ask e.ask h.1.1 (served_timely doors es h.0 new h.2)
  where
    by_ask : (o : Option Ask) → IsServedBy door e o old h.0 → AllByRecursion IsTimely (asked_in es) → AllByRecursion IsTimely (with_ask o (asked_in es))
    by_ask None one rest = rest
    by_ask (Some a) one rest = (asks_timely door e.at e.received e.awaited a h.1.0 one.1.asks, rest)

pub served_keep_custody : ServedKeepCustody
served_keep_custody doors es old new h lawful = custody_is_kept (asked_in es) old (served_timely doors es old new h) lawful

pub asks_in_turn : AsksInTurn
asks_in_turn asked more old mid new org first second =
    second ∙ ap (λ (r : Option Organization). own_record r (own_asks (organization org) more)) first ∙ sym (own_record-append (old org) (own_asks (organization org) asked) (own_asks (organization org) more))
    ∙ ap (own_record (old org)) (sym (own_asks-append (organization org) asked more))

pub served_in_turn : ServedInTurn
served_in_turn [] others [] fs old mid new h k = subst (λ (rows : List ℕ → Option Organization). AreServedBy others fs rows new) (fun_ext h) k
served_in_turn [] others (e ∷ es) fs old mid new h k = absurd h
served_in_turn (door ∷ doors) others [] fs old mid new h k = absurd h
served_in_turn (door ∷ doors) others (e ∷ es) fs old mid new h k = (h.0, h.1, served_in_turn doors others es fs h.0 mid new h.2 k)

-- with one door
pub served_on : (door : Door) (es fs : List Exchange) (old mid new : List ℕ → Option Organization) → AreServed door es old mid → AreServed door fs mid new → AreServed door (es ++ fs) old new
served_on door [] fs old mid new h k = subst (λ (rows : List ℕ → Option Organization). AreServed door fs rows new) (fun_ext h) k
served_on door (e ∷ es) fs old mid new h k = (h.0, h.1, served_on door es fs h.0 mid new h.2 k)

-- ---- one place of them

-- what stands before a place, and at it
record StandsAt (earlier : List Exchange) (e : Exchange) (old : List ℕ → Option Organization) : Type 0 where
  pub doors : List Door
  pub door : Door
  pub before : List ℕ → Option Organization
  pub after : List ℕ → Option Organization
  pub came : AreServedBy doors earlier old before
  pub served : IsServed door e before after

stands_at : (doors : List Door) (earlier : List Exchange) (e : Exchange) (later : List Exchange) (old new : List ℕ → Option Organization) → AreServedBy doors (earlier ++ e ∷ later) old new → StandsAt earlier e old
stands_at [] [] e later old new h = absurd h
stands_at [] (x ∷ earlier) e later old new h = absurd h
stands_at (door ∷ doors) [] e later old new h = record { doors = []; door = door; before = old; after = h.0; came = λ org. refl; served = h.1 }
stands_at (door ∷ doors) (x ∷ earlier) e later old new h =
    let more = stands_at doors earlier e later h.0 new h.2 in
    record { doors = door ∷ more.doors; door = more.door; before = more.before; after = more.after; came = (h.0, h.1, more.came); served = more.served }

-- a request is asked past the door
request_at_door : (at : ℕ) (due : Bool) (message : Message) (spells : Result DoorCommand Refusal) (awaited : Bool) (asked : Asked) (content_md5 : Option (List ℕ)) (body : List ℕ)
    → requests at awaited asked content_md5 body ≡ asked_at_door at due message spells → ⊥
request_at_door at due message (Ok (OnStore command)) awaited asked content_md5 body is = let no : ⊥ = cc in no
request_at_door at due message (Ok Stop) awaited asked content_md5 body is = let no : ⊥ = cc in no
request_at_door at due message (Err refusal) awaited asked content_md5 body is = let no : ⊥ = cc in no

request_open : (operators : List Operator) (at : ℕ) (message : Message) (due b awaited : Bool) (asked : Asked) (content_md5 : Option (List ℕ)) (body : List ℕ)
    → requests at awaited asked content_md5 body ≡ (if b then asked_at_door at due message (commanded operators at message) else asked_by at due message (asked_of message))
    → requests at awaited asked content_md5 body ≡ asked_by at due message (asked_of message)
request_open operators at message due true awaited asked content_md5 body is = absurd (request_at_door at due message (commanded operators at message) awaited asked content_md5 body is)
request_open operators at message due false awaited asked content_md5 body is = is

request_past : (door : Door) (at : ℕ) (reading : Reading) (awaited : Bool) (asked : Asked) (content_md5 : Option (List ℕ)) (body : List ℕ)
    → requests at awaited asked content_md5 body ≡ ask_with door at reading → requests at awaited asked content_md5 body ≡ ask_of at reading
request_past Closed at reading awaited asked content_md5 body is = is
request_past (Open operators) at unfinished awaited asked content_md5 body is = is
request_past (Open operators) at (wire.refused refusal head) awaited asked content_md5 body is = is
request_past (Open operators) at (whole message due) awaited asked content_md5 body is = request_open operators at message due (is_at_door message) awaited asked content_md5 body is

request_asks : (door : Door) (at : ℕ) (received : List ℕ) (due awaited : Bool) (asked : Asked) (content_md5 : Option (List ℕ)) (body : List ℕ) → AsksWith door at received due (requests at awaited asked content_md5 body)
    → Asks at received (requests at awaited asked content_md5 body)
request_asks door at received due awaited asked content_md5 body is = record { reading = is.reading; reads = is.reads; is = request_past door at is.reading awaited asked content_md5 body is.is }

-- what was written to a request, where the machine answers it as this
module _ (doors : List Door) (es : List Exchange) (old new : List ℕ → Option Organization) (h : AreServedBy doors es old new) (a : ServedRequest es) where
  request_stands : StandsAt a.earlier a.one old
  request_stands = stands_at doors a.earlier a.one a.later old new (subst (λ (all : List Exchange). AreServedBy doors all old new) a.stands h)

  request_served : IsServedBy request_stands.door a.one (Some (requests a.one.at a.one.awaited a.asked a.content_md5 a.body)) request_stands.before request_stands.after
  request_served = subst (λ (o : Option Ask). IsServedBy request_stands.door a.one o request_stands.before request_stands.after) a.asks request_stands.served.1

  record_is : request_stands.before a.asked.caller ≡ record_at old a
  record_is = served_rows request_stands.doors a.earlier old request_stands.before request_stands.came a.asked.caller

  request_told : IsTold (step (record_at old a) (requests a.one.at a.one.awaited a.asked a.content_md5 a.body)).answer a.one
  request_told = subst (λ (r : Option Organization). IsTold (step r (requests a.one.at a.one.awaited a.asked a.content_md5 a.body)).answer a.one) record_is
      (request_served.0, answer_said request_stands.before a.one.at a.one.awaited (requests a.one.at a.one.awaited a.asked a.content_md5 a.body) request_served.0 request_served.1.answers, request_served.2)

pub served_tell_absent_forms : ServedTellAbsentForms
served_tell_absent_forms doors es old new h a =
    looks_absent (record_at old a) a.one.at a.one.awaited a.one.received a.asked a.content_md5 a.body (λ said. IsTold said a.one)
    (request_asks (request_stands doors es old new h a).door a.one.at a.one.received a.one.awaited a.one.awaited a.asked a.content_md5 a.body (request_served doors es old new h a).1.asks) (request_told doors es old new h a)

-- a command is asked for with the secret of an operator who may ask for it
asking_let_in : (door : Door) (bytes : List ℕ) (at : ℕ) (awaited : Bool) (message : Message) (asking : Asking) → IsLetIn door at bytes (asked_by at awaited message asking)
asking_let_in door bytes at awaited message (route.refused refusal) = tt
asking_let_in door bytes at awaited message (asks asked) = tt

door_let_in : (operators : List Operator) (bytes : List ℕ) (at : ℕ) (awaited : Bool) (message : Message) (spells : Result DoorCommand Refusal) → ComesToDoor bytes message awaited → commanded operators at message ≡ spells
    → IsLetIn (Open operators) at bytes (asked_at_door at awaited message spells)
door_let_in operators bytes at awaited message (Ok (OnStore command)) comes is = let by = brings operators at message (OnStore command) is in (message, awaited, comes, by.0, by.1, by.2)
door_let_in operators bytes at awaited message (Ok Stop) comes is = let by = brings operators at message Stop is in (message, awaited, comes, by.0, by.1, by.2)
door_let_in operators bytes at awaited message (Err refusal) comes is = tt

open_let_in : (operators : List Operator) (bytes : List ℕ) (at : ℕ) (awaited : Bool) (message : Message) (b : Bool) → is_at_door message ≡ b → Reads bytes (whole message awaited)
    → IsLetIn (Open operators) at bytes (if b then asked_at_door at awaited message (commanded operators at message) else asked_by at awaited message (asked_of message))
open_let_in operators bytes at awaited message true comes reads = door_let_in operators bytes at awaited message (commanded operators at message) (record { reads = reads; at_door = comes }) refl
open_let_in operators bytes at awaited message false comes reads = asking_let_in (Open operators) bytes at awaited message (asked_of message)

reading_let_in : (door : Door) (bytes : List ℕ) (at : ℕ) (reading : Reading) → Reads bytes reading → IsLetIn door at bytes (ask_with door at reading)
reading_let_in Closed bytes at unfinished reads = tt
reading_let_in Closed bytes at (wire.refused refusal head) reads = tt
reading_let_in Closed bytes at (whole message awaited) reads = asking_let_in Closed bytes at awaited message (asked_of message)
reading_let_in (Open operators) bytes at unfinished reads = tt
reading_let_in (Open operators) bytes at (wire.refused refusal head) reads = tt
reading_let_in (Open operators) bytes at (whole message awaited) reads = open_let_in operators bytes at awaited message (is_at_door message) refl reads

let_in : (door : Door) (at : ℕ) (bytes : List ℕ) (awaited : Bool) (a : Ask) → AsksWith door at bytes awaited a → IsLetIn door at bytes a
let_in door at bytes awaited a is = subst (IsLetIn door at bytes) (sym is.is) (reading_let_in door bytes at is.reading is.reads)

all_let_in : (doors : List Door) (es : List Exchange) (old new : List ℕ → Option Organization) → AreServedBy doors es old new → AreLetIn doors es
all_let_in [] [] old new h = tt
all_let_in [] (e ∷ es) old new h = absurd h
all_let_in (door ∷ doors) [] old new h = absurd h
all_let_in (door ∷ doors) (e ∷ es) old new h = (by_ask e.ask h.1.1, all_let_in doors es h.0 new h.2)
  where
    by_ask : (o : Option Ask) → IsServedBy door e o old h.0 → IfSome o (λ ask. IsLetIn door e.at e.received ask)
    by_ask None one = tt
    by_ask (Some a) one = let_in door e.at e.received e.awaited a one.1.asks

-- ---- all of it

pub services_are_as_promised : ServicesAreAsPromised
services_are_as_promised doors es old new h lawful = record {
  alone = λ org. each_is_served_alone doors es old new h org;
  told = λ owner. served_told doors es old new h owner;
  absent = served_tell_absent_forms doors es old new h;
  secrets = all_let_in doors es old new h;
  custody = served_keep_custody doors es old new h lawful;
}

-- ---- two worlds

whole_is : (is_whole : Bool) (written text : List ℕ) → is_whole ≡ true → IsFrontOf is_whole written text → written ≡ text
whole_is true written text e h = h
whole_is false written text e h = absurd (let none : ⊥ = cc in none)

one_reply_said : (due awaited flag : Bool) (when at now : ℕ) (a x y : Answer) → replies due when a ≡ replies awaited at x → replies due when a ≡ replies flag now y → x ≡ y
one_reply_said due awaited flag when at now a x y h k = cc

-- what is said has one answer
pub one_answer : (said : Said) (at now : ℕ) (awaited flag : Bool) (x y : Answer) → IsOfOne said → IsSaidBy at awaited said x → IsSaidBy now flag said y → x ≡ y
one_answer nothing at now awaited flag x y of_one h k = absurd h
one_answer (replies due when answer) at now awaited flag x y of_one h k = one_reply_said due awaited flag when at now answer x y h k
one_answer (reports a) at now awaited flag x y of_one h k = h ∙ sym k
one_answer lists at now awaited flag x y of_one h k = absurd of_one
one_answer lists_tokens at now awaited flag x y of_one h k = absurd of_one

-- exchanges that write one answer write the same
pub reply_alike : (e f : Exchange) (x y : Answer) → x ≡ y → Replies e x → Replies f y → WroteAlike e f
reply_alike e f x y same h k = λ moment line all every.
    let reply : h.0 ≡ k.0 = one_reply y f.at h.0 k.0 (subst (λ (at : ℕ). IsReplyText y at h.0) moment (subst (λ (a : Answer). IsReplyText a e.at h.0) same h.1)) k.1 in
    whole_is e.is_whole e.written (continue_if e.awaited ++ h.0) all h.2 ∙ ap (λ (b : Bool). continue_if b ++ h.0) line ∙ ap (λ (r : List ℕ). continue_if f.awaited ++ r) reply
    ∙ sym (whole_is f.is_whole f.written (continue_if f.awaited ++ k.0) every k.2)

wrote_alike : (said : List Said) (es fs : List Exchange) → AreOfOne said → AreTold said es → AreTold said fs → AllWroteAlike es fs
wrote_alike [] [] [] of_one h k = tt
wrote_alike [] [] (f ∷ fs) of_one h k = absurd k
wrote_alike [] (e ∷ es) fs of_one h k = absurd h
wrote_alike (s ∷ said) [] fs of_one h k = absurd h
wrote_alike (s ∷ said) (e ∷ es) [] of_one h k = absurd k
wrote_alike (s ∷ said) (e ∷ es) (f ∷ fs) of_one h k = (
  reply_alike e f h.0.0 k.0.0 (one_answer s e.at f.at e.awaited f.awaited h.0.0 k.0.0 of_one.0 h.0.1 k.0.1) h.0.2 k.0.2,
  wrote_alike said es fs of_one.1 h.1 k.1,
)

pub two_served_worlds : TwoServedWorlds
two_served_worlds org es fs before after before' after' first second rows asks_same =
    let said : own_said (before org) (own_asks (organization org) (asked_in es)) ≡ own_said (before' org) (own_asks (organization org) (asked_in fs)) =
    ap (λ (r : Option Organization). own_said r (own_asks (organization org) (asked_in es))) rows ∙ ap (own_said (before' org)) asks_same in (
      wrote_alike (own_said (before' org) (own_asks (organization org) (asked_in fs))) (replies_at (organization org) (asked_in es) (carried_in es)) (replies_at (organization org) (asked_in fs) (carried_in fs))
          (own_of_one org (before' org) (asked_in fs))
          (subst (λ (s : List Said). AreTold s (replies_at (organization org) (asked_in es) (carried_in es))) said first.own_replies) second.own_replies,
      first.own_record ∙ ap (λ (r : Option Organization). own_record r (own_asks (organization org) (asked_in es))) rows ∙ ap (own_record (before' org)) asks_same ∙ sym second.own_record,
    )
