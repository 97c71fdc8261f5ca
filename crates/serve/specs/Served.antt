-- Exchanges in a row over the records of all organizations: what each received, what it wrote and what it carried out; and what
-- follows of each organization.
use Rattle.std.specs.Prelude.{◌≡◌, ◌⊎◌, ◌<◌, ℕ, Bool, true, false, List, [], ◌∷◌, ◌++◌, length, Option, Some, None, IfSome, Ok, ⊤}
use Rattle.machine.specs.Ranges.{IsMoment}
use Rattle.machine.specs.declared.keeps.AdminAnswer.{AdminAnswer}
use Rattle.machine.specs.declared.keeps.AdminAnswer.TheVariants.{Organizations}
use Rattle.machine.specs.declared.keeps.OrgRow.{OrgRow}
use Rattle.machine.specs.declared.records.Organization.{Organization}
use Rattle.wire.specs.declared.messages.Message.{Message}
use Rattle.wire.specs.Links.{continue_if, continue_text}
use Rattle.wire.specs.Messages.{Reads, unfinished, AwaitsContinue, IsAwaited}
use Rattle.wire.specs.Replies.{Answer, IsReplyText, unavailable_answer}
use Rattle.serve.specs.declared.doors.Door.{Door}
use Rattle.serve.specs.declared.doors.Door.TheVariants.{Closed, Open}
use Rattle.serve.specs.declared.doors.DoorCommand.{DoorCommand}
use Rattle.serve.specs.declared.doors.DoorCommand.TheVariants.{OnStore, Stop}
use Rattle.serve.specs.declared.operators.Operator.{Operator}
use Rattle.serve.specs.Asks.{Ask, silent, refused, requests, commands, stops, Owner, organization}
use Rattle.serve.specs.Doors.{ComesToDoor, reported_answer, CarriesOut}
use Rattle.serve.specs.Operators.{permitted, BringsSecretOf}
use Rattle.serve.specs.Runs.{IsOwnRecord}
use Rattle.serve.specs.Service.{Stays, own_asks, replies_at, record_for}
use Rattle.serve.specs.Steps.{Said, nothing, replies, reports, lists, lists_tokens, own_said}

-- ---- one exchange

-- an exchange: its moment, the bytes that it received, whether `100 Continue` comes before its reply, the bytes that it wrote, whether
-- those are all of the reply, and what it carried out, if it did
pub record Exchange : Type 0 where
  pub at : ℕ
  pub received : List ℕ
  pub awaited : Bool
  pub written : List ℕ
  pub is_whole : Bool
  pub ask : Option Ask

-- what it carried out is `stop`
abbrev pub AsksToStop : Exchange → Type 0
AsksToStop e = (at : ℕ) × (e.ask ≡ Some (stops at))

-- the bytes are a message at the open door with the secret of an operator, which counts at a moment, and who may ask for this command
abbrev pub ComesFromOperator : Door → ℕ → List ℕ → DoorCommand → Type 0
ComesFromOperator Closed at bytes command = ⊥
ComesFromOperator (Open operators) at bytes command =
    (message : Message) × (awaited : Bool) × ComesToDoor bytes message awaited × (operator : Operator) × BringsSecretOf operators at message operator × (permitted operator.lists_only command ≡ Ok command)

-- an operator's command, or `stop`, came with the secret of an operator who may ask for it
abbrev pub IsLetIn : Door → ℕ → List ℕ → Ask → Type 0
IsLetIn door at bytes silent = ⊤
IsLetIn door at bytes (refused now due refusal is_head at_door) = ⊤
IsLetIn door at bytes (requests now due asked content_md5 body) = ⊤
IsLetIn door at bytes (stops now) = ComesFromOperator door at bytes Stop
IsLetIn door at bytes (commands now command) = ComesFromOperator door at bytes (OnStore command)

-- these bytes are the text, or the front of it
abbrev pub IsFrontOf : Bool → List ℕ → List ℕ → Type 0
IsFrontOf true written text = written ≡ text
IsFrontOf false written text = (rest : List ℕ) × (0 < length rest) × (text ≡ written ++ rest)

-- an exchange wrote this answer
abbrev pub Replies : Exchange → Answer → Type 0
Replies e answer = (reply : List ℕ) × IsReplyText answer e.at reply × IsFrontOf e.is_whole e.written (continue_if e.awaited ++ reply)

-- the answer on a connection, of a moment, that is what is said
abbrev pub IsSaidBy : ℕ → Bool → Said → Answer → Type 0
IsSaidBy at awaited nothing answer = ⊥
IsSaidBy at awaited (replies due now said) answer = replies due now said ≡ replies awaited at answer
IsSaidBy at awaited (reports a) answer = answer ≡ reported_answer a
IsSaidBy at awaited lists answer = (rows : List OrgRow) × (answer ≡ reported_answer (Organizations rows))
IsSaidBy at awaited lists_tokens answer = (a : AdminAnswer) × (answer ≡ reported_answer a)

-- an exchange wrote what is said
abbrev pub IsTold : Said → Exchange → Type 0
IsTold said e = (answer : Answer) × IsSaidBy e.at e.awaited said answer × Replies e answer

-- no complete message was received, and `100 Continue` was written if it awaits that; or the writer did not take `100 Continue`
abbrev pub IsCutShort : Exchange → Type 0
IsCutShort e =
    (Reads e.received unfinished × IsAwaited e.received e.awaited × (e.written ≡ continue_if e.awaited))
    ⊎ (AwaitsContinue e.received × IsFrontOf false e.written continue_text)

-- what an exchange wrote that carried nothing out: the 503; or no reply, because no complete message was received, or `100 Continue` was
-- not taken
abbrev pub IsUntold : Exchange → Type 0
IsUntold e =
    ((without_body : Bool) × Replies e (unavailable_answer without_body))
    ⊎ ((e.is_whole ≡ false) × IsCutShort e)

-- what its bytes ask is carried out, and it wrote the answer; or nothing is
abbrev pub IsServedBy : Door → Exchange → Option Ask → (List ℕ → Option Organization) → (List ℕ → Option Organization) → Type 0
IsServedBy door e None old new = Stays old new × IsUntold e
IsServedBy door e (Some ask) old new = (answer : Answer) × CarriesOut door e.at e.received e.awaited ask answer old new × Replies e answer

-- an exchange is served with this door: the records before and after it
abbrev pub IsServed : Door → Exchange → (List ℕ → Option Organization) → (List ℕ → Option Organization) → Type 0
IsServed door e old new = IsMoment e.at × IsServedBy door e e.ask old new

-- ---- exchanges in a row

-- exchanges are served, one after the other, each with its own door: the records before the first and after the last
abbrev pub AreServedBy : List Door → List Exchange → (List ℕ → Option Organization) → (List ℕ → Option Organization) → Type 0
AreServedBy [] [] old new = Stays old new
AreServedBy (door ∷ doors) (e ∷ es) old new = (mid : List ℕ → Option Organization) × IsServed door e old mid × AreServedBy doors es mid new
AreServedBy [] (e ∷ es) old new = ⊥
AreServedBy (door ∷ doors) [] old new = ⊥

-- this door for each exchange
abbrev pub same_door : Door → List Exchange → List Door
same_door door [] = []
same_door door (e ∷ es) = door ∷ same_door door es

-- exchanges are served with one door
abbrev pub AreServed : Door → List Exchange → (List ℕ → Option Organization) → (List ℕ → Option Organization) → Type 0
AreServed door es old new = AreServedBy (same_door door es) es old new

-- each command, and each `stop`, came with the secret of an operator of its door who may ask for it
abbrev pub AreLetIn : List Door → List Exchange → Type 0
AreLetIn [] [] = ⊤
AreLetIn (door ∷ doors) (e ∷ es) = IfSome e.ask (λ ask. IsLetIn door e.at e.received ask) × AreLetIn doors es
AreLetIn [] (e ∷ es) = ⊥
AreLetIn (door ∷ doors) [] = ⊥

-- one more at the front, if something was carried out
abbrev pub with_carried : {A : Type 0} → Option Ask → A → List A → List A
with_carried None x xs = xs
with_carried (Some ask) x xs = x ∷ xs

abbrev pub with_ask : Option Ask → List Ask → List Ask
with_ask None asked = asked
with_ask (Some ask) asked = ask ∷ asked

-- what exchanges carried out, in order
abbrev pub asked_in : List Exchange → List Ask
asked_in [] = []
asked_in (e ∷ es) = with_ask e.ask (asked_in es)

-- the exchanges that carried it out
abbrev pub carried_in : List Exchange → List Exchange
carried_in [] = []
carried_in (e ∷ es) = with_carried e.ask e (carried_in es)

abbrev pub AreTold : List Said → List Exchange → Type 0
AreTold [] [] = ⊤
AreTold [] (e ∷ es) = ⊥
AreTold (s ∷ said) [] = ⊥
AreTold (s ∷ said) (e ∷ es) = IsTold s e × AreTold said es

-- the replies of one's own exchanges are what one's own machine says
abbrev pub AreOwnTold : List Exchange → (List ℕ → Option Organization) → Owner → Type 0
AreOwnTold es before owner = AreTold (own_said (record_for before owner) (own_asks owner (asked_in es))) (replies_at owner (asked_in es) (carried_in es))

-- for an organization, the exchanges are those of its own machine, which gets only its own: what its connections got, and its record afterwards
pub record IsServedAlone (org : List ℕ) (es : List Exchange) (before after : List ℕ → Option Organization) : Type 0 where
  pub own_replies : AreOwnTold es before (organization org)
  pub own_record : IsOwnRecord (asked_in es) before after org
