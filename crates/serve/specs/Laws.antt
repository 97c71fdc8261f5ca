-- Laws of steps, runs and exchanges.
use Rattle.std.specs.Prelude.{◌≡◌, ◌≢◌, ◌⊎◌, ℕ, Bool, true, false, List, [], ◌∷◌, ◌++◌, map, Option, Some, None, Result, Ok, IsErrOf, ⊤}
use Rattle.std.specs.Io.KnownBytes.{Appends}
use Rattle.std.specs.FinMap.{FinMap, entries}
use Rattle.sha2.specs.Sha256.{sha256}
use Rattle.docs.specs.declared.logs.LogRow.{LogRow}
use Rattle.machine.specs.Laws.{AreLawful}
use Rattle.machine.specs.Order.{name_cmp}
use Rattle.machine.specs.Ranges.{IsMoment}
use Rattle.machine.specs.Tokens.{asker_of}
use Rattle.basis.specs.declared.refusals.Refusal.{Refusal}
use Rattle.basis.specs.declared.refusals.Refusal.TheVariants.{NotFound}
use Rattle.machine.specs.Records.{workspace_in}
use Rattle.machine.specs.declared.keeps.AdminAnswer.{AdminAnswer}
use Rattle.machine.specs.declared.keeps.AdminAnswer.TheVariants.{Done}
use Rattle.machine.specs.declared.records.Token.{Token}
use Rattle.machine.specs.declared.records.Organization.{Organization}
use Rattle.route.specs.declared.routes.Asked.{Asked}
use Rattle.route.specs.declared.routes.AskedAct.{AskedAct}
use Rattle.route.specs.declared.routes.AskedAct.TheVariants.{ListWorkspaces, OfWorkspace}
use Rattle.wire.specs.Replies.{Answer}
use Rattle.serve.specs.declared.doors.Door.{Door}
use Rattle.serve.specs.declared.exchanges.LinkFault.{LinkFault}
use Rattle.serve.specs.declared.exchanges.LinkFault.TheVariants.{Ended, Read, Continue}
use Rattle.serve.specs.declared.steps.Step.{Step}
use Rattle.serve.specs.AbsentForms.{NeedsWorkspace}
use Rattle.serve.specs.Asks.{Ask, Owner, organization}
use Rattle.serve.specs.Book.{KeepsCustody}
use Rattle.route.specs.Policy.{is_admitted}
use Rattle.serve.specs.Checks.{is_in_reach, known_caller, may_do}
use Rattle.serve.specs.Steps.{replies, reports, refusing, request_step, step}
use Rattle.serve.specs.Logs.{request_row, names_stop}
use Rattle.serve.specs.Service.{Stays, AreAsked, with_own, is_own, own_asks, replies_at}
use Rattle.serve.specs.Exchanges.{Exchanges}
use Rattle.serve.specs.Served.{Exchange, AsksToStop, IsServed, AreServedBy, AreOwnTold, IsServedAlone, asked_in, carried_in}
use Rattle.serve.specs.Runs.{IsOwnMachine, IsOwnRecord}

-- a list of steps asks one list of things
abbrev pub OneAsking : Type 0
OneAsking = (steps : List Step) (x y : List Ask) → AreAsked steps x → AreAsked steps y → x ≡ y

-- Two worlds: two runs, each of which is of this organization the run of its own machine. Where they begin with equal records of it
-- and ask the same in its own steps, its replies and its records afterwards are equal, whatever else differs.
abbrev pub TwoWorlds : Type 0
TwoWorlds = (org : List ℕ) (asked other : List Ask) (before after before' after' : List ℕ → Option Organization) (replies answers : List (List ℕ))
    → IsOwnMachine org asked before after replies → IsOwnMachine org other before' after' answers
    → before org ≡ before' org → own_asks (organization org) asked ≡ own_asks (organization org) other
    → (replies_at (organization org) asked replies ≡ replies_at (organization org) other answers) × (after org ≡ after' org)

-- the own steps of an organization, as they came: moments and bytes, or commands
abbrev pub own_steps : List ℕ → List Step → List Ask → List Step
own_steps org [] asked = []
own_steps org (s ∷ steps) [] = []
own_steps org (s ∷ steps) (a ∷ asked) = with_own (is_own (organization org) a) s (own_steps org steps asked)

-- the same own steps ask the same
abbrev pub SameStepsAskTheSame : Type 0
SameStepsAskTheSame = (org : List ℕ) (steps others : List Step) (asked other : List Ask) → AreAsked steps asked → AreAsked others other
    → own_steps org steps asked ≡ own_steps org others other → own_asks (organization org) asked ≡ own_asks (organization org) other

-- a refusal leaves the record equal, of every step: a reply that refuses, and a command that isn't answered as done
abbrev pub RefusedStepsChangeNothing : Type 0
RefusedStepsChangeNothing = (r : Option Organization) (ask : Ask) → ((awaited : Bool) (at : ℕ) (answer : Answer) (refusal : Refusal)
    → (step r ask).answer ≡ replies awaited at answer → answer.refusal ≡ Some refusal → (step r ask).left ≡ r)
    × ((answer : AdminAnswer) → (step r ask).answer ≡ reports answer → answer ≢ Done → (step r ask).left ≡ r)

-- a request whose caller and role pass, and which is out of the caller's reach, is answered not-found, whatever it asks
abbrev pub OutOfReachIsNotFound : Type 0
OutOfReachIsNotFound = (r : Option Organization) (now : ℕ) (asked : Asked) (content_md5 : Option (List ℕ)) (body : List ℕ) (token : Token)
    → is_in_reach asked ≡ false → known_caller r now asked ≡ Ok token → may_do token asked ≡ Ok tt
    → request_step r now asked content_md5 body ≡ refusing NotFound r

-- the same act on another workspace
abbrev pub renamed : AskedAct → List ℕ → AskedAct
renamed (ListWorkspaces after) ws = ListWorkspaces after
renamed (OfWorkspace old act) ws = OfWorkspace ws act

-- a request that is out of the caller's reach has the answer of the same request on a workspace that the caller's own
-- organization lacks, under whatever organization's path, and changes nothing either
abbrev pub OutOfReachIsAsAbsent : Type 0
OutOfReachIsAsAbsent = (r : Option Organization) (now : ℕ) (asked : Asked) (content_md5 : Option (List ℕ)) (body org ws : List ℕ)
    → is_in_reach asked ≡ false → NeedsWorkspace asked.act → workspace_in r ws ≡ None
    → request_step r now asked content_md5 body ≡ request_step r now (record asked { org = org; act = renamed asked.act ws }) content_md5 body

-- a request whose caller and role pass, and whose workspace is outside the caller's prefix, is answered not-found, whatever it asks
abbrev pub OutsideThePrefixIsNotFound : Type 0
OutsideThePrefixIsNotFound = (r : Option Organization) (now : ℕ) (asked : Asked) (content_md5 : Option (List ℕ)) (body : List ℕ) (token : Token)
    → known_caller r now asked ≡ Ok token → is_admitted token.caller.prefix asked.act ≡ false → may_do token asked ≡ Ok tt
    → request_step r now asked content_md5 body ≡ refusing NotFound r

-- a request whose workspace is outside the caller's prefix has the answer of the same request on a workspace that the caller's own
-- organization lacks, under whatever organization's path, and changes nothing either
abbrev pub OutsideThePrefixIsAsAbsent : Type 0
OutsideThePrefixIsAsAbsent = (r : Option Organization) (now : ℕ) (asked : Asked) (content_md5 : Option (List ℕ)) (body org ws : List ℕ) (token : Token)
    → known_caller r now asked ≡ Ok token → is_admitted token.caller.prefix asked.act ≡ false → NeedsWorkspace asked.act → workspace_in r ws ≡ None
    → request_step r now asked content_md5 body ≡ request_step r now (record asked { org = org; act = renamed asked.act ws }) content_md5 body

-- the names of tokens decide nothing: records that differ only in them answer each request alike
abbrev pub values_of : FinMap name_cmp Token → List Token
values_of tokens = map (λ (e : List ℕ × Token). e.1) (entries tokens)

abbrev pub NamesDecideNothing : Type 0
NamesDecideNothing = (o : Organization) (tokens : FinMap name_cmp Token) (now : ℕ) (asked : Asked) (content_md5 : Option (List ℕ)) (body : List ℕ) → values_of tokens ≡ values_of o.tokens
    → (request_step (Some (record o { tokens = tokens })) now asked content_md5 body).answer ≡ (request_step (Some o) now asked content_md5 body).answer

-- the log shows no secret: requests that differ only in their secrets have equal rows if the tokens with them have one name and one caller
abbrev pub SecretsAreNotLogged : Type 0
SecretsAreNotLogged = (r : Option Organization) (at : ℕ) (asked : Asked) (secret : List ℕ) (content_md5 : Option (List ℕ)) (body : List ℕ) → asker_of r (sha256 secret) ≡ asker_of r (sha256 asked.secret)
    → request_row r at (record asked { secret = secret }) content_md5 body ≡ request_row r at asked content_md5 body

-- an exchange ended before a reply
abbrev pub HasNoReply : {T : Type 0} → Result T LinkFault → Type 0
HasNoReply result = IsErrOf result Ended ⊎ (IsErrOf result Read ⊎ IsErrOf result Continue)

-- an exchange is one of `Served`, whatever its link did; and only `stop` has the row of a `stop` that was answered `ok`
abbrev pub ExchangesAreServed : Type 0
ExchangesAreServed = (door : Door) (at : ℕ) (received : List ℕ) (left : Option (List ℕ)) (old new : List ℕ → Option Organization) (before after : Option (List ℕ)) (is_down : Bool) (row : Option LogRow) (result : Result (Unit {0}) LinkFault)
    → IsMoment at → Exchanges door at received left old new before after is_down row result → (HasNoReply result → Stays old new)
    → (e : Exchange) × (e.at ≡ at) × (e.received ≡ received) × Appends before after e.written × IsServed door e old new × (names_stop row ≡ true → AsksToStop e)

-- isolation of exchanges in a row
abbrev pub EachIsServedAlone : Type 0
EachIsServedAlone = (doors : List Door) (es : List Exchange) (old new : List ℕ → Option Organization) → AreServedBy doors es old new → (org : List ℕ) → IsServedAlone org es old new

-- what nobody's exchanges wrote, and the operator's
abbrev pub OwnersAreTold : Type 0
OwnersAreTold = (doors : List Door) (es : List Exchange) (old new : List ℕ → Option Organization) → AreServedBy doors es old new → (owner : Owner) → AreOwnTold es old owner

-- custody of exchanges in a row
abbrev pub ServedKeepCustody : Type 0
ServedKeepCustody = (doors : List Door) (es : List Exchange) (old new : List ℕ → Option Organization) → AreServedBy doors es old new → AreLawful old → KeepsCustody (asked_in es) old

-- what is asked in turn, and then more from the records that it left, is all of it in turn: so exchanges of two services, and what an
-- operator's commands ask between them
abbrev pub AsksInTurn : Type 0
AsksInTurn = (asked more : List Ask) (old mid new : List ℕ → Option Organization) (org : List ℕ) → IsOwnRecord asked old mid org → IsOwnRecord more mid new org → IsOwnRecord (asked ++ more) old new org

-- exchanges in a row, and then others from the records that they left, are all of them in a row: also if the other service has other operators
abbrev pub ServedInTurn : Type 0
ServedInTurn = (doors others : List Door) (es fs : List Exchange) (old mid new : List ℕ → Option Organization) → AreServedBy doors es old mid → AreServedBy others fs mid new → AreServedBy (doors ++ others) (es ++ fs) old new

-- two exchanges wrote the same, if both wrote all of their replies, at the same moment, and `100 Continue` went before both or neither
abbrev pub WroteAlike : Exchange → Exchange → Type 0
WroteAlike e f = e.at ≡ f.at → e.awaited ≡ f.awaited → e.is_whole ≡ true → f.is_whole ≡ true → e.written ≡ f.written

abbrev pub AllWroteAlike : List Exchange → List Exchange → Type 0
AllWroteAlike [] [] = ⊤
AllWroteAlike [] (f ∷ fs) = ⊥
AllWroteAlike (e ∷ es) [] = ⊥
AllWroteAlike (e ∷ es) (f ∷ fs) = WroteAlike e f × AllWroteAlike es fs

-- two worlds: of an organization that is served alone in both, begins with equal records and asks the same, its own exchanges write the
-- same, and its records afterwards are equal, whatever else differs
abbrev pub TwoServedWorlds : Type 0
TwoServedWorlds = (org : List ℕ) (es fs : List Exchange) (before after before' after' : List ℕ → Option Organization)
    → IsServedAlone org es before after → IsServedAlone org fs before' after'
    → before org ≡ before' org → own_asks (organization org) (asked_in es) ≡ own_asks (organization org) (asked_in fs)
    → AllWroteAlike (replies_at (organization org) (asked_in es) (carried_in es)) (replies_at (organization org) (asked_in fs) (carried_in fs)) × (after org ≡ after' org)
