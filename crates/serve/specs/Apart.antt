-- Services apart: each organization belongs to one of several services, and a front chooses the service that gets what comes. One service
-- with all organizations gives the same replies.
use Rattle.std.specs.Prelude.{◌≡◌, ◌≢◌, ◌⊎◌, ℕ, false, cond, List, [], ◌∷◌, length, Option, Some, None, Ok, ⊤}
use Rattle.std.specs.Str.{bytes_eq}
use Rattle.basis.specs.declared.refusals.Refusal.TheVariants.{BadToken}
use Rattle.machine.specs.declared.records.Token.{Token}
use Rattle.machine.specs.declared.records.Organization.{Organization}
use Rattle.route.specs.declared.routes.Asked.{Asked}
use Rattle.serve.specs.declared.doors.Door.{Door}
use Rattle.serve.specs.declared.steps.Admin.TheVariants.{OrgList}
use Rattle.serve.specs.Asks.{Ask, silent, refused, requests, commands, stops, Owner, unattributed, operator}
use Rattle.serve.specs.Checks.{is_in_reach, known_caller, may_do}
use Rattle.serve.specs.Laws.{WroteAlike}
use Rattle.serve.specs.Logs.{org_commanded}
use Rattle.serve.specs.Runs.{IsOwnMachine, IsOwnRecord, AreOwnReplies, ListsAreReported}
use Rattle.serve.specs.Served.{Exchange, AreServed, asked_in, carried_in}
use Rattle.serve.specs.Service.{records_after, with_own}
use Rattle.serve.specs.Steps.{refusing, request_step}

-- ---- the front

-- what came to a front: what it asks, the service that the front chose, and what that service answered. Any text names a service
pub record Passed (A : Type 0) : Type 0 where
  pub ask : Ask
  pub service : List ℕ
  pub answer : A

-- everything that is asked
abbrev pub asks_of : {A : Type 0} → List (Passed A) → List Ask
asks_of [] = []
asks_of (p ∷ passed) = p.ask ∷ asks_of passed

-- what a service is asked, and what it answers, in order
abbrev pub asks_to : {A : Type 0} → List ℕ → List (Passed A) → List Ask
asks_to service [] = []
asks_to service (p ∷ passed) = with_own (bytes_eq p.service service) p.ask (asks_to service passed)

abbrev pub answers_of : {A : Type 0} → List ℕ → List (Passed A) → List A
answers_of service [] = []
answers_of service (p ∷ passed) = with_own (bytes_eq p.service service) p.answer (answers_of service passed)

-- the organization that is named: by the token, or by the command
abbrev pub org_named : Ask → Option (List ℕ)
org_named silent = None
org_named (refused at awaited refusal is_head at_door) = None
org_named (requests at awaited asked content_md5 body) = Some asked.caller
org_named (stops at) = None
org_named (commands at command) = org_commanded command

-- what names an organization goes to the organization's service; or to any, if nobody has a record of the organization, before or after
abbrev pub IsServiceOf : (List ℕ → List ℕ) → (List ℕ → Option Organization) → Ask → List ℕ → Option (List ℕ) → Type 0
IsServiceOf home records ask service None = ⊤
IsServiceOf home records ask service (Some org) = (service ≡ home org) ⊎ ((records org ≡ None) × (records_after ask records org ≡ None))

-- the front chooses such a service each time. Of what is asked, it looks only at the organization that is named: not at the path
abbrev pub ChoosesByName : {A : Type 0} → (List ℕ → List ℕ) → (List ℕ → Option Organization) → List (Passed A) → Type 0
ChoosesByName home records [] = ⊤
ChoosesByName home records (p ∷ passed) = IsServiceOf home records p.ask p.service (org_named p.ask) × ChoosesByName home (records_after p.ask records) passed

-- ---- the stores

-- each organization's record is in the store of its service, and in no other store
abbrev pub AreDivided : (List ℕ → List ℕ) → (List ℕ → Option Organization) → (List ℕ → List ℕ → Option Organization) → Type 0
AreDivided home records stores = (service org : List ℕ) → stores service org ≡ cond (bytes_eq (home org) service) (records org) None

-- ---- the replies

-- the command that lists all organizations
abbrev pub ListsThemAll : Ask → Type 0
ListsThemAll ask = (at : ℕ) × (ask ≡ commands at OrgList)

-- the replies are alike, one by one, but for lists of all organizations
abbrev pub AreAlike : {A : Type 0} → (A → A → Type 0) → List (Passed A) → List A → Type 0
AreAlike Alike [] [] = ⊤
AreAlike Alike [] (t ∷ replies) = ⊥
AreAlike Alike (p ∷ passed) [] = ⊥
AreAlike Alike (p ∷ passed) (t ∷ replies) = (ListsThemAll p.ask ⊎ Alike p.answer t) × AreAlike Alike passed replies

-- a service answers what is asked in turn, as `replay` promises after Ok (its clauses `one_each`, `isolation`, `unattributed`, `lists` and
-- `lists_reported`)
pub record AnswersInTurn (asked : List Ask) (before after : List ℕ → Option Organization) (replies : List (List ℕ)) : Type 0 where
  pub one_each : length replies ≡ length asked
  pub told : (owner : Owner) → AreOwnReplies asked before replies owner
  pub records : (org : List ℕ) → IsOwnRecord asked before after org
  pub listed : ListsAreReported before asked replies

-- these clauses say so
abbrev pub ReplaysAnswerInTurn : Type 0
ReplaysAnswerInTurn = (asked : List Ask) (before after : List ℕ → Option Organization) (replies : List (List ℕ)) → length replies ≡ length asked
    → ((org : List ℕ) → IsOwnMachine org asked before after replies) → AreOwnReplies asked before replies unattributed → AreOwnReplies asked before replies operator
    → ListsAreReported before asked replies → AnswersInTurn asked before after replies

-- the replies of services behind a front are equal to those of one service with all organizations, and so are the records afterwards
abbrev pub ServicesApartAreOne : Type 0
ServicesApartAreOne = (home : List ℕ → List ℕ) (passed : List (Passed (List ℕ))) (replies : List (List ℕ)) (old new : List ℕ → Option Organization) (before after : List ℕ → List ℕ → Option Organization)
    → AnswersInTurn (asks_of passed) old new replies
    → ((service : List ℕ) → AnswersInTurn (asks_to service passed) (before service) (after service) (answers_of service passed))
    → AreDivided home old before → ChoosesByName home old passed
    → AreAlike (λ (t u : List ℕ). t ≡ u) passed replies × AreDivided home new after

-- ---- exchanges

-- an exchange, and the service that the front chose for it
pub record Sent : Type 0 where
  pub exchange : Exchange
  pub service : List ℕ

-- the exchanges of a service
abbrev pub exchanges_of : List ℕ → List Sent → List Exchange
exchanges_of service [] = []
exchanges_of service (s ∷ sent) = with_own (bytes_eq s.service service) s.exchange (exchanges_of service sent)

-- what exchanges carried out passed the front
abbrev pub with_passed : Option Ask → Sent → List (Passed Exchange) → List (Passed Exchange)
with_passed None s passed = passed
with_passed (Some ask) s passed = record { ask = ask; service = s.service; answer = s.exchange } ∷ passed

abbrev pub passed_in : List Sent → List (Passed Exchange)
passed_in [] = []
passed_in (s ∷ sent) = with_passed s.exchange.ask s (passed_in sent)

-- if services behind a front carry out what one service with all organizations does, at whatever doors, their exchanges write the same, and
-- the records afterwards are the same
abbrev pub ServedApartAreOne : Type 0
ServedApartAreOne = (home : List ℕ → List ℕ) (sent : List Sent) (es : List Exchange) (door : Door) (doors : List ℕ → Door) (old new : List ℕ → Option Organization) (before after : List ℕ → List ℕ → Option Organization)
    → asks_of (passed_in sent) ≡ asked_in es
    → AreServed door es old new
    → ((service : List ℕ) → AreServed (doors service) (exchanges_of service sent) (before service) (after service))
    → AreDivided home old before → ChoosesByName home old (passed_in sent)
    → AreAlike WroteAlike (passed_in sent) (carried_in es) × AreDivided home new after

-- ---- fronts by path

-- a store without the organization that a token names answers each request with the token by bad-token, and changes nothing
abbrev pub StrangersHaveBadTokens : Type 0
StrangersHaveBadTokens = (now : ℕ) (asked : Asked) (content_md5 : Option (List ℕ)) (body : List ℕ) → request_step None now asked content_md5 body ≡ refusing BadToken None

-- So a front that chooses by the path gives another answer: to each request whose path names another organization than its token, if the caller
-- is known and has the role. The store of the path's organization does not have the token's.
abbrev pub FrontsByPathAnswerOtherwise : Type 0
FrontsByPathAnswerOtherwise = (r : Option Organization) (now : ℕ) (asked : Asked) (content_md5 : Option (List ℕ)) (body : List ℕ) (token : Token)
    → is_in_reach asked ≡ false → known_caller r now asked ≡ Ok token → may_do token asked ≡ Ok tt
    → (request_step None now asked content_md5 body).answer ≢ (request_step r now asked content_md5 body).answer
