-- Absent forms of a request that is out of its caller's reach, or on a workspace outside the caller's prefix: the same request on a
-- workspace that the caller's own organization lacks.
use Rattle.std.specs.Prelude.{◌≡◌, ℕ, Bool, true, false, List, ◌∷◌, ◌++◌, take, slice_get, Option, Some, None, Ok}
use Rattle.basis.specs.Names.{is_org_name, is_ws_name}
use Rattle.basis.specs.declared.refusals.Refusal.TheVariants.{NotFound}
use Rattle.docs.specs.Bodies.{error_text}
use Rattle.machine.specs.Records.{workspace_in}
use Rattle.machine.specs.declared.records.Token.{Token}
use Rattle.machine.specs.declared.records.Organization.{Organization}
use Rattle.route.specs.Paths.{path_parts}
use Rattle.route.specs.Policy.{is_admitted}
use Rattle.route.specs.declared.routes.Asked.{Asked}
use Rattle.route.specs.declared.routes.AskedAct.{AskedAct}
use Rattle.route.specs.declared.routes.AskedAct.TheVariants.{ListWorkspaces, OfWorkspace}
use Rattle.wire.specs.Replies.{refused_answer}
use Rattle.wire.specs.Retargeting.{SameButTarget}
use Rattle.wire.specs.Targets.{origin_of, path_of, query_of}
use Rattle.serve.specs.declared.steps.Step.{Step}
use Rattle.serve.specs.declared.steps.Step.TheVariants.{Request}
use Rattle.serve.specs.Asks.{Ask, requests, organization}
use Rattle.serve.specs.Checks.{makes, is_in_reach, known_caller, may_do}
use Rattle.serve.specs.Service.{Asks, AreAsked, IsSaidText, own_asks}
use Rattle.serve.specs.Steps.{Said, replies, step, own_record}
use Rattle.serve.specs.Served.{Exchange, IsTold, AreServedBy, asked_in}
use Rattle.serve.specs.declared.doors.Door.{Door}

-- one target names what another does, except for the workspace, and perhaps the organization: the other parts of the path are equal, and so is the query
pub record NamesInstead (target aim org ws : List ℕ) : Type 0 where
  pub from : List ℕ
  pub to : List ℕ
  pub from_is : origin_of target ≡ Some from
  pub to_is : origin_of aim ≡ Some to
  pub root : List ℕ
  pub version : List ℕ
  pub org_before : List ℕ
  pub word : List ℕ
  pub ws_before : List ℕ
  pub more : List (List ℕ)
  pub path_before : path_parts (path_of from) ≡ root ∷ version ∷ org_before ∷ word ∷ ws_before ∷ more
  pub path_after : path_parts (path_of to) ≡ root ∷ version ∷ org ∷ word ∷ ws ∷ more
  pub query_stays : query_of to ≡ query_of from
  pub org_named : is_org_name org ≡ true
  pub ws_named : is_ws_name ws ≡ true

-- the same request, its head as the grammar prints it, with the path's workspace replaced by this name, and the path's organization by that one
pub record IsFormOf (bytes other org ws : List ℕ) : Type 0 where
  pub target : List ℕ
  pub aim : List ℕ
  pub same : SameButTarget bytes other target aim
  pub names : NamesInstead target aim org ws

-- what is asked of a workspace that has to be there
abbrev pub NeedsWorkspace : AskedAct → Type 0
NeedsWorkspace (ListWorkspaces after) = ⊥
NeedsWorkspace (OfWorkspace ws act) = makes act ≡ false

-- what is told to a request that needs a workspace is what the machine says to each absent form of it. The record is that of its caller's
-- organization before it
abbrev pub TellsAbsentForms : Option Organization → ℕ → List ℕ → Asked → (Said → Type 0) → Type 0
TellsAbsentForms r at bytes asked Tells = (other org ws : List ℕ) (ask : Ask) → NeedsWorkspace asked.act → workspace_in r ws ≡ None → IsFormOf bytes other org ws → Asks at other ask
    → Tells (step r ask).answer

-- what is told to a request looks as if its workspace were absent: to one whose path names another organization than its caller's, or whose
-- workspace is outside its caller's prefix. And if its caller is known and has the role, it is told not-found, whatever it asks: PUT of a
-- workspace and the list of workspaces, too
pub record LooksAbsent (r : Option Organization) (at : ℕ) (awaited : Bool) (bytes : List ℕ) (asked : Asked) (Tells : Said → Type 0) : Type 0 where
  pub absent_forms : is_in_reach asked ≡ false → TellsAbsentForms r at bytes asked Tells
  pub out_of_reach : (token : Token) → is_in_reach asked ≡ false → known_caller r at asked ≡ Ok token → may_do token asked ≡ Ok tt
      → Tells (replies awaited at (refused_answer NotFound (error_text NotFound) false))
  pub outside_the_prefix : (token : Token) → known_caller r at asked ≡ Ok token → is_admitted token.caller.prefix asked.act ≡ false → TellsAbsentForms r at bytes asked Tells
  pub not_admitted : (token : Token) → known_caller r at asked ≡ Ok token → is_admitted token.caller.prefix asked.act ≡ false → may_do token asked ≡ Ok tt
      → Tells (replies awaited at (refused_answer NotFound (error_text NotFound) false))

-- at a position of a run: the request that arrived, what it asks, what was asked before it, and its reply
pub record AnsweredRequest (steps : List Step) (texts : List (List ℕ)) : Type 0 where
  pub index : ℕ
  pub at : ℕ
  pub bytes : List ℕ
  pub came : slice_get steps index ≡ Some (Request at bytes)
  pub awaited : Bool
  pub asked : Asked
  pub content_md5 : Option (List ℕ)
  pub body : List ℕ
  pub asks : Asks at bytes (requests at awaited asked content_md5 body)
  pub earlier : List Ask
  pub came_earlier : AreAsked (take index steps) earlier
  pub text : List ℕ
  pub replied : slice_get texts index ≡ Some text

-- the record of an organization before a position: what its own machine left of the record at the start, by its own earlier steps
abbrev pub record_before : (List ℕ → Option Organization) → List ℕ → List Ask → Option Organization
record_before rows org earlier = own_record (rows org) (own_asks (organization org) earlier)

-- each reply to a request looks so
abbrev pub RepliesLookAbsent : List Step → (List ℕ → Option Organization) → List (List ℕ) → Type 0
RepliesLookAbsent steps rows texts = (a : AnsweredRequest steps texts)
    → LooksAbsent (record_before rows a.asked.caller a.earlier) a.at a.awaited a.bytes a.asked (λ said. IsSaidText said a.text)

-- ---- the same of exchanges in a row

-- at a position of exchanges: one that carried out a request, and those before it
pub record ServedRequest (es : List Exchange) : Type 0 where
  pub earlier : List Exchange
  pub one : Exchange
  pub later : List Exchange
  pub stands : es ≡ earlier ++ one ∷ later
  pub asked : Asked
  pub content_md5 : Option (List ℕ)
  pub body : List ℕ
  pub asks : one.ask ≡ Some (requests one.at one.awaited asked content_md5 body)

-- the record of its caller's organization before it
abbrev pub record_at : {es : List Exchange} → (List ℕ → Option Organization) → ServedRequest es → Option Organization
record_at rows a = record_before rows a.asked.caller (asked_in a.earlier)

-- what was written to each request looks so
abbrev pub AbsentFormsAreTold : List Exchange → (List ℕ → Option Organization) → Type 0
AbsentFormsAreTold es rows = (a : ServedRequest es) → LooksAbsent (record_at rows a) a.one.at a.one.awaited a.one.received a.asked (λ said. IsTold said a.one)

abbrev pub ServedTellAbsentForms : Type 0
ServedTellAbsentForms = (doors : List Door) (es : List Exchange) (old new : List ℕ → Option Organization) → AreServedBy doors es old new → AbsentFormsAreTold es old
