-- What the route of a path names, by the parts of the path that its parameters took.
use Rattle.std.specs.Prelude.{ℕ, Bool, if◌then◌else◌, List, [], Option, Some, None, Result, Ok, codes, option_map, option_and_then, unwrap_or}
use Rattle.basis.specs.Checks.{or_refused, and_then}
use Rattle.basis.specs.declared.refusals.Allow.TheVariants.{Lists, Workspaces, States, Runs, Actions}
use Rattle.basis.specs.declared.refusals.Refusal.{Refusal}
use Rattle.basis.specs.declared.refusals.Refusal.TheVariants.{NoRoute, NoMethod}
use Rattle.basis.specs.declared.acts.Query.TheVariants.{Version as VersionQuery, Versions as VersionsQuery, Run as RunQuery}
use Rattle.basis.specs.declared.runs.RunAction.{RunAction}
use Rattle.basis.specs.Names.{is_ws_name}
use Rattle.basis.specs.Numbers.{number_of}
use Rattle.matchit.specs.Params.{walk, named}
use Rattle.matchit.specs.declared.params.Params.{Params}
use Rattle.route.specs.declared.routes.Kind.{Kind}
use Rattle.route.specs.declared.routes.Kind.TheVariants.{ListsWorkspaces, IsWorkspace, IsState, ListsVersions, IsVersion, ListsRuns, IsRun, IsAction}
use Rattle.route.specs.Paths.{Resource, AllWorkspaces, Workspace, State, AllVersions, Version, AllRuns, Run, Action, OrgResource, action_of, in_org}
use Rattle.route.specs.Tokens.{org_of}
use Rattle.route.specs.Acts.{listing_act, workspace_act, state_act, runs_act, got, posted}
use Rattle.route.specs.Asks.{query_text, is_bodyless, with_query}
use Rattle.route.specs.Queries.{query_read}
use Rattle.route.specs.declared.routes.Asked.{Asked}
use Rattle.route.specs.declared.routes.AskedAct.{AskedAct}
use Rattle.route.specs.declared.routes.AskedAct.TheVariants.{OfWorkspace}
use Rattle.basis.specs.declared.acts.WsAct.{WsAct}
use Rattle.basis.specs.declared.acts.WsAct.TheVariants.{ReportRun}
use Rattle.wire.specs.declared.messages.Message.{Message}

-- each parameter's name and its part
abbrev pub Pairs : Type 0
Pairs = List (List ℕ × List ℕ)

abbrev pub pairs_of : Params → Pairs
pairs_of params = walk params.pattern.now params.text.now params.path.now params.names.now 0 0

-- the part of the parameter of a name
abbrev pub part_of : List ℕ → Pairs → List ℕ
part_of name pairs = unwrap_or (named name pairs) []

-- a workspace's name
abbrev pub ws_of : List ℕ → Option (List ℕ)
ws_of text = if is_ws_name text then Some text else None

-- a version's or a run's number
abbrev pub number_in : Pairs → Option ℕ
number_in pairs = number_of (part_of (codes "number") pairs)

-- a run's number, and an action
abbrev pub action_in : Pairs → Option (ℕ × RunAction)
action_in pairs = option_and_then (λ number. option_map (λ action. (number, action)) (action_of (part_of (codes "action") pairs))) (number_in pairs)

-- what a route of a kind names of a workspace
abbrev pub resource_in : Kind → Pairs → List ℕ → Option Resource
resource_in ListsWorkspaces pairs ws = Some AllWorkspaces
resource_in IsWorkspace pairs ws = Some (Workspace ws)
resource_in IsState pairs ws = Some (State ws)
resource_in ListsVersions pairs ws = Some (AllVersions ws)
resource_in IsVersion pairs ws = option_map (Version ws) (number_in pairs)
resource_in ListsRuns pairs ws = Some (AllRuns ws)
resource_in IsRun pairs ws = option_map (Run ws) (number_in pairs)
resource_in IsAction pairs ws = option_and_then (λ number. option_map (Action ws number) (action_of (part_of (codes "action") pairs))) (number_in pairs)

-- what a route of a kind names in its organization
abbrev pub resource_named : Kind → Pairs → Option Resource
resource_named ListsWorkspaces pairs = Some AllWorkspaces
resource_named kind pairs = option_and_then (resource_in kind pairs) (ws_of (part_of (codes "ws") pairs))

-- what a route of a kind names
abbrev pub org_resource_named : Kind → Pairs → Option OrgResource
org_resource_named kind pairs = option_and_then (λ org. option_map (in_org org) (resource_named kind pairs)) (org_of (part_of (codes "org") pairs))

-- an act on the workspace that a route names
abbrev pub on_ws : Pairs → Result WsAct Refusal → Result AskedAct Refusal
on_ws pairs act = and_then (or_refused NoRoute (ws_of (part_of (codes "ws") pairs))) (λ ws. and_then act (λ what. Ok (OfWorkspace ws what)))

-- what a method asks of what a route of a kind names
abbrev pub act_named : Kind → Pairs → List ℕ → Bool → Result AskedAct Refusal
act_named ListsWorkspaces pairs method bodyless = or_refused (NoMethod Lists) (listing_act method)
act_named IsWorkspace pairs method bodyless = on_ws pairs (or_refused (NoMethod Workspaces) (workspace_act method))
act_named IsState pairs method bodyless = on_ws pairs (or_refused (NoMethod States) (state_act method bodyless))
act_named ListsVersions pairs method bodyless = on_ws pairs (or_refused (NoMethod Lists) (got (VersionsQuery 0) method))
act_named IsVersion pairs method bodyless =
    and_then (or_refused NoRoute (number_in pairs)) (λ number. on_ws pairs (or_refused (NoMethod Lists) (got (VersionQuery number) method)))
act_named ListsRuns pairs method bodyless = on_ws pairs (or_refused (NoMethod Runs) (runs_act method))
act_named IsRun pairs method bodyless =
    and_then (or_refused NoRoute (number_in pairs)) (λ number. on_ws pairs (or_refused (NoMethod Lists) (got (RunQuery number) method)))
act_named IsAction pairs method bodyless =
    and_then (or_refused NoRoute (action_in pairs)) (λ run. on_ws pairs (or_refused (NoMethod Actions) (posted (ReportRun run.0 run.1) method)))

-- what a message asks of what the route of its path names
abbrev pub asked_found : Message → Kind → Pairs → Result Asked Refusal
asked_found message kind pairs =
    and_then (or_refused NoRoute (org_of (part_of (codes "org") pairs))) (λ org.
    and_then (act_named kind pairs message.method (is_bodyless message.body)) (λ act.
    and_then (query_read (query_text message.query)) (with_query message.authorization org act)))
