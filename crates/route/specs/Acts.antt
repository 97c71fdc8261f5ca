-- The act of a method on a resource, the methods that a resource has, and the least role for an act.
use Rattle.std.specs.Prelude.{ℕ, Bool, true, false, if◌then◌else◌, List, Option, Some, None, Result, codes, bytes_eq, option_map}
use Rattle.basis.specs.declared.refusals.Allow.{Allow}
use Rattle.basis.specs.declared.refusals.Allow.TheVariants.{Lists, Workspaces, States, Runs, Actions}
use Rattle.basis.specs.declared.refusals.Refusal.{Refusal}
use Rattle.basis.specs.declared.refusals.Refusal.TheVariants.{NoMethod}
use Rattle.basis.specs.declared.acts.Query.{Query as AnyQuery}
use Rattle.basis.specs.declared.acts.Query.TheVariants.{Workspace as WorkspaceQuery, State as StateQuery, Version as VersionQuery, Versions as VersionsQuery, Run as RunQuery, Runs as RunsQuery}
use Rattle.basis.specs.declared.roles.Role.{Role}
use Rattle.basis.specs.declared.roles.Role.TheVariants.{Read, Write, Admin}
use Rattle.basis.specs.Checks.{or_refused}
use Rattle.route.specs.declared.routes.AskedAct.{AskedAct}
use Rattle.route.specs.declared.routes.AskedAct.TheVariants.{ListWorkspaces, OfWorkspace}
use Rattle.basis.specs.declared.acts.WsAct.{WsAct}
use Rattle.basis.specs.declared.acts.WsAct.TheVariants.{Query, Put, Delete, UpdateState, PurgeState, Lock, Unlock, ForceUnlock, MakeRun, ReportRun}
use Rattle.route.specs.Paths.{Resource, AllWorkspaces, Workspace, State, AllVersions, Version, AllRuns, Run, Action}

-- what a method asks among all workspaces; a list begins at its first item
abbrev pub listing_act : List ℕ → Option AskedAct
listing_act method = if bytes_eq method (codes "GET") then Some (ListWorkspaces None) else None

-- of a workspace itself
abbrev pub workspace_act : List ℕ → Option WsAct
workspace_act method =
    if bytes_eq method (codes "GET") then Some (Query WorkspaceQuery)
    else (if bytes_eq method (codes "PUT") then Some Put
    else (if bytes_eq method (codes "DELETE") then Some Delete
    else None))

-- an UNLOCK with an empty body frees whoever's lock it is
abbrev pub unlock_of : Bool → WsAct
unlock_of true = ForceUnlock
unlock_of false = Unlock

-- of its state; the flag says whether the body is empty
abbrev pub state_act : List ℕ → Bool → Option WsAct
state_act method bodyless =
    if bytes_eq method (codes "GET") then Some (Query StateQuery)
    else (if bytes_eq method (codes "POST") then Some UpdateState
    else (if bytes_eq method (codes "PUT") then Some UpdateState
    else (if bytes_eq method (codes "DELETE") then Some PurgeState
    else (if bytes_eq method (codes "LOCK") then Some Lock
    else (if bytes_eq method (codes "UNLOCK") then Some (unlock_of bodyless)
    else None)))))

-- of its runs
abbrev pub runs_act : List ℕ → Option WsAct
runs_act method =
    if bytes_eq method (codes "GET") then Some (Query (RunsQuery 0))
    else (if bytes_eq method (codes "POST") then Some MakeRun
    else None)

-- where GET is the only method
abbrev pub got : AnyQuery → List ℕ → Option WsAct
got query method = if bytes_eq method (codes "GET") then Some (Query query) else None

-- where POST is the only method
abbrev pub posted : WsAct → List ℕ → Option WsAct
posted act method = if bytes_eq method (codes "POST") then Some act else None

-- what a method asks of what a path names; a resource has only the methods that ask something of it
abbrev pub act_at : Resource → List ℕ → Bool → Option AskedAct
act_at AllWorkspaces method bodyless = listing_act method
act_at (Workspace ws) method bodyless = option_map (OfWorkspace ws) (workspace_act method)
act_at (State ws) method bodyless = option_map (OfWorkspace ws) (state_act method bodyless)
act_at (AllVersions ws) method bodyless = option_map (OfWorkspace ws) (got (VersionsQuery 0) method)
act_at (Version ws number) method bodyless = option_map (OfWorkspace ws) (got (VersionQuery number) method)
act_at (AllRuns ws) method bodyless = option_map (OfWorkspace ws) (runs_act method)
act_at (Run ws number) method bodyless = option_map (OfWorkspace ws) (got (RunQuery number) method)
act_at (Action ws number action) method bodyless = option_map (OfWorkspace ws) (posted (ReportRun number action) method)

-- the methods of each resource, as the field Allow lists them
abbrev pub allow_of : Resource → Allow
allow_of AllWorkspaces = Lists
allow_of (Workspace ws) = Workspaces
allow_of (State ws) = States
allow_of (AllVersions ws) = Lists
allow_of (Version ws number) = Lists
allow_of (AllRuns ws) = Runs
allow_of (Run ws number) = Lists
allow_of (Action ws number action) = Actions

-- the same, or the refusal that names the methods of the resource
abbrev pub act_read : Resource → List ℕ → Bool → Result AskedAct Refusal
act_read resource method bodyless = or_refused (NoMethod (allow_of resource)) (act_at resource method bodyless)

-- what only looks is read; what changes states, locks and runs is write; what makes or takes away
-- workspaces and versions, and what frees another's lock, is admin
abbrev pub least_role_on : WsAct → Role
least_role_on (Query query) = Read
least_role_on Put = Admin
least_role_on Delete = Admin
least_role_on UpdateState = Write
least_role_on PurgeState = Admin
least_role_on Lock = Write
least_role_on Unlock = Write
least_role_on ForceUnlock = Admin
least_role_on MakeRun = Write
least_role_on (ReportRun number action) = Write
