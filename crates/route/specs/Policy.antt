-- The policy: the role that each act needs, by which word a smaller role is refused, which workspaces a token is for, and whether a
-- caller may.
use Rattle.std.specs.Prelude.{ℕ, Bool, true, if◌then◌else◌, List, Option, Some, None, Result, Ok, Err}
use Rattle.basis.specs.Names.{admits}
use Rattle.basis.specs.Roles.{includes}
use Rattle.basis.specs.declared.roles.Caller.{Caller}
use Rattle.basis.specs.declared.roles.Role.{Role}
use Rattle.basis.specs.declared.roles.Role.TheVariants.{Read, Write, Admin}
use Rattle.basis.specs.declared.refusals.Refusal.{Refusal}
use Rattle.basis.specs.declared.refusals.Refusal.TheVariants.{NeedWrite, NeedAdmin, NotFound}
use Rattle.route.specs.Acts.{least_role_on}
use Rattle.route.specs.declared.routes.AskedAct.{AskedAct}
use Rattle.route.specs.declared.routes.AskedAct.TheVariants.{ListWorkspaces, OfWorkspace}

-- the least role for what is asked
abbrev pub least_role : AskedAct → Role
least_role (ListWorkspaces after) = Read
least_role (OfWorkspace ws act) = least_role_on act

-- the word for a role that is too small; no role is too small to read
abbrev pub need_of : Role → Refusal
need_of Read = NeedWrite
need_of Write = NeedWrite
need_of Admin = NeedAdmin

-- the refusal of what is asked by a token of a role, or none
abbrev pub role_refused : Role → AskedAct → Option Refusal
role_refused role act = if includes role (least_role act) then None else Some (need_of (least_role act))

-- whether a prefix admits the workspace that is asked of, there or not; the list of workspaces names none
abbrev pub is_admitted : List ℕ → AskedAct → Bool
is_admitted prefix (ListWorkspaces after) = true
is_admitted prefix (OfWorkspace ws act) = admits prefix ws

-- a workspace that isn't admitted is told as what isn't there, where it is to be made too
abbrev pub name_refused : List ℕ → AskedAct → Option Refusal
name_refused prefix act = if is_admitted prefix act then None else Some NotFound

-- one refusal, or else another
abbrev pub or_else_refused : Option Refusal → Option Refusal → Option Refusal
or_else_refused None other = other
or_else_refused (Some refusal) other = Some refusal

-- the refusal of what a caller asks, or none: its role has to be enough, and then its prefix has to admit the workspace
abbrev pub caller_refused : Caller → AskedAct → Option Refusal
caller_refused caller act = or_else_refused (role_refused caller.role act) (name_refused caller.prefix act)

-- let in, or refused so
abbrev pub allowed_by : Option Refusal → Result (Unit {0}) Refusal
allowed_by None = Ok tt
allowed_by (Some refusal) = Err refusal
