-- Custody, step by step: what a step of an organization's machine may do to a workspace.
use Rattle.std.specs.Prelude.{◌≡◌, ◌⊎◌, ℕ, ◌≤◌, true, List, Option, Some, None, Ok, ⊤}
use Rattle.basis.specs.declared.refusals.Refusal.TheVariants.{Locked}
use Rattle.machine.specs.Records.{workspace_in}
use Rattle.machine.specs.Custody.{Releases, IsRepeatable}
use Rattle.machine.specs.Removal.{is_in_use}
use Rattle.machine.specs.Tokens.{new_organization}
use Rattle.machine.specs.declared.acts.Act.{Act}
use Rattle.machine.specs.declared.keeps.AdminAnswer.TheVariants.{Done}
use Rattle.basis.specs.declared.rows.Holder.TheVariants.{Lock}
use Rattle.machine.specs.declared.records.Workspace.{Workspace}
use Rattle.machine.specs.declared.records.Organization.{Organization}
use Rattle.route.specs.declared.routes.Asked.{Asked}
use Rattle.route.specs.declared.routes.AskedAct.{AskedAct}
use Rattle.route.specs.declared.routes.AskedAct.TheVariants.{ListWorkspaces, OfWorkspace}
use Rattle.serve.specs.Asks.{Ask, silent, requests, commands, stops}
use Rattle.serve.specs.Asks as ask
use Rattle.serve.specs.Checks.{act_of}
use Rattle.serve.specs.declared.steps.Admin.{Admin}
use Rattle.serve.specs.declared.steps.Admin.TheVariants.{OrgAdd, OrgRemove}
use Rattle.serve.specs.Service.{Asks}
use Rattle.serve.specs.Steps.{Said, nothing, replies, reports, lists, lists_tokens, holder_text, request_step, step}

-- the workspace that is asked for has this name
abbrev pub NamesIn : AskedAct → List ℕ → Type 0
NamesIn (ListWorkspaces after) ws = ⊥
NamesIn (OfWorkspace name act) ws = name ≡ ws

-- the step names this workspace
abbrev pub Names : Ask → List ℕ → Type 0
Names silent ws = ⊥
Names (ask.refused at awaited refusal is_head at_door) ws = ⊥
Names (requests at awaited asked content_md5 body) ws = NamesIn asked.act ws
Names (stops at) ws = ⊥
Names (commands at command) ws = ⊥

-- the removal of an organization, and one by force
abbrev pub IsRemoval : Admin → Type 0
IsRemoval (OrgRemove org is_forced) = ⊤
IsRemoval command = ⊥

abbrev pub IsForcedRemoval : Admin → Type 0
IsForcedRemoval (OrgRemove org is_forced) = is_forced ≡ true
IsForcedRemoval command = ⊥

-- the step is the operator's removal of the organization
abbrev pub RemovesOrganization : Ask → Type 0
RemovesOrganization silent = ⊥
RemovesOrganization (ask.refused at awaited refusal is_head at_door) = ⊥
RemovesOrganization (requests at awaited asked content_md5 body) = ⊥
RemovesOrganization (stops at) = ⊥
RemovesOrganization (commands at command) = IsRemoval command

-- and it is by force
abbrev pub ForcesRemoval : Ask → Type 0
ForcesRemoval silent = ⊥
ForcesRemoval (ask.refused at awaited refusal is_head at_door) = ⊥
ForcesRemoval (requests at awaited asked content_md5 body) = ⊥
ForcesRemoval (stops at) = ⊥
ForcesRemoval (commands at command) = IsForcedRemoval command

-- a step changes at most the workspace that it names; the removal of the organization takes all of them
abbrev pub StepsChangeWhatTheyName : Type 0
StepsChangeWhatTheyName = (r : Option Organization) (what : Ask) (ws : List ℕ) → (Names what ws → ⊥) → (RemovesOrganization what → ⊥) → workspace_in (step r what).left ws ≡ workspace_in r ws

-- the request has this ID in its query
abbrev pub CarriesId : Ask → List ℕ → Type 0
CarriesId silent held = ⊥
CarriesId (ask.refused at awaited refusal is_head at_door) held = ⊥
CarriesId (requests at awaited asked content_md5 body) held = asked.lock_id ≡ Some held
CarriesId (stops at) held = ⊥
CarriesId (commands at command) held = ⊥

-- the act, its documents read, that is asked of a workspace
abbrev pub IsActOn : AskedAct → Option (List ℕ) → List ℕ → Act → Type 0
IsActOn (ListWorkspaces after) id body act = ⊥
IsActOn (OfWorkspace ws what) id body act = act_of what id body ≡ Ok act

-- the request is an UNLOCK by this ID, or one with an empty body
abbrev pub ReleasesLock : Ask → List ℕ → Type 0
ReleasesLock silent held = ⊥
ReleasesLock (ask.refused at awaited refusal is_head at_door) held = ⊥
ReleasesLock (requests at awaited asked content_md5 body) held = (act : Act) × IsActOn asked.act asked.lock_id body act × Releases act held
ReleasesLock (stops at) held = ⊥
ReleasesLock (commands at command) held = ⊥

-- what a step leaves of a workspace that a lock holds: its versions, or the step named it and carried the lock's ID; and the
-- lock, with the text that took it, or the step named it and released it
pub record IsInCustody (what : Ask) (ws held text : List ℕ) (w v : Workspace) : Type 0 where
  pub versions : (v.versions ≡ w.versions) ⊎ (Names what ws × CarriesId what held)
  pub holder : (v.holder ≡ Lock held text) ⊎ (Names what ws × ReleasesLock what held)

-- after every step, a workspace that a lock holds exists and is in custody, or its organization was removed by force: for every record, every
-- step and every workspace
abbrev pub LocksAreKept : Type 0
LocksAreKept = (r : Option Organization) (what : Ask) (ws : List ℕ) (w : Workspace) (held text : List ℕ)
    → workspace_in r ws ≡ Some w → w.holder ≡ Lock held text
    → ((v : Workspace) × (workspace_in (step r what).left ws ≡ Some v) × IsInCustody what ws held text w v) ⊎ ForcesRemoval what

-- Only its removal ends an organization: by force, or if none of its workspaces is in use. Added again, it begins anew, with no token
-- and no workspace.
abbrev pub IsInUseIn : Option Organization → Type 0
IsInUseIn r = (ws : List ℕ) × (w : Workspace) × (workspace_in r ws ≡ Some w) × (is_in_use w ≡ true)

abbrev pub OrganizationsGoByRemoval : Type 0
OrganizationsGoByRemoval = (o : Organization) (what : Ask) → (step (Some o) what).left ≡ None
    → RemovesOrganization what × (ForcesRemoval what ⊎ (IsInUseIn (Some o) → ⊥))

abbrev pub RemovalsAreCarriedOut : Type 0
RemovalsAreCarriedOut = (o : Organization) (what : Ask) → RemovesOrganization what → (ForcesRemoval what ⊎ (IsInUseIn (Some o) → ⊥))
    → (step (Some o) what).left ≡ None

abbrev pub OrganizationsBeginAnew : Type 0
OrganizationsBeginAnew = (at : ℕ) (org : List ℕ) (limit : ℕ) → (step None (commands at (OrgAdd org limit))).left ≡ Some (new_organization limit)

-- the same thing asked at another moment: the same bytes, sent again
abbrev pub asked_again : ℕ → Ask → Ask
asked_again later silent = silent
asked_again later (ask.refused at awaited refusal is_head at_door) = ask.refused later awaited refusal is_head at_door
asked_again later (requests at awaited asked content_md5 body) = requests later awaited asked content_md5 body
asked_again later (stops at) = stops later
asked_again later (commands at command) = commands later command

-- what may be sent again
abbrev pub MayRepeat : Ask → Type 0
MayRepeat silent = ⊤
MayRepeat (ask.refused at awaited refusal is_head at_door) = ⊤
MayRepeat (requests at awaited asked content_md5 body) = (act : Act) → IsActOn asked.act asked.lock_id body act → IsRepeatable act
MayRepeat (stops at) = ⊤
MayRepeat (commands at command) = ⊤

-- a moment is not before that of a step
abbrev pub IsNotBefore : Ask → ℕ → Type 0
IsNotBefore silent later = ⊤
IsNotBefore (ask.refused at awaited refusal is_head at_door) later = at ≤ later
IsNotBefore (requests at awaited asked content_md5 body) later = at ≤ later
IsNotBefore (stops at) later = at ≤ later
IsNotBefore (commands at command) later = at ≤ later

-- what is sent again, not before, while the record is as the first left it, changes nothing more
abbrev pub StepsAreRepeatable : Type 0
StepsAreRepeatable = (r : Option Organization) (what : Ask) (later : ℕ) → MayRepeat what → IsNotBefore what later
    → (step (step r what).left (asked_again later what)).left ≡ (step r what).left

-- what is said is not a refusal
abbrev pub IsAccepted : Said → Type 0
IsAccepted nothing = ⊥
IsAccepted (replies awaited at answer) = answer.refusal ≡ None
IsAccepted (reports answer) = answer ≡ Done
IsAccepted lists = ⊤
IsAccepted lists_tokens = ⊤

-- what was accepted and is sent again, while the workspace is as the first left it, whatever happened to the rest, changes nothing more
abbrev pub RepeatsLeaveTheWorkspace : Type 0
RepeatsLeaveTheWorkspace = (r q : Option Organization) (what : Ask) (later : ℕ) (ws : List ℕ) → MayRepeat what → Names what ws → IsAccepted (step r what).answer
    → workspace_in q ws ≡ workspace_in (step r what).left ws → workspace_in (step q (asked_again later what)).left ws ≡ workspace_in q ws

-- the body of a 423 is the holder's: the text that took the lock, or that of the run
abbrev pub LockedNamesTheHolder : Type 0
LockedNamesTheHolder = (r : Option Organization) (now : ℕ) (asked : Asked) (content_md5 : Option (List ℕ)) (body : List ℕ)
    → (request_step r now asked content_md5 body).answer.refusal ≡ Some Locked
    → (ws : List ℕ) × (w : Workspace) × NamesIn asked.act ws × (workspace_in r ws ≡ Some w)
    × ((request_step r now asked content_md5 body).answer.body ≡ holder_text asked.caller ws w.holder)

-- the same bytes at another moment ask the same again
abbrev pub SameBytesAskAgain : Type 0
SameBytesAskAgain = (at later : ℕ) (bytes : List ℕ) (a b : Ask) → Asks at bytes a → Asks later bytes b → b ≡ asked_again later a

-- a request that leaves the workspace that it names equal leaves the whole record equal
abbrev pub RequestsChangeTheirWorkspaceAlone : Type 0
RequestsChangeTheirWorkspaceAlone = (r : Option Organization) (what : Ask) (ws : List ℕ) → Names what ws → workspace_in (step r what).left ws ≡ workspace_in r ws → (step r what).left ≡ r
