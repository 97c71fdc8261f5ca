-- The checks of a request from the token on, each by itself: what it gives, or the refusal. The checks of the message,
-- the path, the query and the token's form come before them (`asked_of` of route).
use Rattle.std.specs.Prelude.{ℕ, Bool, true, false, ◌||◌, if◌then◌else◌, List, Option, Some, None, Result, Ok, Err}
use Rattle.std.specs.Str.{bytes_eq}
use Rattle.basis.specs.Checks.{or_refused, and_then}
use Rattle.basis.specs.Roles.{is_valid_at}
use Rattle.basis.specs.declared.acts.Query.{Query as AnyQuery}
use Rattle.basis.specs.declared.acts.Query.TheVariants as query
use Rattle.basis.specs.declared.refusals.Refusal.{Refusal}
use Rattle.basis.specs.declared.refusals.Refusal.TheVariants.{BadToken, NotFound, BadDigest, BadState, BadLock, BadBody}
use Rattle.sha2.specs.Sha256.{sha256}
use Rattle.docs.specs.Documents.{state_head, lock_id_of, settings_of, run_ask}
use Rattle.docs.specs.Digests.{digest_fits}
use Rattle.machine.specs.Records.{workspace_in}
use Rattle.machine.specs.Tokens.{caller_of}
use Rattle.machine.specs.Named.{has_named}
use Rattle.machine.specs.Needs.{needs_of_query}
use Rattle.machine.specs.declared.acts.Act.{Act}
use Rattle.machine.specs.declared.acts.Act.TheVariants.{Query as QueryAct, PutWorkspace as PutAct, UpdateState as UpdateAct, PurgeState as PurgeAct, Lock as LockAct, Unlock as UnlockAct, ForceUnlock as ForceUnlockAct, DeleteWorkspace as DeleteAct, MakeRun as MakeRunAct, ReportRun as ReportRunAct}
use Rattle.machine.specs.declared.records.Token.{Token}
use Rattle.machine.specs.declared.records.Workspace.{Workspace}
use Rattle.machine.specs.declared.records.Organization.{Organization}
use Rattle.route.specs.Policy.{role_refused, is_admitted, allowed_by}
use Rattle.route.specs.declared.routes.Asked.{Asked}
use Rattle.route.specs.declared.routes.AskedAct.{AskedAct}
use Rattle.route.specs.declared.routes.AskedAct.TheVariants.{ListWorkspaces, OfWorkspace}
use Rattle.basis.specs.declared.acts.WsAct.{WsAct}
use Rattle.basis.specs.declared.acts.WsAct.TheVariants.{Query, Put, Delete, UpdateState, PurgeState, Lock, Unlock, ForceUnlock, MakeRun, ReportRun}
use Rattle.serve.specs.declared.checks.Task.{Task}
use Rattle.serve.specs.declared.checks.Task.TheVariants.{ListAll, Carry}

-- a condition, and the refusal if it does not hold
abbrev pub require : Refusal → Bool → Result (Unit {0}) Refusal
require refusal true = Ok tt
require refusal false = Err refusal

-- a token that has ended at a moment counts as absent
abbrev pub while_it_counts : ℕ → Option Token → Option Token
while_it_counts now None = None
while_it_counts now (Some token) = if is_valid_at now token.caller then Some token else None

-- the caller: the token of the organization whose secret this is, and which counts at the moment of the step
abbrev pub known_caller : Option Organization → ℕ → Asked → Result Token Refusal
known_caller r now asked = or_refused BadToken (while_it_counts now (caller_of r (sha256 asked.secret)))

-- the policy: why a token's role does not suffice for what is asked, or none
abbrev pub policy : Token → Asked → Option Refusal
policy token asked = role_refused token.caller.role asked.act

abbrev pub may_do : Token → Asked → Result (Unit {0}) Refusal
may_do token asked = allowed_by (policy token asked)

-- the token's prefix admits the workspace that is asked for; a workspace outside it is reported as absent
abbrev pub admitted : Token → Asked → Result (Unit {0}) Refusal
admitted token asked = require NotFound (is_admitted token.caller.prefix asked.act)

-- a caller reaches only what is under the path of its own organization
abbrev pub is_in_reach : Asked → Bool
is_in_reach asked = bytes_eq asked.org asked.caller

-- what is out of reach is reported as absent
abbrev pub in_reach : Asked → Result (Unit {0}) Refusal
in_reach asked = require NotFound (is_in_reach asked)

-- an act on a workspace that need not exist: the act creates it
abbrev pub makes : WsAct → Bool
makes (Query what) = false
makes Put = true
makes Delete = false
makes UpdateState = false
makes PurgeState = false
makes Lock = false
makes Unlock = false
makes ForceUnlock = false
makes MakeRun = false
makes (ReportRun number action) = false

-- what is reported exists: the workspace, and the version or the run that is named
abbrev pub has_queried : AnyQuery → Option Workspace → Bool
has_queried what None = false
has_queried what (Some w) = has_named (needs_of_query what) w

-- the query that reports what an act names: the workspace, or a version or a run
abbrev pub named_by : WsAct → AnyQuery
named_by (Query what) = what
named_by Put = query.Workspace
named_by Delete = query.Workspace
named_by UpdateState = query.Workspace
named_by PurgeState = query.Workspace
named_by Lock = query.Workspace
named_by Unlock = query.Workspace
named_by ForceUnlock = query.Workspace
named_by MakeRun = query.Workspace
named_by (ReportRun number action) = query.Run number

-- what an act names exists
abbrev pub is_there : WsAct → Option Workspace → Bool
is_there act w = has_queried (named_by act) w

-- names: what is named exists, or is to be created
abbrev pub is_found : Option Organization → List ℕ → WsAct → Bool
is_found r ws act = makes act || is_there act (workspace_in r ws)

-- the list of the workspaces always exists
abbrev pub found : Option Organization → AskedAct → Result (Unit {0}) Refusal
found r (ListWorkspaces after) = Ok tt
found r (OfWorkspace ws act) = require NotFound (is_found r ws act)

-- Content-MD5, if it is sent, is the MD5 of the body (RFC 1864)
abbrev pub fits : Option (List ℕ) → List ℕ → Bool
fits None body = true
fits (Some field) body = digest_fits field body

abbrev pub digest_checked : Option (List ℕ) → List ℕ → Result (Unit {0}) Refusal
digest_checked content_md5 body = require BadDigest (fits content_md5 body)

-- the act that the body's document asks for, or why it asks for none
abbrev pub spelt : {A : Type 0} → Refusal → (A → Act) → Option A → Result Act Refusal
spelt refusal f None = Err refusal
spelt refusal f (Some a) = Ok (f a)

abbrev pub act_of : WsAct → Option (List ℕ) → List ℕ → Result Act Refusal
act_of (Query what) id body = Ok (QueryAct what)
act_of Put id body = spelt BadBody PutAct (settings_of body)
act_of Delete id body = Ok DeleteAct
act_of UpdateState id body = spelt BadState (λ head. UpdateAct head body id) (state_head body)
act_of PurgeState id body = Ok (PurgeAct id)
act_of Lock id body = spelt BadLock (λ held. LockAct held body) (lock_id_of body)
act_of Unlock id body = spelt BadLock UnlockAct (lock_id_of body)
act_of ForceUnlock id body = Ok ForceUnlockAct
act_of MakeRun id body = spelt BadBody MakeRunAct (run_ask body)
act_of (ReportRun number action) id body = Ok (ReportRunAct number action)

-- the lock's ID that a document has: that of LOCK, or of UNLOCK
abbrev pub id_of_act : Act → Option (List ℕ)
id_of_act (QueryAct what) = None
id_of_act (PutAct settings) = None
id_of_act DeleteAct = None
id_of_act (UpdateAct head text id) = None
id_of_act (PurgeAct id) = None
id_of_act (LockAct id text) = Some id
id_of_act (UnlockAct id) = Some id
id_of_act ForceUnlockAct = None
id_of_act (MakeRunAct run) = None
id_of_act (ReportRunAct n action) = None

-- what is to be done: a list is of the workspaces that the caller's prefix admits; it has no document, and its body is not read
abbrev pub task_of : List ℕ → AskedAct → Option (List ℕ) → List ℕ → Result Task Refusal
task_of prefix (ListWorkspaces after) id body = Ok (ListAll after prefix)
task_of prefix (OfWorkspace ws what) id body = and_then (act_of what id body) (λ act. Ok (Carry ws act))

-- the checks in their order: the caller, the role, the caller's workspaces, the organization, the names, the digest, the document
abbrev pub checked : Option Organization → ℕ → Asked → Option (List ℕ) → List ℕ → Result Task Refusal
checked r now asked content_md5 body =
    and_then (known_caller r now asked) (λ token.
    and_then (may_do token asked) (λ _.
    and_then (admitted token asked) (λ _.
    and_then (in_reach asked) (λ _.
    and_then (found r asked.act) (λ _.
    and_then (digest_checked content_md5 body) (λ _.
    task_of token.caller.prefix asked.act asked.lock_id body))))))
