-- What is asked of one workspace: in words, and the number that it names.
use Rattle.std.specs.Prelude.{ℕ, List, Option, Some, None, codes}
use Rattle.basis.specs.Runs.{action_word}
use Rattle.basis.specs.declared.acts.Query.{Query as AnyQuery}
use Rattle.basis.specs.declared.acts.Query.TheVariants as query
use Rattle.basis.specs.declared.acts.WsAct.{WsAct}
use Rattle.basis.specs.declared.acts.WsAct.TheVariants.{Query, Put, Delete, UpdateState, PurgeState, Lock, Unlock, ForceUnlock, MakeRun, ReportRun}

-- what is told
abbrev pub query_word : AnyQuery → List ℕ
query_word query.Workspace = codes "show workspace"
query_word query.State = codes "read state"
query_word (query.Version n) = codes "read version"
query_word (query.Versions after) = codes "list versions"
query_word (query.Run n) = codes "read run"
query_word (query.Runs after) = codes "list runs"

-- what is asked; what is reported of a run by its word in the path
abbrev pub act_word : WsAct → List ℕ
act_word (Query what) = query_word what
act_word Put = codes "put workspace"
act_word Delete = codes "delete workspace"
act_word UpdateState = codes "update state"
act_word PurgeState = codes "purge state"
act_word Lock = codes "lock"
act_word Unlock = codes "unlock"
act_word ForceUnlock = codes "force unlock"
act_word MakeRun = codes "make run"
act_word (ReportRun n action) = action_word action

-- the version or the run that is named
abbrev pub query_number : AnyQuery → Option ℕ
query_number query.Workspace = None
query_number query.State = None
query_number (query.Version n) = Some n
query_number (query.Versions after) = None
query_number (query.Run n) = Some n
query_number (query.Runs after) = None

abbrev pub act_number : WsAct → Option ℕ
act_number (Query what) = query_number what
act_number Put = None
act_number Delete = None
act_number UpdateState = None
act_number PurgeState = None
act_number Lock = None
act_number Unlock = None
act_number ForceUnlock = None
act_number MakeRun = None
act_number (ReportRun n action) = Some n
