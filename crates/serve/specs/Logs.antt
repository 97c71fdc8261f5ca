-- The log row of an exchange: by what was asked, the record before it, and the answer.
use Rattle.std.specs.Prelude.{◌≡◌, ◌≢◌, ◌⊎◌, ◌&&◌, ℕ, zero, suc, Bool, true, false, is_none, ◌==◌, if◌then◌else◌, List, Option, Some, None, Result, Ok, Err}
use Rattle.std.specs.Option.{option_or}
use Rattle.basis.specs.Acts.{act_number}
use Rattle.basis.specs.Checks.{and_then}
use Rattle.basis.specs.Roles.{is_valid_at}
use Rattle.basis.specs.declared.refusals.Refusal.{Refusal}
use Rattle.basis.specs.declared.refusals.Refusal.TheVariants.{BadSecret, Unavailable}
use Rattle.basis.specs.declared.rows.Holder.{Holder}
use Rattle.basis.specs.declared.rows.Holder.TheVariants.{Nobody, Lock as HeldLock, Run as HeldRun}
use Rattle.sha2.specs.Sha256.{sha256}
use Rattle.docs.specs.declared.logs.LogAct.{LogAct}
use Rattle.docs.specs.declared.logs.LogAct.TheVariants as logged
use Rattle.docs.specs.declared.logs.LogRow.{LogRow}
use Rattle.docs.specs.declared.logs.OperatorAct.TheVariants.{AddOrganization, LimitOrganization, RemoveOrganization, ListOrganizations, AddToken, ListTokens, RevokeToken, Stop}
use Rattle.machine.specs.Laws.{holds}
use Rattle.machine.specs.Records.{workspace_in}
use Rattle.machine.specs.Rules.{Outcome, refused, held, done, no_state, state, workspace, the_run, versions, runs, Ruling, rules}
use Rattle.machine.specs.Tokens.{asker_of}
use Rattle.machine.specs.declared.keeps.TokenRow.{TokenRow}
use Rattle.machine.specs.declared.records.Workspace.{Workspace}
use Rattle.machine.specs.declared.records.Organization.{Organization}
use Rattle.route.specs.declared.routes.Asked.{Asked}
use Rattle.route.specs.declared.routes.AskedAct.{AskedAct}
use Rattle.route.specs.declared.routes.AskedAct.TheVariants.{ListWorkspaces, OfWorkspace}
use Rattle.wire.specs.Replies.{Answer, unavailable_answer}
use Rattle.serve.specs.Asks.{Ask, silent, requests, commands, stops}
use Rattle.serve.specs.Asks as ask
use Rattle.serve.specs.Checks.{known_caller, may_do, admitted, in_reach, digest_checked, task_of, checked, id_of_act}
use Rattle.serve.specs.Steps.{seen_at, request_step, refusing}
use Rattle.serve.specs.declared.logs.Trace.{Trace}
use Rattle.serve.specs.declared.steps.Admin.{Admin}
use Rattle.serve.specs.declared.steps.Admin.TheVariants.{OrgAdd, OrgLimit, OrgRemove, OrgList, TokenAdd, TokenList, TokenRevoke}
use Rattle.serve.specs.declared.checks.Task.{Task}
use Rattle.serve.specs.declared.checks.Task.TheVariants.{ListAll, Carry}

-- what is asked, as the log names it
abbrev pub act_logged : AskedAct → LogAct
act_logged (ListWorkspaces after) = logged.ListWorkspaces
act_logged (OfWorkspace ws what) = logged.OfWorkspace what

-- the workspace that is named
abbrev pub workspace_named : AskedAct → Option (List ℕ)
workspace_named (ListWorkspaces after) = None
workspace_named (OfWorkspace ws what) = Some ws

-- the version or the run that the path names
abbrev pub number_named : AskedAct → Option ℕ
number_named (ListWorkspaces after) = None
number_named (OfWorkspace ws what) = act_number what

-- the name of the token that asks, if it counts at the moment
abbrev pub valid_token_name : ℕ → Option TokenRow → Option (List ℕ)
valid_token_name now None = None
valid_token_name now (Some row) = if is_valid_at now row.caller then Some row.name else None

abbrev pub token_named : Option Organization → ℕ → Asked → Option (List ℕ)
token_named r now asked = valid_token_name now (asker_of r (sha256 asked.secret))

-- the document, read if the caller may ask and the digest fits, whether or not what it names exists
abbrev pub task_read : Option Organization → ℕ → Asked → Option (List ℕ) → List ℕ → Result Task Refusal
task_read r now asked content_md5 body =
    and_then (known_caller r now asked) (λ token.
    and_then (may_do token asked) (λ _.
    and_then (admitted token asked) (λ _.
    and_then (in_reach asked) (λ _.
    and_then (digest_checked content_md5 body) (λ _.
    task_of token.caller.prefix asked.act asked.lock_id body)))))

-- the lock's ID in the document of what is to be done
abbrev pub id_of_task : Task → Option (List ℕ)
id_of_task (ListAll after prefix) = None
id_of_task (Carry ws act) = id_of_act act

abbrev pub id_spelt : Result Task Refusal → Option (List ℕ)
id_spelt (Ok task) = id_of_task task
id_spelt (Err refusal) = None

-- the run that the answer shows
abbrev pub run_shown : Outcome → Option ℕ
run_shown (refused refusal) = None
run_shown (held holder) = None
run_shown done = None
run_shown no_state = None
run_shown (state text) = None
run_shown (workspace shown) = None
run_shown (the_run r) = Some r.number
run_shown (versions list) = None
run_shown (runs list) = None

-- the number that was given last: the first is 1
abbrev pub number_before : ℕ → Option ℕ
number_before zero = None
number_before (suc zero) = None
number_before (suc (suc n)) = Some (suc n)

-- the number that was given, if the next one has changed
abbrev pub number_given : ℕ → ℕ → Option ℕ
number_given before after = if after == before then None else number_before after

-- the version that was made
abbrev pub version_made : Option Workspace → Option Workspace → Option ℕ
version_made None after = None
version_made (Some w) None = None
version_made (Some w) (Some v) = number_given w.next_version v.next_version

-- the run that holds, if it did not before
abbrev pub run_holding : Holder → Holder → Option ℕ
run_holding before Nobody = None
run_holding before (HeldLock id text) = None
run_holding before (HeldRun n) = if holds before n then None else Some n

abbrev pub run_started : Option Workspace → Option Workspace → Option ℕ
run_started None after = None
run_started (Some w) None = None
run_started (Some w) (Some v) = run_holding w.holder v.holder

-- what the rules did
abbrev pub trace_of : Option Workspace → Ruling → Trace
trace_of w ruling = record { shown_run = run_shown ruling.answer; version = version_made w ruling.left; run = run_started w ruling.left }

abbrev pub no_trace : Trace
no_trace = record { shown_run = None; version = None; run = None }

abbrev pub traced : ℕ → Option Organization → Result Task Refusal → Trace
traced now r (Err refusal) = no_trace
traced now r (Ok (ListAll after prefix)) = no_trace
traced now r (Ok (Carry ws act)) = trace_of (workspace_in r ws) (rules act now (seen_at r ws))

-- a row of which nothing is known but the moment: no message was read completely, and there is no reply
abbrev pub silent_row : ℕ → LogRow
silent_row at = record { act = None; at = at; at_door = false; id = None; number = None; operator = None; organization = None; refusal = None; run = None; status = None; subject = None; token = None; version = None; workspace = None }

-- the row with an answer
abbrev pub with_answer : Answer → LogRow → LogRow
with_answer answer row = record row { status = Some answer.status; refusal = answer.refusal }

-- the row of a message at the operator's door: the name of the operator whom it lets in, what its command asks, the organization that it names,
-- and the token that it adds or revokes, each if there is one; and the answer
abbrev pub operator_row : ℕ → Option (List ℕ) → Option LogAct → Option (List ℕ) → Option (List ℕ) → Answer → LogRow
operator_row at by act org subject answer =
    record (silent_row at) { act = act; at_door = true; operator = by; organization = org; refusal = answer.refusal; status = Some answer.status; subject = subject }

-- what a command asks, as the log names it
abbrev pub act_commanded : Admin → LogAct
act_commanded (OrgAdd org limit) = logged.OfOperator AddOrganization
act_commanded (OrgLimit org limit) = logged.OfOperator LimitOrganization
act_commanded (OrgRemove org is_forced) = logged.OfOperator RemoveOrganization
act_commanded OrgList = logged.OfOperator ListOrganizations
act_commanded (TokenAdd org name role secret bounds) = logged.OfOperator AddToken
act_commanded (TokenList org) = logged.OfOperator ListTokens
act_commanded (TokenRevoke org name) = logged.OfOperator RevokeToken

-- the organization that a command names
abbrev pub org_commanded : Admin → Option (List ℕ)
org_commanded (OrgAdd org limit) = Some org
org_commanded (OrgLimit org limit) = Some org
org_commanded (OrgRemove org is_forced) = Some org
org_commanded OrgList = None
org_commanded (TokenAdd org name role secret bounds) = Some org
org_commanded (TokenList org) = Some org
org_commanded (TokenRevoke org name) = Some org

-- the token that a command adds or revokes: the log names it whenever the command was read, and the status says whether it was done
abbrev pub token_commanded : Admin → Option (List ℕ)
token_commanded (OrgAdd org limit) = None
token_commanded (OrgLimit org limit) = None
token_commanded (OrgRemove org is_forced) = None
token_commanded OrgList = None
token_commanded (TokenAdd org name role secret bounds) = Some name
token_commanded (TokenList org) = None
token_commanded (TokenRevoke org name) = Some name

-- the row of a command, and that of a message at the door of which no command was read
abbrev pub command_row : ℕ → Option (List ℕ) → Admin → Answer → LogRow
command_row at by command answer = operator_row at by (Some (act_commanded command)) (org_commanded command) (token_commanded command) answer

abbrev pub no_command_row : ℕ → Option (List ℕ) → Answer → LogRow
no_command_row at by answer = operator_row at by None None None answer

-- the row of the command that ends the service: it names no organization
abbrev pub stop_row : ℕ → Option (List ℕ) → Answer → LogRow
stop_row at by answer = operator_row at by (Some (logged.OfOperator Stop)) None None answer

-- whether a row is that of a `stop` that was answered `ok`
abbrev pub is_stop : Option LogAct → Bool
is_stop (Some (logged.OfOperator Stop)) = true
is_stop other = false

abbrev pub names_stop : Option LogRow → Bool
names_stop None = false
names_stop (Some row) = is_stop row.act && is_none row.refusal

-- the row of a request, by what is asked, what was answered, the token's name, the ID in the document, and what the rules did
abbrev pub row_of_request : ℕ → Asked → Answer → Option (List ℕ) → Option (List ℕ) → Trace → LogRow
row_of_request at asked answer token id trace = record {
  act = Some (act_logged asked.act);
  at = at;
  at_door = false;
  id = option_or id asked.lock_id;
  number = option_or (number_named asked.act) (option_or trace.shown_run trace.version);
  operator = None;
  organization = Some asked.caller;
  refusal = answer.refusal;
  run = trace.run;
  status = Some answer.status;
  subject = None;
  token = token;
  version = trace.version;
  workspace = workspace_named asked.act;
}

abbrev pub request_row : Option Organization → ℕ → Asked → Option (List ℕ) → List ℕ → LogRow
request_row r at asked content_md5 body =
    row_of_request at asked (request_step r at asked content_md5 body).answer (token_named r at asked) (id_spelt (task_read r at asked content_md5 body)) (traced at r (checked r at asked content_md5 body))

-- the row of what is asked and answered, by the name of the operator who is let in, over the record that it reads: none for what is unfinished
abbrev pub row_of_ask : Option (List ℕ) → Option Organization → Ask → Answer → Option LogRow
row_of_ask by r silent answer = None
row_of_ask by r (ask.refused at awaited refusal is_head false) answer = Some (with_answer (refusing refusal r).answer (silent_row at))
row_of_ask by r (ask.refused at awaited refusal is_head true) answer = Some (no_command_row at by (refusing refusal r).answer)
row_of_ask by r (requests at awaited asked content_md5 body) answer = Some (request_row r at asked content_md5 body)
row_of_ask by r (stops at) answer = Some (stop_row at by answer)
row_of_ask by r (commands at command) answer = Some (command_row at by command answer)

-- the row of the 503 of a failed allocation or store, if nothing was read of what is asked
abbrev pub unavailable_row : ℕ → LogRow
unavailable_row at = with_answer (refusing Unavailable None).answer (silent_row at)

-- that of a request: what its head asks, the token's name, and the ID in the document. It has no number, no version and no run
abbrev pub row_of_unavailable : ℕ → Asked → Option (List ℕ) → Option (List ℕ) → LogRow
row_of_unavailable at asked token id = record (unavailable_row at) {
  act = Some (act_logged asked.act);
  id = option_or id asked.lock_id;
  organization = Some asked.caller;
  token = token;
  workspace = workspace_named asked.act;
}

-- the token's name and the ID in the document, as far as they had been read of a request: neither; the name; or both. What was read
-- is that of the token that asks, by the record before, and that of the document
abbrev pub IsReadSoFar : Option Organization → ℕ → Asked → Option (List ℕ) → List ℕ → Option (List ℕ) → Option (List ℕ) → Type 0
IsReadSoFar r at asked content_md5 body token id =
    ((token ≡ None) × (id ≡ None))
    ⊎ ((token ≡ token_named r at asked) × ((id ≡ None) ⊎ (id ≡ id_spelt (task_read r at asked content_md5 body))))

pub record IsUnavailableRequest (r : Option Organization) (at : ℕ) (asked : Asked) (content_md5 : Option (List ℕ)) (body : List ℕ) (row : LogRow) : Type 0 where
  pub token : Option (List ℕ)
  pub id : Option (List ℕ)
  pub read : IsReadSoFar r at asked content_md5 body token id
  pub is : row ≡ row_of_unavailable at asked token id

-- that of a message at the operator's door of which no command had been read: with the name of the operator whom it lets in, unless an
-- allocation failed before that was kept
abbrev pub IsUnreadRow : Option (List ℕ) → ℕ → LogRow → Type 0
IsUnreadRow by at row = (row ≡ no_command_row at None (unavailable_answer false)) ⊎ (row ≡ no_command_row at by (unavailable_answer false))

-- the row of a 503 to what is asked, by the name of the operator who is let in, over the record that it reads: a request's, unless an allocation
-- failed before its head was read; a command's, if the command had been read. A message that is turned away for its secret has no 503: that
-- reply needs no memory
abbrev pub IsUnavailableRow : Option (List ℕ) → Option Organization → Ask → LogRow → Type 0
IsUnavailableRow by r silent row = ⊥
IsUnavailableRow by r (ask.refused at awaited refusal is_head false) row = row ≡ unavailable_row at
IsUnavailableRow by r (ask.refused at awaited refusal is_head true) row = (refusal ≢ BadSecret) × IsUnreadRow by at row
IsUnavailableRow by r (requests at awaited asked content_md5 body) row = (row ≡ unavailable_row at) ⊎ IsUnavailableRequest r at asked content_md5 body row
IsUnavailableRow by r (stops at) row = IsUnreadRow by at row ⊎ (row ≡ stop_row at by (unavailable_answer false))
IsUnavailableRow by r (commands at command) row = IsUnreadRow by at row ⊎ (row ≡ command_row at by command (unavailable_answer false))
