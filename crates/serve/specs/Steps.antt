-- The machine of one organization: what it answers to what is asked, and its record afterwards.
use Rattle.std.specs.Prelude.{ℕ, Bool, false, List, [], ◌∷◌, Option, Some, None, Result, Ok, Err, option_map}
use Rattle.basis.specs.declared.refusals.Refusal.{Refusal}
use Rattle.basis.specs.declared.refusals.Refusal.TheVariants.{Locked}
use Rattle.sha2.specs.Sha256.{sha256}
use Rattle.docs.specs.Bodies.{error_text, ws_text, ws_list_text, version_list_text, run_text, run_list_text, run_holder_text}
use Rattle.machine.specs.Effects.{Effect, effect}
use Rattle.machine.specs.Rules.{Outcome, refused, held, done, no_state, state, workspace, the_run, versions, runs, Ruling, rules}
use Rattle.machine.specs.Showing.{row_of, workspaces_after}
use Rattle.machine.specs.Records.{Seen, missing, seen_in, placed}
use Rattle.machine.specs.Removal.{org_removed}
use Rattle.machine.specs.Tokens.{Managed, org_added, org_limited, token_added, token_revoked, token_of}
use Rattle.machine.specs.declared.keeps.AdminAnswer.{AdminAnswer}
use Rattle.machine.specs.declared.keeps.AdminAnswer.TheVariants.{Done}
use Rattle.basis.specs.declared.rows.Holder.{Holder}
use Rattle.basis.specs.declared.rows.Holder.TheVariants.{Nobody, Lock as HeldLock, Run as HeldRun}
use Rattle.machine.specs.declared.records.Organization.{Organization}
use Rattle.route.specs.declared.routes.Asked.{Asked}
use Rattle.wire.specs.Replies.{Answer, empty_answer, no_content_answer, document_answer, refused_answer}
use Rattle.serve.specs.declared.steps.Admin.{Admin}
use Rattle.serve.specs.declared.steps.Admin.TheVariants.{OrgAdd, OrgLimit, OrgRemove, OrgList, TokenAdd, TokenList, TokenRevoke}
use Rattle.serve.specs.Asks.{Ask, silent, requests, commands, stops}
use Rattle.serve.specs.Asks as ask
use Rattle.serve.specs.Checks.{checked}
use Rattle.serve.specs.declared.checks.Task.{Task}
use Rattle.serve.specs.declared.checks.Task.TheVariants.{ListAll, Carry}

-- what is said to the one who asks
pub data Said : Type 0 where
  -- nothing
  nothing : Said
  -- a reply: an answer at a moment, after `100 Continue` if it is awaited
  replies : Bool → ℕ → Answer → Said
  -- the word that answers an operator's command
  reports : AdminAnswer → Said
  -- the list of all organizations, which no organization's machine knows
  lists : Said
  -- the list of an organization's tokens, which only the operator gets
  lists_tokens : Said

-- an answer, and the record afterwards
abbrev pub Answered : Type 0
Answered = Effect Answer (Option Organization)

-- a refusal: its word, and nothing changes
abbrev pub refusing : Refusal → Option Organization → Answered
refusing refusal r = effect (refused_answer refusal (error_text refusal) false) r

-- the body that shows who holds: the text that took the lock, byte for byte, or that of the run
abbrev pub holder_text : List ℕ → List ℕ → Holder → List ℕ
holder_text org ws Nobody = []
holder_text org ws (HeldLock id text) = text
holder_text org ws (HeldRun n) = run_holder_text org ws n

-- the answer to what the rules say
abbrev pub answer_to : List ℕ → List ℕ → Outcome → Answer
answer_to org ws (refused refusal) = refused_answer refusal (error_text refusal) false
answer_to org ws (held holder) = refused_answer Locked (holder_text org ws holder) false
answer_to org ws done = empty_answer
answer_to org ws no_state = no_content_answer
answer_to org ws (state text) = document_answer text
answer_to org ws (workspace shown) = document_answer (ws_text (row_of ws shown))
answer_to org ws (the_run r) = document_answer (run_text r)
answer_to org ws (versions list) = document_answer (version_list_text list)
answer_to org ws (runs list) = document_answer (run_list_text list)

-- the workspace that the rules get
abbrev pub seen_at : Option Organization → List ℕ → Seen
seen_at None ws = missing false
seen_at (Some o) ws = seen_in o ws

-- the rules, on the workspace as it is
abbrev pub ruled_in : List ℕ → List ℕ → Option Organization → Ruling → Answered
ruled_in org ws r ruling = effect (answer_to org ws ruling.answer) (option_map (λ (o : Organization). placed o ws ruling.left) r)

-- what follows the checks: the list of the workspaces, or the rules
abbrev pub carried : List ℕ → ℕ → Option Organization → Result Task Refusal → Answered
carried org now r (Err refusal) = refusing refusal r
carried org now r (Ok (ListAll after prefix)) = effect (document_answer (ws_list_text (workspaces_after after prefix r))) r
carried org now r (Ok (Carry ws act)) = ruled_in org ws r (rules act now (seen_at r ws))

-- the answer to a request of an organization at a moment
abbrev pub request_step : Option Organization → ℕ → Asked → Option (List ℕ) → List ℕ → Answered
request_step r now asked content_md5 body = carried asked.caller now r (checked r now asked content_md5 body)

-- the answer to an operator's command on an organization; the lists of organizations and of tokens change none
abbrev pub command_step : Option Organization → Admin → Managed
command_step r (OrgAdd org limit) = org_added limit r
command_step r (OrgLimit org limit) = org_limited limit r
command_step r (OrgRemove org is_forced) = org_removed is_forced r
command_step r OrgList = effect Done r
command_step r (TokenAdd org name role secret bounds) = token_added name (token_of (sha256 secret) role bounds) r
command_step r (TokenList org) = effect Done r
command_step r (TokenRevoke org name) = token_revoked name r

-- what is said to an operator
abbrev pub command_said : Admin → AdminAnswer → Said
command_said (OrgAdd org limit) answer = reports answer
command_said (OrgLimit org limit) answer = reports answer
command_said (OrgRemove org is_forced) answer = reports answer
command_said OrgList answer = lists
command_said (TokenAdd org name role secret bounds) answer = reports answer
command_said (TokenList org) answer = lists_tokens
command_said (TokenRevoke org name) answer = reports answer

-- the step of an organization's machine: what is said, and the record afterwards; an unattributed step and `stop` change no record and read none
abbrev pub step : Option Organization → Ask → Effect Said (Option Organization)
step r silent = effect nothing r
step r (ask.refused at awaited refusal is_head at_door) = effect (replies awaited at (refused_answer refusal (error_text refusal) is_head)) r
step r (requests at awaited asked content_md5 body) =
    let done = request_step r at asked content_md5 body in effect (replies awaited at done.answer) done.left
step r (stops at) = effect (reports Done) r
step r (commands at command) =
    let done = command_step r command in effect (command_said command done.answer) done.left

-- the machine run over what is asked of it: what is said to each, and the record in the end
abbrev pub own_said : Option Organization → List Ask → List Said
own_said r [] = []
own_said r (a ∷ asks) = (step r a).answer ∷ own_said (step r a).left asks

abbrev pub own_record : Option Organization → List Ask → Option Organization
own_record r [] = r
own_record r (a ∷ asks) = own_record (step r a).left asks
