-- Contracts between functions: an answer that is made in full before anything changes, and the change that is to follow.
use Rattle.std.specs.Prelude.{◌≡◌, ℕ, if◌then◌else◌, List, Option, Some, None, Result, Ok, Err, ⊤}
use Rattle.std.specs.FinMap.{get}
use Rattle.basis.specs.Checks.{and_then}
use Rattle.basis.specs.Roles.{is_valid_at}
use Rattle.basis.specs.declared.refusals.Refusal.{Refusal}
use Rattle.basis.specs.declared.refusals.Refusal.TheVariants.{BadToken}
use Rattle.basis.specs.declared.roles.Caller.{Caller}
use Rattle.sha2.specs.Sha256.{sha256}
use Rattle.machine.specs.Ranges.{IsInRange}
use Rattle.machine.specs.Records.{seen_in, placed}
use Rattle.serve.specs.declared.checks.Task.{Task}
use Rattle.serve.specs.declared.checks.Task.TheVariants.{ListAll, Carry}
use Rattle.machine.specs.Changes.{changed_by, IsDue}
use Rattle.machine.specs.Tokens.{asker_of}
use Rattle.machine.specs.declared.keeps.TokenRow.{TokenRow}
use Rattle.machine.specs.declared.records.Organization.{Organization}
use Rattle.route.specs.declared.routes.Asked.{Asked}
use Rattle.docs.specs.Bodies.{error_text}
use Rattle.wire.specs.Replies.{Answer, refused_answer}
use Rattle.serve.specs.Asks.{Ask, silent, requests, commands, stops}
use Rattle.serve.specs.Asks as ask
use Rattle.serve.specs.Checks.{known_caller}
use Rattle.serve.specs.Steps.{Answered, request_step}
use Rattle.serve.specs.declared.messages.Prepared.{Prepared}
use Rattle.serve.specs.declared.requests.WsChange.{WsChange}

-- a token that counts at a moment
abbrev pub valid_token : ℕ → TokenRow → Result TokenRow Refusal
valid_token now row = if is_valid_at now row.caller then Ok row else Err BadToken

abbrev pub found_valid_token : ℕ → Option TokenRow → Result TokenRow Refusal
found_valid_token now None = Err BadToken
found_valid_token now (Some row) = valid_token now row

-- the token that asks
abbrev pub row_known : Option Organization → ℕ → Asked → Result TokenRow Refusal
row_known r now asked = found_valid_token now (asker_of r (sha256 asked.secret))

-- who asks by the token
abbrev pub caller_known : Option Organization → ℕ → Asked → Result Caller Refusal
caller_known r now asked = and_then (known_caller r now asked) (λ token. Ok token.caller)

-- the record of an organization after a change of it that is to follow, or as it is
abbrev pub ChangesTo : Option Organization → List ℕ → Option Organization → Option WsChange → Type 0
ChangesTo r org after None = after ≡ r
ChangesTo r org after (Some c) =
    (o : Organization) × (r ≡ Some o) × (c.org ≡ org) × IsDue (seen_in o c.ws) c.change
    × (after ≡ Some (placed o c.ws (changed_by c.change (get o.workspaces c.ws))))

-- the reply is the answer of the machine, and the change is that of the record of the organization
pub record Foresees (r : Option Organization) (org : List ℕ) (want : Answered) (reply : Answer) (change : Option WsChange) : Type 0 where
  pub answer : reply ≡ want.answer
  pub changes : ChangesTo r org want.left change

-- what is prepared is what is to be said, by the records as they stand
abbrev pub IsPrepared : (List ℕ → Option Organization) → Ask → Prepared → Type 0
IsPrepared rows silent p = ⊥
IsPrepared rows (ask.refused at awaited refusal is_head at_door) p = (p.reply ≡ refused_answer refusal (error_text refusal) is_head) × (p.change ≡ None)
IsPrepared rows (requests at awaited asked content_md5 body) p = Foresees (rows asked.caller) asked.caller (request_step (rows asked.caller) at asked content_md5 body) p.reply p.change
IsPrepared rows (stops at) p = ⊥
IsPrepared rows (commands at command) p = ⊥

-- the documents of an act that is to be done are in their ranges
abbrev pub IsTaskInRange : Task → Type 0
IsTaskInRange (ListAll after prefix) = ⊤
IsTaskInRange (Carry ws act) = IsInRange act
