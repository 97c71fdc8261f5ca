-- What a step asks, and whose step it is.
use Rattle.std.specs.Prelude.{ℕ, Bool, List, Option, ⊤}
use Rattle.basis.specs.declared.refusals.Refusal.{Refusal}
use Rattle.machine.specs.Ranges.{IsMoment}
use Rattle.route.specs.declared.routes.Asked.{Asked}
use Rattle.serve.specs.declared.steps.Admin.{Admin}
use Rattle.serve.specs.declared.steps.Admin.TheVariants.{OrgAdd, OrgLimit, OrgRemove, OrgList, TokenAdd, TokenList, TokenRevoke}

-- what a step asks, at a moment; the flag `awaited` says that `100 Continue` comes before the reply
pub data Ask : Type 0 where
  -- nothing, because its message is unfinished
  silent : Ask
  -- nothing of any organization: it is refused; the last two flags say that the method is HEAD, and that it came to the operator's door
  refused : ℕ → Bool → Refusal → Bool → Bool → Ask
  -- an act, in the name of the organization of a token, with the field Content-MD5, if it is sent, and the body
  requests : ℕ → Bool → Asked → Option (List ℕ) → List ℕ → Ask
  -- an operator's command
  commands : ℕ → Admin → Ask
  -- at the operator's door, that the service ends
  stops : ℕ → Ask

-- whose a step is
pub data Owner : Type 0 where
  -- the organization's of this name
  organization : List ℕ → Owner
  -- nobody's: what its bytes say is refused, or unfinished
  unattributed : Owner
  -- the operator's, who lists all organizations, or the tokens of one, or stops the service
  operator : Owner

-- the owner of an operator's command: the organization that it names, or the operator, if it only lists organizations or tokens
abbrev pub commanded_of : Admin → Owner
commanded_of (OrgAdd org limit) = organization org
commanded_of (OrgLimit org limit) = organization org
commanded_of (OrgRemove org is_forced) = organization org
commanded_of OrgList = operator
commanded_of (TokenAdd org name role secret bounds) = organization org
commanded_of (TokenList org) = operator
commanded_of (TokenRevoke org name) = organization org

-- whose step it is: of the organization that the token or the command names, nobody's, or the operator's
abbrev pub owner_of : Ask → Owner
owner_of silent = unattributed
owner_of (refused at awaited refusal is_head at_door) = unattributed
owner_of (requests at awaited asked content_md5 body) = organization asked.caller
owner_of (stops at) = operator
owner_of (commands at command) = commanded_of command

-- the moment of a request is in range
abbrev pub IsTimely : Ask → Type 0
IsTimely silent = ⊤
IsTimely (refused at awaited refusal is_head at_door) = ⊤
IsTimely (requests at awaited asked content_md5 body) = IsMoment at
IsTimely (stops at) = ⊤
IsTimely (commands at command) = ⊤
