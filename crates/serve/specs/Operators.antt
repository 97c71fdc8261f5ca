-- The operators of a door: whom a message lets in, and what each may ask for.
use Rattle.std.specs.Prelude.{◌≡◌, ℕ, ◌&&◌, not, Bool, true, false, if◌then◌else◌, List, ◌++◌, ◌∷◌, find, bytes_eq, Option, Some, None, Result, Ok, Err, codes}
use Rattle.sha2.specs.Sha256.{sha256}
use Rattle.basis.specs.declared.refusals.Refusal.{Refusal}
use Rattle.basis.specs.declared.refusals.Refusal.TheVariants.{BadSecret, NeedAdmin}
use Rattle.basis.specs.Checks.{or_refused, and_then}
use Rattle.basis.specs.Roles.{is_before}
use Rattle.route.specs.Doors.{operator_of, digest_brought}
use Rattle.wire.specs.declared.messages.Message.{Message}
use Rattle.serve.specs.declared.doors.DoorCommand.{DoorCommand}
use Rattle.serve.specs.declared.doors.DoorCommand.TheVariants.{OnStore}
use Rattle.serve.specs.declared.operators.Operator.{Operator}
use Rattle.serve.specs.declared.steps.Admin.TheVariants.{OrgList, TokenList}

-- the operator of this name and this secret, which is not kept
abbrev pub new_operator : List ℕ → List ℕ → Option ℕ → Bool → Operator
new_operator name secret until lists_only = record { name = name; digest = sha256 secret; until = until; lists_only = lists_only }

-- the operator whose secret stands alone: named `operator`, without an end, for all commands
abbrev pub lone_operator : List ℕ → Operator
lone_operator secret = new_operator (codes "operator") secret None false

-- an operator's secret has this digest, and counts at a moment: it does not end, or ends later
abbrev pub is_let_in : List ℕ → ℕ → Operator → Bool
is_let_in digest at operator = bytes_eq operator.digest digest && is_before at operator.until

-- the operator whom a message at the door lets in at a moment, or the refusal of the first check that fails: the method, the query, the secret
abbrev pub let_in : List Operator → ℕ → Message → Result Operator Refusal
let_in operators at message = and_then (digest_brought message) (λ digest. or_refused BadSecret (find (is_let_in digest at) operators))

-- its name, if there is one
abbrev pub name_of : Result Operator Refusal → Option (List ℕ)
name_of (Ok operator) = Some operator.name
name_of (Err refusal) = None

abbrev pub operator_named : List Operator → ℕ → Message → Option (List ℕ)
operator_named operators at message = name_of (let_in operators at message)

-- a command that lists organizations or tokens
abbrev pub is_list : DoorCommand → Bool
is_list (OnStore OrgList) = true
is_list (OnStore (TokenList org)) = true
is_list other = false

-- an operator who may only list asks for nothing else
abbrev pub permitted : Bool → DoorCommand → Result DoorCommand Refusal
permitted lists_only command = if lists_only && not (is_list command) then Err NeedAdmin else Ok command

-- the operator is one of these
abbrev pub IsAmong : List Operator → Operator → Type 0
IsAmong operators operator = (before : List Operator) × (after : List Operator) × (operators ≡ before ++ operator ∷ after)

-- a message brings the secret of this one of the operators, which counts at a moment
pub record BringsSecretOf (operators : List Operator) (at : ℕ) (message : Message) (operator : Operator) : Type 0 where
  pub among : IsAmong operators operator
  pub field : List ℕ
  pub brings : message.authorization ≡ Some field
  pub secret : List ℕ
  pub spells : operator_of field ≡ Some secret
  pub digest : sha256 secret ≡ operator.digest
  pub counts : is_before at operator.until ≡ true

-- a message brings the secret of one of the operators
abbrev pub BringsSecret : List Operator → ℕ → Message → Type 0
BringsSecret operators at message = (operator : Operator) × BringsSecretOf operators at message operator
