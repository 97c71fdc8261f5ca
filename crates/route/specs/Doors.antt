-- The operator's door: which requests come to it, and the secret that they bring.
use Rattle.std.specs.Prelude.{ℕ, Bool, true, false, if◌then◌else◌, List, bytes_eq, Option, Some, None, is_none, option_map, option_and_then, Result, Ok, Err, codes}
use Rattle.std.specs.Str.{str_eq_ignore_ascii_case}
use Rattle.sha2.specs.Sha256.{sha256}
use Rattle.basis.specs.declared.refusals.Allow.TheVariants.{Actions}
use Rattle.basis.specs.declared.refusals.Refusal.{Refusal}
use Rattle.basis.specs.declared.refusals.Refusal.TheVariants.{NoMethod, BadQuery, BadSecret}
use Rattle.basis.specs.Checks.{or_refused, and_then}
use Rattle.wire.specs.declared.messages.Message.{Message}
use Rattle.route.specs.Tokens.{before, behind, unspaced}

-- a message comes to the operator's door: its path is the door's, byte for byte
abbrev pub is_at_door : Message → Bool
is_at_door message = bytes_eq message.path (codes "/operator")

-- the secret in a field Authorization whose first word is `Operator` in any case; another scheme has none
abbrev pub operator_of : List ℕ → Option (List ℕ)
operator_of value =
    if str_eq_ignore_ascii_case (before 32 value) (codes "operator") then Some (unspaced (behind 32 value)) else None

-- the digest of the secret in a field Authorization, if there is the field and it has one
abbrev pub digest_in : Option (List ℕ) → Option (List ℕ)
digest_in authorization = option_map sha256 (option_and_then operator_of authorization)

abbrev pub passes : Bool → Refusal → Result (Unit {0}) Refusal
passes true refusal = Ok tt
passes false refusal = Err refusal

-- the digest of the secret that a message at the door brings, if its method is POST and it has no query, not even an empty one; or the refusal
-- of the first of these that fails
abbrev pub digest_brought : Message → Result (List ℕ) Refusal
digest_brought message =
    and_then (passes (bytes_eq message.method (codes "POST")) (NoMethod Actions)) (λ _.
    and_then (passes (is_none message.query) BadQuery) (λ _.
    or_refused BadSecret (digest_in message.authorization)))
