-- Bearer tokens: where a request has one (RFC 6750, section 2), and what its text says.
use Rattle.std.specs.Prelude.{ℕ, ◌+◌, ◌==◌, if◌then◌else◌, List, [], ◌∷◌, take, drop, Option, Some, None, Result, Ok, Err, codes, option_map, option_and_then}
use Rattle.std.specs.List.{position_or_len}
use Rattle.std.specs.Str.{str_eq_ignore_ascii_case}
use Rattle.basis.specs.Names.{is_org_name, is_secret}
use Rattle.basis.specs.declared.refusals.Refusal.{Refusal}
use Rattle.basis.specs.declared.refusals.Refusal.TheVariants.{TwoTokens, NoToken, BadToken}
use Rattle.route.specs.declared.tokens.BearerToken.{BearerToken}
use Rattle.basis.specs.Checks.{or_refused, and_then}

-- the bytes before the first such byte, or all of them
abbrev pub before : ℕ → List ℕ → List ℕ
before byte bytes = take (position_or_len (λ b. b == byte) bytes) bytes

-- the bytes after the first such byte, or none
abbrev pub behind : ℕ → List ℕ → List ℕ
behind byte bytes = drop (position_or_len (λ b. b == byte) bytes + 1) bytes

-- the bytes after the spaces (32) in front
abbrev pub unspaced : List ℕ → List ℕ
unspaced [] = []
unspaced (b ∷ bytes) = if b == 32 then unspaced bytes else b ∷ bytes

-- the token in a field Authorization whose first word is `Bearer` in any case; another scheme has none
abbrev pub bearer_of : List ℕ → Option (List ℕ)
bearer_of value =
    if str_eq_ignore_ascii_case (before 32 value) (codes "bearer") then Some (unspaced (behind 32 value)) else None

-- the one token of a request: in the field or in the query, and not in both
abbrev pub one_token : Option (List ℕ) → Option (List ℕ) → Result (List ℕ) Refusal
one_token (Some field) (Some text) = Err TwoTokens
one_token (Some field) None = Ok field
one_token None (Some text) = Ok text
one_token None None = Err NoToken

-- a token's parts
abbrev pub bearer_token_made : List ℕ → List ℕ → BearerToken
bearer_token_made org secret = record { org = org; secret = secret }

-- the organization's name that a text is
abbrev pub org_of : List ℕ → Option (List ℕ)
org_of text = if is_org_name text then Some text else None

-- the secret that a text is
abbrev pub secret_of : List ℕ → Option (List ℕ)
secret_of text = if is_secret text then Some text else None

-- a token is an organization's name, a dot (46) and a secret, cut at its first dot
abbrev pub bearer_token_of : List ℕ → Option BearerToken
bearer_token_of text =
    option_and_then (λ org. option_map (bearer_token_made org) (secret_of (behind 46 text))) (org_of (before 46 text))

-- the token of a request, from its field Authorization and from its query
abbrev pub bearer_token_read : Option (List ℕ) → Option (List ℕ) → Result BearerToken Refusal
bearer_token_read authorization in_query =
    and_then (one_token (option_and_then bearer_of authorization) in_query) (λ text. or_refused BadToken (bearer_token_of text))
