-- Roles in their order: each includes the ones before.
use Rattle.std.specs.Prelude.{ℕ, Bool, true, List, Option, Some, None, codes, nat_le, nat_lt}
use Rattle.basis.specs.declared.roles.Role.{Role}
use Rattle.basis.specs.declared.roles.Caller.{Caller}
use Rattle.basis.specs.declared.roles.Role.TheVariants.{Read, Write, Admin}

abbrev pub rank : Role → ℕ
rank Read = 0
rank Write = 1
rank Admin = 2

-- a role gives the leave of each role that isn't above it
abbrev pub includes : Role → Role → Bool
includes role least = nat_le (rank least) (rank role)

-- the word of a role in an operator's command
abbrev pub role_word : Role → List ℕ
role_word Read = codes "read"
role_word Write = codes "write"
role_word Admin = codes "admin"

-- a moment before an end, where there is one
abbrev pub is_before : ℕ → Option ℕ → Bool
is_before now None = true
is_before now (Some until) = nat_lt now until

-- a token counts before its end, and always where it has none
abbrev pub is_valid_at : ℕ → Caller → Bool
is_valid_at now caller = is_before now caller.until
