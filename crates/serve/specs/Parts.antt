-- The operator's commands, from the words that name what they are about.
use Rattle.std.specs.Prelude.{ℕ, Bool, List, Option, Some, None, ◌&&◌, cond, option_map, option_and_then, bytes_eq}
use Rattle.basis.specs.Names.{is_org_name, is_secret}
use Rattle.basis.specs.Numbers.{whole_of, within}
use Rattle.basis.specs.Roles.{role_word}
use Rattle.basis.specs.declared.roles.Bounds.{Bounds}
use Rattle.basis.specs.declared.roles.Role.{Role}
use Rattle.basis.specs.declared.roles.Role.TheVariants.{Read, Write, Admin}
use Rattle.serve.specs.declared.steps.Admin as Operator
use Rattle.serve.specs.declared.steps.Admin.TheVariants.{OrgAdd, OrgLimit, OrgRemove, TokenAdd, TokenList, TokenRevoke}

-- reads a limit
abbrev pub limit_of : List ℕ → Option ℕ
limit_of word = option_and_then (within 0 100_000) (whole_of word)

-- reads a role
abbrev pub role_of : List ℕ → Option Role
role_of word =
    cond (bytes_eq word (role_word Read)) (Some Read)
    (cond (bytes_eq word (role_word Write)) (Some Write)
    (cond (bytes_eq word (role_word Admin)) (Some Admin) None))

-- a command that adds an organization, if its name and limit are valid
abbrev pub org_command : List ℕ → Option ℕ → Option Operator.Admin
org_command org limit = cond (is_org_name org) (option_map (λ n. OrgAdd org n) limit) None

-- a command that sets an organization's limit, if its name and the limit are valid
abbrev pub limit_command : List ℕ → Option ℕ → Option Operator.Admin
limit_command org limit = cond (is_org_name org) (option_map (λ n. OrgLimit org n) limit) None

-- a command that removes an organization, by force or not, if its name is valid
abbrev pub remove_command : List ℕ → Bool → Option Operator.Admin
remove_command org is_forced = cond (is_org_name org) (Some (OrgRemove org is_forced)) None

-- a command that adds a token with these bounds, if organization, name, role and secret are valid
abbrev pub token_command : List ℕ → List ℕ → List ℕ → List ℕ → Bounds → Option Operator.Admin
token_command org name role secret bounds =
    cond (is_org_name org && is_org_name name && is_secret secret) (option_map (λ r. TokenAdd org name r secret bounds) (role_of role)) None

-- a command that lists an organization's tokens, if its name is valid
abbrev pub list_command : List ℕ → Option Operator.Admin
list_command org = cond (is_org_name org) (Some (TokenList org)) None

-- a command that revokes a token, if organization and name are valid
abbrev pub revoke_command : List ℕ → List ℕ → Option Operator.Admin
revoke_command org name = cond (is_org_name org && is_org_name name) (Some (TokenRevoke org name)) None
