-- Callers, and the operator's commands on one organization.
use Rattle.std.specs.Prelude.{◌≡◌, ℕ, Bool, true, cond, List, [], ◌∷◌, map, Option, Some, None, option_map, IsSomeAnd, is_some, ◌||◌, ⊤}
use Rattle.std.specs.List.{AllByRecursion, list_any}
use Rattle.std.specs.Ordering.{is_lt}
use Rattle.std.specs.Str.{bytes_eq}
use Rattle.std.specs.FinMap.{empty, entries, get, insert, remove}
use Rattle.basis.specs.declared.roles.Bounds.{Bounds}
use Rattle.basis.specs.declared.roles.Role.{Role}
use Rattle.machine.specs.Effects.{Effect, effect}
use Rattle.machine.specs.Order.{name_cmp}
use Rattle.machine.specs.Records.{count_of}
use Rattle.machine.specs.declared.records.Token.{Token}
use Rattle.machine.specs.declared.records.Organization.{Organization}
use Rattle.machine.specs.declared.keeps.AdminAnswer.{AdminAnswer}
use Rattle.machine.specs.declared.keeps.AdminAnswer.TheVariants.{Done, Exists, Absent, InUse, Organizations, Tokens}
use Rattle.machine.specs.declared.keeps.OrgRow.{OrgRow}
use Rattle.machine.specs.declared.keeps.TokenRow.{TokenRow}

-- the first entry with this digest
abbrev pub token_with : List ℕ → List (List ℕ × Token) → Option Token
token_with digest [] = None
token_with digest (e ∷ es) = cond (bytes_eq e.1.digest digest) (Some e.1) (token_with digest es)

-- the organization's token with this digest, if there is one
abbrev pub caller_of : Option Organization → List ℕ → Option Token
caller_of None digest = None
caller_of (Some o) digest = token_with digest (entries o.tokens)

-- a token as an operator's list shows it: its name and its caller, without its digest
abbrev pub token_row : List ℕ → Token → TokenRow
token_row name token = record { name = name; caller = token.caller }

-- the first entry with this digest, as an operator's list shows it
abbrev pub row_with : List ℕ → List (List ℕ × Token) → Option TokenRow
row_with digest [] = None
row_with digest (e ∷ es) = cond (bytes_eq e.1.digest digest) (Some (token_row e.0 e.1)) (row_with digest es)

-- the name and the caller of the organization's token with this digest, if there is one
abbrev pub asker_of : Option Organization → List ℕ → Option TokenRow
asker_of None digest = None
asker_of (Some o) digest = row_with digest (entries o.tokens)

-- the caller found by a digest is that of the token with this digest, whatever its name
abbrev pub AskersAskByTheirTokens : Type 0
AskersAskByTheirTokens = (r : Option Organization) (digest : List ℕ)
    → option_map (λ row. row.caller) (asker_of r digest) ≡ option_map (λ token. token.caller) (caller_of r digest)

-- whether the organization has a token with this digest
abbrev pub has_digest : List ℕ → Organization → Bool
has_digest digest o = is_some (token_with digest (entries o.tokens))

-- the answer to an operator, and the organization after it
abbrev pub Managed : Type 0
Managed = Effect AdminAnswer (Option Organization)

-- an organization at its creation
abbrev pub new_organization : ℕ → Organization
new_organization limit = record { limit = limit; tokens = empty; workspaces = empty }

-- adding an organization with this limit
abbrev pub org_added : ℕ → Option Organization → Managed
org_added limit None = effect Done (Some (new_organization limit))
org_added limit (Some o) = effect Exists (Some o)

-- setting the limit of an organization: it keeps what it has, even if that is more
abbrev pub with_limit : Organization → ℕ → Organization
with_limit o limit = record o { limit = limit }

abbrev pub org_limited : ℕ → Option Organization → Managed
org_limited limit None = effect Absent None
org_limited limit (Some o) = effect Done (Some (with_limit o limit))

abbrev pub token_of : List ℕ → Role → Bounds → Token
token_of digest role bounds = record { digest = digest; caller = record { role = role; until = bounds.until; prefix = bounds.prefix } }

-- adding a token: neither its name nor its digest may exist
abbrev pub with_token : Organization → List ℕ → Token → Organization
with_token o name token = record o { tokens = insert o.tokens name token }

abbrev pub token_added : List ℕ → Token → Option Organization → Managed
token_added name token None = effect Absent None
token_added name token (Some o) =
    cond (is_some (get o.tokens name) || has_digest token.digest o) (effect Exists (Some o)) (effect Done (Some (with_token o name token)))

-- removing a token, by its name
abbrev pub without_token : Organization → List ℕ → Organization
without_token o name = record o { tokens = remove o.tokens name }

abbrev pub token_revoked : List ℕ → Option Organization → Managed
token_revoked name None = effect Absent None
token_revoked name (Some o) = cond (is_some (get o.tokens name)) (effect Done (Some (without_token o name))) (effect Absent (Some o))

-- the list of an organization's tokens, in the order of their names' bytes
abbrev pub tokens_listed : List (List ℕ × Token) → List TokenRow
tokens_listed es = map (λ (e : List ℕ × Token). token_row e.0 e.1) es

abbrev pub token_list_answer : Option Organization → AdminAnswer
token_list_answer None = Absent
token_list_answer (Some o) = Tokens (tokens_listed (entries o.tokens))

-- the list of all organizations: exactly those that exist, in the order of their names' bytes, each with its number of workspaces and its
-- limit
abbrev pub is_row_of : List ℕ → OrgRow → Bool
is_row_of org row = bytes_eq row.name org

abbrev pub Ascend : List OrgRow → Type 0
Ascend [] = ⊤
Ascend (row ∷ rows) = AllByRecursion (λ (later : OrgRow). is_lt (name_cmp row.name later.name) ≡ true) rows × Ascend rows

abbrev pub ShowsOrganization : (List ℕ → Option Organization) → OrgRow → Type 0
ShowsOrganization records row = IsSomeAnd (records row.name) (λ o. (row.workspaces ≡ count_of o) × (row.limit ≡ o.limit))

pub record AreOrganizations (records : List ℕ → Option Organization) (rows : List OrgRow) : Type 0 where
  pub ascend : Ascend rows
  pub reported : AllByRecursion (ShowsOrganization records) rows
  pub whole : (org : List ℕ) (o : Organization) → records org ≡ Some o → list_any (is_row_of org) rows ≡ true

abbrev pub ListsOrganizations : (List ℕ → Option Organization) → AdminAnswer → Type 0
ListsOrganizations records Done = ⊥
ListsOrganizations records Exists = ⊥
ListsOrganizations records Absent = ⊥
ListsOrganizations records InUse = ⊥
ListsOrganizations records (Organizations rows) = AreOrganizations records rows
ListsOrganizations records (Tokens rows) = ⊥
