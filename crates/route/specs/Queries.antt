-- What a query says: the values of the keys that have a use. Its pairs are those of a form (URL Standard,
-- section 5.1), its names and values decoded, with U+FFFD for what is not UTF-8.
use Rattle.std.specs.Prelude.{ℕ, Bool, ◌&&◌, if◌then◌else◌, nat_le, List, [], ◌∷◌, ◌++◌, length, Option, Some, None, Result, Ok, Err, codes, bytes_eq, option_map, option_and_then}
use Rattle.std.specs.Str.Lossy.{utf8_lossy}
use Rattle.form_urlencoded.specs.Form.{raw_pairs, decode}
use Rattle.basis.specs.Names.{is_ws_name, is_lock_id}
use Rattle.basis.specs.Numbers.{whole_of, within}
use Rattle.basis.specs.declared.numbers.TheConstants.{MAX_NUMBER}
use Rattle.basis.specs.declared.refusals.Refusal.{Refusal}
use Rattle.basis.specs.declared.refusals.Refusal.TheVariants.{BadQuery}
use Rattle.basis.specs.declared.acts.Query.TheVariants.{Versions, Runs}
use Rattle.route.specs.declared.routes.AskedAct.{AskedAct}
use Rattle.route.specs.declared.routes.AskedAct.TheVariants.{ListWorkspaces, OfWorkspace}
use Rattle.basis.specs.declared.acts.WsAct.{WsAct}
use Rattle.basis.specs.declared.acts.WsAct.TheVariants.{Query}
use Rattle.route.specs.declared.asks.UrlQuery.{UrlQuery}
use Rattle.basis.specs.Checks.{or_refused}

-- the key of a bearer token (RFC 6750, section 2.3)
abbrev pub token_key : List ℕ
token_key = codes "access_token"

-- the key of the held lock's ID (Terraform, backend 'http')
abbrev pub id_key : List ℕ
id_key = codes "ID"

-- the key of the item after which a list begins
abbrev pub after_key : List ℕ
after_key = codes "after"

-- the text that an encoded name or value stands for
abbrev pub decoded_text : List ℕ → List ℕ
decoded_text bytes = utf8_lossy (decode bytes)

-- the value, where its name is the key
abbrev pub value_if : List ℕ → List ℕ → List ℕ → List (List ℕ)
value_if key name value = if bytes_eq name key then value ∷ [] else []

-- the values of a key in encoded pairs, in order
abbrev pub values_in : List ℕ → List (List ℕ × List ℕ) → List (List ℕ)
values_in key [] = []
values_in key ((name, value) ∷ pairs) = value_if key (decoded_text name) (decoded_text value) ++ values_in key pairs

-- the values of a key in a query, in order
abbrev pub values : List ℕ → List ℕ → List (List ℕ)
values key query = values_in key (raw_pairs query)

-- a key comes once or not at all
abbrev pub is_single : List (List ℕ) → Bool
is_single texts = nat_le (length texts) 1

-- the first value, if there is one
abbrev pub first_value : List (List ℕ) → Option (List ℕ)
first_value [] = None
first_value (text ∷ texts) = Some text

-- no key that has a use comes twice
abbrev pub is_plain_query : List ℕ → Bool
is_plain_query query =
    is_single (values token_key query) && is_single (values id_key query) && is_single (values after_key query)

-- the values of the keys that have a use
abbrev pub values_found : List ℕ → UrlQuery
values_found query = record {
  token = first_value (values token_key query);
  id = first_value (values id_key query);
  after = first_value (values after_key query);
}

-- a query is read where none of these keys comes twice
abbrev pub query_read : List ℕ → Result UrlQuery Refusal
query_read query = if is_plain_query query then Ok (values_found query) else Err BadQuery

-- a lock's ID, if one is given, has the syntax of one
abbrev pub lock_id_read : Option (List ℕ) → Result (Option (List ℕ)) Refusal
lock_id_read None = Ok None
lock_id_read (Some text) = if is_lock_id text then Ok (Some text) else Err BadQuery

-- the name after which a list of workspaces begins
abbrev pub name_after : List ℕ → Option (List ℕ)
name_after text = if is_ws_name text then Some text else None

-- the number after which a list of versions or runs begins; 0 is before the first
abbrev pub number_after : List ℕ → Option ℕ
number_after text = option_and_then (within 0 MAX_NUMBER) (whole_of text)

-- the list of workspaces after a name
abbrev pub listed_from : List ℕ → AskedAct
listed_from name = ListWorkspaces (Some name)

-- the act with the item after which its list begins; an act that lists nothing doesn't look at it
abbrev pub ws_begun_after : WsAct → List ℕ → Option WsAct
ws_begun_after (Query (Versions from)) text = option_map (λ after. Query (Versions after)) (number_after text)
ws_begun_after (Query (Runs from)) text = option_map (λ after. Query (Runs after)) (number_after text)
ws_begun_after act text = Some act

-- the same of what is asked of the organization
abbrev pub begun_after : AskedAct → List ℕ → Option AskedAct
begun_after (ListWorkspaces from) text = option_map listed_from (name_after text)
begun_after (OfWorkspace ws act) text = option_map (OfWorkspace ws) (ws_begun_after act text)

-- the same, where the query has `after`
abbrev pub after_read : AskedAct → Option (List ℕ) → Result AskedAct Refusal
after_read act None = Ok act
after_read act (Some text) = or_refused BadQuery (begun_after act text)
