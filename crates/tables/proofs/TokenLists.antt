-- The list of an organization's tokens.
use Rattle.std.proofs.Common.{◌≡◌, ℕ, Bool, true, false, cond, List, [], ◌∷◌, map, filter, Option, Some, None, option_map, refl, sym, ap, ap₂, ◌∙◌}
use Rattle.std.specs.FinMap.{from_entries, entries}
use Rattle.basis.specs.declared.roles.Role.{Role}
use Rattle.basis.specs.declared.roles.Caller.{Caller}
use Rattle.basis.proofs.NameLemmas.{equal_bytes}
use Rattle.machine.specs.Order.{name_cmp}
use Rattle.machine.specs.Tokens as tokens
use Rattle.machine.specs.declared.keeps.AdminAnswer.TheVariants.{Tokens}
use Rattle.machine.specs.declared.keeps.TokenRow.{TokenRow as AnyRow}
use Rattle.machine.specs.declared.records.Token.{Token}
use Rattle.statements.specs.Rows.{Kept, TokenRow}
use Rattle.statements.specs.Tables.{Tables}
use Rattle.statements.specs.Finds.{cap_of}
use Rattle.statements.specs.Listings.{roles_by_name, bounded_row}
use Rattle.tables.specs.Records.{caller_with, bounds_at, token_at, is_token_of, tokens_at, organization_at, record_of}
use Rattle.tables.specs.Inner.Lists.{token_row_of, tokens_listed_in, token_list_answer_by, token_list_answer_in}
use Rattle.tables.proofs.Ranks.{entries_shown}

module _ (t : Tables) (org : List ℕ) where
  -- a token's row as it is listed, from its role, its name, and how far it reaches
  abbrev shown : List ℕ × Role → AnyRow
  shown e = token_row_of (bounded_row org t e)

  abbrev row_of : List ℕ × Caller → AnyRow
  row_of e = record { name = e.0; caller = e.1 }

  abbrev of_token : Kept TokenRow → List ℕ × Caller
  of_token x = (x.1.name, (token_at t x.1).caller)

  abbrev of_row : Kept TokenRow → List ℕ × Caller
  of_row x = (x.1.name, caller_with x.1.it.role (bounds_at t org x.1.name))

  abbrev by_token : List ℕ × Token → List ℕ × Caller
  by_token e = (e.0, e.1.caller)

  abbrev by_role : List ℕ × Role → List ℕ × Caller
  by_role e = (e.0, caller_with e.1 (bounds_at t org e.0))

  same_callers : (xs : List (Kept TokenRow)) → map of_token (filter (is_token_of org) xs) ≡ map of_row (filter (is_token_of org) xs)
  same_callers [] = refl
  same_callers (x ∷ xs) = go (is_token_of org x) refl (same_callers xs)
    where
      go : (b : Bool) → is_token_of org x ≡ b → map of_token (filter (is_token_of org) xs) ≡ map of_row (filter (is_token_of org) xs)
          → map of_token (cond b (x ∷ filter (is_token_of org) xs) (filter (is_token_of org) xs)) ≡ map of_row (cond b (x ∷ filter (is_token_of org) xs) (filter (is_token_of org) xs))
      go true e more = ap₂ (λ (a : List ℕ) (rest : List (List ℕ × Caller)). (x.1.name, caller_with x.1.it.role (bounds_at t a x.1.name)) ∷ rest) (equal_bytes x.1.org org e) more
      go false e more = more

  -- the same entries, by the record and by the rows
  entries_same : map by_token (entries (tokens_at t org)) ≡ map by_role (entries (roles_by_name org t))
  entries_same =
      sym (entries_shown (λ (n : List ℕ) (token : Token). token.caller) (λ (x : Kept TokenRow). x.1.name) (λ (x : Kept TokenRow). token_at t x.1) (filter (is_token_of org) t.tokens))
      ∙ ap (λ (ps : List (List ℕ × Caller)). entries (from_entries {R = name_cmp} ps)) (same_callers t.tokens)
      ∙ entries_shown (λ (n : List ℕ) (role : Role). caller_with role (bounds_at t org n)) (λ (x : Kept TokenRow). x.1.name) (λ (x : Kept TokenRow). x.1.it.role) (filter (is_token_of org) t.tokens)

  by_record : (es : List (List ℕ × Token)) → tokens.tokens_listed es ≡ map row_of (map by_token es)
  by_record [] = refl
  by_record (e ∷ es) = ap (λ rows. tokens.token_row e.0 e.1 ∷ rows) (by_record es)

  by_rows : (es : List (List ℕ × Role)) → map row_of (map by_role es) ≡ map token_row_of (map (bounded_row org t) es)
  by_rows [] = refl
  by_rows (e ∷ es) = ap (λ rows. shown e ∷ rows) (by_rows es)

  listed : tokens_listed_in org t ≡ tokens.tokens_listed (entries (tokens_at t org))
  listed = sym (by_rows (entries (roles_by_name org t))) ∙ ap (map row_of) (sym entries_same) ∙ sym (by_record (entries (tokens_at t org)))

  -- the list is that of the record
  pub token_list_answer : token_list_answer_in org t ≡ tokens.token_list_answer (record_of t org)
  token_list_answer = by_limit (cap_of org t)
    where
      by_limit : (c : Option ℕ) → token_list_answer_by c org t ≡ tokens.token_list_answer (option_map (organization_at t org) c)
      by_limit None = refl
      by_limit (Some cap) = ap Tokens listed
