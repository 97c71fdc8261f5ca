-- What the queries that find tokens with their rows of bound read of the rows of token and bound.
use Rattle.statements.proofs.Outside.{AllZip, ◌≡◌, ℕ, List, [], ◌∷◌, find, Option, Some, None, option_map, refl, sym, ap, ◌∙◌, subst, Null, Text, Blob, Row, column, IsAnswer, left, end, Env, overlay, State, Shown, reads_as, Role, ascending_weaker}
use Rattle.std.specs.Option.{unwrap_or}
use Rattle.statements.specs.declared.rows.BoundedRole.{BoundedRole}
use Rattle.statements.specs.Place.{tree_of}
use Rattle.statements.specs.Schema.{token_table, bound_table}
use Rattle.statements.specs.Rows.{Kept, TokenRow, BoundRow, stored, token_cells, bound_cells, number, role_code}
use Rattle.statements.specs.Tables.{Tables, Holds, token_layout, bound_layout}
use Rattle.statements.specs.Changes.{is_digest_of, is_bound}
use Rattle.statements.specs.Finds.{named_role, bound_in, bound_of, IsBoundedRoleOf}
use Rattle.statements.specs.Listings.{is_token_of, no_bounds, bounded_row, bounded_tokens_of, BoundedTokensApart}
use Rattle.statements.specs.Calls.{IsBoundedRole}
use Rattle.statements.specs.declared.tokens.TheConstants.{FIND_TOKEN, LIST_TOKENS}
use Rattle.statements.proofs.Held.{IsHeld, tokens_held, bounds_held}
use Rattle.statements.proofs.Own.{stored_tree}
use Rattle.statements.proofs.Lefts.{row_or, left_is, one_named}
use Rattle.statements.proofs.Listed.{Ends}
use Rattle.statements.proofs.NameLists.{by_text, tokens_apart, own_names}
use Rattle.statements.proofs.ReadBack.{named_role_read, bound_read}
use Rattle.statements.proofs.Conditions.{one_text, two_texts, text_blob}
use Rattle.statements.proofs.Joined.{matching, none_is, one_is}
use Rattle.statements.proofs.TokenFoundTexts.{find_token_means, find_token_rest, find_token_names, list_tokens_means, list_tokens_rest, of_token}

-- a row that shows a bound was found with one
bounded_read : (name : List ℕ) (role : Role) (o : Option (Kept BoundRow)) (b : BoundedRole)
    → IsBoundedRole (Text name ∷ number (role_code role) ∷ column (row_or (stored bound_cells) o) 3 ∷ column (row_or (stored bound_cells) o) 4 ∷ []) b → (b.token ≡ record { name = name; role = role }) × (option_map bound_in o ≡ Some b.bounds)
bounded_read name role None b reported = absurd (let e : Null ≡ Text b.bounds.prefix = reported.prefix in cc)
bounded_read name role (Some z) b reported = (
  named_role_read name role b.token reported.name reported.role,
  ap Some (sym (bound_read z.1.it.until z.1.it.prefix b.bounds (record { until = reported.until; prefix = reported.prefix }))),
)

module _ (old new : State) (t : Tables) (h : Holds old.now t) where
  abbrev held : IsHeld token_layout old.now t.tokens
  held = tokens_held old.now t h

  abbrev reach : IsHeld bound_layout old.now t.bounds
  reach = bounds_held old.now t h

  abbrev here : ℕ
  here = tree_of old.now.schema token_table.name

  abbrev there : ℕ
  there = tree_of old.now.schema bound_table.name

  module _ (org digest : List ℕ) where
    answer : (rows : List Row) → Shown FIND_TOKEN.now (Text org ∷ Blob digest ∷ []) old new rows → IsAnswer (matching find_token_rest here (left there of_token end)) (overlay old.now.trees []) (Text org ∷ Blob digest ∷ []) rows
    answer rows shown =
        let m = find_token_means old.now.schema _ _ held.own.place _ _ reach.own.place in
        (reads_as FIND_TOKEN.now (Text org ∷ Blob digest ∷ []) old new old.now.schema refl _ m.0 m.1 m.2 rows shown).answer Null

    pub find_token_none : Shown FIND_TOKEN.now (Text org ∷ Blob digest ∷ []) old new [] → IsBoundedRoleOf org digest None t
    find_token_none shown =
        let none = none_is token_cells bound_cells (overlay old.now.trees []) here t.tokens (stored_tree old.now.trees here held.own.place.low ∙ held.rows) there t.bounds (stored_tree old.now.trees there reach.own.place.low ∙ reach.rows)
        find_token_rest (Text org ∷ Blob digest ∷ []) of_token (is_digest_of org digest) (λ x r. text_blob x.1.org org x.1.it.digest digest) (λ x. is_bound org x.1.name) (λ x y. two_texts y.1.org org y.1.name x.1.name)
        (λ l. refl) (answer [] shown) in
        (ap (option_map named_role) (sym none), tt)

    pub find_token_one : (row : Row) (b : BoundedRole) → Shown FIND_TOKEN.now (Text org ∷ Blob digest ∷ []) old new (row ∷ []) → IsBoundedRole row b → IsBoundedRoleOf org digest (Some b) t
    find_token_one row b shown is =
        let one = one_is token_cells bound_cells (overlay old.now.trees []) here t.tokens (stored_tree old.now.trees here held.own.place.low ∙ held.rows) there t.bounds (stored_tree old.now.trees there reach.own.place.low ∙ reach.rows)
        find_token_rest (Text org ∷ Blob digest ∷ []) of_token (is_digest_of org digest) (λ x r. text_blob x.1.org org x.1.it.digest digest) (λ x. is_bound org x.1.name) (λ x y. two_texts y.1.org org y.1.name x.1.name)
        (λ l. refl) row (answer (row ∷ []) shown) in
        let reported = bounded_read one.0.1.name one.0.1.it.role (find (is_bound org one.0.1.name) t.bounds) b (subst (λ r. IsBoundedRole r b) one.2 is) in
        (ap Some reported.0 ∙ ap (option_map named_role) (sym one.1), ap (λ (n : List ℕ). bound_of org n t) (λ i. (reported.0 i).name) ∙ reported.1)

  -- the row of bound that LEFT JOIN finds for a token, or none
  abbrev found_row : List ℕ → Kept TokenRow → Env
  found_row org x = row_or (stored bound_cells) (find (is_bound org x.1.name) t.bounds) ∷ []

  bound_joined : (org : List ℕ) → BoundedTokensApart t → Ends (overlay old.now.trees []) (λ (x : Kept TokenRow). (Text org ∷ []) ∷ stored token_cells x ∷ []) (left there of_token end) (found_row org)
  bound_joined org apart terms x =
      left_is (stored bound_cells) (is_bound org x.1.name) (overlay old.now.trees []) there t.bounds (stored_tree old.now.trees there reach.own.place.low ∙ reach.rows) of_token ((Text org ∷ []) ∷ stored token_cells x ∷ [])
      (λ y. two_texts y.1.org org y.1.name x.1.name) (ascending_weaker _ _ (λ a b. one_named org x.1.name a b) t.bounds apart.bounds) terms end

  row_read : (org : List ℕ) (x : Kept TokenRow) (b : BoundedRole)
      → IsBoundedRole (Text x.1.name ∷ number (role_code x.1.it.role) ∷ column (row_or (stored bound_cells) (find (is_bound org x.1.name) t.bounds)) 3 ∷ column (row_or (stored bound_cells) (find (is_bound org x.1.name) t.bounds)) 4 ∷ []) b
      → b ≡ bounded_row org t (x.1.name, x.1.it.role)
  row_read org x b reported =
      let read = bounded_read x.1.name x.1.it.role (find (is_bound org x.1.name) t.bounds) b reported in
      λ i. record { token = read.0 i; bounds = unwrap_or (sym read.1 i) no_bounds }

  pub list_tokens_shows : (org : List ℕ) (rows : List Row) (roles : List BoundedRole) → BoundedTokensApart t → Shown LIST_TOKENS.now (Text org ∷ []) old new rows → AllZip IsBoundedRole rows roles → roles ≡ bounded_tokens_of org t
  list_tokens_shows org rows roles apart shown read =
      own_names token_cells token_table old new held.own t.tokens held.rows LIST_TOKENS.now (Text org ∷ []) list_tokens_rest 2 find_token_names (left there of_token end) (found_row org) (bound_joined org apart)
      IsBoundedRole (λ x. x.1.name) (λ x. x.1.it.role) (bounded_row org t) (row_read org)
      (λ x y. by_text x.1.name y.1.name) (list_tokens_means old.now.schema _ _ held.own.place _ _ reach.own.place) (λ l. refl) (is_token_of org) (λ x. one_text x.1.org org) (tokens_apart org t.tokens apart.tokens) rows roles shown read
