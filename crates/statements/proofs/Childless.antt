-- A token that goes takes no row of bound along, where none is of its name; nor does a workspace a row of keeping.
use Rattle.statements.proofs.Outside.{◌≡◌, ◌≢◌, inr, ℕ, ◌<ℤ◌, Bool, true, false, cond, ◌&&◌, List, [], ◌∷◌, map, filter, Some, option_and_then, unwrap_or, Ok, refl, sym, ap, ◌∙◌, subst, arith, is_eq, IsPermutation, AllByRecursion, list_all, list_any, bytes_eq, and_parts, tied_itself, int_cmp_total, All-from_recursion, recursion_from_All, All-permutation, and-false, Text, Order, plain, Row, value_cmp-Int, has_rowid, holds, overlay, Enforced, Reference, Schema, Delete, agree, ParentKey, parent_key, key_in, key_places, declared_order, pairs, loses, ids_of, Given, row_at, edit_of, all_has, everything, State, Executes, IsKeyedBy, Less-from_lt, map-map, all_both, all_weaker, equal_bytes}
use Rattle.statements.specs.Place.{at_of, tree_of, IsPassive, IsOwn}
use Rattle.statements.specs.Schema.{token_table, ws_table, bound_table, retention_table, to_token, to_ws}
use Rattle.statements.specs.Rows.{Kept, id_of, stored, TokenRow, WsRow, BoundRow, RetentionRow, token_cells, ws_cells, bound_cells, retention_cells}
use Rattle.statements.specs.Tables.{Layout, Tables, Holds, our_tables, token_layout, ws_layout, bound_layout, retention_layout}
use Rattle.statements.specs.Changes.{is_token, is_bound, HasNoBound, is_ws, is_retention, HasNoRetention}
use Rattle.statements.specs.declared.tokens.TheConstants.{REMOVE_TOKEN}
use Rattle.statements.specs.declared.workspaces.TheConstants.{REMOVE_WS}
use Rattle.statements.proofs.Lead.{GoesTo, IsIdle, HasNoChildren, follower_keeps}
use Rattle.statements.proofs.Follows.{Follows, bound_follows, retention_follows, there, named_first}
use Rattle.statements.proofs.Held.{IsHeld, tokens_held, wss_held, bounds_held, retentions_held, trees_apart}
use Rattle.statements.proofs.Own.{stored_tree}
use Rattle.statements.proofs.Writes.{deletes, plain_program}
use Rattle.statements.proofs.Edits.{all_shown}
use Rattle.statements.proofs.Conditions.{two_texts}
use Rattle.statements.proofs.Commands.{is_at, delete_query}
use Rattle.statements.proofs.Meaning.{Means}
use Rattle.statements.proofs.TokenTexts.{remove_token_means}
use Rattle.statements.proofs.WsTexts.{remove_ws_means}

-- ---- the rows that go are those that the statement names

module _ {R : Type 0} (cells : R → Row) where
  has_own : (x : Kept R) → has_rowid (id_of x) (stored cells x) ≡ true
  has_own x = ap is_eq (value_cmp-Int (id_of x) (id_of x) ∙ tied_itself int_cmp_total (id_of x))

  lacks : (x z : Kept R) → id_of x <ℤ id_of z → has_rowid (id_of z) (stored cells x) ≡ false
  lacks x z low = ap is_eq (value_cmp-Int (id_of x) (id_of z) ∙ Less-from_lt (id_of x) (id_of z) low)

  at_own : (xs : List (Kept R)) → IsKeyedBy id_of xs → AllByRecursion (λ z. row_at (map (stored cells) xs) (id_of z) ≡ stored cells z) xs
  at_own [] up = tt
  at_own (x ∷ xs) up = (
    rw (has_own x) refl,
    all_both (λ z. id_of x <ℤ id_of z) (λ z. row_at (map (stored cells) xs) (id_of z) ≡ stored cells z) (λ z. row_at (map (stored cells) (x ∷ xs)) (id_of z) ≡ stored cells z)
        (λ z low more. rw (lacks x z low) more) xs up.0 (at_own xs up.1),
  )

  -- so it is of those that pass a test, in any order
  taken_are : (xs ys : List (Kept R)) (p : Kept R → Bool) → IsKeyedBy id_of xs → IsPermutation (filter p xs) ys → AllByRecursion (λ z. (row_at (map (stored cells) xs) (id_of z) ≡ stored cells z) × (p z ≡ true)) ys
  taken_are xs ys p up same =
      recursion_from_All _ ys (All-permutation (λ z. (row_at (map (stored cells) xs) (id_of z) ≡ stored cells z) × (p z ≡ true)) (filter p xs) ys same (All-from_recursion _ (filter p xs) (passing xs (at_own xs up))))
    where
      passing : (zs : List (Kept R)) → AllByRecursion (λ z. row_at (map (stored cells) xs) (id_of z) ≡ stored cells z) zs → AllByRecursion (λ z. (row_at (map (stored cells) xs) (id_of z) ≡ stored cells z) × (p z ≡ true)) (filter p zs)
      passing [] h = tt
      passing (z ∷ zs) h = go (p z) refl (passing zs h.1)
        where
          go : (b : Bool) → p z ≡ b → AllByRecursion (λ z. (row_at (map (stored cells) xs) (id_of z) ≡ stored cells z) × (p z ≡ true)) (filter p zs)
              → AllByRecursion (λ z. (row_at (map (stored cells) xs) (id_of z) ≡ stored cells z) × (p z ≡ true)) (cond b (z ∷ filter p zs) (filter p zs))
          go true e more = ((h.0, e), more)
          go false e more = more

none_any : {A : Type 0} (f : Row × Row → Bool) (row : A → Row) (zs : List A) → AllByRecursion (λ z. f (row z, []) ≡ false) zs → list_any f (pairs (map row zs) []) ≡ false
none_any f row [] h = refl
none_any f row (z ∷ zs) h = rw h.0 (none_any f row zs h.1)

-- ---- a row and one that follows it agree by their names

-- of two pairs of names the one is this one, and the other isn't
apart_by : (org name o n a b : List ℕ) → (bytes_eq o org && bytes_eq n name) ≡ false → (bytes_eq a org && bytes_eq b name) ≡ true → (bytes_eq o a && bytes_eq n b) ≡ false
apart_by org name o n a b none mine =
    let parts = and_parts (bytes_eq a org) (bytes_eq b name) mine in
    ap (λ x. bytes_eq o x && bytes_eq n b) (equal_bytes a org parts.0) ∙ ap (λ x. bytes_eq o org && bytes_eq n x) (equal_bytes b name parts.1) ∙ none

module _ {R C : Type 0} (parent : Layout R) (child : Layout C) (ref : Reference) (order : Order) (org name : List ℕ) (is_parent : Kept R → Bool) (is_child : Kept C → Bool)
    (disagree : (b : Kept C) (z : Kept R) → is_child b ≡ false → is_parent z ≡ true → agree order ref.columns (stored child.cells b) (1 ∷ 2 ∷ []) (stored parent.cells z) ≡ false)
    (tests : (x : Kept R) → list_all (holds ((Text org ∷ Text name ∷ []) ∷ stored parent.cells x ∷ [])) (is_at 1 0 ∷ is_at 2 1 ∷ []) ≡ is_parent x) where
  -- such a row agrees with none that goes
  abbrev IsStranger : Row → Type 0
  IsStranger r = (z : Kept R) → is_parent z ≡ true → agree order ref.columns r (1 ∷ 2 ∷ []) (stored parent.cells z) ≡ false

  strangers : (bs : List (Kept C)) → AllByRecursion (λ b. is_child b ≡ false) bs → AllByRecursion IsStranger (map (stored child.cells) bs)
  strangers [] h = tt
  strangers (b ∷ bs) h = ((λ z mine. disagree b z h.0 mine), strangers bs h.1)

  module _ (old new : State) (xs : List (Kept R)) (ours : IsHeld parent old.now xs) (ys : List (Kept C)) (theirs : IsHeld child old.now ys) (follows : Follows old.now.schema parent.table child.table)
      (one : child.table.references ≡ ref ∷ []) (apart : tree_of old.now.schema child.table.name ≢ tree_of old.now.schema parent.table.name)
      (key_is : parent_key old.now.schema.tables ref ≡ Some (tree_of old.now.schema parent.table.name, 1 ∷ 2 ∷ [], order)) where
    abbrev s : Schema
    s = old.now.schema

    abbrev here : ℕ
    here = tree_of s parent.table.name

    abbrev their_rows : List Row
    their_rows = map (stored child.cells) ys

    known : (key : ParentKey) → parent_key s.tables ref ≡ Some key → (here, 1 ∷ 2 ∷ [], order) ≡ key
    known key reported = let e = sym key_is ∙ reported in cc

    childless_at : (moves : List (Row × Row)) (key : ParentKey) → (here, 1 ∷ 2 ∷ [], order) ≡ key → HasNoChildren their_rows moves ref (here, 1 ∷ 2 ∷ [], order) → HasNoChildren their_rows moves ref key
    childless_at moves key is h = subst (λ k. HasNoChildren their_rows moves ref k) is h

    goes_alone : (text : List ℕ) (count : ℕ) → AllByRecursion (λ b. is_child b ≡ false) ys → Means s (Delete (at_of s parent.table.name) (plain_program (delete_query here (is_at 1 0 ∷ is_at 2 1 ∷ [])))) text
        → Executes text (Text org ∷ Text name ∷ []) old new (Ok count) → new.now.trees (tree_of s child.table.name) ≡ old.now.trees (tree_of s child.table.name)
    goes_alone text count none means ran =
        let made = deletes old new text (Text org ∷ Text name ∷ []) (at_of s parent.table.name) (record parent.table { tree = here }) ours.own.place.found (delete_query here (is_at 1 0 ∷ is_at 2 1 ∷ [])) means count ran in
        let some = all_shown parent.cells (overlay old.now.trees []) here xs (stored_tree old.now.trees here ours.own.place.low ∙ ours.rows) ours.keyed (delete_query here (is_at 1 0 ∷ is_at 2 1 ∷ [])) refl refl refl
        (Text org ∷ Text name ∷ []) is_parent tests (λ rows. refl) made.0 made.1 in
        let taken = taken_are parent.cells xs some.0 is_parent ours.keyed some.1 in
        let gone : ids_of made.0 ≡ map id_of some.0 = ap ids_of some.2 ∙ map-map _ _ some.0 in
        let moves = pairs (map (row_at (old.now.trees here)) (ids_of made.0)) [] in
        let childless : HasNoChildren their_rows moves ref (here, 1 ∷ 2 ∷ [], order) = λ r has.
        let stranger = all_has IsStranger their_rows r (strangers ys none) has in
        let f = λ (move : Row × Row). loses order (1 ∷ 2 ∷ []) move && agree order ref.columns r (1 ∷ 2 ∷ []) move.0 in
        ap (λ l. list_any f (pairs (map (row_at (old.now.trees here)) l) [])) gone ∙ ap (λ l. list_any f (pairs l [])) (map-map (row_at (old.now.trees here)) id_of some.0)
        ∙ none_any f (λ z. row_at (old.now.trees here) (id_of z)) some.0
        (all_weaker (λ z. (row_at (map (stored parent.cells) xs) (id_of z) ≡ stored parent.cells z) × (is_parent z ≡ true)) (λ z. f (row_at (old.now.trees here) (id_of z), []) ≡ false)
        (λ z it.
        let row : row_at (old.now.trees here) (id_of z) ≡ stored parent.cells z = ap (λ l. row_at l (id_of z)) ours.rows ∙ it.0 in
        ap (λ a. loses order (1 ∷ 2 ∷ []) (row_at (old.now.trees here) (id_of z), []) && a) (ap (λ l. agree order ref.columns r (1 ∷ 2 ∷ []) l) row ∙ stranger z it.1) ∙ and-false _) some.0 taken) in
        let idle : IsIdle s their_rows here true moves ref = inr (λ key reported. inr (childless_at moves key (known key reported) childless)) in
        follower_keeps s Enforced (tree_of s child.table.name) here their_rows child.table (at_of s child.table.name) theirs.own.place.found (there (GoesTo s here) s child.table theirs.own follows.goes)
        (there IsPassive s parent.table ours.own follows.passive) old.now.trees new.now.trees (edit_of old.now.trees (record parent.table { tree = here }) (ids_of made.0) Given 0 []) theirs.rows apart
        (there (IsIdle s their_rows here true moves) s child.table theirs.own (subst (AllByRecursion (IsIdle s their_rows here true moves)) (sym one) (idle, tt))) made.2 ∙ sym theirs.rows

-- ---- a token and a row of bound

abbrev token_order : Order
token_order = unwrap_or (declared_order token_table (1 ∷ 2 ∷ [])) plain

token_places : (tree : ℕ) → option_and_then (key_in (record token_table { tree = tree })) (key_places (record token_table { tree = tree }) to_token.parent_columns) ≡ Some (tree, 1 ∷ 2 ∷ [], token_order)
unfolding everything
token_places tree = refl

token_key : (s : Schema) → IsOwn s token_table → parent_key s.tables to_token ≡ Some (tree_of s token_table.name, 1 ∷ 2 ∷ [], token_order)
token_key s own = ap (option_and_then (λ t. option_and_then (key_in t) (key_places t to_token.parent_columns))) (named_first s token_table own) ∙ token_places (tree_of s token_table.name)

bound_agrees : (b : Kept BoundRow) (z : Kept TokenRow) → agree token_order to_token.columns (stored bound_cells b) (1 ∷ 2 ∷ []) (stored token_cells z) ≡ (bytes_eq b.1.org z.1.org && bytes_eq b.1.name z.1.name)
unfolding everything
bound_agrees b z = two_texts b.1.org z.1.org b.1.name z.1.name

pub token_goes : (org name : List ℕ) (old new : State) (t : Tables) → Holds old.now t → (count : ℕ) → HasNoBound org name t → Executes REMOVE_TOKEN.now (Text org ∷ Text name ∷ []) old new (Ok count)
    → new.now.trees (tree_of old.now.schema bound_table.name) ≡ old.now.trees (tree_of old.now.schema bound_table.name)
token_goes org name old new t h count none ran =
    let tokens = tokens_held old.now t h in
    goes_alone token_layout bound_layout to_token token_order org name (is_token org name) (is_bound org name)
    (λ b z other mine. bound_agrees b z ∙ apart_by org name b.1.org b.1.name z.1.org z.1.name other mine) (λ x. two_texts x.1.org org x.1.name name)
    old new t.tokens tokens t.bounds (bounds_held old.now t h) (bound_follows old.now.schema tokens.own) refl
    (λ same. trees_apart old.now.schema our_tables 2 8 token_table bound_table refl refl (omega arith) h.ours.apart (sym same)) (token_key old.now.schema tokens.own)
    REMOVE_TOKEN.now count none (remove_token_means old.now.schema _ _ tokens.own.place) ran

-- ---- a workspace and a row of keeping

abbrev ws_order : Order
ws_order = unwrap_or (declared_order ws_table (1 ∷ 2 ∷ [])) plain

ws_places : (tree : ℕ) → option_and_then (key_in (record ws_table { tree = tree })) (key_places (record ws_table { tree = tree }) to_ws.parent_columns) ≡ Some (tree, 1 ∷ 2 ∷ [], ws_order)
unfolding everything
ws_places tree = refl

ws_key : (s : Schema) → IsOwn s ws_table → parent_key s.tables to_ws ≡ Some (tree_of s ws_table.name, 1 ∷ 2 ∷ [], ws_order)
ws_key s own = ap (option_and_then (λ t. option_and_then (key_in t) (key_places t to_ws.parent_columns))) (named_first s ws_table own) ∙ ws_places (tree_of s ws_table.name)

retention_agrees : (b : Kept RetentionRow) (z : Kept WsRow) → agree ws_order to_ws.columns (stored retention_cells b) (1 ∷ 2 ∷ []) (stored ws_cells z) ≡ (bytes_eq b.1.org z.1.org && bytes_eq b.1.name z.1.name)
unfolding everything
retention_agrees b z = two_texts b.1.org z.1.org b.1.name z.1.name

pub ws_goes : (org name : List ℕ) (old new : State) (t : Tables) → Holds old.now t → (count : ℕ) → HasNoRetention org name t → Executes REMOVE_WS.now (Text org ∷ Text name ∷ []) old new (Ok count)
    → new.now.trees (tree_of old.now.schema retention_table.name) ≡ old.now.trees (tree_of old.now.schema retention_table.name)
ws_goes org name old new t h count none ran =
    let wss = wss_held old.now t h in
    goes_alone ws_layout retention_layout to_ws ws_order org name (is_ws org name) (is_retention org name)
    (λ b z other mine. retention_agrees b z ∙ apart_by org name b.1.org b.1.name z.1.org z.1.name other mine) (λ x. two_texts x.1.org org x.1.name name)
    old new t.wss wss t.retentions (retentions_held old.now t h) (retention_follows old.now.schema wss.own) refl
    (λ same. trees_apart old.now.schema our_tables 3 10 ws_table retention_table refl refl (omega arith) h.ours.apart (sym same)) (ws_key old.now.schema wss.own)
    REMOVE_WS.now count none (remove_ws_means old.now.schema _ _ wss.own.place) ran
