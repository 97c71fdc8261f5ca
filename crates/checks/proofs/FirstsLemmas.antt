-- Maps from keys of rows.
use Rattle.std.proofs.Common.{◌≡◌, ◌∙◌, ℕ, Bool, true, false, cond, List, [], Some, None, refl, sym, ap, eqb-true, ◌+◌, arith}
use Rattle.std.specs.Prelude.{◌&&◌, ◌==◌, Option, is_some, unwrap_or}
use Rattle.checks.proofs.Outside.{option_or, bytes_eq, BTreeMap, get, is_at, unsigned_ties, is_eq-slice_cmp, bytes_eq-Decides, and_parts}
use Rattle.std.specs.declared.cmp.Ordering.{Ordering}
use Rattle.std.specs.declared.cmp.Ordering.TheVariants.{Less, Equal, Greater}
use Rattle.std.specs.Ordering.{ordering_then, is_eq}
use Rattle.std.specs.Map.{lookup}
use Rattle.checks.specs.declared.keys.RowKey.{RowKey}
use Rattle.checks.specs.Inner.Keys.{is_key}
use Rattle.checks.specs.Inner.Firsts.{key_cmp, key_of_parts, value_at, KeepsFirst, AddsOne, IsKeyOf}

both_equal : (a b : Ordering) (p q : Bool) → is_eq a ≡ p → is_eq b ≡ q → is_eq (ordering_then a b) ≡ (p && q)
both_equal Less b p q is also = ap (λ (x : Bool). x && q) is
both_equal Equal b p q is also = also ∙ ap (λ (x : Bool). x && q) is
both_equal Greater b p q is also = ap (λ (x : Bool). x && q) is

-- keys that compare alike have the same parts
pub is_at_parts : (f s : List ℕ) (n p : ℕ) (k : RowKey) → is_eq (key_cmp k (key_of_parts f s n p)) ≡ is_key f s n p k
is_at_parts f s n p k =
    both_equal _ _ _ _ (sym (unsigned_ties k.place p)) (both_equal _ _ _ _ (sym (unsigned_ties k.number n)) (both_equal _ _ _ _ (is_eq-slice_cmp k.first.now f) (is_eq-slice_cmp k.second.now s)))

module _ {V : Type 0} where
  -- where a key has these parts, the map has at them what it has at the key
  pub same_place : (f s : List ℕ) (n p : ℕ) (k : RowKey) (m : BTreeMap RowKey V) → is_key f s n p k ≡ true → value_at f s n p m ≡ get key_cmp m k
  same_place f s n p k m has =
      let one = and_parts (k.place == p) _ has in
      let two = and_parts (k.number == n) _ one.1 in
      let three = and_parts (bytes_eq k.first.now f) (bytes_eq k.second.now s) two.1 in
      let first : f ≡ k.first.now = sym ((bytes_eq-Decides k.first.now f).0 three.0) in
      let second : s ≡ k.second.now = sym ((bytes_eq-Decides k.second.now s).0 three.1) in
      let number : n ≡ k.number = sym (eqb-true k.number n two.0) in
      let place : p ≡ k.place = sym (eqb-true k.place p one.0) in
      ap (λ (x : List ℕ). value_at x s n p m) first ∙ ap (λ (x : List ℕ). value_at k.first.now x n p m) second ∙ ap (λ (x : ℕ). value_at k.first.now k.second.now x p m) number ∙ ap (λ (x : ℕ). value_at k.first.now k.second.now k.number x m) place

  kept_by : (b : Bool) (o : Option V) (v : V) → (b ≡ true → o ≡ None) → cond b (Some v) o ≡ option_or o (cond b (Some v) None)
  kept_by true o v absent = rw absent refl
  kept_by false None v absent = refl
  kept_by false (Some x) v absent = refl

  -- a value that is put where there was none
  pub keeps_new : (key : RowKey) (value : V) (old new : BTreeMap RowKey V) → get key_cmp old key ≡ None → ((q : RowKey) → get key_cmp new q ≡ cond (is_eq (key_cmp key q)) (Some value) (get key_cmp old q)) → KeepsFirst key value old new
  keeps_new key value old new absent updates f s n p =
      updates (key_of_parts f s n p)
      ∙ ap (λ (b : Bool). cond b (Some value) (value_at f s n p old)) (is_at_parts f s n p key)
      ∙ kept_by (is_key f s n p key) (value_at f s n p old) value (λ has. same_place f s n p key old has ∙ absent)

  kept_as : (b : Bool) (o : Option V) (v : V) → (b ≡ true → is_some o ≡ true) → o ≡ option_or o (cond b (Some v) None)
  kept_as b (Some x) v there = refl
  kept_as true None v there = cc (there refl)
  kept_as false None v there = refl

  -- a key that has a value keeps it
  pub keeps_old : (key : RowKey) (value : V) (old : BTreeMap RowKey V) → is_some (get key_cmp old key) ≡ true → KeepsFirst key value old old
  keeps_old key value old there f s n p = kept_as (is_key f s n p key) (value_at f s n p old) value (λ has. ap is_some (same_place f s n p key old has) ∙ there)

  -- what the map has at a key is what it has at the key's parts
  pub at_key : (f s : List ℕ) (n p : ℕ) (k : RowKey) (m : BTreeMap RowKey V) → IsKeyOf k f s n p → value_at f s n p m ≡ get key_cmp m k
  at_key f s n p k m h =
      sym (ap (λ (x : List ℕ). value_at x k.second.now k.number k.place m) h.its_first ∙ ap (λ (x : List ℕ). value_at f x k.number k.place m) h.its_second ∙ ap (λ (x : ℕ). value_at f s x k.place m) h.its_number ∙ ap (λ (x : ℕ). value_at f s n x m) h.its_place)

  -- an empty map has nothing
  pub empty_at : (f s : List ℕ) (n p : ℕ) (m : BTreeMap RowKey V) → m.entries ≡ [] → value_at f s n p m ≡ None
  empty_at f s n p m empty = ap (lookup (is_at (key_cmp (key_of_parts f s n p)))) empty

one_more : (b : Bool) (o : Option ℕ) (count : ℕ) → (b ≡ true → count ≡ unwrap_or o 0) → unwrap_or (cond b (Some (count + 1)) o) 0 ≡ unwrap_or o 0 + cond b 1 0
one_more true o count is = ap (λ (n : ℕ). n + 1) (is refl)
one_more false o count is = omega arith

-- the number at a key is put again, one more
pub adds_one : (key : RowKey) (count : ℕ) (old new : BTreeMap RowKey ℕ) → count ≡ unwrap_or (get key_cmp old key) 0 → ((q : RowKey) → get key_cmp new q ≡ cond (is_eq (key_cmp key q)) (Some (count + 1)) (get key_cmp old q)) → AddsOne key old new
adds_one key count old new is updates f s n p =
    ap (λ (o : Option ℕ). unwrap_or o 0) (updates (key_of_parts f s n p) ∙ ap (λ (b : Bool). cond b (Some (count + 1)) (value_at f s n p old)) (is_at_parts f s n p key))
    ∙ one_more (is_key f s n p key) (value_at f s n p old) count (λ has. is ∙ sym (ap (λ (o : Option ℕ). unwrap_or o 0) (same_place f s n p key old has)))
