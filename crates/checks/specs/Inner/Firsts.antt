-- Maps from keys of rows, read by what tells the rows apart.
use Rattle.std.specs.Prelude.{◌≡◌, ℕ, List, ◌+◌, Option, Some, None, cond, unwrap_or}
use Rattle.std.specs.Option.{option_or}
use Rattle.std.specs.declared.cmp.Ordering.{Ordering}
use Rattle.std.specs.Ordering.{ordering_then, nat_cmp}
use Rattle.std.specs.Cmp.Lexicographic.{slice_cmp}
use Rattle.std.specs.BTreeMap.{BTreeMap, get}
use Rattle.checks.specs.declared.keys.RowKey.{RowKey}
use Rattle.checks.specs.Inner.Keys.{is_key}

-- by the place, the number, the first bytes and the second
abbrev pub key_cmp : RowKey → RowKey → Ordering
key_cmp a b = ordering_then (nat_cmp a.place b.place) (ordering_then (nat_cmp a.number b.number) (ordering_then (slice_cmp nat_cmp a.first.now b.first.now) (slice_cmp nat_cmp a.second.now b.second.now)))

-- a key of these parts
abbrev pub key_of_parts : List ℕ → List ℕ → ℕ → ℕ → RowKey
key_of_parts first second number place = record { place = place; number = number; first = record { ref_ptr = (0, 0); now = first }; second = record { ref_ptr = (0, 0); now = second } }

-- what the map has at the key of these parts
abbrev pub value_at : {V : Type 0} → List ℕ → List ℕ → ℕ → ℕ → BTreeMap RowKey V → Option V
value_at first second number place m = get key_cmp m (key_of_parts first second number place)

-- the map has this value at the key, if it had none there; at every other key it has what it had
abbrev pub KeepsFirst : {V : Type 0} → RowKey → V → BTreeMap RowKey V → BTreeMap RowKey V → Type 0
KeepsFirst key value old new = (first second : List ℕ) (number place : ℕ) →
    value_at first second number place new ≡ option_or (value_at first second number place old) (cond (is_key first second number place key) (Some value) None)

-- the parts of a key
pub record IsKeyOf (key : RowKey) (first second : List ℕ) (number place : ℕ) : Type 0 where
  pub its_first : key.first.now ≡ first
  pub its_second : key.second.now ≡ second
  pub its_number : key.number ≡ number
  pub its_place : key.place ≡ place

-- the number at the key is one more, and at every other key as it was; a key that isn't there has 0
abbrev pub AddsOne : RowKey → BTreeMap RowKey ℕ → BTreeMap RowKey ℕ → Type 0
AddsOne key old new = (first second : List ℕ) (number place : ℕ) →
    unwrap_or (value_at first second number place new) 0 ≡ unwrap_or (value_at first second number place old) 0 + cond (is_key first second number place key) 1 0
