-- The keys of a text's pages that are computed before they are needed.
use Rattle.std.specs.Prelude.{◌≡◌, ◌<◌, ◌+◌, ◌-◌, ◌&&◌, ℕ, nat_le, nat_lt, Bool, List, [], IsTrue, slice_index_or}
use Rattle.texts.specs.declared.ahead.Ahead.{Ahead}
use Rattle.texts.specs.Texts.{piece_at}

-- if keys have been computed, they are those of the text's pages from their place on
pub record AreKeysOf (key_of : List ℕ → List ℕ) (text : List ℕ) (ahead : Ahead) : Type 0 where
  pub each : IsTrue ahead.is_made → (i : ℕ) → i < 4 → slice_index_or ahead.keys i [] ≡ key_of (piece_at text (ahead.from + i))

-- whether the key of the page at a place has been computed
abbrev pub has_key : Ahead → ℕ → Bool
has_key ahead place = ahead.is_made && nat_le ahead.from place && nat_lt (place - ahead.from) 4
