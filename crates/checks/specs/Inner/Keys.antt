-- Keys of rows, and sets of them.
use Rattle.std.specs.Prelude.{ℕ, Bool, ◌&&◌, ◌==◌, List}
use Rattle.std.specs.Str.{bytes_eq}
use Rattle.std.specs.List.{list_any}
use Rattle.checks.specs.declared.keys.RowKey.{RowKey}
use Rattle.checks.specs.declared.keys.Keys.{Keys}

-- the key of these columns
abbrev pub is_key : List ℕ → List ℕ → ℕ → ℕ → RowKey → Bool
is_key first second number place k = k.place == place && (k.number == number && (bytes_eq k.first.now first && bytes_eq k.second.now second))

-- whether the set has that key
abbrev pub has_key : Keys → List ℕ → List ℕ → ℕ → ℕ → Bool
has_key keys first second number place = list_any (is_key first second number place) keys.keys.keys
