-- The bounds of a new token, from words.
use Rattle.std.specs.Prelude.{ℕ, List, [], ◌∷◌, Option, Some, None, cond, option_map, option_and_then, nat_eq, codes, length, drop}
use Rattle.std.specs.List.{starts_with}
use Rattle.basis.specs.Names.{is_prefix}
use Rattle.basis.specs.Numbers.{whole_of, within}
use Rattle.basis.specs.declared.roles.Bounds.{Bounds}

-- reads a time in seconds since 1970
abbrev pub moment_of : List ℕ → Option ℕ
moment_of word = option_and_then (within 0 253_402_300_799) (whole_of word)

-- reads a prefix: the word itself; the empty one admits every workspace
abbrev pub prefix_of : List ℕ → Option (List ℕ)
prefix_of word = cond (is_prefix word) (Some word) None

-- an optional expiry, and a prefix
abbrev pub bounds : Option ℕ → List ℕ → Bounds
bounds until prefix = record { until = until; prefix = prefix }

-- no expiry, and every workspace
abbrev pub no_bounds : Bounds
no_bounds = bounds None []

-- what follows a mark, in a word that begins with it
abbrev pub behind : List ℕ → List ℕ → Option (List ℕ)
behind mark word = cond (starts_with nat_eq word mark) (Some (drop (length mark) word)) None

-- `until=SECONDS`
abbrev pub until_word : List ℕ → Option ℕ
until_word word = option_and_then moment_of (behind (codes "until=") word)

-- `prefix=TEXT`
abbrev pub prefix_word : List ℕ → Option (List ℕ)
prefix_word word = option_and_then prefix_of (behind (codes "prefix=") word)

-- an expiry alone, or a prefix alone
abbrev pub either_bound : Option ℕ → Option (List ℕ) → Option Bounds
either_bound (Some until) prefix = Some (bounds (Some until) [])
either_bound None prefix = option_map (λ p. bounds None p) prefix

-- an expiry and a prefix
abbrev pub both_bounds : Option ℕ → Option (List ℕ) → Option Bounds
both_bounds until prefix = option_and_then (λ u. option_map (λ p. bounds (Some u) p) prefix) until

-- the words after a secret: `until=SECONDS` and `prefix=TEXT`, in this order, each optional
abbrev pub bounds_of : List (List ℕ) → Option Bounds
bounds_of [] = Some no_bounds
bounds_of (word ∷ []) = either_bound (until_word word) (prefix_word word)
bounds_of (first ∷ second ∷ []) = both_bounds (until_word first) (prefix_word second)
bounds_of words = None
