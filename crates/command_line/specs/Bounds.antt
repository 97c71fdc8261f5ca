-- The bounds of a new token, from the values of two arguments.
use Rattle.std.specs.Prelude.{ℕ, List, [], Option, Some, None, option_map, option_and_then}
use Rattle.basis.specs.declared.roles.Bounds.{Bounds}
use Rattle.serve.specs.Bounds.{moment_of, prefix_of, bounds}

-- the expiry, if one is given
abbrev pub until_given : Option (List ℕ) → Option (Option ℕ)
until_given None = Some None
until_given (Some word) = option_map Some (moment_of word)

-- the prefix, or the empty one if none is given
abbrev pub prefix_given : Option (List ℕ) → Option (List ℕ)
prefix_given None = Some []
prefix_given (Some word) = prefix_of word

-- the bounds from the values of two arguments, each optional
abbrev pub bounds_given : Option (List ℕ) → Option (List ℕ) → Option Bounds
bounds_given until prefix = option_and_then (λ u. option_map (λ p. bounds u p) (prefix_given prefix)) (until_given until)
