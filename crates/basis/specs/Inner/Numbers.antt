-- The first bytes of a whole number, before its digits are read.
use Rattle.std.specs.Prelude.{ℕ, List, length, Bool, not, ◌&&◌, ◌||◌, ◌==◌, slice_index}

-- neither a plus (43) nor a zero (48) before another byte stands first
abbrev pub begins_plainly : List ℕ → Bool
begins_plainly text = not (slice_index text 0 == 43) && (not (slice_index text 0 == 48) || length text == 1)
