-- Listings: the first items of what there is to list, and whether more follow.
use Rattle.std.specs.Prelude.{ℕ, nat_lt, List, length, take}
use Rattle.basis.specs.declared.rows.Listing.{Listing}

-- the most items of a listing
abbrev pub max_items : ℕ
max_items = 50

abbrev pub listing_of : {X : Type 0} → List X → Listing X
listing_of xs = record { items = take max_items xs; more = nat_lt max_items (length xs) }
