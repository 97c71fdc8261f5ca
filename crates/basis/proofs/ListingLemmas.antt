-- A listing with one item more behind the others.
use Rattle.std.proofs.Common.{◌≡◌, ◌+◌, ◌<◌, ◌≤◌, nat_lt, true, List, [], ◌∷◌, ◌++◌, length, take, sym, ap, ◌∙◌, subst, arith}
use Rattle.std.proofs.lemmas.List.{take_all, take-append-le, length-append, length-take}
use Rattle.std.proofs.lemmas.Bool.{lt-ltb, le-ltb}
use Rattle.basis.specs.Listings.{listing_of}
use Rattle.basis.specs.declared.rows.Listing.{Listing}

few : {X : Type 0} (xs : List X) → length (take 50 xs) < 50 → length xs < 50
few xs h = omega (arith, h, length-take 50 xs)

many : {X : Type 0} (xs : List X) → 50 ≤ length (take 50 xs) → 50 ≤ length xs
many xs h = omega (arith, h, length-take 50 xs)

-- there is room for it
room : {X : Type 0} (xs : List X) (x : X) → length (take 50 xs) < 50 → record { items = take 50 xs ++ x ∷ []; more = nat_lt 50 (length xs) } ≡ listing_of (xs ++ x ∷ [])
room xs x h =
    let short : length xs < 50 = few xs h in
    let longer : length (xs ++ x ∷ []) ≡ length xs + 1 = length-append xs (x ∷ []) in
    let items : take 50 xs ++ x ∷ [] ≡ take 50 (xs ++ x ∷ []) = ap (λ l. l ++ x ∷ []) (take_all 50 xs (omega (arith, short))) ∙ sym (take_all 50 (xs ++ x ∷ []) (omega (arith, short, longer))) in
    let more : nat_lt 50 (length xs) ≡ nat_lt 50 (length (xs ++ x ∷ [])) = le-ltb 50 (length xs) (omega (arith, short)) ∙ sym (le-ltb 50 (length (xs ++ x ∷ [])) (omega (arith, short, longer))) in
    λ i. record { items = items i; more = more i }

-- there is none, so more follow
full : {X : Type 0} (xs : List X) (x : X) → 50 ≤ length (take 50 xs) → record { items = take 50 xs; more = true } ≡ listing_of (xs ++ x ∷ [])
full xs x h =
    let long : 50 ≤ length xs = many xs h in
    let longer : length (xs ++ x ∷ []) ≡ length xs + 1 = length-append xs (x ∷ []) in
    let items : take 50 xs ≡ take 50 (xs ++ x ∷ []) = sym (take-append-le 50 xs (x ∷ []) long) in
    let more : true ≡ nat_lt 50 (length (xs ++ x ∷ [])) = sym (lt-ltb 50 (length (xs ++ x ∷ [])) (omega (arith, long, longer))) in
    λ i. record { items = items i; more = more i }

module _ {X : Type 0} (xs : List X) (x : X) (old : Listing X) (e : old ≡ listing_of xs) (seen : List X) (sees : seen ≡ old.items) where
  pub room_offered : (items : List X) → items ≡ old.items ++ x ∷ [] → length seen < 50 → record { items = items; more = old.more } ≡ listing_of (xs ++ x ∷ [])
  room_offered items is h =
      let short : length old.items < 50 = subst (λ l. length l < 50) sees h in
      ap (λ (l : List X). record { items = l; more = old.more }) is
      ∙ subst (λ (l : Listing X). length l.items < 50 → record { items = l.items ++ x ∷ []; more = l.more } ≡ listing_of (xs ++ x ∷ [])) (sym e) (room xs x) short

  pub full_offered : 50 ≤ length seen → record { items = old.items; more = true } ≡ listing_of (xs ++ x ∷ [])
  full_offered h =
      let long : 50 ≤ length old.items = subst (λ l. 50 ≤ length l) sees h in
      subst (λ (l : Listing X). 50 ≤ length l.items → record { items = l.items; more = true } ≡ listing_of (xs ++ x ∷ [])) (sym e) (full xs x) long
