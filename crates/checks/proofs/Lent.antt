-- What references refer to.
use Rattle.checks.proofs.Outside.{◌≡◌, Bool, List, map, filter, find, length, Option, Some, None, option_map, slice_get, refl, sym, ap, ◌∙◌, Bor, list_all, length-map, slice_get-map, list_all-map, map-map, filter-map, slice_get-filter}
use Rattle.checks.specs.Inner.Groups.{lent}

pub find_mapped : {X Y : Type 0} (f : X → Y) (p : Y → Bool) (xs : List X) → find p (map f xs) ≡ option_map f (find (λ x. p (f x)) xs)
find_mapped f p xs =
    sym (slice_get-filter p (map f xs)) ∙ ap (λ l. slice_get l 0) (filter-map p f xs) ∙ slice_get-map f (filter (λ x. p (f x)) xs) 0 ∙ ap (option_map f) (slice_get-filter (λ x. p (f x)) xs)

module _ {X : Type 0} where
  pub all_lent : (test : X → Bool) (refs : List (Bor X)) → list_all test (lent refs) ≡ list_all (λ r. test r.now) refs
  all_lent test refs = list_all-map test (λ r. r.now) refs

  pub each_lent : {Y : Type 0} (f : X → Y) (refs : List (Bor X)) → map f (lent refs) ≡ map (λ r. f r.now) refs
  each_lent f refs = map-map f (λ r. r.now) refs

  pub count_lent : (test : X → Bool) (refs : List (Bor X)) → length (filter test (lent refs)) ≡ length (filter (λ r. test r.now) refs)
  count_lent test refs = ap length (filter-map test (λ r. r.now) refs) ∙ length-map (filter (λ r. test r.now) refs) (λ r. r.now)

  pub found_lent : {Y : Type 0} (test : X → Bool) (f : X → Y) (refs : List (Bor X)) → option_map f (find test (lent refs)) ≡ option_map (λ r. f r.now) (find (λ r. test r.now) refs)
  found_lent {Y} test f refs = ap (option_map f) (find_mapped (λ r. r.now) test refs) ∙ go (find (λ r. test r.now) refs)
    where
      go : (o : Option (Bor X)) → option_map f (option_map (λ r. r.now) o) ≡ option_map (λ r. f r.now) o
      go None = refl
      go (Some r) = refl
