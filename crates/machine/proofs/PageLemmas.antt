-- In a list that rises, what comes after an item is what stands behind it.
use Rattle.machine.proofs.Outside.{◌≡◌, ℕ, zero, suc, ◌<◌, nat_lt, Bool, true, false, T, ◌&&◌, cond, List, [], ◌∷◌, map, filter, drop, slice_get, Option, Some, None, refl, sym, ap, subst, ◌∙◌, arith, ⊤, AllByRecursion, is_lt, ordering_reverse, Ordering, Less, Equal, Greater, tied_itself, entries, entries_sorted, is_sorted, below_all, ltb-true, lt-ltb, le-ltb, admits}
use Rattle.machine.specs.Order.{name_cmp}
use Rattle.machine.specs.Laws.{Rises}
use Rattle.machine.specs.Showing.{comes_after}
use Rattle.machine.specs.Paging.{workspaces_from, WorkspacePagesFollow, VersionPagesFollow, RunPagesFollow}
use Rattle.machine.specs.declared.records.Organization.{Organization}
use Rattle.basis.specs.declared.rows.RunRow.{RunRow as Run}
use Rattle.machine.specs.declared.records.Version.{Version}
use Rattle.machine.specs.declared.records.Workspace.{Workspace}
use Rattle.machine.proofs.MapLemmas.{names_total, both_first, both_second}

module _ {X : Type 0} (lt : X → X → Bool) (never_back : (x y : X) → lt x y ≡ true → lt y x ≡ false) (never_itself : (x : X) → lt x x ≡ false) where
  -- each item is below all behind it
  abbrev pub Ascends : List X → Type 0
  Ascends [] = ⊤
  Ascends (x ∷ xs) = AllByRecursion (λ y. lt x y ≡ true) xs × Ascends xs

  all_above : (x : X) (xs : List X) → AllByRecursion (λ y. lt x y ≡ true) xs → filter (lt x) xs ≡ xs
  all_above x [] all = refl
  all_above x (y ∷ xs) all = rw all.0 (ap (λ rest. y ∷ rest) (all_above x xs all.1))

  one_above : (x : X) (xs : List X) (n : ℕ) (v : X) → AllByRecursion (λ y. lt x y ≡ true) xs → slice_get xs n ≡ Some v → lt x v ≡ true
  one_above x [] n v all e = absurd (let none : ⊥ = cc in none)
  one_above x (y ∷ xs) zero v all e = let same : y ≡ v = cc in subst (λ z. lt x z ≡ true) same all.0
  one_above x (y ∷ xs) (suc n) v all e = one_above x xs n v all.1 e

  behind_it : (xs : List X) (n : ℕ) (v : X) → Ascends xs → slice_get xs n ≡ Some v → filter (lt v) xs ≡ drop (suc n) xs
  behind_it [] n v ascends e = absurd (let none : ⊥ = cc in none)
  behind_it (x ∷ xs) zero v ascends e =
      let same : x ≡ v = cc in
      subst (λ z. filter (lt z) (x ∷ xs) ≡ xs) same (ap (λ b. cond b (x ∷ filter (lt x) xs) (filter (lt x) xs)) (never_itself x) ∙ all_above x xs ascends.0)
  behind_it (x ∷ xs) (suc n) v ascends e =
      ap (λ b. cond b (x ∷ filter (lt v) xs) (filter (lt v) xs)) (never_back x v (one_above x xs n v ascends.0 e)) ∙ behind_it xs n v ascends.1 e

  module _ (p : X → Bool) where
    passes : (xs : List X) (n : ℕ) (v : X) → slice_get (filter p xs) n ≡ Some v → p v ≡ true
    passes [] n v e = absurd (let none : ⊥ = cc in none)
    passes (x ∷ xs) n v e = by_test (p x) refl n e (passes xs)
      where
        by_test : (b : Bool) → p x ≡ b → (n : ℕ) → slice_get (cond b (x ∷ filter p xs) (filter p xs)) n ≡ Some v → ((m : ℕ) (u : X) → slice_get (filter p xs) m ≡ Some u → p u ≡ true) → p v ≡ true
        by_test true t zero e rest = let same : x ≡ v = cc in subst (λ z. p z ≡ true) same t
        by_test true t (suc n) e rest = rest n v e
        by_test false t n e rest = rest n v e

    all_kept : (x : X) (xs : List X) → AllByRecursion (λ y. lt x y ≡ true) xs → AllByRecursion (λ y. lt x y ≡ true) (filter p xs)
    all_kept x [] all = tt
    all_kept x (y ∷ xs) all = by_test (p y) (all_kept x xs all.1)
      where
        by_test : (b : Bool) → AllByRecursion (λ z. lt x z ≡ true) (filter p xs) → AllByRecursion (λ z. lt x z ≡ true) (cond b (y ∷ filter p xs) (filter p xs))
        by_test true rest = (all.0, rest)
        by_test false rest = rest

    ascends_still : (xs : List X) → Ascends xs → Ascends (filter p xs)
    ascends_still [] ascends = tt
    ascends_still (x ∷ xs) ascends = by_test (p x) (ascends_still xs ascends.1)
      where
        by_test : (b : Bool) → Ascends (filter p xs) → Ascends (cond b (x ∷ filter p xs) (filter p xs))
        by_test true rest = (all_kept x xs ascends.0, rest)
        by_test false rest = rest

    both_tests : (q : X → Bool) → ((x : X) → q x ≡ true → p x ≡ true) → (xs : List X) → filter q (filter p xs) ≡ filter q xs
    both_tests q within [] = refl
    both_tests q within (x ∷ xs) = by_tests (p x) (q x) refl refl (both_tests q within xs)
      where
        by_tests : (b c : Bool) → p x ≡ b → q x ≡ c → filter q (filter p xs) ≡ filter q xs → filter q (cond b (x ∷ filter p xs) (filter p xs)) ≡ cond c (x ∷ filter q xs) (filter q xs)
        by_tests true true t u rest = ap (λ b. cond b (x ∷ filter q (filter p xs)) (filter q (filter p xs))) u ∙ ap (λ l. x ∷ l) rest
        by_tests true false t u rest = ap (λ b. cond b (x ∷ filter q (filter p xs)) (filter q (filter p xs))) u ∙ rest
        by_tests false true t u rest = absurd (let none : ⊥ = cc (sym t ∙ within x u) in none)
        by_tests false false t u rest = rest

    -- what comes after the n-th of those that pass
    pub pages_follow : (xs : List X) (n : ℕ) (v : X) → ((x : X) → p v ≡ true → lt v x ≡ true → p x ≡ true) → Ascends xs → slice_get (filter p xs) n ≡ Some v
        → filter (lt v) xs ≡ drop (suc n) (filter p xs)
    pages_follow xs n v upwards ascends e =
        sym (both_tests (lt v) (λ x t. upwards x (passes xs n v e) t) xs) ∙ behind_it (filter p xs) n v (ascends_still xs ascends) e

-- by numbers
module _ {X : Type 0} (number : X → ℕ) where
  abbrev below : X → X → Bool
  below x y = nat_lt (number x) (number y)

  below_back : (x y : X) → below x y ≡ true → below y x ≡ false
  below_back x y e = le-ltb (number y) (number x) (omega (arith, ltb-true (number x) (number y) e))

  below_itself : (x : X) → below x x ≡ false
  below_itself x = le-ltb (number x) (number x) (omega arith)

  rise_above : (low : ℕ) (x : X) (xs : List X) (next : ℕ) → number x < low → Rises low (map number xs) next → AllByRecursion (λ y. below x y ≡ true) xs
  rise_above low x [] next under rise = tt
  rise_above low x (y ∷ xs) next under rise = (lt-ltb (number x) (number y) (omega (arith, rise.0, under)), rise_above (number y) x xs next (omega (arith, rise.0, under)) rise.2)

  rise_ascends : (low : ℕ) (xs : List X) (next : ℕ) → Rises low (map number xs) next → Ascends below below_back below_itself xs
  rise_ascends low [] next rise = tt
  rise_ascends low (x ∷ xs) next rise = (above xs rise.2, rise_ascends (number x) xs next rise.2)
    where
      above : (ys : List X) → Rises (number x) (map number ys) next → AllByRecursion (λ y. below x y ≡ true) ys
      above [] rest = tt
      above (y ∷ ys) rest = (lt-ltb (number x) (number y) rest.0, rise_above (number y) x ys next rest.0 rest.2)

  pub behind_number : (low next : ℕ) (xs : List X) (v : X) (n : ℕ) → Rises low (map number xs) next → slice_get xs n ≡ Some v → filter (λ x. nat_lt (number v) (number x)) xs ≡ drop (suc n) xs
  behind_number low next xs v n rise e = behind_it below below_back below_itself xs n v (rise_ascends low xs next rise) e

  pub numbers_follow : (after low next : ℕ) (xs : List X) (v : X) (n : ℕ) → Rises low (map number xs) next → slice_get (filter (λ x. nat_lt after (number x)) xs) n ≡ Some v
      → filter (λ x. nat_lt (number v) (number x)) xs ≡ drop (suc n) (filter (λ x. nat_lt after (number x)) xs)
  numbers_follow after low next xs v n rise e =
      pages_follow below below_back below_itself (λ x. nat_lt after (number x)) xs n v
      (λ x past more. lt-ltb after (number x) (omega (arith, ltb-true after (number v) past, ltb-true (number v) (number x) more))) (rise_ascends low xs next rise) e

less_is : (o : Ordering) → is_lt o ≡ true → o ≡ Less
less_is Less h = refl
less_is Equal h = absurd (let none : ⊥ = cc in none)
less_is Greater h = absurd (let none : ⊥ = cc in none)

pub holds_true : (b : Bool) → T b → b ≡ true
holds_true true h = refl
holds_true false h = absurd h

-- by names
module _ {X : Type 0} where
  abbrev earlier : List ℕ × X → List ℕ × X → Bool
  earlier e f = is_lt (name_cmp e.0 f.0)

  earlier_back : (e f : List ℕ × X) → earlier e f ≡ true → earlier f e ≡ false
  earlier_back e f h = ap (λ (o : Ordering). is_lt o) (names_total.antisymm f.0 e.0 ∙ ap ordering_reverse (less_is (name_cmp e.0 f.0) h))

  earlier_itself : (e : List ℕ × X) → earlier e e ≡ false
  earlier_itself e = ap (λ (o : Ordering). is_lt o) (tied_itself names_total e.0)

  all_below : (e : List ℕ × X) (es : List (List ℕ × X)) → T (below_all name_cmp e.0 es) → AllByRecursion (λ f. earlier e f ≡ true) es
  all_below e [] h = tt
  all_below e (f ∷ es) h = (holds_true (earlier e f) (both_first _ _ h), all_below e es (both_second (earlier e f) _ h))

  sorted_ascends : (es : List (List ℕ × X)) → T (is_sorted name_cmp es) → Ascends earlier earlier_back earlier_itself es
  sorted_ascends [] h = tt
  sorted_ascends (e ∷ es) h = (all_below e es (both_first _ _ h), sorted_ascends es (both_second (below_all name_cmp e.0 es) _ h))

  later_too : (after : Option (List ℕ)) (e f : List ℕ × X) → comes_after after e.0 ≡ true → earlier e f ≡ true → comes_after after f.0 ≡ true
  later_too None e f past more = refl
  later_too (Some a) e f past more = ap (λ (o : Ordering). is_lt o) (names_total.trans a e.0 f.0 (less_is (name_cmp a e.0) past) (less_is (name_cmp e.0 f.0) more))

-- one test after the other is both at once
in_turn : {X : Type 0} (p q : X → Bool) (xs : List X) → filter q (filter p xs) ≡ filter (λ x. p x && q x) xs
in_turn p q [] = refl
in_turn p q (x ∷ xs) = by_test (p x) (in_turn p q xs)
  where
    by_test : (b : Bool) → filter q (filter p xs) ≡ filter (λ y. p y && q y) xs
        → filter q (cond b (x ∷ filter p xs) (filter p xs)) ≡ cond (b && q x) (x ∷ filter (λ y. p y && q y) xs) (filter (λ y. p y && q y) xs)
    by_test true rest = ap (λ l. cond (q x) (x ∷ l) l) rest
    by_test false rest = rest

-- the workspaces that a prefix admits
abbrev admitted : List ℕ → Organization → List (List ℕ × Workspace)
admitted prefix o = filter (λ (f : List ℕ × Workspace). admits prefix f.0) (entries o.workspaces)

pub workspace_pages : WorkspacePagesFollow
workspace_pages after prefix o e at =
    sym (listed (Some e.0))
    ∙ pages_follow earlier earlier_back earlier_itself (λ (f : List ℕ × Workspace). comes_after after f.0) (admitted prefix o) 49 e (λ f past more. later_too after e f past more)
    (ascends_still earlier earlier_back earlier_itself (λ (f : List ℕ × Workspace). admits prefix f.0) (entries o.workspaces) (sorted_ascends (entries o.workspaces) (entries_sorted o.workspaces)))
    (ap (λ (l : List (List ℕ × Workspace)). slice_get l 49) (listed after) ∙ at)
    ∙ ap (drop 50) (listed after)
  where
    listed : (from : Option (List ℕ)) → filter (λ (f : List ℕ × Workspace). comes_after from f.0) (admitted prefix o) ≡ workspaces_from from prefix o
    listed from = in_turn (λ (f : List ℕ × Workspace). admits prefix f.0) (λ (f : List ℕ × Workspace). comes_after from f.0) (entries o.workspaces)

pub version_pages : VersionPagesFollow
version_pages after w v lawful at = numbers_follow (λ (u : Version). u.number) after 0 w.next_version w.versions v 49 lawful.versions.rise at

pub run_pages : RunPagesFollow
run_pages after w r lawful at = numbers_follow (λ (u : Run). u.number) after 0 w.next_run w.runs r 49 lawful.runs.rise at
