-- A window of rows whose keys are made: its first row goes with the first key, until none is left.
use Rattle.pages.proofs.Outside.{◌≡◌, ◌<◌, ◌≤◌, ◌+◌, ℕ, zero, suc, List, [], ◌∷◌, ◌++◌, map, length, take, drop, slice_index_or, arith, refl, sym, ap, ◌∙◌, subst, remove, append_assoc, append-nil, length-map, take_all, PageHead}
use Rattle.pages.specs.declared.scans.Unhashed.{Unhashed}
use Rattle.pages.specs.Inner.Scans.{head_under, hashed}

-- where the keys from a place on begin with this one, it is at the place, and the others are behind it
key_at : (made : List (List ℕ)) (at n : ℕ) (key : List ℕ) (others : List (List ℕ)) (d : List ℕ) → take (suc n) (drop at made) ≡ key ∷ others → (slice_index_or made at d ≡ key) × (take n (drop (suc at) made) ≡ others)
key_at [] zero n key others d e = absurd (let none : ⊥ = cc in none)
key_at [] (suc at) n key others d e = absurd (let none : ⊥ = cc in none)
key_at (k ∷ ks) zero n key others d e = (cc, cc)
key_at (k ∷ ks) (suc at) n key others d e = key_at ks at n key others d e

module _ (key_of : List ℕ → List ℕ) where
  abbrev pub key_in : Unhashed → List ℕ
  key_in row = key_of row.page.bytes

  -- The heads so far, and those of the window are all. The keys from this place on are those of the window.
  pub record HashedSoFar (done : List PageHead) (window : List Unhashed) (made : List (List ℕ)) (at count : ℕ) (all : List PageHead) : Type 0 where
    pub heads : done ++ map (hashed key_of) window ≡ all
    pub keys : take (length window) (drop at made) ≡ map key_in window
    pub left : length window + at ≡ count

  pub hashed_first : (done : List PageHead) (window : List Unhashed) (made : List (List ℕ)) → length window ≤ 4 → take (length window) made ≡ take 4 (map key_in window)
      → HashedSoFar done window made 0 (length window) (done ++ map (hashed key_of) window)
  hashed_first done window made few is = record {
    heads = refl;
    keys = is ∙ take_all 4 (map key_in window) (subst (λ (n : ℕ). n ≤ 4) (sym (length-map window key_in)) few);
    left = omega arith;
  }

  pub hashed_next : (done : List PageHead) (window rest : List Unhashed) (made : List (List ℕ)) (at count : ℕ) (all : List PageHead) (row : Unhashed) (key d : List ℕ) → at < count → HashedSoFar done window made at count all
      → row ≡ slice_index_or window 0 row → rest ≡ remove window 0 → key ≡ slice_index_or made at d → HashedSoFar (done ++ head_under key row ∷ []) rest made (at + 1) count all
  hashed_next done [] rest made at count all row key d more so first others is = absurd (let left : 0 + at ≡ count = so.left in omega arith)
  hashed_next done (x ∷ xs) rest made at count all row key d more so first others is =
      let found = key_at made at (length xs) (key_in x) (map key_in xs) d so.keys in
      let key_is : key ≡ key_in x = is ∙ found.0 in
      let same : head_under key row ≡ hashed key_of x = λ i. head_under (key_is i) (first i) in
      let place : suc at ≡ at + 1 = omega arith in
      let left : suc (length xs) + at ≡ count = so.left in
      subst (λ (l : List Unhashed). HashedSoFar (done ++ head_under key row ∷ []) l made (at + 1) count all) (sym others)
      (record {
        heads = append_assoc done (head_under key row ∷ []) (map (hashed key_of) xs) ∙ ap (λ (h : PageHead). done ++ h ∷ map (hashed key_of) xs) same ∙ so.heads;
        keys = subst (λ (n : ℕ). take (length xs) (drop n made) ≡ map key_in xs) place found.1;
        left = omega arith;
      })

  -- none is left
  pub hashed_all : (done : List PageHead) (window : List Unhashed) (made : List (List ℕ)) (at count : ℕ) (all : List PageHead) → count ≤ at → HashedSoFar done window made at count all → (done ≡ all) × (window ≡ [])
  hashed_all done [] made at count all no_more so = (sym (append-nil done) ∙ so.heads, refl)
  hashed_all done (x ∷ xs) made at count all no_more so = absurd (let left : suc (length xs) + at ≡ count = so.left in omega arith)
