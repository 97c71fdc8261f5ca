-- A text's pieces one by one: from the first so many to one more.
use Rattle.std.proofs.Common.{◌≡◌, ◌<◌, ◌≤◌, ℕ, zero, suc, ◌+◌, ◌*◌, ◌/◌, nat_lt, Bool, true, false, cond, ◌&&◌, List, [], ◌++◌, is_some, Option, Some, None, IsSome, option_map, unwrap_or, inl, inr, refl, sym, ap, ap₂, ◌∙◌, subst, arith}
use Rattle.texts.proofs.Outside.{cases_Bool, ltb-true, ltb-false, lt-ltb, le-ltb, bytes_eq, Tables, IsKeyFor, twin_limit, twin_for}
use Rattle.std.proofs.Math.Bool.{and-false}
use Rattle.texts.specs.declared.texts.TheConstants.{PAGE_BYTES}
use Rattle.texts.specs.Texts.{piece_at, pieces_added, TwinsFit, KeysFit, piece_of, AreThere, joined, are_pieces}
use Rattle.texts.specs.Inner.Calls.{piece_placed, is_piece_of}

pub one_more : (n : ℕ) → suc n ≡ n + 1
one_more n = omega arith

-- the first byte of the page at a place tells the place
pub place_of_start : (place : ℕ) → place * PAGE_BYTES / PAGE_BYTES ≡ place
place_of_start place = omega arith

-- what holds below a number and at it
pub each_more : (P : ℕ → Type 0) (n : ℕ) → ((m : ℕ) → m < n → P m) → P n → (m : ℕ) → m < n + 1 → P m
each_more P n below at m low = elim (cases_Bool (nat_lt m n)) [
  | inl less ↦ below m (ltb-true m n less)
  | inr not_less ↦ let from : n ≤ m = ltb-false m n not_less in let same : n ≡ m = omega (arith, from, low) in subst P same at
]

-- keys for the first places, so many, and then this one
abbrev pub keys_to : (ℕ → List ℕ) → ℕ → List ℕ → ℕ → List ℕ
keys_to keys place key q = cond (nat_lt q place) (keys q) key

module _ (keys : ℕ → List ℕ) (place : ℕ) (key : List ℕ) where
  key_at : keys_to keys place key place ≡ key
  key_at = ap (λ (b : Bool). cond b (keys place) key) (le-ltb place place (omega arith))

  keys_below : (q : ℕ) → q < place → keys_to keys place key q ≡ keys q
  keys_below q low = ap (λ (b : Bool). cond b (keys q) key) (lt-ltb q place low)

fits_as : {j k : List ℕ} {t u : Tables} → j ≡ k → t ≡ u → (piece : List ℕ) → twin_for j piece t < twin_limit → twin_for k piece u < twin_limit
fits_as key_is is piece low = subst (λ m. m < twin_limit) (ap₂ (λ a b. twin_for a piece b) key_is is) low

keyed_as : (key_of : List ℕ → List ℕ) {j k : List ℕ} {t u : Tables} → j ≡ k → t ≡ u → (piece : List ℕ) → IsKeyFor key_of piece j t → IsKeyFor key_of piece k u
keyed_as key_of {j} {k} {t} {u} key_is is piece one = subst (λ v. IsKeyFor key_of piece k v) is (subst (λ a. IsKeyFor key_of piece a t) key_is one)

module _ (org ws : List ℕ) (n : ℕ) (t : Tables) where
  -- ---- putting

  module _ (more keys : ℕ → List ℕ) (text : List ℕ) where
    -- keys of other places mean nothing
    same_added : (place : ℕ) → ((q : ℕ) → q < place → more q ≡ keys q) → pieces_added more org ws n text place t ≡ pieces_added keys org ws n text place t
    same_added zero agree = refl
    same_added (suc place) agree =
        ap₂ (λ key u. piece_placed key org ws n place (piece_at text place) u) (agree place (omega arith)) (same_added place (λ q below. agree q (omega (arith, below))))

    same_fit : (place : ℕ) → ((q : ℕ) → q < place → more q ≡ keys q) → TwinsFit keys org ws n text place t → TwinsFit more org ws n text place t
    same_fit zero agree fit = tt
    same_fit (suc place) agree fit =
        let below : (q : ℕ) → q < place → more q ≡ keys q = λ q low. agree q (omega (arith, low)) in
        (same_fit place below fit.0, fits_as (sym (agree place (omega arith))) (sym (same_added place below)) (piece_at text place) fit.1)

    same_keyed : (key_of : List ℕ → List ℕ) (place : ℕ) → ((q : ℕ) → q < place → more q ≡ keys q) → KeysFit key_of keys org ws n text place t → KeysFit key_of more org ws n text place t
    same_keyed key_of zero agree fit = tt
    same_keyed key_of (suc place) agree fit =
        let below : (q : ℕ) → q < place → more q ≡ keys q = λ q low. agree q (omega (arith, low)) in
        (same_keyed key_of place below fit.0, keyed_as key_of (sym (agree place (omega arith))) (sym (same_added place below)) (piece_at text place) fit.1)

  module _ (keys : ℕ → List ℕ) (key text : List ℕ) (place : ℕ) where
    pub added_more : piece_placed key org ws n place (piece_at text place) (pieces_added keys org ws n text place t) ≡ pieces_added (keys_to keys place key) org ws n text (place + 1) t
    added_more =
        ap₂ (λ k u. piece_placed k org ws n place (piece_at text place) u) (sym (key_at keys place key)) (sym (same_added (keys_to keys place key) keys text place (keys_below keys place key)))
        ∙ ap (λ m. pieces_added (keys_to keys place key) org ws n text m t) (one_more place)

    pub fit_more : TwinsFit keys org ws n text place t → twin_for key (piece_at text place) (pieces_added keys org ws n text place t) < twin_limit → TwinsFit (keys_to keys place key) org ws n text (place + 1) t
    fit_more fit one = subst (λ m. TwinsFit (keys_to keys place key) org ws n text m t) (one_more place) (
      same_fit (keys_to keys place key) keys text place (keys_below keys place key) fit,
      fits_as (sym (key_at keys place key)) (sym (same_added (keys_to keys place key) keys text place (keys_below keys place key))) (piece_at text place) one,
    )

    pub keyed_more : (key_of : List ℕ → List ℕ) → KeysFit key_of keys org ws n text place t → IsKeyFor key_of (piece_at text place) key (pieces_added keys org ws n text place t) → KeysFit key_of (keys_to keys place key) org ws n text (place + 1) t
    keyed_more key_of fit one = subst (λ m. KeysFit key_of (keys_to keys place key) org ws n text m t) (one_more place) (
      same_keyed (keys_to keys place key) keys text key_of place (keys_below keys place key) fit,
      keyed_as key_of (sym (key_at keys place key)) (sym (same_added (keys_to keys place key) keys text place (keys_below keys place key))) (piece_at text place) one,
    )

  -- ---- reading

  pub none_there : AreThere org ws n 0 t
  none_there place low = absurd (let none : ⊥ = omega (arith, low) in none)

  pub there_more : (places : ℕ) (bytes : List ℕ) → AreThere org ws n places t → piece_of org ws n places t ≡ Some bytes → AreThere org ws n (places + 1) t
  there_more places bytes there one = each_more (λ m. IsSome (piece_of org ws n m t)) places there (ap is_some one)

  pub joined_more : (place : ℕ) (text bytes read longer : List ℕ) → longer ≡ text ++ read → read ≡ bytes → text ≡ joined org ws n place t → piece_of org ws n place t ≡ Some bytes → longer ≡ joined org ws n (place + 1) t
  joined_more place text bytes read longer grown read_is is one = grown ∙ ap₂ (λ xs o. xs ++ unwrap_or o []) is (ap Some read_is ∙ sym one) ∙ ap (λ m. joined org ws n m t) (one_more place)

-- ---- comparing

compared : (piece : List ℕ) (o : Option (List ℕ)) (same : Bool) → option_map (λ bytes. bytes_eq bytes piece) o ≡ Some same → bytes_eq (unwrap_or o []) piece ≡ same
compared piece None same is = absurd (let none : ⊥ = cc in none)
compared piece (Some bytes) same is = cc

pub same_more : (org ws : List ℕ) (n : ℕ) (t : Tables) (text : List ℕ) (place : ℕ) → true ≡ are_pieces org ws n text place t → is_piece_of org ws n place (piece_at text place) t ≡ Some true
    → true ≡ are_pieces org ws n text (place + 1) t
same_more org ws n t text place so_far one =
    ap₂ (λ b d. b && d) so_far (sym (compared (piece_at text place) (piece_of org ws n place t) true one)) ∙ ap (λ m. are_pieces org ws n text m t) (one_more place)

there_by : (org ws : List ℕ) (n : ℕ) (t : Tables) (piece : List ℕ) (place : ℕ) (o : Option (List ℕ)) → piece_of org ws n place t ≡ o → AreThere org ws n place t → option_map (λ bytes. bytes_eq bytes piece) o ≡ Some true
    → AreThere org ws n (place + 1) t
there_by org ws n t piece place None found there one = absurd (let none : ⊥ = cc in none)
there_by org ws n t piece place (Some bytes) found there one = there_more org ws n t place bytes there found

-- a piece that agrees is there
pub same_there : (org ws : List ℕ) (n : ℕ) (t : Tables) (text : List ℕ) (place : ℕ) → AreThere org ws n place t → is_piece_of org ws n place (piece_at text place) t ≡ Some true → AreThere org ws n (place + 1) t
same_there org ws n t text place there one = there_by org ws n t (piece_at text place) place (piece_of org ws n place t) refl there one

-- where one page differs, not all agree
differ : (org ws : List ℕ) (n : ℕ) (t : Tables) (text : List ℕ) (place : ℕ) → is_piece_of org ws n place (piece_at text place) t ≡ Some false → (places : ℕ) → place < places
    → false ≡ are_pieces org ws n text places t
differ org ws n t text place one zero low = absurd (let none : ⊥ = omega (arith, low) in none)
differ org ws n t text place one (suc places) low =
    let before = differ org ws n t text place one places in
    elim (cases_Bool (nat_lt place places)) [
      | inl less ↦ ap (λ b. b && bytes_eq (unwrap_or (piece_of org ws n places t) []) (piece_at text places)) (before (ltb-true place places less))
      | inr not_less ↦
          let from : places ≤ place = ltb-false place places not_less in
          let same : place ≡ places = omega (arith, from, low) in
          sym (ap (λ d. are_pieces org ws n text places t && d) (subst (λ m. bytes_eq (unwrap_or (piece_of org ws n m t) []) (piece_at text m) ≡ false) same (compared (piece_at text place) (piece_of org ws n place t) false one)) ∙ and-false (are_pieces org ws n text places t))
    ]

pub one_differs : (org ws : List ℕ) (n : ℕ) (t : Tables) (text : List ℕ) (place : ℕ) (piece : List ℕ) (same : Bool) → piece ≡ piece_at text place → same ≡ false → is_piece_of org ws n place piece t ≡ Some same
    → (places : ℕ) → place < places → false ≡ are_pieces org ws n text places t
one_differs org ws n t text place piece same is no_more one = differ org ws n t text place (ap (λ p. is_piece_of org ws n place p t) (sym is) ∙ one ∙ ap Some no_more)
