-- One workspace more is counted.
use Rattle.checks.proofs.Outside.{◌≡◌, ℕ, ◌+◌, ◌≤◌, ◌==◌, Bool, true, false, not, cond, ◌<◌, nat_lt, List, [], ◌∷◌, ◌++◌, filter, length, take, IsTrue, refl, sym, ap, ◌∙◌, subst, arith, length-append, true≢false, ◌⊎◌, inl, inr, bytes_eq, eqb-true, eq-eqb, ne_eqb, ltb-true, ltb-false, not-false, false_from_ne_true, length-take-le, filter-append, length-filter_both, equal_bytes, Kept, WsRow, is_ws_of}
use Rattle.checks.specs.declared.found.Found.{Found}
use Rattle.checks.specs.declared.found.Fault.{Fault}
use Rattle.checks.specs.declared.found.FaultKind.TheVariants as kind
use Rattle.checks.specs.Judging.{Breaks, Judges}
use Rattle.checks.specs.Faults.{org_fault, TooMany}
use Rattle.checks.specs.Workspaces.{count_in}
use Rattle.checks.specs.Inner.Counts.{AreFew}
use Rattle.checks.proofs.JudgingLemmas.{judges_both, judges_as, judges_says, judges_none}

counted_on : (xs : List (Kept WsRow)) (x : Kept WsRow) (org : List ℕ) → count_in (xs ++ x ∷ []) org ≡ cond (is_ws_of org x) (count_in xs org + 1) (count_in xs org)
counted_on xs x org = ap length (filter-append (is_ws_of org) xs (x ∷ [])) ∙ length-append (filter (is_ws_of org) xs) (filter (is_ws_of org) (x ∷ [])) ∙ go (is_ws_of org x)
  where
    go : (b : Bool) → count_in xs org + length (cond b (x ∷ []) []) ≡ cond b (count_in xs org + 1) (count_in xs org)
    go true = refl
    go false = omega arith

-- one workspace more is counted
pub one_counted : (xs : List (Kept WsRow)) (x : Kept WsRow) (org : List ℕ) (old new : ℕ) → old ≡ count_in xs org → new ≡ old + cond (is_ws_of org x) 1 0 → new ≡ count_in (xs ++ x ∷ []) org
one_counted xs x org old new before step = step ∙ ap (λ n. n + cond (is_ws_of org x) 1 0) before ∙ go (is_ws_of org x) ∙ sym (counted_on xs x org)
  where
    go : (b : Bool) → count_in xs org + cond b 1 0 ≡ cond b (count_in xs org + 1) (count_in xs org)
    go true = refl
    go false = omega arith

-- no more are counted than have come
pub counted_below : (xs : List (Kept WsRow)) (i : ℕ) (org : List ℕ) → i < length xs → count_in (take i xs) org ≤ i
counted_below xs i org below =
    let all : length (take i xs) ≡ i = length-take-le i xs (omega arith) in
    let parts = length-filter_both (is_ws_of org) (λ x. not (is_ws_of org x)) (λ x. refl) (take i xs) in
    omega (arith, parts, all)

pub none_judged : (a : Found) → Judges (TooMany []) (AreFew []) a a
none_judged a = judges_none a (λ org. omega arith) (λ f says. let more = says.1 in absurd (omega (arith, more)))

not_that : (n m : ℕ) → not (n == m) ≡ true → n ≡ m → ⊥
not_that n m e f = true≢false (sym e ∙ ap not (eq-eqb n m f))

module _ (xs : List (Kept WsRow)) (x : Kept WsRow) where
  still_few : AreFew xs → not (count_in (xs ++ x ∷ []) x.1.org == 100_001) ≡ true → AreFew (xs ++ x ∷ [])
  still_few few within org = go (bytes_eq x.1.org org) refl
    where
      go : (b : Bool) → bytes_eq x.1.org org ≡ b → count_in (xs ++ x ∷ []) org ≤ 100_000
      go false e = subst (λ n. n ≤ 100_000) (sym (counted_on xs x org ∙ ap (λ b. cond b (count_in xs org + 1) (count_in xs org)) e)) (few org)
      go true e =
          let one_more : count_in (xs ++ x ∷ []) org ≡ count_in xs org + 1 = counted_on xs x org ∙ ap (λ b. cond b (count_in xs org + 1) (count_in xs org)) e in
          let at_most : count_in xs org ≤ 100_000 = few org in
          let apart : count_in (xs ++ x ∷ []) org ≡ 100_001 → ⊥ = subst (λ o. count_in (xs ++ x ∷ []) o ≡ 100_001 → ⊥) (equal_bytes x.1.org org e) (not_that (count_in (xs ++ x ∷ []) x.1.org) 100_001 within) in
          below (count_in (xs ++ x ∷ []) org) (omega (arith, one_more, at_most)) apart
        where
          below : (n : ℕ) → n ≤ 100_001 → (n ≡ 100_001 → ⊥) → n ≤ 100_000
          below n h apart = omega (arith, h, apart)

  grown : (org : List ℕ) → count_in xs org ≤ count_in (xs ++ x ∷ []) org
  grown org = go (is_ws_of org x) (counted_on xs x org)
    where
      go : (b : Bool) → count_in (xs ++ x ∷ []) org ≡ cond b (count_in xs org + 1) (count_in xs org) → count_in xs org ≤ count_in (xs ++ x ∷ []) org
      go true e = omega (arith, e)
      go false e = omega (arith, e)

  -- one workspace more was looked at
  pub one_judged : (count : ℕ) (within : Bool) (a b c : Found) → count ≡ count_in (xs ++ x ∷ []) x.1.org → within ≡ not (count == 100_001) → Judges (TooMany xs) (AreFew xs) a b → Judges (Breaks (IsTrue within) (org_fault kind.TooMany x.1.org)) (IsTrue within) b c
      → Judges (TooMany (xs ++ x ∷ [])) (AreFew (xs ++ x ∷ [])) a c
  one_judged count within a b c count_is within_is before here =
      let is : within ≡ not (count_in (xs ++ x ∷ []) x.1.org == 100_001) = within_is ∙ ap (λ n. not (n == 100_001)) count_is in
      judges_says a c (to is) (from is)
      (judges_as a c (λ both. still_few both.0 (sym is ∙ both.1))
      (λ few. (λ org. fewer (grown org) (few org), is ∙ ap not (ne_eqb (count_in (xs ++ x ∷ []) x.1.org) 100_001 (λ e. too_many (count_in (xs ++ x ∷ []) x.1.org) e (few x.1.org)))))
      (judges_both a b c before here))
    where
      Both : Fault → Type 0
      Both f = TooMany xs f ⊎ Breaks (IsTrue within) (org_fault kind.TooMany x.1.org) f

      fewer : {m n : ℕ} → m ≤ n → n ≤ 100_000 → m ≤ 100_000
      fewer less few = omega (arith, less, few)

      over : (n : ℕ) → not (n == 100_001) ≡ false → 100_000 < n
      over n e = let same = eqb-true n 100_001 (not-false (n == 100_001) e) in omega (arith, same)

      to : within ≡ not (count_in (xs ++ x ∷ []) x.1.org == 100_001) → (f : Fault) → Both f → TooMany (xs ++ x ∷ []) f
      to is f (inl s) = let more = grown s.0 in let many = s.1 in (s.0, omega (arith, more, many), s.2)
      to is f (inr s) = (x.1.org, over (count_in (xs ++ x ∷ []) x.1.org) (sym is ∙ false_from_ne_true within s.0), s.1)

      from : within ≡ not (count_in (xs ++ x ∷ []) x.1.org == 100_001) → (f : Fault) → TooMany (xs ++ x ∷ []) f → Both f
      from is f s = go (bytes_eq x.1.org s.0) refl
        where
          go : (b : Bool) → bytes_eq x.1.org s.0 ≡ b → Both f
          go false e =
              let same : count_in (xs ++ x ∷ []) s.0 ≡ count_in xs s.0 = counted_on xs x s.0 ∙ ap (λ b. cond b (count_in xs s.0 + 1) (count_in xs s.0)) e in
              inl (s.0, subst (λ n. 100_000 < n) same s.1, s.2)
          go true e =
              at (nat_lt 100_000 (count_in xs s.0)) refl
            where
              own_count : count_in (xs ++ x ∷ []) x.1.org ≡ count_in xs s.0 + 1
              own_count = ap (count_in (xs ++ x ∷ [])) (equal_bytes x.1.org s.0 e) ∙ counted_on xs x s.0 ∙ ap (λ b. cond b (count_in xs s.0 + 1) (count_in xs s.0)) e

              at : (b : Bool) → nat_lt 100_000 (count_in xs s.0) ≡ b → Both f
              at true less = inl (s.0, ltb-true 100_000 (count_in xs s.0) less, s.2)
              at false less =
                  let many = s.1 in
                  let most = ltb-false 100_000 (count_in xs s.0) less in
                  let size = counted_on xs x s.0 ∙ ap (λ b. cond b (count_in xs s.0 + 1) (count_in xs s.0)) e in
                  let own = own_count in
                  let exactly : count_in (xs ++ x ∷ []) x.1.org ≡ 100_001 = omega (arith, most, many, size, own) in
                  inr (λ t. not_that (count_in (xs ++ x ∷ []) x.1.org) 100_001 (sym is ∙ t) exactly, s.2 ∙ ap (org_fault kind.TooMany) (sym (equal_bytes x.1.org s.0 e)))

      too_many : (n : ℕ) → n ≡ 100_001 → n ≤ 100_000 → ⊥
      too_many n e h = omega (arith, e, h)
