-- How a router's walk goes over rows whose parts are whole words or whole parameters.
use Rattle.std.proofs.Common.{◌≡◌, ◌≢◌, ℕ, zero, suc, ◌-◌, ◌<◌, ◌≤◌, List, [], ◌∷◌, ◌++◌, length, drop, Option, Some, None, Bool, true, false, ◌&&◌, ◌==◌, ◌⊎◌, inl, inr, cond, refl, sym, ap, ◌∙◌, arith, ltb, nat_eq, length-append, append-nil, IsUtf8, unwrap_or, eqb-true, ne_eqb}
use Rattle.std.proofs.Math.Bool.{and-false}
use Rattle.std.proofs.Math.Seq.{drop-length, drop-append_seam}
use Rattle.std.proofs.lemmas.Bool.Decides.{nat_tests}
use Rattle.std.proofs.lemmas.Bool.{ltb-true, lt-ltb, and_parts}
use Rattle.std.specs.Cmp.Lexicographic.{pointwise}
use Rattle.matchit.specs.Rows.{RowsOf, param_token, catch_all_token}
use Rattle.matchit.specs.Seek.{own, step, or_else, seek, param_step, has_slash, segment, longest_from, with_suffix, cuts}

-- a path fits a pattern whose parameters take these parts
pub data Fits : List ℕ → List ℕ → List (List ℕ) → Type 0 where
  fits_end : Fits [] [] []
  fits_byte : (x : ℕ) (tail path : List ℕ) (parts : List (List ℕ)) → x < 256 → Fits tail path parts → Fits (x ∷ tail) (x ∷ path) parts
  fits_last : (p : List ℕ) → IsUtf8 p → Fits (256 ∷ []) p (p ∷ [])
  fits_part : (p tail path : List ℕ) (parts : List (List ℕ)) → IsUtf8 p → has_slash p ≡ false → Fits (47 ∷ tail) (47 ∷ path) parts
      → Fits (256 ∷ 47 ∷ tail) (p ++ 47 ∷ path) (p ∷ parts)

-- a path is one part, or a part, a slash and more
pub record Cut (path : List ℕ) : Type 0 where
  pub part : List ℕ
  pub rest : List ℕ
  pub whole : path ≡ part ++ 47 ∷ rest
  pub plain : has_slash part ≡ false

pub cut_path : (path : List ℕ) → (has_slash path ≡ false) ⊎ Cut path
cut_path [] = inl refl
cut_path (b ∷ path) = by (b == 47) refl (cut_path path)
  where
    more : (e : (b == 47) ≡ false) → (has_slash path ≡ false) ⊎ Cut path → (has_slash (b ∷ path) ≡ false) ⊎ Cut (b ∷ path)
    more e (inl h) = inl (rw e h)
    more e (inr c) = inr (record { part = b ∷ c.part; rest = c.rest; whole = ap (λ x. b ∷ x) c.whole; plain = rw e c.plain })

    by : (v : Bool) → (b == 47) ≡ v → (has_slash path ≡ false) ⊎ Cut path → (has_slash (b ∷ path) ≡ false) ⊎ Cut (b ∷ path)
    by true e ih = inr (record { part = []; rest = path; whole = ap (λ x. x ∷ path) (eqb-true b 47 e); plain = refl })
    by false e ih = more e ih

-- what a part's segment is
pub plain_head : (b : ℕ) (p : List ℕ) → has_slash (b ∷ p) ≡ false → ((b == 47) ≡ false) × (has_slash p ≡ false)
plain_head b p h = by (b == 47) refl h
  where
    by : (v : Bool) → (b == 47) ≡ v → cond v true (has_slash p) ≡ false → ((b == 47) ≡ false) × (has_slash p ≡ false)
    by true e h = (cc, cc)
    by false e h = (e, h)

pub segment_plain : (p : List ℕ) → has_slash p ≡ false → segment p ≡ p
segment_plain [] h = refl
segment_plain (b ∷ p) h =
    let parts = plain_head b p h in
    rw (parts.0, segment_plain p parts.1) refl

pub segment_cut : (p q : List ℕ) → has_slash p ≡ false → segment (p ++ 47 ∷ q) ≡ p ++ 47 ∷ []
segment_cut [] q h = refl
segment_cut (b ∷ p) q h =
    let parts = plain_head b p h in
    rw (parts.0, segment_cut p q parts.1) refl

pub slash_cut : (p q : List ℕ) → has_slash (p ++ 47 ∷ q) ≡ true
slash_cut [] q = refl
slash_cut (b ∷ p) q =
    let ih = slash_cut p q in
    elim (b == 47) as (λ v. cond v true (has_slash (p ++ 47 ∷ q)) ≡ true) [ true ↦ refl | false ↦ ih ]

-- a word: bytes alone up to a slash or the end
abbrev pub is_word : List ℕ → Bool
is_word [] = true
is_word (x ∷ t) = cond (x == 47) true (ltb x 256 && is_word t)

word_byte : (x : ℕ) (t : List ℕ) → is_word (x ∷ t) ≡ true → x < 256
word_byte x t h = by (x == 47) refl h
  where
    by : (v : Bool) → (x == 47) ≡ v → cond v true (ltb x 256 && is_word t) ≡ true → x < 256
    by true e h = let s : x ≡ 47 = eqb-true x 47 e in omega arith
    by false e h = ltb-true x 256 (and_parts (ltb x 256) (is_word t) h).0

word_on : (b : ℕ) (t : List ℕ) → b ≢ 47 → is_word (b ∷ t) ≡ true → is_word t ≡ true
word_on b t n h =
    let e : (b == 47) ≡ false = ne_eqb b 47 n in
    (and_parts (ltb b 256) (is_word t) (rw e at h)).1

module _ {K : Type 0} where
  pub or_none : (a : Option K) → or_else a None ≡ a
  or_none None = refl
  or_none (Some key) = refl

  pub param_none : (p : List ℕ) → (param_step {K = K} [] p).1 ≡ []
  unfolding param_step
  param_none p =
      elim (has_slash p) as (λ v. (cond {A = ℕ × RowsOf K} v (0, []) (length p, [])).1 ≡ []) [ true ↦ refl | false ↦ refl ]

  pub seek_none : (k : ℕ) (p : List ℕ) → seek {K = K} k [] p ≡ None
  unfolding seek
  seek_none k [] = refl
  seek_none (suc k) (b ∷ p) = seek_none k p
  seek_none zero (b ∷ p) = simp (seek_none 0 p, param_none (b ∷ p), seek_none (((param_step {K = K} [] (b ∷ p)).0) - 1) p)

  pub seek_drop : (k : ℕ) (r : RowsOf K) (p : List ℕ) → seek k r p ≡ seek 0 r (drop k p)
  unfolding seek
  seek_drop zero r p = refl
  seek_drop (suc k) r [] = refl
  seek_drop (suc k) r (b ∷ p) = seek_drop k r p

  -- rows without a parameter or a catch-all at their start go on by the byte alone
  pub seek_byte : (r : RowsOf K) (b : ℕ) (p : List ℕ) → step param_token r ≡ [] → step catch_all_token r ≡ [] → seek 0 r (b ∷ p) ≡ seek 0 (step b r) p
  unfolding seek
  seek_byte r b p e f = rw (e, f, param_none (b ∷ p), seek_none ((param_step {K = K} [] (b ∷ p)).0 - 1) p) (or_none (seek 0 (step b r) p))

  abbrev pub all_words : RowsOf K → Bool
  all_words [] = true
  all_words ((t, key) ∷ r) = is_word t && all_words r

  words_step : (n : ℕ) (r : RowsOf K) → 256 ≤ n → all_words r ≡ true → step n r ≡ []
  words_step n [] l h = refl
  words_step n (([], key) ∷ r) l h = words_step n r l h
  words_step n ((x ∷ t, key) ∷ r) l h =
      let parts = and_parts (is_word (x ∷ t)) (all_words r) h in
      let small : x < 256 = word_byte x t parts.0 in
      let other : (x == n) ≡ false = ne_eqb x n (λ e. omega arith) in
      rw other (words_step n r l parts.1)

  words_on : (b : ℕ) (r : RowsOf K) → b ≢ 47 → all_words r ≡ true → all_words (step b r) ≡ true
  words_on b [] n h = refl
  words_on b (([], key) ∷ r) n h = words_on b r n h
  words_on b ((x ∷ t, key) ∷ r) n h =
      let parts = and_parts (is_word (x ∷ t)) (all_words r) h in
      by (x == b) refl parts.0 (words_on b r n parts.1)
    where
      by : (v : Bool) → (x == b) ≡ v → is_word (x ∷ t) ≡ true → all_words (step b r) ≡ true → all_words (cond v ((t, key) ∷ step b r) (step b r)) ≡ true
      by true e h ih =
          let same : x ≡ b = eqb-true x b e in
          let on : is_word t ≡ true = word_on x t (λ z. n (sym same ∙ z)) h in
          rw (on, ih) refl
      by false e h ih = ih

  pub seek_word_byte : (r : RowsOf K) (b : ℕ) (p : List ℕ) → all_words r ≡ true → seek 0 r (b ∷ p) ≡ seek 0 (step b r) p
  seek_word_byte r b p h =
      seek_byte r b p (words_step param_token r (omega arith) h) (words_step catch_all_token r (omega arith) h)

  -- the rows that go on with these bytes
  abbrev pub steps : List ℕ → RowsOf K → RowsOf K
  steps [] r = r
  steps (b ∷ p) r = steps p (step b r)

  -- a word to the end, and a word with a slash after it
  pub word_end : (p : List ℕ) (r : RowsOf K) → all_words r ≡ true → has_slash p ≡ false → seek 0 r p ≡ own (steps p r)
  unfolding seek
  word_end [] r h s = refl
  word_end (b ∷ p) r h s =
      let parts = plain_head b p s in
      let n : b ≢ 47 = λ e. grind (arith, nat_tests) in
      seek_word_byte r b p h ∙ word_end p (step b r) (words_on b r n h) parts.1

  pub word_more : (p q : List ℕ) (r : RowsOf K) → all_words r ≡ true → has_slash p ≡ false → seek 0 r (p ++ 47 ∷ q) ≡ seek 0 (step 47 (steps p r)) q
  word_more [] q r h s = seek_word_byte r 47 q h
  word_more (b ∷ p) q r h s =
      let parts = plain_head b p s in
      let n : b ≢ 47 = λ e. grind (arith, nat_tests) in
      seek_word_byte r b (p ++ 47 ∷ q) h ∙ word_more p q (step b r) (words_on b r n h) parts.1

  -- a row of these rows
  abbrev pub HasRow : List ℕ → K → RowsOf K → Type 0
  HasRow tail k [] = ⊥
  HasRow tail k ((t, key) ∷ r) = ((t ≡ tail) × (key ≡ k)) ⊎ HasRow tail k r

  pub row_step : (b : ℕ) (tail : List ℕ) (k : K) (r : RowsOf K) → HasRow tail k (step b r) → HasRow (b ∷ tail) k r
  row_step b tail k [] h = h
  row_step b tail k (([], key) ∷ r) h = inr (row_step b tail k r h)
  row_step b tail k ((x ∷ t, key) ∷ r) h = by (x == b) refl h (row_step b tail k r)
    where
      by : (v : Bool) → (x == b) ≡ v → HasRow tail k (cond v ((t, key) ∷ step b r) (step b r)) → (HasRow tail k (step b r) → HasRow (b ∷ tail) k r)
          → HasRow (b ∷ tail) k ((x ∷ t, key) ∷ r)
      by true e (inl h) ih = inl (rw (eqb-true x b e, h.0) refl, h.1)
      by true e (inr h) ih = inr (ih h)
      by false e h ih = inr (ih h)

  row_own : (k : K) (r : RowsOf K) → own r ≡ Some k → HasRow [] k r
  row_own k [] e = cc
  row_own k (([], key) ∷ r) e = inl (refl, ap (λ o. unwrap_or o k) e)
  row_own k ((x ∷ t, key) ∷ r) e = inr (row_own k r e)

  pub row_right : (tail : List ℕ) (k : K) (r s : RowsOf K) → HasRow tail k s → HasRow tail k (r ++ s)
  row_right tail k [] s h = h
  row_right tail k ((t, key) ∷ r) s h = inr (row_right tail k r s h)

  pub row_word : (p : List ℕ) (k : K) (r : RowsOf K) → own (steps p r) ≡ Some k → HasRow p k r
  row_word [] k r e = row_own k r e
  row_word (b ∷ p) k r e = row_step b p k r (row_word p k (step b r) e)

  pub row_more : (p tail : List ℕ) (k : K) (r : RowsOf K) → HasRow tail k (step 47 (steps p r)) → HasRow (p ++ 47 ∷ tail) k r
  row_more [] tail k r h = row_step 47 tail k r h
  row_more (b ∷ p) tail k r h = row_step b (p ++ 47 ∷ tail) k r (row_more p tail k (step b r) h)

-- a parameter takes a whole part
no_tail : (k : ℕ) (seg : List ℕ) → has_slash seg ≡ false → pointwise nat_eq (47 ∷ []) (drop k seg) ≡ false
no_tail zero [] h = refl
no_tail zero (y ∷ seg) h =
    let parts = plain_head y seg h in
    let other : nat_eq 47 y ≡ false = grind (arith, nat_tests) in
    rw other refl
no_tail (suc k) [] h = refl
no_tail (suc k) (y ∷ seg) h = no_tail k seg (plain_head y seg h).1

pub cuts_plain : (seg : List ℕ) → has_slash seg ≡ false → cuts seg (47 ∷ []) ≡ false
cuts_plain seg h = rw (no_tail (length seg - 1) seg h) (and-false (ltb 1 (length seg)))

long_cut : (b : ℕ) (p : List ℕ) → length ((b ∷ p) ++ 47 ∷ []) - 1 ≡ length (b ∷ p)
long_cut b p = simp length-append (omega arith)

pub cuts_cut : (b : ℕ) (p : List ℕ) → cuts ((b ∷ p) ++ 47 ∷ []) (47 ∷ []) ≡ true
cuts_cut b p =
    let long : ltb 1 (length ((b ∷ p) ++ 47 ∷ [])) ≡ true = lt-ltb 1 _ (simp length-append (omega arith)) in
    rw (long, long_cut b p, drop-append_seam (b ∷ p) (47 ∷ [])) refl

module _ {K : Type 0} where
  -- the rows with these tokens in front, and the row that ends
  abbrev pub after : List ℕ → RowsOf K → RowsOf K
  after w [] = []
  after w ((t, key) ∷ r) = (w ++ t, key) ∷ after w r

  abbrev pub ended : Option K → RowsOf K
  ended None = []
  ended (Some key) = ([], key) ∷ []

  -- what comes behind a part: a slash and more, or the end
  abbrev pub onward : RowsOf K → Option K → RowsOf K
  onward next end = after (47 ∷ []) next ++ ended end

  pub after_nil : (r : RowsOf K) → after [] r ≡ r
  after_nil [] = refl
  after_nil ((t, key) ∷ r) = ap (λ z. (t, key) ∷ z) (after_nil r)

  step_append : (b : ℕ) (r s : RowsOf K) → step b (r ++ s) ≡ step b r ++ step b s
  step_append b [] s = refl
  step_append b (([], key) ∷ r) s = step_append b r s
  step_append b ((x ∷ t, key) ∷ r) s =
      let ih = step_append b r s in
      elim (x == b) as (λ v. cond v ((t, key) ∷ step b (r ++ s)) (step b (r ++ s)) ≡ cond v ((t, key) ∷ step b r) (step b r) ++ step b s) [
        | true ↦ ap (λ z. (t, key) ∷ z) ih
        | false ↦ ih
      ]

  own_append : (r s : RowsOf K) → own (r ++ s) ≡ or_else (own r) (own s)
  own_append [] s = refl
  own_append (([], key) ∷ r) s = refl
  own_append ((x ∷ t, key) ∷ r) s = own_append r s

  pub step_hit : (b : ℕ) (w : List ℕ) (r : RowsOf K) → step b (after (b ∷ w) r) ≡ after w r
  step_hit b w [] = refl
  step_hit b w ((t, key) ∷ r) =
      let same : (b == b) ≡ true = grind (arith, nat_tests) in
      rw same (ap (λ z. (w ++ t, key) ∷ z) (step_hit b w r))

  step_miss : (b x : ℕ) (w : List ℕ) (r : RowsOf K) → x ≢ b → step b (after (x ∷ w) r) ≡ []
  step_miss b x w [] n = refl
  step_miss b x w ((t, key) ∷ r) n = rw (ne_eqb x b n) (step_miss b x w r n)

  own_after : (x : ℕ) (w : List ℕ) (r : RowsOf K) → own (after (x ∷ w) r) ≡ None
  own_after x w [] = refl
  own_after x w ((t, key) ∷ r) = own_after x w r

  pub step_onward : (next : RowsOf K) (end : Option K) → step 47 (onward next end) ≡ next
  step_onward next None = rw (step_append 47 (after (47 ∷ []) next) [], step_hit 47 [] next, after_nil next) (append-nil next)
  step_onward next (Some key) = rw (step_append 47 (after (47 ∷ []) next) (([], key) ∷ []), step_hit 47 [] next, after_nil next) (append-nil next)

  step_off : (b : ℕ) (next : RowsOf K) (end : Option K) → 47 ≢ b → step b (onward next end) ≡ []
  step_off b next None n = rw (step_append b (after (47 ∷ []) next) [], step_miss b 47 [] next n) refl
  step_off b next (Some key) n = rw (step_append b (after (47 ∷ []) next) (([], key) ∷ []), step_miss b 47 [] next n) refl

  pub own_onward : (next : RowsOf K) (end : Option K) → own (onward next end) ≡ end
  own_onward next None = rw (own_append (after (47 ∷ []) next) [], own_after 47 [] next) refl
  own_onward next (Some key) = rw (own_append (after (47 ∷ []) next) (([], key) ∷ []), own_after 47 [] next) refl

  -- a word before them: it leads to them, and another part leads nowhere
  steps_nil : (p : List ℕ) → steps {K = K} p [] ≡ []
  steps_nil [] = refl
  steps_nil (b ∷ p) = steps_nil p

  steps_append : (p : List ℕ) (r s : RowsOf K) → steps p (r ++ s) ≡ steps p r ++ steps p s
  steps_append [] r s = refl
  steps_append (b ∷ p) r s = ap (steps p) (step_append b r s) ∙ steps_append p (step b r) (step b s)

  steps_hit : (w : List ℕ) (r : RowsOf K) → steps w (after w r) ≡ r
  steps_hit [] r = after_nil r
  steps_hit (b ∷ w) r = ap (steps w) (step_hit b w r) ∙ steps_hit w r

  steps_miss : (p w : List ℕ) (next : RowsOf K) (end : Option K) → p ≢ w → has_slash p ≡ false → has_slash w ≡ false
      → (own (steps p (after w (onward next end))) ≡ None) × (step 47 (steps p (after w (onward next end))) ≡ [])
  steps_miss [] [] next end n plain word = absurd (n refl)
  steps_miss [] (x ∷ w) next end n plain word =
      let other : x ≢ 47 = λ e. let e0 = (plain_head x w word).0 in grind (arith, nat_tests) in
      (own_after x w (onward next end), step_miss 47 x w (onward next end) other)
  steps_miss (b ∷ p) [] next end n plain word =
      let other : 47 ≢ b = λ e. let e0 = (plain_head b p plain).0 in grind (arith, nat_tests) in
      rw (after_nil (onward next end), step_off b next end other, steps_nil p) (refl, refl)
  steps_miss (b ∷ p) (x ∷ w) next end n plain word =
      by (x == b) refl (λ z. steps_miss p w next end z (plain_head b p plain).1 (plain_head x w word).1)
    where
      leads_nowhere : RowsOf K → Type 0
      leads_nowhere r = (own (steps p r) ≡ None) × (step 47 (steps p r) ≡ [])

      by : (v : Bool) → (x == b) ≡ v → (p ≢ w → leads_nowhere (after w (onward next end))) → leads_nowhere (step b (after (x ∷ w) (onward next end)))
      by true e ih =
          let same : x ≡ b = eqb-true x b e in
          rw (same, step_hit b w (onward next end)) (ih (λ z. n (rw (same, z) refl)))
      by false e ih = rw (step_miss b x w (onward next end) (λ z. grind (arith, nat_tests)), steps_nil p) (refl, refl)

  pub hit : (w : List ℕ) (next : RowsOf K) (end : Option K) (others : RowsOf K) → own (steps w others) ≡ None → step 47 (steps w others) ≡ []
      → (own (steps w (after w (onward next end) ++ others)) ≡ end) × (step 47 (steps w (after w (onward next end) ++ others)) ≡ next)
  hit w next end others g h =
      rw (steps_append w (after w (onward next end)) others, steps_hit w (onward next end), own_append (onward next end) (steps w others), own_onward next end, g) (
        or_none end,
        rw (step_append 47 (onward next end) (steps w others), step_onward next end, h) (append-nil next),
      )

  pub miss : (p w : List ℕ) (next : RowsOf K) (end : Option K) (others : RowsOf K) → p ≢ w → has_slash p ≡ false → has_slash w ≡ false
      → (own (steps p (after w (onward next end) ++ others)) ≡ own (steps p others)) × (step 47 (steps p (after w (onward next end) ++ others)) ≡ step 47 (steps p others))
  miss p w next end others n plain word =
      let missed = steps_miss p w next end n plain word in
      rw (steps_append p (after w (onward next end)) others, own_append (steps p (after w (onward next end))) (steps p others), missed.0) (
        refl,
        rw (step_append 47 (steps p (after w (onward next end))) (steps p others), missed.1) refl,
      )

  -- a parameter before them: how far it goes
  longest_off : (seg : List ℕ) (next : RowsOf K) (end : Option K) → cuts seg (47 ∷ []) ≡ false → longest_from seg [] (onward next end) ≡ []
  longest_off seg [] None c = refl
  longest_off seg [] (Some key) c = refl
  longest_off seg ((t, key) ∷ next) end c = rw (longest_from, c) (longest_off seg next end c)

  longest_kept : (seg : List ℕ) (next : RowsOf K) (end : Option K) → longest_from seg (47 ∷ []) (onward next end) ≡ 47 ∷ []
  longest_kept seg [] None = refl
  longest_kept seg [] (Some key) = refl
  longest_kept seg ((t, key) ∷ next) end = longest_kept seg next end

  with_slash : (next : RowsOf K) (end : Option K) → with_suffix (47 ∷ []) (onward next end) ≡ after (47 ∷ []) next
  with_slash [] None = refl
  with_slash [] (Some key) = refl
  with_slash ((t, key) ∷ next) end = ap (λ z. (47 ∷ t, key) ∷ z) (with_slash next end)

  param_last : (next : RowsOf K) (end : Option K) (p : List ℕ) → has_slash p ≡ false → param_step (onward next end) p ≡ (length p, onward next end)
  unfolding param_step
  param_last next end p plain = rw (segment_plain p plain, longest_off p next end (cuts_plain p plain), plain) refl

  param_empty : (next : RowsOf K) (end : Option K) (q : List ℕ) → param_step (onward next end) (47 ∷ q) ≡ (0, [])
  unfolding param_step
  param_empty next end q = rw (longest_off (47 ∷ []) next end refl) refl

  param_stuck : (end : Option K) (b : ℕ) (p q : List ℕ) → param_step (ended end) ((b ∷ p) ++ 47 ∷ q) ≡ (0, [])
  unfolding param_step
  param_stuck None b p q = rw (slash_cut (b ∷ p) q) refl
  param_stuck (Some key) b p q = rw (slash_cut (b ∷ p) q) refl

  param_cut : (r : RowsOf K) (path : List ℕ) → longest_from (segment path) [] r ≡ 47 ∷ [] → param_step r path ≡ (length (segment path) - 1, with_suffix (47 ∷ []) r)
  unfolding param_step
  param_cut r path h = rw h refl

  param_inner : (t : List ℕ) (key : K) (next : RowsOf K) (end : Option K) (b : ℕ) (p q : List ℕ) → has_slash (b ∷ p) ≡ false
      → param_step (onward ((t, key) ∷ next) end) ((b ∷ p) ++ 47 ∷ q) ≡ (length (b ∷ p), after (47 ∷ []) ((t, key) ∷ next))
  param_inner t key next end b p q plain =
      let part = segment_cut (b ∷ p) q plain in
      let long : longest_from (segment ((b ∷ p) ++ 47 ∷ q)) [] (onward ((t, key) ∷ next) end) ≡ 47 ∷ [] = rw (part, longest_from, cuts_cut b p) (longest_kept (segment ((b ∷ p) ++ 47 ∷ q)) next end) in
      param_cut (onward ((t, key) ∷ next) end) ((b ∷ p) ++ 47 ∷ q) long
      ∙ rw (part, long_cut b p) (ap (λ z. (length (b ∷ p), z)) (with_slash ((t, key) ∷ next) end))

  module _ (next : RowsOf K) (end : Option K) where
    name_walk : (b : ℕ) (p : List ℕ) → b ≢ 256 → seek 0 (after (256 ∷ []) (onward next end)) (b ∷ p)
        ≡ seek ((param_step (onward next end) (b ∷ p)).0 - 1) (param_step (onward next end) (b ∷ p)).1 p
    unfolding seek
    name_walk b p n =
        rw (
          step_miss b 256 [] (onward next end) (λ e. n (sym e)),
          step_miss 257 256 [] (onward next end) (λ e. omega arith),
          step_hit 256 [] (onward next end),
          after_nil (onward next end),
          seek_none 0 p,
        )
        (or_none (seek ((param_step (onward next end) (b ∷ p)).0 - 1) (param_step (onward next end) (b ∷ p)).1 p))

    pub name_nothing : seek 0 (after (256 ∷ []) (onward next end)) [] ≡ None
    unfolding seek
    name_nothing = own_after 256 [] (onward next end)

    pub name_empty : (q : List ℕ) → seek 0 (after (256 ∷ []) (onward next end)) (47 ∷ q) ≡ None
    name_empty q = name_walk 47 q (λ e. omega arith) ∙ rw (param_empty next end q) (seek_none (0 - 1) q)

    pub name_last : (b : ℕ) (p : List ℕ) → b ≢ 256 → has_slash (b ∷ p) ≡ false → seek 0 (after (256 ∷ []) (onward next end)) (b ∷ p) ≡ end
    unfolding seek
    name_last b p n plain =
        let less : length (b ∷ p) - 1 ≡ length p = omega arith in
        name_walk b p n
        ∙ rw (param_last next end (b ∷ p) plain, less, seek_drop (length p) (onward next end) p, drop-length p) (own_onward next end)

  pub name_more : (next : RowsOf K) (end : Option K) (b : ℕ) (p q : List ℕ) → b ≢ 256 → has_slash (b ∷ p) ≡ false
      → seek 0 (after (256 ∷ []) (onward next end)) ((b ∷ p) ++ 47 ∷ q) ≡ seek 0 next q
  name_more [] end b p q n plain =
      name_walk [] end b (p ++ 47 ∷ q) n ∙ rw (param_stuck end b p q) (seek_none (0 - 1) (p ++ 47 ∷ q) ∙ sym (seek_none 0 q))
  name_more ((t, key) ∷ next) end b p q n plain =
      let less : length (b ∷ p) - 1 ≡ length p = omega arith in
      let rows : RowsOf K = after (47 ∷ []) ((t, key) ∷ next) in
      name_walk ((t, key) ∷ next) end b (p ++ 47 ∷ q) n
      ∙ rw (param_inner t key next end b p q plain, less, seek_drop (length p) rows (p ++ 47 ∷ q), drop-append_seam p (47 ∷ q))
      (seek_byte rows 47 q (step_miss 256 47 [] ((t, key) ∷ next) (λ e. omega arith)) (step_miss 257 47 [] ((t, key) ∷ next) (λ e. omega arith))
      ∙ ap (λ z. seek 0 z q) (step_hit 47 [] ((t, key) ∷ next) ∙ after_nil ((t, key) ∷ next)))
