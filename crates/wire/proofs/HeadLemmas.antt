-- The places of a head's reading: what each byte does, and that bytes after the head's end change nothing.
use Rattle.std.proofs.Common.{◌≡◌, ◌≢◌, ℕ, suc, ◌+◌, ◌<◌, ◌≤◌, List, [], ◌∷◌, ◌++◌, length, drop, get_or, Bool, true, false, ◌==◌, cond, nat_le, nat_lt, Option, Some, None, option_map, is_some, refl, sym, ap, ◌∙◌, arith, inl, inr, ◌⊎◌, length-append, add-one, drop-cons}
use Rattle.std.proofs.lemmas.List.{append-nil}
use Rattle.std.proofs.lemmas.Bool.{ltb-false, lt-ltb, le-ltb, le-leb, lt-leb}
use Rattle.wire.specs.declared.heads.TheConstants.{MAX_HEAD}
use Rattle.wire.specs.declared.heads.HeadPosition.{HeadPosition}
use Rattle.wire.specs.declared.heads.HeadPosition.TheVariants.{Blank, Text, Feed, FeedReturn}
use Rattle.wire.specs.Heads.{head_len, text_len, has_feed, Unfinished, Long, Whole, head_end_by, head_end_of}
use Rattle.wire.specs.Inner.Positions.{len_from, len_after, len_past}

-- a byte's step, whatever follows
abbrev Step : HeadPosition → ℕ → Type 0
Step p b = (q : Option HeadPosition) × ((bytes : List ℕ) → len_from p (b ∷ bytes) ≡ len_after q bytes)

step_blank : (b : ℕ) (x y : Bool) → (b == 10) ≡ x → (b == 13) ≡ y → Step Blank b
step_blank b true y e f = (Some Blank, λ bytes. simp e)
step_blank b false true e f = (Some Blank, λ bytes. simp (e, f))
step_blank b false false e f = (Some Text, λ bytes. simp (e, f))

step_text : (b : ℕ) (x : Bool) → (b == 10) ≡ x → Step Text b
step_text b true e = (Some Feed, λ bytes. simp e)
step_text b false e = (Some Text, λ bytes. simp e)

return_first : (f : Bool) (t : Option ℕ) → cond (is_some {T = ℕ} (cond f (Some 2) None)) (cond f (Some 2) None) (option_map suc t) ≡ option_map suc (cond f (Some 1) t)
return_first true t = refl
return_first false t = refl

step_feed : (b : ℕ) (x y : Bool) → (b == 10) ≡ x → (b == 13) ≡ y → Step Feed b
step_feed b true y e f = (None, λ bytes. simp e)
step_feed b false true e f = (Some FeedReturn, λ bytes. simp (e, f) (return_first (has_feed bytes) (text_len bytes)))
step_feed b false false e f = (Some Text, λ bytes. simp (e, f))

step_return : (b : ℕ) (x : Bool) → (b == 10) ≡ x → Step FeedReturn b
step_return b true e = (None, λ bytes. simp e)
step_return b false e = (Some Text, λ bytes. simp e)

pub step : (p : HeadPosition) (b : ℕ) → Step p b
step Blank b = step_blank b (b == 10) (b == 13) refl refl
step Text b = step_text b (b == 10) refl
step Feed b = step_feed b (b == 10) (b == 13) refl refl
step FeedReturn b = step_return b (b == 10) refl

pub len_nil : (p : HeadPosition) → len_from p [] ≡ None
len_nil Blank = refl
len_nil Text = refl
len_nil Feed = refl
len_nil FeedReturn = refl

map_some : (o : Option ℕ) (n : ℕ) → option_map suc o ≡ Some n → (m : ℕ) × (o ≡ Some m) × (n ≡ suc m)
map_some None n e = absurd (cc)
map_some (Some m) n e = (m, refl, cc)

map_none : (o : Option ℕ) → option_map suc o ≡ None → o ≡ None
map_none None e = refl
map_none (Some m) e = absurd (cc)

-- bytes after the head's end change nothing
pub len_more : (p : HeadPosition) (bytes more : List ℕ) (n : ℕ) → len_from p bytes ≡ Some n → len_from p (bytes ++ more) ≡ Some n
len_more p [] more n e = let z = len_nil p in absurd (cc)
len_more p (b ∷ bytes) more n e =
    let s = step p b in
    s.1 (bytes ++ more) ∙ go s.0 (λ q m h. len_more q bytes more m h) (sym (s.1 bytes) ∙ e)
  where
    go : (q : Option HeadPosition) → ((q : HeadPosition) (m : ℕ) → len_from q bytes ≡ Some m → len_from q (bytes ++ more) ≡ Some m)
        → len_after q bytes ≡ Some n → len_after q (bytes ++ more) ≡ Some n
    go None ih h = h
    go (Some q) ih h =
        let m = map_some (len_from q bytes) n h in
        ap (option_map suc) (ih q m.0 m.1) ∙ ap Some (sym m.2)

-- the head lies in the bytes that show its end
pub len_within : (p : HeadPosition) (bytes : List ℕ) (n : ℕ) → len_from p bytes ≡ Some n → n ≤ length bytes
len_within p [] n e = let z = len_nil p in absurd (cc)
len_within p (b ∷ bytes) n e =
    let s = step p b in go s.0 (λ q m h. len_within q bytes m h) (sym (s.1 bytes) ∙ e)
  where
    go : (q : Option HeadPosition) → ((q : HeadPosition) (m : ℕ) → len_from q bytes ≡ Some m → m ≤ length bytes)
        → len_after q bytes ≡ Some n → n ≤ length (b ∷ bytes)
    go None ih h = let one : 1 ≡ n = cc in omega arith
    go (Some q) ih h =
        let m = map_some (len_from q bytes) n h in
        let w : m.0 ≤ length bytes = ih q m.0 m.1 in
        omega (arith, m.2)

positive_after : (q : Option HeadPosition) (bytes : List ℕ) (n : ℕ) → len_after q bytes ≡ Some n → 0 < n
positive_after None bytes n h = let one : 1 ≡ n = cc in omega arith
positive_after (Some q) bytes n h = let m = map_some (len_from q bytes) n h in omega (arith, m.2)

positive : (p : HeadPosition) (bytes : List ℕ) (n : ℕ) → len_from p bytes ≡ Some n → 0 < n
positive p [] n f = let z = len_nil p in absurd (cc)
positive p (b ∷ bytes) n f = let s = step p b in positive_after s.0 bytes n (sym (s.1 bytes) ∙ f)

-- an end that shows only with more bytes lies past the first ones
pub len_late : (p : HeadPosition) (bytes more : List ℕ) (n : ℕ) → len_from p bytes ≡ None → len_from p (bytes ++ more) ≡ Some n → length bytes < n
len_late p [] more n e f = positive p more n f
len_late p (b ∷ bytes) more n e f =
    let s = step p b in
    go s.0 (λ q m h k. len_late q bytes more m h k) (sym (s.1 bytes) ∙ e) (sym (s.1 (bytes ++ more)) ∙ f)
  where
    go : (q : Option HeadPosition)
        → ((q : HeadPosition) (m : ℕ) → len_from q bytes ≡ None → len_from q (bytes ++ more) ≡ Some m → length bytes < m)
        → len_after q bytes ≡ None → len_after q (bytes ++ more) ≡ Some n → length (b ∷ bytes) < n
    go None ih h k = absurd (cc)
    go (Some q) ih h k =
        let m = map_some (len_from q (bytes ++ more)) n k in
        let w : length bytes < m.0 = ih q m.0 (map_none (len_from q bytes) h) m.1 in
        omega (arith, m.2)

-- ---- where the head of a string ends

long_none : (len : ℕ) → MAX_HEAD ≤ len → head_end_by None len ≡ Long
long_none len h = rw (le-ltb len MAX_HEAD h) refl

pub long_some : (n len : ℕ) → MAX_HEAD < n → head_end_by (Some n) len ≡ Long
long_some n len h = rw (lt-leb n MAX_HEAD h) refl

long_by : (o : Option ℕ) (len : ℕ) → MAX_HEAD ≤ len → ((n : ℕ) → o ≡ Some n → MAX_HEAD < n) → head_end_by o len ≡ Long
long_by None len h late = long_none len h
long_by (Some n) len h late = long_some n len (late n refl)

none_by : (len : ℕ) → (head_end_by None len ≡ Unfinished) ⊎ (MAX_HEAD ≤ len)
none_by len = by_test (nat_lt len MAX_HEAD) refl
  where
    by_test : (t : Bool) → nat_lt len MAX_HEAD ≡ t → (head_end_by None len ≡ Unfinished) ⊎ (MAX_HEAD ≤ len)
    by_test true e = inl (rw e refl)
    by_test false e = inr (ltb-false len MAX_HEAD e)

pub head_end_some : (bytes : List ℕ) (n : ℕ) → head_len bytes ≡ Some n → n ≤ MAX_HEAD → head_end_of bytes ≡ Whole n
head_end_some bytes n e h = rw (e, le-leb n MAX_HEAD h) refl

pub head_end_short : (bytes : List ℕ) → head_len bytes ≡ None → length bytes < MAX_HEAD → head_end_of bytes ≡ Unfinished
head_end_short bytes e h = rw (e, lt-ltb (length bytes) MAX_HEAD h) refl

pub head_end_long : (bytes : List ℕ) → head_len bytes ≡ None → MAX_HEAD ≤ length bytes → head_end_of bytes ≡ Long
head_end_long bytes e h = rw (e, le-ltb (length bytes) MAX_HEAD h) refl

-- once it isn't unfinished, bytes that follow change nothing
pub head_end_more : (bytes more : List ℕ) → head_end_of bytes ≢ Unfinished → head_end_of (bytes ++ more) ≡ head_end_of bytes
head_end_more bytes more open_end = by_len (head_len bytes) refl
  where
    by_len : (o : Option ℕ) → head_len bytes ≡ o → head_end_of (bytes ++ more) ≡ head_end_of bytes
    by_len (Some n) e = rw (e, len_more Blank bytes more n e) refl
    by_len None e =
        elim (none_by (length bytes)) [
          | inl short ↦ absurd (open_end (rw e short))
          | inr long ↦
              let late : (n : ℕ) → head_len (bytes ++ more) ≡ Some n → MAX_HEAD < n =
              λ n f. let w : length bytes < n = len_late Blank bytes more n e f in omega arith in
              long_by (head_len (bytes ++ more)) (length (bytes ++ more)) (omega (arith, length-append bytes more, long)) late
              ∙ sym (head_end_long bytes e long)
        ]

head_end_within_by : (o : Option ℕ) (len n : ℕ) → head_end_by o len ≡ Whole n → (o ≡ Some n)
head_end_within_by (Some m) len n e = by_test (nat_le m MAX_HEAD) refl
  where
    by_test : (t : Bool) → nat_le m MAX_HEAD ≡ t → Some m ≡ Some n
    by_test true f = let g : Whole m ≡ Whole n = sym (rw f refl) ∙ e in cc
    by_test false f = let g : Long ≡ Whole n = sym (rw f refl) ∙ e in absurd (cc)
head_end_within_by None len n e = by_test (nat_lt len MAX_HEAD) refl
  where
    by_test : (t : Bool) → nat_lt len MAX_HEAD ≡ t → None ≡ Some n
    by_test true f = let g : Unfinished ≡ Whole n = sym (rw f refl) ∙ e in absurd (cc)
    by_test false f = let g : Long ≡ Whole n = sym (rw f refl) ∙ e in absurd (cc)

pub head_end_within : (bytes : List ℕ) (n : ℕ) → head_end_of bytes ≡ Whole n → n ≤ length bytes
head_end_within bytes n e = len_within Blank bytes n (head_end_within_by (head_len bytes) (length bytes) n e)

-- ---- a piece, byte by byte

abbrev pub Goes : HeadPosition → List ℕ → ℕ → HeadPosition → Type 0
Goes p piece i q = (more : List ℕ) → len_from p (piece ++ more) ≡ len_past None i q (drop i piece ++ more)

past_step : (o : Option ℕ) (i : ℕ) → option_map (λ n. i + n) (option_map suc o) ≡ option_map (λ n. i + 1 + n) o
past_step None i = refl
past_step (Some n) i = let e : i + suc n ≡ i + 1 + n = omega arith in ap Some e

split_at : (piece : List ℕ) (i : ℕ) (more : List ℕ) → i < length piece → drop i piece ++ more ≡ get_or piece i 0 ∷ (drop (i + 1) piece ++ more)
split_at piece i more h = rw (add-one, drop-cons piece i 0 h) refl

pub goes_on : (p q r : HeadPosition) (piece : List ℕ) (i : ℕ) → i < length piece → Goes p piece i q
    → ((bytes : List ℕ) → len_from q (get_or piece i 0 ∷ bytes) ≡ len_after (Some r) bytes) → Goes p piece (i + 1) r
goes_on p q r piece i h goes after more =
    goes more ∙ ap (λ z. option_map (λ n. i + n) (len_from q z)) (split_at piece i more h)
    ∙ ap (λ z. option_map (λ n. i + n) z) (after (drop (i + 1) piece ++ more))
    ∙ past_step (len_from r (drop (i + 1) piece ++ more)) i

-- ---- what received in several reads

abbrev pub Passes : List ℕ → HeadPosition → Type 0
Passes received q = (more : List ℕ) → head_len (received ++ more) ≡ len_past None (length received) q more

pub passes_none : (received : List ℕ) (q : HeadPosition) → Passes received q → head_len received ≡ None
passes_none received q passes =
    ap head_len (sym (append-nil received)) ∙ passes [] ∙ ap (λ z. option_map (λ n. length received + n) z) (len_nil q)

pub passes_end : (received piece : List ℕ) (q : HeadPosition) (n : ℕ) → Passes received q
    → ((more : List ℕ) → len_from q (piece ++ more) ≡ Some n) → head_len (received ++ piece) ≡ Some (length received + n)
passes_end received piece q n passes goes =
    ap head_len (ap (λ z. received ++ z) (sym (append-nil piece))) ∙ passes (piece ++ [])
    ∙ ap (λ z. option_map (λ n. length received + n) z) (goes [])

pub head_end_whole : (bytes : List ℕ) (n : ℕ) → head_end_of bytes ≡ Whole n → head_len bytes ≡ Some n
head_end_whole bytes n e = head_end_within_by (head_len bytes) (length bytes) n e
