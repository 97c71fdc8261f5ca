-- Escapes of what acts on a terminal: each step of the text, and that nothing acts in what is left.
use lib.Utf8.{encode}
use Rattle.docs.proofs.Outside.{◌≡◌, refl, sym, ap, ◌∙◌, subst, arith, ℕ, zero, suc, ◌+◌, ◌-◌, ◌*◌, ◌<◌, ◌≤◌, ◌==◌, ◌%◌, ◌/◌, ◌||◌, ◌⊎◌, inl, inr, List, [], ◌∷◌, ◌++◌, append_assoc, append-nil, get_or, take, drop, take-append-drop, length, Bool, true, false, cond, nat_lt, nat_le, eqb-true, ne_eqb, leb-true, le-ltb, lt-ltb, ltb-true, ◌&&◌, eqb-false, and_parts, lt-leb, cases_eq, false≢true, agree_below, agree_below_at, ⊤, AllByRecursion, list_all, digit_char, encode_utf8}
use Rattle.std.specs.Int.{is_in_range}
use Rattle.docs.specs.Escapes.{acts, NothingActs, is_tail, code_of, acting, behind_first, unicode_escape, escaped_from, escaped}

-- ---- what bytes begin

pub none_acts : (a b c : ℕ) → a < 127 → acting a b c ≡ 0
unfolding acting code_of
none_acts a b c low =
    let none : code_of a b c ≡ 0 = rw (ne_eqb a 0x7f (λ e. omega arith), lt-leb 0xc2 a (omega arith), ne_eqb a 0xe2 (λ e. omega arith)) in
    ap (λ n. cond (acts n) n 0) none

-- ASCII is no part of a character of more bytes
second_low : (a b c b' c' : ℕ) → b < 128 → b' < 128 → acting a b c ≡ acting a b' c'
unfolding acting code_of
second_low a b c b' c' low low' =
    let same : code_of a b c ≡ code_of a b' c' = rw (lt-leb 0x80 b low, lt-leb 0x80 b' low') in
    ap (λ n. cond (acts n) n 0) same

third_low : (a b c c' : ℕ) → c < 128 → c' < 128 → acting a b c ≡ acting a b c'
unfolding acting code_of
third_low a b c c' low low' =
    let same : code_of a b c ≡ code_of a b c' = rw (lt-leb 0x80 c low, lt-leb 0x80 c' low') in
    ap (λ n. cond (acts n) n 0) same

within : (low high c : ℕ) → is_in_range low high c ≡ true → (low ≤ c) × (c ≤ high)
within low high c is = let parts = and_parts (nat_le low c) (nat_le c high) is in (leb-true low c parts.0, leb-true c high parts.1)

two_bytes : (a b : ℕ) → 0xc2 ≤ a → a ≤ 0xdf → 0x80 ≤ b → b ≤ 0xbf → encode_utf8 (a % 32 * 64 + b % 64) ≡ a ∷ b ∷ []
unfolding encode
two_bytes a b low high low' high' =
    let n = a % 32 * 64 + b % 64 in
    let first : 192 + n / 64 ≡ a = omega arith in
    let second : 128 + n % 64 ≡ b = omega arith in
    rw (le-ltb n 128 (omega arith), lt-ltb n 2048 (omega arith), first, second)

three_bytes : (b c : ℕ) → 0x80 ≤ b → b ≤ 0xbf → 0x80 ≤ c → c ≤ 0xbf → encode_utf8 (0x2000 + b % 64 * 64 + c % 64) ≡ 0xe2 ∷ b ∷ c ∷ []
unfolding encode
three_bytes b c low high low' high' =
    let n = 0x2000 + b % 64 * 64 + c % 64 in
    let first : 224 + n / 4096 ≡ 0xe2 = omega arith in
    let second : 128 + n / 64 % 64 ≡ b = omega arith in
    let third : 128 + n % 64 ≡ c = omega arith in
    rw (le-ltb n 128 (omega arith), le-ltb n 2048 (omega arith), lt-ltb n 65536 (omega arith), first, second, third)

-- so many first bytes aren't ASCII
abbrev pub AreHigh : ℕ → List ℕ → Type 0
AreHigh zero s = ⊤
AreHigh (suc k) [] = ⊥
AreHigh (suc k) (x ∷ s) = (128 ≤ x) × AreHigh k s

high_length : (k : ℕ) (s : List ℕ) → AreHigh k s → k ≤ length s
high_length zero s high = omega arith
high_length (suc k) [] high = absurd high
high_length (suc k) (x ∷ s) high = let more = high_length k s high.1 in omega (arith, more)

high_one : (s : List ℕ) → 128 ≤ get_or s 0 0 → AreHigh 1 s × (take 1 s ≡ get_or s 0 0 ∷ [])
high_one [] first = absurd (omega (arith, first))
high_one (x ∷ s) first = ((first, tt), refl)

high_two : (s : List ℕ) → 128 ≤ get_or s 0 0 → 128 ≤ get_or s 1 0 → AreHigh 2 s × (take 2 s ≡ get_or s 0 0 ∷ get_or s 1 0 ∷ [])
high_two [] first second = absurd (omega (arith, first))
high_two (x ∷ s) first second = let more = high_one s second in ((first, more.0), ap (λ (xs : List ℕ). x ∷ xs) more.1)

-- a character of which the first byte is a, and the others are in front of these
abbrev IsSpelt : ℕ → ℕ → List ℕ → Type 0
IsSpelt n a rest = AreHigh (behind_first a) rest × (encode_utf8 n ≡ a ∷ take (behind_first a) rest)

coded : (a : ℕ) (rest : List ℕ) → (code_of a (get_or rest 0 0) (get_or rest 1 0) ≡ 0 → ⊥) → IsSpelt (code_of a (get_or rest 0 0) (get_or rest 1 0)) a rest
unfolding code_of encode
coded a rest some = by _ _ _ _ _ refl refl refl refl refl some
  where
    b : ℕ
    b = get_or rest 0 0

    c : ℕ
    c = get_or rest 1 0

    value : Bool → Bool → Bool → Bool → Bool → ℕ
    value del lead three second third = cond del 0x7f (cond lead (cond second (a % 32 * 64 + b % 64) 0) (cond three (cond second (cond third (0x2000 + b % 64 * 64 + c % 64) 0) 0) 0))

    by : (del lead three second third : Bool) → (a == 0x7f) ≡ del → is_in_range 0xc2 0xdf a ≡ lead → (a == 0xe2) ≡ three → is_tail b ≡ second → is_tail c ≡ third → (value del lead three second third ≡ 0 → ⊥) → IsSpelt (value del lead three second third) a rest
    by true lead three second third d l t s u some = subst (λ x. IsSpelt 0x7f x rest) (sym (eqb-true a 0x7f d)) (tt, refl)
    by false true three true third d l t s u some =
        let first = within 0xc2 0xdf a l in
        let tail = within 0x80 0xbf b s in
        let high = high_one rest tail.0 in
        let behind : behind_first a ≡ 1 = rw (d, ne_eqb a 0xe2 (λ e. omega (arith, first.1))) in
        rw behind (high.0, two_bytes a b first.0 first.1 tail.0 tail.1 ∙ ap (λ (xs : List ℕ). a ∷ xs) (sym high.1))
    by false false true true true d l t s u some =
        let second = within 0x80 0xbf b s in
        let third = within 0x80 0xbf c u in
        let high = high_two rest second.0 third.0 in
        subst (λ x. IsSpelt (0x2000 + b % 64 * 64 + c % 64) x rest) (sym (eqb-true a 0xe2 t)) (high.0, three_bytes b c second.0 second.1 third.0 third.1 ∙ ap (λ (xs : List ℕ). 0xe2 ∷ xs) (sym high.1))
    by false lead three second third d l t s u some = absurd (some refl)

-- the same of a character that acts: it begins with the byte a, in front of these bytes
pub record Begun (n a : ℕ) (rest : List ℕ) : Type 0 where
  pub high : AreHigh (behind_first a) rest
  pub bytes : encode_utf8 n ≡ a ∷ take (behind_first a) rest
  pub is_acting : acts n ≡ true

pub begun : (a : ℕ) (rest : List ℕ) → (acting a (get_or rest 0 0) (get_or rest 1 0) ≡ 0 → ⊥) → Begun (acting a (get_or rest 0 0) (get_or rest 1 0)) a rest
unfolding acting
begun a rest some = by _ refl some
  where
    n : ℕ
    n = code_of a (get_or rest 0 0) (get_or rest 1 0)

    by : (is : Bool) → acts n ≡ is → (cond is n 0 ≡ 0 → ⊥) → Begun (cond is n 0) a rest
    by true is some = let spelt = coded a rest some in record { high = spelt.0; bytes = spelt.1; is_acting = is }
    by false is some = absurd (some refl)

-- whether a test passes at each number from one up to another
abbrev each : (ℕ → Bool) → ℕ → ℕ → Bool
each f low high = agree_below (λ d. f (low + d)) (λ d. true) (suc high - low)

each_at : (f : ℕ → Bool) (low high c : ℕ) → each f low high ≡ true → is_in_range low high c ≡ true → f c ≡ true
each_at f low high c all is =
    let bounds = within low high c is in
    let same : low + (c - low) ≡ c = omega (arith, bounds.0) in
    subst (λ n. f n ≡ true) same (agree_below_at (λ d. f (low + d)) (λ d. true) (suc high - low) (c - low) all (omega (arith, bounds.0, bounds.1)))

-- a test that passes at each character that acts
acts_each : (f : ℕ → Bool) → each f 0x7f 0x9f ≡ true → f 0x61c ≡ true → each f 0x200e 0x200f ≡ true → each f 0x2028 0x202e ≡ true → each f 0x2066 0x2069 ≡ true → (c : ℕ) → acts c ≡ true → f c ≡ true
acts_each f controls arabic marks separators isolates c is = by _ _ _ _ _ refl refl refl refl refl is
  where
    by : (one two three four five : Bool) → is_in_range 0x7f 0x9f c ≡ one → (c == 0x61c) ≡ two → is_in_range 0x200e 0x200f c ≡ three → is_in_range 0x2028 0x202e c ≡ four → is_in_range 0x2066 0x2069 c ≡ five → (one || two || three || four || five) ≡ true → f c ≡ true
    by true two three four five e e2 e3 e4 e5 is = each_at f 0x7f 0x9f c controls e
    by false true three four five e e2 e3 e4 e5 is = subst (λ n. f n ≡ true) (sym (eqb-true c 0x61c e2)) arabic
    by false false true four five e e2 e3 e4 e5 is = each_at f 0x200e 0x200f c marks e3
    by false false false true five e e2 e3 e4 e5 is = each_at f 0x2028 0x202e c separators e4
    by false false false false true e e2 e3 e4 e5 is = each_at f 0x2066 0x2069 c isolates e5
    by false false false false false e e2 e3 e4 e5 is = absurd (cc)

-- what the first bytes of a text begin
abbrev first_acting : List ℕ → ℕ
first_acting [] = 0
first_acting (a ∷ rest) = acting a (get_or rest 0 0) (get_or rest 1 0)

-- the UTF-8 of a character that acts, as it is found
acts_found : (c : ℕ) → acts c ≡ true → (after : List ℕ) → first_acting (encode_utf8 c ++ after) ≡ c
unfolding acting encode code_of
acts_found c is after = eqb-true _ c (acts_each (λ n. first_acting (encode_utf8 n ++ after) == n) refl refl refl refl refl c is)

-- below the surrogates
pub acts_small : (c : ℕ) → acts c ≡ true → c < 0xd800
acts_small c is = ltb-true c 0xd800 (acts_each (λ n. nat_lt n 0xd800) refl refl refl refl refl c is)

-- ---- each step of the text

pub step_skipped : (skip a : ℕ) (rest : List ℕ) → 0 < skip → escaped_from (skip - 1) rest ≡ escaped_from skip (a ∷ rest)
unfolding escaped_from
step_skipped zero a rest some = absurd (omega arith)
step_skipped (suc skip) a rest some = ap (λ n. escaped_from n rest) (omega arith)

pub step_plain : (skip a b c : ℕ) (rest out : List ℕ) → skip ≡ 0 → acting a b c ≡ 0 → get_or rest 0 0 ≡ b → get_or rest 1 0 ≡ c → (out ++ a ∷ []) ++ escaped_from 0 rest ≡ out ++ escaped_from skip (a ∷ rest)
unfolding escaped_from
step_plain skip a b c rest out none is second third = append_assoc out (a ∷ []) (escaped_from 0 rest) ∙ rw (none, second, third, is)

pub step_escaped : (skip a b c : ℕ) (rest out : List ℕ) → skip ≡ 0 → (acting a b c ≡ 0 → ⊥) → get_or rest 0 0 ≡ b → get_or rest 1 0 ≡ c → (out ++ unicode_escape (acting a b c)) ++ escaped_from (behind_first a) rest ≡ out ++ escaped_from skip (a ∷ rest)
unfolding escaped_from
step_escaped skip a b c rest out none some second third = append_assoc out (unicode_escape (acting a b c)) (escaped_from (behind_first a) rest) ∙ rw (none, second, third, ne_eqb (acting a b c) 0 some)

pub escaped_end : (skip : ℕ) (out left : List ℕ) → left ≡ [] → out ≡ out ++ escaped_from skip left
unfolding escaped_from
escaped_end skip out left none = sym (append-nil out) ∙ rw none

-- bytes below DEL stay
pub plain_stays : (text : List ℕ) → list_all (λ b. nat_lt b 127) text ≡ true → text ≡ escaped text
unfolding escaped_from
plain_stays [] plain = refl
plain_stays (a ∷ rest) plain =
    let parts = and_parts _ _ plain in
    rw (none_acts a (get_or rest 0 0) (get_or rest 1 0) (ltb-true a 127 parts.0)) (ap (λ xs. a ∷ xs) (plain_stays rest parts.1))

-- ASCII that stands behind a text is in no character of it
pub joined : (k : ℕ) (t : List ℕ) (y : ℕ) (ys : List ℕ) → y < 128 → k ≤ length t → escaped_from k (t ++ y ∷ ys) ≡ escaped_from k t ++ escaped (y ∷ ys)
unfolding escaped_from
joined zero [] y ys low h = refl
joined (suc k) [] y ys low h = absurd (omega (arith, h))
joined (suc k) (x ∷ t) y ys low h = joined k t y ys low (omega (arith, h))
joined zero (x ∷ t) y ys low h = by _ refl (joined 0 t y ys low (omega arith)) (λ k within. joined k t y ys low within)
  where
    last : (t : List ℕ) → acting x (get_or (t ++ y ∷ ys) 0 0) (get_or (t ++ y ∷ ys) 1 0) ≡ acting x (get_or t 0 0) (get_or t 1 0)
    last [] = second_low x y (get_or ys 0 0) 0 0 low (omega arith)
    last (z ∷ []) = third_low x z y 0 low (omega arith)
    last (z ∷ z' ∷ t) = refl

    by : (none : Bool) → (acting x (get_or t 0 0) (get_or t 1 0) == 0) ≡ none → escaped_from 0 (t ++ y ∷ ys) ≡ escaped_from 0 t ++ escaped (y ∷ ys) → ((k : ℕ) → k ≤ length t → escaped_from k (t ++ y ∷ ys) ≡ escaped_from k t ++ escaped (y ∷ ys)) → escaped_from 0 (x ∷ (t ++ y ∷ ys)) ≡ escaped_from 0 (x ∷ t) ++ escaped (y ∷ ys)
    by true is next behind = rw (last t, is) (ap (λ (xs : List ℕ). x ∷ xs) next)
    by false is next behind =
        let n = acting x (get_or t 0 0) (get_or t 1 0) in
        rw (last t, is)
        (ap (λ (xs : List ℕ). unicode_escape n ++ xs) (behind (behind_first x) (high_length _ t (begun x t (eqb-false n 0 is)).high))
        ∙ sym (append_assoc (unicode_escape n) (escaped_from (behind_first x) t) (escaped (y ∷ ys))))

-- ---- nothing acts

-- no byte begins a character that acts
abbrev NoneBegins : List ℕ → Type 0
NoneBegins [] = ⊤
NoneBegins (a ∷ rest) = (acting a (get_or rest 0 0) (get_or rest 1 0) ≡ 0) × NoneBegins rest

-- what is in front of the escaped text and isn't ASCII stood there before
high_stood : (k : ℕ) (rest : List ℕ) → AreHigh k (escaped rest) → take k (escaped rest) ≡ take k rest
unfolding escaped_from unicode_escape
high_stood zero rest high = refl
high_stood (suc k) [] high = refl
high_stood (suc k) (b ∷ rest) high = by _ refl high (high_stood k rest)
  where
    n : ℕ
    n = acting b (get_or rest 0 0) (get_or rest 1 0)

    by : (is : Bool) → (n == 0) ≡ is → AreHigh (suc k) (cond is (b ∷ escaped rest) (unicode_escape n ++ escaped_from (behind_first b) rest)) → (AreHigh k (escaped rest) → take k (escaped rest) ≡ take k rest) → take (suc k) (cond is (b ∷ escaped rest) (unicode_escape n ++ escaped_from (behind_first b) rest)) ≡ b ∷ take k rest
    by true is high next = ap (λ (xs : List ℕ). b ∷ xs) (next high.1)
    by false is high next = absurd (omega (arith, high.0))

-- a byte that begins no character begins none either before the escaped text
stays_none : (a : ℕ) (rest : List ℕ) → acting a (get_or rest 0 0) (get_or rest 1 0) ≡ 0 → acting a (get_or (escaped rest) 0 0) (get_or (escaped rest) 1 0) ≡ 0
stays_none a rest none = by (cases_eq _ 0)
  where
    n : ℕ
    n = acting a (get_or (escaped rest) 0 0) (get_or (escaped rest) 1 0)

    by : (n ≡ 0) ⊎ (n ≡ 0 → ⊥) → n ≡ 0
    by (inl is) = is
    by (inr some) =
        let is = begun a (escaped rest) some in
        let k = behind_first a in
        let text : encode_utf8 n ++ drop k rest ≡ a ∷ rest = ap (λ (xs : List ℕ). xs ++ drop k rest) (is.bytes ∙ ap (λ (xs : List ℕ). a ∷ xs) (high_stood k rest is.high)) ∙ ap (λ (xs : List ℕ). a ∷ xs) (take-append-drop k rest) in
        absurd (some (sym (acts_found n is.is_acting (drop k rest)) ∙ ap first_acting text ∙ none))

-- each byte is a character of ASCII, but no control
abbrev pub Shown : List ℕ → Type 0
Shown = AllByRecursion (λ b. (32 ≤ b) × (b < 127))

abbrev pub are_shown : List ℕ → Bool
are_shown [] = true
are_shown (x ∷ xs) = (nat_le 32 x && nat_lt x 127) && are_shown xs

pub shown_from : (xs : List ℕ) → are_shown xs ≡ true → Shown xs
shown_from [] is = tt
shown_from (x ∷ xs) is =
    let parts = and_parts _ _ is in
    let bounds = and_parts _ _ parts.0 in
    ((leb-true 32 x bounds.0, ltb-true x 127 bounds.1), shown_from xs parts.1)

-- a digit of 16
pub shown_digit : (d : ℕ) → d < 16 → (32 ≤ digit_char d) × (digit_char d < 127)
shown_digit d low = let shown = shown_from (digit_char d ∷ []) (agree_below_at (λ e. are_shown (digit_char e ∷ [])) (λ e. true) 16 d refl low) in shown.0

escape_none : (c : ℕ) (text : List ℕ) → NoneBegins text → NoneBegins (unicode_escape c ++ text)
unfolding unicode_escape
escape_none c text none = (none_acts _ _ _ (omega arith), (none_acts _ _ _ (omega arith), (none_acts _ _ _ (shown_digit (c / 4096 % 16) (omega arith)).1, (none_acts _ _ _ (shown_digit (c / 256 % 16) (omega arith)).1, (none_acts _ _ _ (shown_digit (c / 16 % 16) (omega arith)).1, (none_acts _ _ _ (shown_digit (c % 16) (omega arith)).1, none))))))

none_begins : (skip : ℕ) (text : List ℕ) → NoneBegins (escaped_from skip text)
unfolding escaped_from
none_begins skip [] = tt
none_begins (suc skip) (a ∷ rest) = none_begins skip rest
none_begins zero (a ∷ rest) = by (acting a (get_or rest 0 0) (get_or rest 1 0) == 0) refl (none_begins 0 rest) (none_begins (behind_first a) rest)
  where
    by : (is : Bool) → (acting a (get_or rest 0 0) (get_or rest 1 0) == 0) ≡ is → NoneBegins (escaped_from 0 rest) → NoneBegins (escaped_from (behind_first a) rest) → NoneBegins (cond is (a ∷ escaped_from 0 rest) (unicode_escape (acting a (get_or rest 0 0) (get_or rest 1 0)) ++ escaped_from (behind_first a) rest))
    by true is next behind = (stays_none a rest (eqb-true (acting a (get_or rest 0 0) (get_or rest 1 0)) 0 is), next)
    by false is next behind = escape_none (acting a (get_or rest 0 0) (get_or rest 1 0)) (escaped_from (behind_first a) rest) behind

none_first : (before text : List ℕ) → NoneBegins (before ++ text) → first_acting text ≡ 0
none_first [] [] none = refl
none_first [] (a ∷ text) none = none.0
none_first (a ∷ before) text none = none_first before text none.1

-- nothing acts in an escaped text with a line feed behind it
pub escaped_safe : (text : List ℕ) → NothingActs (escaped text ++ 10 ∷ [])
unfolding escaped_from
escaped_safe text c before after is e =
    let feed : escaped (10 ∷ []) ≡ 10 ∷ [] = sym (plain_stays (10 ∷ []) refl) in
    let whole = joined 0 text 10 [] (omega arith) (omega arith) ∙ ap (λ (xs : List ℕ). escaped text ++ xs) feed ∙ e in
    false≢true (subst (λ n. acts n ≡ true) (sym (acts_found c is after) ∙ none_first before (encode_utf8 c ++ after) (subst NoneBegins whole (none_begins 0 (text ++ 10 ∷ [])))) is)

-- ---- no control character of ASCII

abbrev pub Printed : List ℕ → Type 0
Printed = AllByRecursion (λ b. 32 ≤ b)

escape_printed : (c : ℕ) (text : List ℕ) → Printed text → Printed (unicode_escape c ++ text)
unfolding unicode_escape
escape_printed c text is = (omega arith, (omega arith, ((shown_digit (c / 4096 % 16) (omega arith)).0, ((shown_digit (c / 256 % 16) (omega arith)).0, ((shown_digit (c / 16 % 16) (omega arith)).0, ((shown_digit (c % 16) (omega arith)).0, is))))))

pub escaped_printed : (skip : ℕ) (text : List ℕ) → Printed text → Printed (escaped_from skip text)
unfolding escaped_from
escaped_printed skip [] is = tt
escaped_printed (suc skip) (a ∷ rest) is = escaped_printed skip rest is.1
escaped_printed zero (a ∷ rest) is = by (acting a (get_or rest 0 0) (get_or rest 1 0) == 0) (escaped_printed 0 rest is.1) (escaped_printed (behind_first a) rest is.1)
  where
    by : (none : Bool) → Printed (escaped_from 0 rest) → Printed (escaped_from (behind_first a) rest) → Printed (cond none (a ∷ escaped_from 0 rest) (unicode_escape (acting a (get_or rest 0 0) (get_or rest 1 0)) ++ escaped_from (behind_first a) rest))
    by true next behind = (is.0, next)
    by false next behind = escape_printed (acting a (get_or rest 0 0) (get_or rest 1 0)) (escaped_from (behind_first a) rest) behind
