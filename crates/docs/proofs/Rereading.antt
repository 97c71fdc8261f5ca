-- What is escaped reads back: a JSON string with its escapes for what acts on a terminal has the same text as without them.
use Rattle.docs.proofs.Outside.{codes, ◌≡◌, refl, sym, ap, ap₂, ◌∙◌, subst, arith, ℕ, zero, suc, ◌+◌, ◌*◌, ◌<◌, ◌≤◌, ◌==◌, ◌%◌, ◌/◌, ◌&&◌, ◌||◌, ◌⊎◌, inl, inr, List, [], ◌∷◌, ◌++◌, append_assoc, append-nil, get_or, drop, length, Bool, true, false, cond, nat_lt, Option, Some, None, IfSome, ◌^◌, eqb-true, ne_eqb, le-ltb, lt-ltb, ltb-true, ltb-false, take, take-append-drop, eqb-false, lt-leb, cases_lt, cases_eq, and_parts, or_parts, agree_below_at, encode_ascii, digit_char, digit_value, encode_utf8, Token, json_tokens, HasNumbers, MembersHaveNumbers, Lexeme, token, comma, colon, string_token, Mode, lex, lex_byte, between, in_string, operator, space, other, fresh, punctuate, tokens, escape_letter, escape_byte, escape, quoted, token_text, ends, begins, print_from, IsPrintable, ArePrintable, escape_byte_plain, content-escape, lex-escape, print-outline, Members, outline, members_outline}
use Rattle.json.specs.Text.{content, plain, prepend, code_unit, short_escape}
use Rattle.json.specs.Word.{is_operator, is_space, ends_word, word}
use Rattle.json.proofs.Printed.Numbers.{in_word-ended, lex-number}
use Rattle.json.proofs.Printed.Decimals.{IsNumber-decimal}
use Rattle.json.proofs.Printed.Tokens.{tokens-print}
use Rattle.json.proofs.Printed.Trees.{ArePrintable-json_tokens}
use Rattle.docs.specs.Bodies.{number_value, text_value}
use Rattle.docs.specs.declared.logs.LogRow.{LogRow}
use Rattle.docs.specs.Escapes.{acting, code_of, behind_first, unicode_escape, escaped_from, escaped}
use Rattle.docs.specs.Logs.{log_value, log_line, door_member, HasWords, LinesReadBack}
use Rattle.docs.proofs.Escaping.{Shown, shown_from, none_acts, AreHigh, begun, acts_small, joined}
use Rattle.docs.proofs.Lines.{escape_shown, itself, IsShown, AreShown, tokens_shown}

-- in a string both readers take this text as these bytes, whatever follows
record Reads (text s : List ℕ) : Type 0 where
  read : (r : List ℕ) → content plain (text ++ r) ≡ prepend s (content plain r)
  lexed : (r : List ℕ) → lex in_string (text ++ r) ≡ lex in_string r

prepend_none : (o : Option (List ℕ)) → o ≡ prepend [] o
prepend_none None = refl
prepend_none (Some s) = refl

prepend_both : (s t : List ℕ) (o : Option (List ℕ)) → prepend s (prepend t o) ≡ prepend (s ++ t) o
prepend_both s t None = refl
prepend_both s t (Some u) = ap Some (sym (append_assoc s t u))

-- one text and then another
then_reads : {text s text' s' : List ℕ} → Reads text s → Reads text' s' → Reads (text ++ text') (s ++ s')
then_reads {text} {s} {text'} {s'} first then = record {
  read = λ r. ap (content plain) (append_assoc text text' r) ∙ first.read (text' ++ r) ∙ ap (prepend s) (then.read r) ∙ prepend_both s s' (content plain r);
  lexed = λ r. ap (lex in_string) (append_assoc text text' r) ∙ first.lexed (text' ++ r) ∙ then.lexed r;
}

-- ---- an escape of six bytes

digit_low : (d : ℕ) → d < 16 → digit_value (digit_char d) ≡ d
digit_low d low = eqb-true _ d (agree_below_at (λ e. digit_value (digit_char e) == e) (λ e. true) 16 d refl low)

unit_of : (c : ℕ) → c < 65536 → code_unit (digit_char (c / 4096 % 16)) (digit_char (c / 256 % 16)) (digit_char (c / 16 % 16)) (digit_char (c % 16)) ≡ Some c
unfolding code_unit
unit_of c low =
    let a = digit_low (c / 4096 % 16) (omega arith) in
    let b = digit_low (c / 256 % 16) (omega arith) in
    let d = digit_low (c / 16 % 16) (omega arith) in
    let e = digit_low (c % 16) (omega arith) in
    let value : (c / 4096 % 16) * 4096 + (c / 256 % 16) * 256 + (c / 16 % 16) * 16 + c % 16 ≡ c = omega arith in
    rw (a, b, d, e, lt-ltb (c / 4096 % 16) 16 (omega arith), lt-ltb (c / 256 % 16) 16 (omega arith), lt-ltb (c / 16 % 16) 16 (omega arith), lt-ltb (c % 16) 16 (omega arith), value)

escape_read : (c : ℕ) (r : List ℕ) → c < 0xd800 → content plain (unicode_escape c ++ r) ≡ prepend (encode_utf8 c) (content plain r)
unfolding content unicode_escape
escape_read c r low = rw (unit_of c (omega arith), lt-leb 0xd800 c low, lt-leb 0xdc00 c (omega arith))

inside : (o s : Bool) (x : ℕ) (r : List ℕ) (k : Mode → List Lexeme) → lex_byte in_string (cond o operator (cond s space other)) x r k ≡ k in_string
inside true s x r k = refl
inside false true x r k = refl
inside false false x r k = refl

-- neither a quote nor a backslash
stays_in : (x : ℕ) (r : List ℕ) → (x ≡ 34 → ⊥) → (x ≡ 92 → ⊥) → lex in_string (x ∷ r) ≡ lex in_string r
unfolding lex
stays_in x r quote slash = rw (ne_eqb x 34 quote, ne_eqb x 92 slash) (inside (is_operator x) (is_space x) x r (λ m. lex m r))

digit_in : (d : ℕ) (r : List ℕ) → d < 16 → lex in_string (digit_char d ∷ r) ≡ lex in_string r
digit_in d r low =
    let apart = or_parts _ _ (agree_below_at (λ e. (digit_char e == 34) || (digit_char e == 92)) (λ e. false) 16 d refl low) in
    stays_in (digit_char d) r (eqb-false _ 34 apart.0) (eqb-false _ 92 apart.1)

escape_lexed : (c : ℕ) (r : List ℕ) → lex in_string (unicode_escape c ++ r) ≡ lex in_string r
unfolding lex unicode_escape
escape_lexed c r = digit_in (c / 4096 % 16) _ (omega arith) ∙ digit_in (c / 256 % 16) _ (omega arith) ∙ digit_in (c / 16 % 16) _ (omega arith) ∙ digit_in (c % 16) r (omega arith)

escape_reads : (c : ℕ) → c < 0xd800 → Reads (unicode_escape c) (encode_utf8 c)
escape_reads c low = record { read = λ r. escape_read c r low; lexed = λ r. escape_lexed c r }

-- ---- a byte of a string, with the escape that JSON has for it

short_read : (x l : ℕ) (r : List ℕ) → l < 117 → short_escape l ≡ Some x → content plain (92 ∷ l ∷ r) ≡ prepend (x ∷ []) (content plain r)
unfolding content
short_read x l r low is = rw (ne_eqb l 117 (λ e. omega arith), is)

-- the letter of a short escape is read as its byte
abbrev is_read : ℕ → Option ℕ → Bool
is_read x None = false
is_read x (Some y) = y == x

read_as : (x : ℕ) (o : Option ℕ) → is_read x o ≡ true → o ≡ Some x
read_as x None is = absurd (cc)
read_as x (Some y) is = ap Some (eqb-true y x is)

abbrev is_short : ℕ → Bool
is_short x = cond (nat_lt 0 (escape_letter x)) (nat_lt (escape_letter x) 117 && is_read x (short_escape (escape_letter x))) true

all_short : (x : ℕ) → x < 127 → is_short x ≡ true
unfolding short_escape
all_short x low = agree_below_at is_short (λ y. true) 127 x refl low

six_digits : (x : ℕ) → x < 32 → 92 ∷ 117 ∷ 48 ∷ 48 ∷ digit_char (x / 16) ∷ digit_char (x % 16) ∷ [] ≡ unicode_escape x
unfolding unicode_escape
six_digits x low =
    let a : x / 4096 % 16 ≡ 0 = omega arith in
    let b : x / 256 % 16 ≡ 0 = omega arith in
    let c : x / 16 % 16 ≡ x / 16 = omega arith in
    rw (a, b, c)

passes : (x : ℕ) → Reads (escape_byte x) (x ∷ [])
unfolding escape_byte content lex
passes x = elim (cases_lt x 127) [ inl low ↦ by low _ _ refl refl | inr high ↦ plainly (λ e. omega (arith, e, high)) (λ e. omega (arith, e, high)) (omega (arith, high)) ]
  where
    plainly : (x ≡ 34 → ⊥) → (x ≡ 92 → ⊥) → 32 ≤ x → Reads (escape_byte x) (x ∷ [])
    plainly quote slash high =
        let same = escape_byte_plain x quote slash high in
        record {
          read = λ r. rw same (rw (ne_eqb x 34 quote, ne_eqb x 92 slash, le-ltb x 32 high));
          lexed = λ r. rw same (stays_in x r quote slash);
        }

    by : x < 127 → (short control : Bool) → nat_lt 0 (escape_letter x) ≡ short → nat_lt x 32 ≡ control → Reads (escape_byte x) (x ∷ [])
    by low true control is c =
        let all : (nat_lt (escape_letter x) 117 && is_read x (short_escape (escape_letter x))) ≡ true = subst (λ b. cond b (nat_lt (escape_letter x) 117 && is_read x (short_escape (escape_letter x))) true ≡ true) is (all_short x low) in
        let parts = and_parts _ _ all in
        let same : escape_byte x ≡ 92 ∷ escape_letter x ∷ [] = rw is in
        record {
          read = λ r. rw same (short_read x (escape_letter x) r (ltb-true _ 117 parts.0) (read_as x _ parts.1));
          lexed = λ r. rw same refl;
        }
    by low false true is c =
        let small = ltb-true x 32 c in
        let same : escape_byte x ≡ unicode_escape x = rw (is, c) (six_digits x small) in
        rw (same, sym (encode_ascii x (omega (arith, small)))) (escape_reads x (omega (arith, small)))
    by low false false is c = plainly (λ e. quotes 34 e refl) (λ e. quotes 92 e refl) (ltb-false x 32 c)
      where
        quotes : (y : ℕ) → x ≡ y → nat_lt 0 (escape_letter y) ≡ true → ⊥
        quotes y e some = let same : nat_lt 0 (escape_letter x) ≡ true = ap (λ z. nat_lt 0 (escape_letter z)) e ∙ some in cc

-- bytes that are shown stay, whatever follows
front_stays : (xs r : List ℕ) → Shown xs → escaped (xs ++ r) ≡ xs ++ escaped r
unfolding escaped_from
front_stays [] r shown = refl
front_stays (x ∷ xs) r shown = rw (none_acts x (get_or (xs ++ r) 0 0) (get_or (xs ++ r) 1 0) shown.0.1) (ap (λ ys. x ∷ ys) (front_stays xs r shown.1))

-- ---- a string

some_bytes : (x : ℕ) → x < 127 → 0 < length (escape_byte x)
unfolding escape_byte
some_bytes x low = ltb-true 0 _ (agree_below_at (λ y. nat_lt 0 (length (escape_byte y))) (λ y. true) 127 x refl low)

-- what is in front of a string's text and isn't ASCII is in front of the string
high_kept : (k : ℕ) (s : List ℕ) → AreHigh k (escape s) → AreHigh k s × (take k (escape s) ≡ take k s)
high_kept zero s high = (tt, refl)
high_kept (suc k) [] high = absurd high
high_kept (suc k) (x ∷ s) high = elim (cases_lt x 127) [
  | inl low ↦ absurd (starts_low (escape_byte x) (escape_shown x low) (some_bytes x low) high)
  | inr above ↦
      let same : escape (x ∷ s) ≡ x ∷ escape s = ap (λ (xs : List ℕ). xs ++ escape s) (itself x above) in
      let is = subst (AreHigh (suc k)) same high in
      let more = high_kept k s is.1 in
      ((is.0, more.0), ap (take (suc k)) same ∙ ap (λ (xs : List ℕ). x ∷ xs) more.1)
]
  where
    starts_low : (xs : List ℕ) → Shown xs → 0 < length xs → AreHigh (suc k) (xs ++ escape s) → ⊥
    starts_low [] shown some high = omega arith
    starts_low (y ∷ ys) shown some high = omega (arith, shown.0.1, high.0)

-- the text of a string, behind so many of its bytes
string_reads : (k : ℕ) (s : List ℕ) → AreHigh k s → Reads (escaped_from k (escape s)) (drop k s)
unfolding escaped_from
string_reads zero [] high = record { read = λ r. prepend_none (content plain r); lexed = λ r. refl }
string_reads (suc k) [] high = absurd high
string_reads (suc k) (x ∷ s) high = rw (itself x (omega (arith, high.0))) (string_reads k s high.1)
string_reads zero (x ∷ s) high = by (cases_lt x 127) (cases_eq n 0) (string_reads 0 s tt) (λ k above. string_reads k s above)
  where
    n : ℕ
    n = acting x (get_or (escape s) 0 0) (get_or (escape s) 1 0)

    by : (x < 127) ⊎ (127 ≤ x) → (n ≡ 0) ⊎ (n ≡ 0 → ⊥) → Reads (escaped (escape s)) s → ((k : ℕ) → AreHigh k s → Reads (escaped_from k (escape s)) (drop k s)) → Reads (escaped (escape (x ∷ s))) (x ∷ s)
    by (inl low) either next behind = subst (λ text. Reads text (x ∷ s)) (sym (front_stays (escape_byte x) (escape s) (escape_shown x low))) (then_reads (passes x) next)
    by (inr above) (inl none) next behind =
        let text : escaped (escape (x ∷ s)) ≡ escape_byte x ++ escaped (escape s) = rw (itself x above) (rw none refl) in
        subst (λ text. Reads text (x ∷ s)) (sym text) (then_reads (passes x) next)
    by (inr above) (inr some) next behind =
        let k = behind_first x in
        let has = begun x (escape s) some in
        let kept = high_kept k s has.high in
        let text : escaped (escape (x ∷ s)) ≡ unicode_escape n ++ escaped_from k (escape s) = rw (itself x above) (rw (ne_eqb n 0 some) refl) in
        let bytes : encode_utf8 n ++ drop k s ≡ x ∷ s = ap (λ (xs : List ℕ). xs ++ drop k s) (has.bytes ∙ ap (λ (xs : List ℕ). x ∷ xs) kept.1) ∙ ap (λ (xs : List ℕ). x ∷ xs) (take-append-drop k s) in
        subst (λ text. Reads text (x ∷ s)) (sym text) (subst (Reads _) bytes (then_reads (escape_reads n (acts_small n has.is_acting)) (behind k kept.0)))

-- ---- tokens, and a line feed behind them

-- with the escapes for what acts, and a line feed, it is read as without
abbrev Same : List ℕ → Type 0
Same xs = lex between (escaped xs ++ 10 ∷ []) ≡ lex between xs

-- and a word ends before both
abbrev Ended : List ℕ → Type 0
Ended xs = (ends_word (escaped xs ++ 10 ∷ []) ≡ true) × (ends_word xs ≡ true)

-- bytes that are shown, and are read alike before both
piece_same : (text : List ℕ) (l : Lexeme) (xs : List ℕ) → Shown text → lex between (text ++ (escaped xs ++ 10 ∷ [])) ≡ l ∷ lex between (escaped xs ++ 10 ∷ []) → lex between (text ++ xs) ≡ l ∷ lex between xs → Same xs → Same (text ++ xs)
piece_same text l xs shown step step' same =
    ap (lex between) (ap (λ (ys : List ℕ). ys ++ 10 ∷ []) (front_stays text xs shown) ∙ append_assoc text (escaped xs) (10 ∷ [])) ∙ step ∙ ap (λ (ls : List Lexeme). l ∷ ls) same ∙ sym step'

-- a token that is one word
word_same : (t : Token) (xs : List ℕ) → Shown (token_text t) → ((r : List ℕ) → ends_word r ≡ true → lex between (token_text t ++ r) ≡ token t ∷ lex between r) → Ended xs → Same xs → Same (token_text t ++ xs)
word_same t xs shown step ended same = piece_same (token_text t) (token t) xs shown (step (escaped xs ++ 10 ∷ []) ended.0) (step xs ended.1) same

string_same : (s xs : List ℕ) → Same xs → Same (quoted s ++ xs)
unfolding lex content
string_same s xs same =
    let reads = string_reads 0 s tt in
    let quote : (ys : List ℕ) → escaped (34 ∷ ys) ≡ 34 ∷ escaped ys = λ ys. front_stays (34 ∷ []) ys (shown_from (34 ∷ []) refl) in
    let inside : escaped (escape s ++ 34 ∷ xs) ≡ escaped (escape s) ++ 34 ∷ escaped xs = joined 0 (escape s) 34 xs (omega arith) (omega arith) ∙ ap (λ (ys : List ℕ). escaped (escape s) ++ ys) (quote xs) in
    let whole : escaped (quoted s ++ xs) ≡ 34 ∷ (escaped (escape s) ++ 34 ∷ escaped xs) = ap (λ (ys : List ℕ). escaped (34 ∷ ys)) (append_assoc (escape s) (34 ∷ []) xs) ∙ quote _ ∙ ap (λ (ys : List ℕ). 34 ∷ ys) inside in
    let text : escaped (quoted s ++ xs) ++ 10 ∷ [] ≡ 34 ∷ (escaped (escape s) ++ 34 ∷ (escaped xs ++ 10 ∷ [])) = ap (λ (ys : List ℕ). ys ++ 10 ∷ []) whole ∙ ap (λ (ys : List ℕ). 34 ∷ ys) (append_assoc (escaped (escape s)) (34 ∷ escaped xs) (10 ∷ [])) in
    ap (lex between) text
    ∙ ap₂ (λ o (ls : List Lexeme). token (string_token o) ∷ ls) (reads.read _ ∙ ap Some (append-nil s)) (reads.lexed _ ∙ same)
    ∙ sym (ap (λ (ys : List ℕ). lex between (34 ∷ ys)) (append_assoc (escape s) (34 ∷ []) xs) ∙ ap₂ (λ o (ls : List Lexeme). token (string_token o) ∷ ls) (content-escape s xs) (lex-escape s xs))

token_same : (t : Token) (xs : List ℕ) → IsPrintable t → IsShown t → (ends t ≡ true → Ended xs) → Same xs → Same (token_text t ++ xs)
unfolding lex word
token_same Token.begin_object xs h shown ended same = piece_same (123 ∷ []) (token Token.begin_object) xs (shown_from (123 ∷ []) refl) refl refl same
token_same Token.end_object xs h shown ended same = piece_same (125 ∷ []) (token Token.end_object) xs (shown_from (125 ∷ []) refl) refl refl same
token_same Token.begin_array xs h shown ended same = piece_same (91 ∷ []) (token Token.begin_array) xs (shown_from (91 ∷ []) refl) refl refl same
token_same Token.end_array xs h shown ended same = piece_same (93 ∷ []) (token Token.end_array) xs (shown_from (93 ∷ []) refl) refl refl same
token_same (Token.key s) xs h shown ended same =
    subst Same (sym (append_assoc (quoted s) (58 ∷ []) xs)) (string_same s (58 ∷ xs) (piece_same (58 ∷ []) colon xs (shown_from (58 ∷ []) refl) refl refl same))
token_same (Token.string s) xs h shown ended same = string_same s xs same
token_same (Token.number s) xs h shown ended same = word_same (Token.number s) xs shown (λ r is. lex-number s r h is) (ended refl) same
token_same (Token.boolean true) xs h shown ended same =
    word_same (Token.boolean true) xs (shown_from (token_text (Token.boolean true)) refl) (λ r is. ap₂ (λ b (ls : List Lexeme). token (cond b (Token.boolean true) Token.bad) ∷ ls) is (in_word-ended r is)) (ended refl) same
token_same (Token.boolean false) xs h shown ended same =
    word_same (Token.boolean false) xs (shown_from (token_text (Token.boolean false)) refl) (λ r is. ap₂ (λ b (ls : List Lexeme). token (cond b (Token.boolean false) Token.bad) ∷ ls) is (in_word-ended r is)) (ended refl) same
token_same Token.null xs h shown ended same =
    word_same Token.null xs (shown_from (token_text Token.null) refl) (λ r is. ap₂ (λ b (ls : List Lexeme). token (cond b Token.null Token.bad) ∷ ls) is (in_word-ended r is)) (ended refl) same
token_same Token.bad xs h shown ended same = absurd h

comma_same : (b : Bool) (xs : List ℕ) → Same xs → Same (cond b (44 ∷ []) [] ++ xs)
unfolding lex
comma_same true xs same = piece_same (44 ∷ []) comma xs (shown_from (44 ∷ []) refl) refl refl same
comma_same false xs same = same

-- behind a value stands a comma, a closing bracket or nothing
value_ended : (ts : List Token) → Ended (print_from true ts)
unfolding print_from escaped_from acting code_of
value_ended [] = (refl, refl)
value_ended (Token.end_object ∷ ts) = (refl, refl)
value_ended (Token.end_array ∷ ts) = (refl, refl)
value_ended (t ∷ ts) = (refl, refl)

print_same : (c : Bool) (ts : List Token) → ArePrintable ts → AreShown ts → Same (print_from c ts)
unfolding print_from ArePrintable lex escaped_from
print_same c [] h shown = refl
print_same c (t ∷ ts) h shown =
    comma_same (c && begins t) _ (token_same t (print_from (ends t) ts) h.0 shown.0 (λ is. subst (λ b. Ended (print_from b ts)) (sym is) (value_ended ts)) (print_same (ends t) ts h.1 shown.1))

-- ---- the numbers of a row

text_in : {N : Type 0} (o : Option (List ℕ)) → N → HasNumbers (outline (text_value o)) × N
text_in None h = (tt, h)
text_in (Some text) h = (tt, h)

number_in : {N : Type 0} (o : Option ℕ) → IfSome o (λ n. n < 2 ^ 64) → N → HasNumbers (outline (number_value o)) × N
number_in None fits h = (tt, h)
number_in (Some n) fits h = (IsNumber-decimal n fits, h)

abbrev Numbered : Members → Type 0
Numbered ms = MembersHaveNumbers (members_outline ms)

at_door_in : (at_door : Bool) (name : List ℕ) (text : Option (List ℕ)) (rest : Members) → Numbered rest → Numbered (door_member at_door name text rest)
at_door_in true name text rest h = text_in text h
at_door_in false name text rest h = h

row_numbers : (connection : ℕ) (end : List ℕ) (row : LogRow) → HasWords connection row → HasNumbers (outline (log_value connection end row))
row_numbers connection end row words =
    text_in _ (number_in (Some row.at) words.at_fits (number_in (Some connection) words.connection_fits (text_in (Some end) (text_in row.id (number_in row.number words.number_fits (
    at_door_in row.at_door (codes "operator") row.operator _ (text_in row.organization (text_in _ (number_in row.run words.run_fits (number_in row.status words.status_fits (
    at_door_in row.at_door (codes "subject") row.subject _ (text_in row.token (number_in row.version words.version_fits (text_in row.workspace tt))))))))))))))

pub lines_read_back : LinesReadBack
unfolding log_line
lines_read_back connection end row words =
    let value = log_value connection end row in
    let numbers = ArePrintable-json_tokens (outline value) (row_numbers connection end row words) in
    ap (λ (text : List ℕ). tokens (escaped text ++ 10 ∷ [])) (sym (print-outline value))
    ∙ ap (punctuate fresh) (print_same false _ numbers (tokens_shown value))
    ∙ tokens-print (json_tokens (outline value)) numbers
