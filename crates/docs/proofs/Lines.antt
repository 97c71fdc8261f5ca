-- A line of the log is one line: compact JSON escapes each control character of ASCII below 32, and what else acts is escaped behind it.
use Rattle.docs.proofs.Outside.{◌≡◌, refl, ap, sym, subst, append_assoc, append-nil, arith, ℕ, suc, zero, pos, negsuc, ◌/◌, ◌%◌, ◌<◌, ◌≤◌, ◌==◌, ◌&&◌, List, [], ◌∷◌, ◌++◌, inl, inr, Bool, true, false, cond, decimal, agree_below_at, cases_lt, AllByRecursion, ⊤, digits, digits_onto, digit_glyph, escape_byte_plain, escape_byte, escape, quoted, token_text, ends, begins, print_from, Token, json_tokens, items_tokens, members_tokens, Written, print-outline, Num, unsigned, negative, float, Data, null, boolean, number, string, array, object, Items, no_items, item, Members, no_members, member, number_text, compact_text, outline, items_outline, members_outline}
use Rattle.docs.specs.declared.logs.LogRow.{LogRow}
use Rattle.docs.specs.Escapes.{escaped}
use Rattle.docs.specs.Logs.{log_value, log_line, ExchangesAreLines}
use Rattle.docs.proofs.Escaping.{Printed, Shown, shown_from, are_shown, shown_digit, escaped_printed, escaped_safe}
use Rattle.docs.proofs.Putting.{object_written}
use Rattle.docs.specs.Inner.Put.{Puts, IsBegun, text_of}
use Rattle.docs.specs.Inner.Logs.{asked, named, outcome, made}

-- what a writer has in the end, which began with a brace
pub line_written : {begun put : Written} {out : List ℕ} (connection : ℕ) (end : List ℕ) (row : LogRow) → IsBegun begun → Puts begun put (λ rest. asked connection end row (named row (outcome row (made row rest)))) → out ≡ text_of put → escaped out ++ 10 ∷ [] ≡ log_line connection end row
unfolding log_line
line_written connection end row begun puts is = ap (λ xs. escaped xs ++ 10 ∷ []) (object_written begun puts is)

-- ---- bytes that are shown as they are

-- what stands in a string for a byte of ASCII but DEL
pub escape_shown : (x : ℕ) → x < 127 → Shown (escape_byte x)
unfolding escape_byte
escape_shown x low = shown_from (escape_byte x) (agree_below_at (λ y. are_shown (escape_byte y)) (λ y. true) 127 x refl low)

pub itself : (x : ℕ) → 127 ≤ x → escape_byte x ≡ x ∷ []
itself x high = escape_byte_plain x (λ e. omega arith) (λ e. omega arith) (omega arith)

either : (b : Bool) (xs ys : List ℕ) → Shown xs → Shown ys → Shown (cond b xs ys)
either true xs ys first then = first
either false xs ys first then = then

onto_shown : (k n : ℕ) (written : List ℕ) → Shown written → Shown (digits_onto k 10 false n written)
onto_shown zero n written is = is
onto_shown (suc k) n written is =
    let more = digit_glyph false (n % 10) ∷ written in
    let shown : Shown more = (shown_digit (n % 10) (omega arith), is) in
    either (n / 10 == 0) more (digits_onto k 10 false (n / 10) more) shown (onto_shown k (n / 10) more shown)

decimal_shown : (n : ℕ) → Shown (decimal n)
unfolding digits
decimal_shown n = onto_shown 64 n [] tt

number_shown : (n : Num) → Shown (number_text n)
number_shown (unsigned n) = decimal_shown n
number_shown (negative (pos n)) = decimal_shown n
number_shown (negative (negsuc n)) = ((omega arith, omega arith), decimal_shown (suc n))
number_shown (float x) = tt

-- a token of which the text is such bytes, if it is a number
abbrev pub IsShown : Token → Type 0
IsShown (Token.number s) = Shown s
IsShown t = ⊤

abbrev pub AreShown : List Token → Type 0
AreShown = AllByRecursion IsShown

mutual
  value_shown : (d : Data) (rest : List Token) → AreShown rest → AreShown (json_tokens (outline d) ++ rest)
  value_shown null rest h = (tt, h)
  value_shown (boolean b) rest h = (tt, h)
  value_shown (number n) rest h = (number_shown n, h)
  value_shown (string s) rest h = (tt, h)
  value_shown (array ds) rest h = (tt, items_shown ds rest h)
  value_shown (object ms) rest h = (tt, members_shown ms rest h)

  items_shown : (ds : Items) (rest : List Token) → AreShown rest → AreShown (items_tokens (items_outline ds) ++ rest)
  items_shown no_items rest h = (tt, h)
  items_shown (item d ds) rest h = subst AreShown (sym (append_assoc (json_tokens (outline d)) _ rest)) (value_shown d _ (items_shown ds rest h))

  members_shown : (ms : Members) (rest : List Token) → AreShown rest → AreShown (members_tokens (members_outline ms) ++ rest)
  members_shown no_members rest h = (tt, h)
  members_shown (member k d ms) rest h = (tt, subst AreShown (sym (append_assoc (json_tokens (outline d)) _ rest)) (value_shown d _ (members_shown ms rest h)))

pub tokens_shown : (d : Data) → AreShown (json_tokens (outline d))
tokens_shown d = subst AreShown (append-nil (json_tokens (outline d))) (value_shown d [] tt)

-- ---- no control character

both : (xs ys : List ℕ) → Printed xs → Printed ys → Printed (xs ++ ys)
both [] ys first then = then
both (x ∷ xs) ys first then = (first.0, both xs ys first.1 then)

printed : (xs : List ℕ) → Shown xs → Printed xs
printed [] is = tt
printed (x ∷ xs) is = (is.0.0, printed xs is.1)

escape_printed : (s : List ℕ) → Printed (escape s)
escape_printed [] = tt
escape_printed (x ∷ s) = both (escape_byte x) (escape s) (elim (cases_lt x 127) [ inl low ↦ printed (escape_byte x) (escape_shown x low) | inr high ↦ rw (itself x high) (omega (arith, high), tt) ]) (escape_printed s)

quoted_printed : (s : List ℕ) → Printed (quoted s)
quoted_printed s = (omega arith, both (escape s) (34 ∷ []) (escape_printed s) (omega arith, tt))

token_printed : (t : Token) → IsShown t → Printed (token_text t)
token_printed (Token.key s) h = both (quoted s) (58 ∷ []) (quoted_printed s) (omega arith, tt)
token_printed (Token.string s) h = quoted_printed s
token_printed (Token.number s) h = printed s h
token_printed (Token.boolean true) h = (omega arith, (omega arith, (omega arith, (omega arith, tt))))
token_printed (Token.boolean false) h = (omega arith, (omega arith, (omega arith, (omega arith, (omega arith, tt)))))
token_printed Token.null h = (omega arith, (omega arith, (omega arith, (omega arith, tt))))
token_printed Token.bad h = tt
token_printed bracket h = (omega arith, tt)

comma_printed : (b : Bool) (xs : List ℕ) → Printed xs → Printed (cond b (44 ∷ []) [] ++ xs)
comma_printed true xs h = (omega arith, h)
comma_printed false xs h = h

print_printed : (c : Bool) (ts : List Token) → AreShown ts → Printed (print_from c ts)
unfolding print_from
print_printed c [] h = tt
print_printed c (t ∷ ts) h = comma_printed (c && begins t) _ (both (token_text t) _ (token_printed t h.0) (print_printed (ends t) ts h.1))

-- whatever an exchange has in it, its line is one
pub exchanges_are_lines : ExchangesAreLines
unfolding log_line
exchanges_are_lines connection end row =
    let value = log_value connection end row in
    let text = compact_text value in
    (escaped text, refl, escaped_printed 0 text (subst Printed (print-outline value) (print_printed false _ (tokens_shown value))), escaped_safe text)
