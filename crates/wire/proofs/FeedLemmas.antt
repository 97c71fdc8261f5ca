-- A head of the grammar has a line feed for its request line, one for each field and one for its empty line.
use Rattle.std.proofs.Common.{◌≡◌, ℕ, ◌+◌, ◌<◌, ◌≤◌, List, [], ◌∷◌, ◌++◌, length, Bool, true, false, cond, ◌||◌, ◌==◌, refl, ap, ◌∙◌, arith}
use Rattle.std.specs.Prelude.{count_by}
use Rattle.std.specs.List.{flat_map}
use Rattle.std.proofs.lemmas.List.Sums.{sum_by-append}
use Rattle.std.proofs.lemmas.List.Elements.{All-head}
use Rattle.httparse.specs.Grammar.{LineEnd, crlf, lf, print_end, print_blank, Field, print_field, print_section, RequestHead, ReadsRequest, print_version, is_token_byte, AllPass}
use Rattle.httparse.proofs.PieceLemmas.{token_is_no_newline}
use Rattle.httparse.proofs.GrammarLemmas.{print_request-append}
use Rattle.wire.specs.Heads.{is_break, is_feed, feeds_of}

abbrev pub count : List ℕ → ℕ
count bytes = count_by is_feed bytes

pub count-append : (xs ys : List ℕ) → count (xs ++ ys) ≡ count xs + count ys
count-append xs ys = sum_by-append (λ b. cond (is_feed b) 1 0) xs ys

count_end : (e : LineEnd) → count (print_end e) ≡ 1
count_end crlf = refl
count_end lf = refl

count_field : (f : Field) → 1 ≤ count (print_field f)
count_field f = omega (arith, count-append (f.name ++ 58 ∷ f.raw) (print_end f.end), count_end f.end)

count_fields : (fields : List Field) → length fields ≤ count (flat_map print_field fields)
count_fields [] = omega arith
count_fields (f ∷ fields) =
    let h : length fields ≤ count (flat_map print_field fields) = count_fields fields in
    omega (arith, count_field f, h, count-append (print_field f) (flat_map print_field fields))

pub feeds_blank : (ends : List LineEnd) (bytes : List ℕ) → feeds_of (print_blank ends ++ bytes) ≡ feeds_of bytes
feeds_blank [] bytes = refl
feeds_blank (crlf ∷ ends) bytes = feeds_blank ends bytes
feeds_blank (lf ∷ ends) bytes = feeds_blank ends bytes

pub same_break : (b : ℕ) → (b == 13 || b == 10) ≡ false → is_break b ≡ false
same_break b e = turned (b == 13) (b == 10) e
  where
    turned : (x y : Bool) → (x || y) ≡ false → (y || x) ≡ false
    turned true y e = absurd (cc)
    turned false true e = absurd (cc)
    turned false false e = refl

feeds_word : (word bytes : List ℕ) → 0 < length word → AllPass is_token_byte word → count bytes ≤ feeds_of (word ++ bytes)
feeds_word [] bytes some all = absurd (omega arith)
feeds_word (b ∷ word) bytes some all =
    let no : is_break b ≡ false = same_break b (token_is_no_newline b (All-head (λ v. is_token_byte v ≡ true) b word all)) in
    let counted : feeds_of ((b ∷ word) ++ bytes) ≡ count ((b ∷ word) ++ bytes) =
    ap (λ t. cond t (feeds_of (word ++ bytes)) (count ((b ∷ word) ++ bytes))) no in
    omega (arith, counted, count-append (b ∷ word) bytes)

pub feeds_request : (head : List ℕ) (h : RequestHead) (rest : List ℕ) → ReadsRequest head h rest → length h.fields + 2 ≤ feeds_of head
feeds_request head h rest x =
    let section : List ℕ = print_section h.fields h.last ++ rest in
    let version : List ℕ = print_version h.minor ++ (print_end h.line_end ++ section) in
    let target : List ℕ = h.target ++ 32 ∷ version in
    let whole : head ≡ print_blank h.blank ++ (h.method ++ 32 ∷ target) = x.1 ∙ print_request-append h rest in
    let skipped : feeds_of head ≡ feeds_of (h.method ++ 32 ∷ target) = ap feeds_of whole ∙ feeds_blank h.blank (h.method ++ 32 ∷ target) in
    let begun : count (32 ∷ target) ≤ feeds_of (h.method ++ 32 ∷ target) = feeds_word h.method (32 ∷ target) x.0.method.0 x.0.method.1 in
    let a : count (32 ∷ target) ≡ count (32 ∷ []) + count target = count-append (32 ∷ []) target in
    let b : count target ≡ count h.target + count (32 ∷ version) = count-append h.target (32 ∷ version) in
    let c : count (32 ∷ version) ≡ count (32 ∷ []) + count version = count-append (32 ∷ []) version in
    let d : count version ≡ count (print_version h.minor) + count (print_end h.line_end ++ section) = count-append (print_version h.minor) (print_end h.line_end ++ section) in
    let e : count (print_end h.line_end ++ section) ≡ count (print_end h.line_end) + count section = count-append (print_end h.line_end) section in
    let f : count section ≡ count (print_section h.fields h.last) + count rest = count-append (print_section h.fields h.last) rest in
    let g : count (print_section h.fields h.last) ≡ count (flat_map print_field h.fields) + count (print_end h.last) = count-append (flat_map print_field h.fields) (print_end h.last) in
    omega (arith, skipped, begun, a, b, c, d, e, f, g, count_end h.line_end, count_end h.last, count_fields h.fields)
