-- The head that the grammar prints ends where its printed form ends, and a head with another target is read as the same message but for path and query.
use Rattle.std.proofs.Common.{◌≡◌, ℕ, suc, ◌+◌, ◌<◌, ◌≤◌, List, [], ◌∷◌, ◌++◌, length, take, drop, Bool, true, false, cond, nat_le, ◌==◌, ◌||◌, ◌&&◌, Option, Some, None, option_map, is_none, is_some, refl, sym, ap, subst, ◌∙◌, arith, length-append, append_assoc, append-nil, eqb-true}
use Rattle.std.specs.Prelude.{All, if◌then◌else◌}
use Rattle.std.specs.List.{flat_map}
use Rattle.std.proofs.Math.Seq.{take-append_seam, drop-append_seam}
use Rattle.std.proofs.lemmas.Bool.{le-leb, leb-true, ne_eqb, leb-false}
use Rattle.std.proofs.lemmas.List.Elements.{All-head, All-tail}
use Rattle.basis.specs.declared.refusals.Refusal.{Refusal}
use Rattle.basis.specs.declared.refusals.Refusal.TheVariants.{BadMessage, NoLength, HeadTooLarge}
use Rattle.httparse.specs.Grammar.{LineEnd, crlf, lf, print_end, print_blank, Field, IsField, print_field, print_section, RequestHead, IsRequestHead, print_request, print_version, is_token_byte, is_uri_byte, is_value_byte, AllPass}
use Rattle.httparse.proofs.PieceLemmas.{token_is_no_newline}
use Rattle.httparse.proofs.GrammarLemmas.{cons-append, print_request-append}
use Rattle.wire.specs.declared.heads.TheConstants.{MAX_HEAD}
use Rattle.wire.specs.declared.framing.TheConstants.{MAX_FEEDS}
use Rattle.wire.specs.declared.framing.Frame.{Frame}
use Rattle.wire.specs.declared.messages.Message.{Message}
use Rattle.wire.specs.Heads.{has_feed, empty_line, text_len, head_len, HeadEnd, Whole, head_end_by, head_end_of, feeds_of}
use Rattle.wire.specs.Framing.{Parts, parts_of, crowded, parsed, are_misframed, is_chunked, length_refusal, content_length, max_body, refusal_of, frame_of, Verdict, refuses, accepts, judged_by, judged}
use Rattle.wire.specs.Messages.{unfinished, refused, whole, framed_message, reading_by, ReadsByEnd, Reads}
use Rattle.wire.specs.Targets.{origin_of, path_of, query_of}
use Rattle.wire.specs.Retargeting.{RetargetedReads}
use Rattle.wire.proofs.FeedLemmas.{count, count-append, feeds_blank, same_break}
use Rattle.wire.proofs.ReadingLemmas.{reads_one}

-- a byte that passes a test that a line feed doesn't pass is none
no_feed : (test : ℕ → Bool) → test 10 ≡ false → (b : ℕ) → test b ≡ true → (b == 10) ≡ false
no_feed test fails b passes = by_test (b == 10) refl
  where
    by_test : (x : Bool) → (b == 10) ≡ x → x ≡ false
    by_test true e = let none : ⊥ = cc (sym passes ∙ ap test (eqb-true b 10 e) ∙ fails) in absurd none
    by_test false e = refl

token_feed : is_token_byte 10 ≡ false
unfolding is_token_byte
token_feed = refl

-- a step over a byte that is none
text_step : (b : ℕ) (bytes : List ℕ) (n : ℕ) → (b == 10) ≡ false → text_len bytes ≡ Some n → text_len (b ∷ bytes) ≡ Some (suc n)
text_step b bytes n e h = ap (λ (t : Bool). option_map suc (cond (t && is_some (empty_line bytes)) (empty_line bytes) (text_len bytes))) e ∙ ap (option_map suc) h

text_over : (test : ℕ → Bool) → test 10 ≡ false → (xs bytes : List ℕ) (n : ℕ) → AllPass test xs → text_len bytes ≡ Some n → text_len (xs ++ bytes) ≡ Some (length xs + n)
text_over test fails [] bytes n all h = h ∙ ap Some (omega arith)
text_over test fails (b ∷ xs) bytes n all h =
    text_step b (xs ++ bytes) (length xs + n) (no_feed test fails b (All-head (λ v. test v ≡ true) b xs all))
    (text_over test fails xs bytes n (All-tail (λ v. test v ≡ true) b xs all) h) ∙ ap Some (omega arith)

-- a line of a name begins with neither CR nor LF
no_empty : (name bytes : List ℕ) → 0 < length name → AllPass is_token_byte name → empty_line (name ++ bytes) ≡ None
no_empty [] bytes some all = absurd (omega arith)
no_empty (b ∷ name) bytes some all = apart (b == 10) (b == 13) refl refl (same_break b (token_is_no_newline b (All-head (λ v. is_token_byte v ≡ true) b name all)))
  where
    apart : (x y : Bool) → (b == 10) ≡ x → (b == 13) ≡ y → (x || y) ≡ false → cond {A = Option ℕ} x (Some 1) (cond {A = Option ℕ} (y && has_feed (name ++ bytes)) (Some 2) None) ≡ None
    apart true y e f neither = absurd (let none : ⊥ = cc in none)
    apart false true e f neither = absurd (let none : ⊥ = cc in none)
    apart false false e f neither = refl

-- behind a line feed: the field lines, and the empty line that ends them
field_apart : (name raw end rest last more : List ℕ) → (name ++ 58 ∷ raw ++ end) ++ rest ++ last ++ more ≡ name ++ 58 ∷ (raw ++ (end ++ (rest ++ last ++ more)))
field_apart name raw end rest last more = simp (append_assoc, cons-append)

field_after : (f : Field) (fields : List Field) (last : LineEnd) (rest : List ℕ) → IsField f
    → text_len (10 ∷ (print_section fields last ++ rest)) ≡ Some (suc (length (print_section fields last)))
    → text_len (10 ∷ (print_section (f ∷ fields) last ++ rest)) ≡ Some (suc (length (print_section (f ∷ fields) last)))
field_after f fields last rest is more = ap (λ (o : Option ℕ). option_map suc (cond (is_some o) o (text_len whole))) none ∙ ap (option_map suc) counted
  where
    whole : List ℕ
    whole = print_section (f ∷ fields) last ++ rest

    tail : List ℕ
    tail = print_section fields last ++ rest

    whole_is : whole ≡ f.name ++ 58 ∷ (f.raw ++ (print_end f.end ++ tail))
    whole_is = field_apart f.name f.raw (print_end f.end) (flat_map print_field fields) (print_end last) rest

    none : empty_line whole ≡ None
    none = ap empty_line whole_is ∙ no_empty f.name (58 ∷ (f.raw ++ (print_end f.end ++ tail))) is.name.0 is.name.1

    line : (e : LineEnd) → text_len (print_end e ++ tail) ≡ Some (length (print_end e) + length (print_section fields last))
    line lf = more ∙ ap Some (omega arith)
    line crlf = ap (option_map suc) more ∙ ap Some (omega arith)

    size : length (print_section (f ∷ fields) last) ≡ length f.name + suc (length f.raw + (length (print_end f.end) + length (print_section fields last)))
    size =
        ap length (sym (append-nil (print_section (f ∷ fields) last)) ∙ field_apart f.name f.raw (print_end f.end) (flat_map print_field fields) (print_end last) [])
        ∙ length-append f.name (58 ∷ (f.raw ++ (print_end f.end ++ (print_section fields last ++ []))))
        ∙ ap (λ (n : ℕ). length f.name + suc n) (length-append f.raw (print_end f.end ++ (print_section fields last ++ []))
        ∙ ap (λ (n : ℕ). length f.raw + n) (length-append (print_end f.end) (print_section fields last ++ []) ∙ ap (λ (s : List ℕ). length (print_end f.end) + length s) (append-nil (print_section fields last))))

    counted : text_len whole ≡ Some (length (print_section (f ∷ fields) last))
    counted =
        ap text_len whole_is
        ∙ text_over is_token_byte token_feed f.name (58 ∷ (f.raw ++ (print_end f.end ++ tail))) _ is.name.1
        (text_step 58 (f.raw ++ (print_end f.end ++ tail)) _ refl (text_over is_value_byte refl f.raw (print_end f.end ++ tail) _ is.raw (line f.end)))
        ∙ ap Some (sym size)

section_after : (fields : List Field) (last : LineEnd) (rest : List ℕ) → All IsField fields → text_len (10 ∷ (print_section fields last ++ rest)) ≡ Some (suc (length (print_section fields last)))
section_after [] lf rest all = refl
section_after [] crlf rest all = refl
section_after (f ∷ fields) last rest all = field_after f fields last rest (All-head IsField f fields all) (section_after fields last rest (All-tail IsField f fields all))

-- empty lines before the first line
head_over : (ends : List LineEnd) (bytes : List ℕ) (n : ℕ) → head_len bytes ≡ Some n → head_len (print_blank ends ++ bytes) ≡ Some (length (print_blank ends) + n)
head_over [] bytes n h = h ∙ ap Some (omega arith)
head_over (lf ∷ ends) bytes n h = ap (option_map suc) (head_over ends bytes n h) ∙ ap Some (omega arith)
head_over (crlf ∷ ends) bytes n h = ap (λ (o : Option ℕ). option_map suc (option_map suc o)) (head_over ends bytes n h) ∙ ap Some (omega arith)

head_begins : (word bytes : List ℕ) → 0 < length word → AllPass is_token_byte word → head_len (word ++ bytes) ≡ text_len (word ++ bytes)
head_begins [] bytes some all = absurd (omega arith)
head_begins (b ∷ word) bytes some all =
    ap (λ (t : Bool). cond t (option_map suc (head_len (word ++ bytes))) (text_len (b ∷ (word ++ bytes)))) (same_break b (token_is_no_newline b (All-head (λ v. is_token_byte v ≡ true) b word all)))

-- the version's bytes
version_over : (minor : ℕ) (bytes : List ℕ) (n : ℕ) → text_len bytes ≡ Some n → text_len (print_version minor ++ bytes) ≡ Some (length (print_version minor) + n)
version_over minor bytes n h = ap (λ (o : Option ℕ). option_map suc (option_map suc (option_map suc (option_map suc (option_map suc (option_map suc (option_map suc o)))))))
    (text_step (48 + minor) bytes n (ne_eqb (48 + minor) 10 (λ e. omega (arith, e))) h)
    ∙ ap Some (omega arith)

abbrev from_version : RequestHead → List ℕ → List ℕ
from_version h rest = print_version h.minor ++ (print_end h.line_end ++ (print_section h.fields h.last ++ rest))

abbrev version_size : RequestHead → ℕ
version_size h = length (print_version h.minor) + (length (print_end h.line_end) + length (print_section h.fields h.last))

printed_size : (h : RequestHead) → length (print_request h) ≡ length (print_blank h.blank) + (length h.method + suc (length h.target + suc (version_size h)))
printed_size h =
    ap length (sym (append-nil (print_request h)) ∙ print_request-append h [])
    ∙ length-append (print_blank h.blank) (h.method ++ 32 ∷ (h.target ++ 32 ∷ from_version h []))
    ∙ ap (λ (n : ℕ). length (print_blank h.blank) + n) (length-append h.method (32 ∷ (h.target ++ 32 ∷ from_version h []))
    ∙ ap (λ (n : ℕ). length h.method + suc n) (length-append h.target (32 ∷ from_version h [])
    ∙ ap (λ (n : ℕ). length h.target + suc n) (length-append (print_version h.minor) (print_end h.line_end ++ (print_section h.fields h.last ++ []))
    ∙ ap (λ (n : ℕ). length (print_version h.minor) + n) (length-append (print_end h.line_end) (print_section h.fields h.last ++ [])
    ∙ ap (λ (s : List ℕ). length (print_end h.line_end) + length s) (append-nil (print_section h.fields h.last))))))

line_over : (e : LineEnd) (fields : List Field) (last : LineEnd) (rest : List ℕ) → All IsField fields
    → text_len (print_end e ++ (print_section fields last ++ rest)) ≡ Some (length (print_end e) + length (print_section fields last))
line_over lf fields last rest all = section_after fields last rest all ∙ ap Some (omega arith)
line_over crlf fields last rest all = ap (option_map suc) (section_after fields last rest all) ∙ ap Some (omega arith)

-- the head ends where its printed form ends
printed_len : (h : RequestHead) (rest : List ℕ) → IsRequestHead h → head_len (print_request h ++ rest) ≡ Some (length (print_request h))
printed_len h rest is =
    let version : text_len (from_version h rest) ≡ Some (version_size h) = version_over h.minor (print_end h.line_end ++ (print_section h.fields h.last ++ rest)) (length (print_end h.line_end) + length (print_section h.fields h.last)) (line_over h.line_end h.fields h.last rest is.fields) in
    let target : text_len (h.target ++ 32 ∷ from_version h rest) ≡ Some (length h.target + suc (version_size h)) =
    text_over is_uri_byte refl h.target (32 ∷ from_version h rest) _ is.target.1 (text_step 32 (from_version h rest) _ refl version) in
    let method : text_len (h.method ++ 32 ∷ (h.target ++ 32 ∷ from_version h rest)) ≡ Some (length h.method + suc (length h.target + suc (version_size h))) =
    text_over is_token_byte token_feed h.method (32 ∷ (h.target ++ 32 ∷ from_version h rest)) _ is.method.1 (text_step 32 (h.target ++ 32 ∷ from_version h rest) _ refl target) in
    ap head_len (print_request-append h rest)
    ∙ head_over h.blank (h.method ++ 32 ∷ (h.target ++ 32 ∷ from_version h rest)) _ (head_begins h.method (32 ∷ (h.target ++ 32 ∷ from_version h rest)) is.method.0 is.method.1 ∙ method)
    ∙ ap Some (sym (printed_size h))

pub printed_end : (h : RequestHead) (rest : List ℕ) → IsRequestHead h → length (print_request h) ≤ MAX_HEAD → head_end_of (print_request h ++ rest) ≡ Whole (length (print_request h))
printed_end h rest is size =
    ap (λ (o : Option ℕ). head_end_by o (length (print_request h ++ rest))) (printed_len h rest is)
    ∙ ap (λ (b : Bool). cond b (Whole (length (print_request h))) HeadEnd.Long) (le-leb (length (print_request h)) MAX_HEAD size)

-- its line feeds don't hang on its target
count_none : (test : ℕ → Bool) → test 10 ≡ false → (xs : List ℕ) → AllPass test xs → count xs ≡ 0
count_none test fails [] all = refl
count_none test fails (b ∷ xs) all =
    let here : count (b ∷ []) ≡ 0 = rw (no_feed test fails b (All-head (λ v. test v ≡ true) b xs all)) refl in
    let both : count (b ∷ xs) ≡ count (b ∷ []) + count xs = count-append (b ∷ []) xs in
    let rest : count xs ≡ 0 = count_none test fails xs (All-tail (λ v. test v ≡ true) b xs all) in
    omega (arith, both, here, rest)

feeds_begin : (word bytes : List ℕ) → 0 < length word → AllPass is_token_byte word → feeds_of (word ++ bytes) ≡ count (word ++ bytes)
feeds_begin [] bytes some all = absurd (omega arith)
feeds_begin (b ∷ word) bytes some all =
    ap (λ (t : Bool). cond t (feeds_of (word ++ bytes)) (count ((b ∷ word) ++ bytes))) (same_break b (token_is_no_newline b (All-head (λ v. is_token_byte v ≡ true) b word all)))

feeds_printed : (h : RequestHead) → IsRequestHead h → feeds_of (print_request h) ≡ count h.method + (count (32 ∷ []) + (0 + count (32 ∷ from_version h [])))
feeds_printed h is =
    ap feeds_of (sym (append-nil (print_request h)) ∙ print_request-append h [])
    ∙ feeds_blank h.blank (h.method ++ 32 ∷ (h.target ++ 32 ∷ from_version h []))
    ∙ feeds_begin h.method (32 ∷ (h.target ++ 32 ∷ from_version h [])) is.method.0 is.method.1
    ∙ count-append h.method (32 ∷ (h.target ++ 32 ∷ from_version h []))
    ∙ ap (λ (n : ℕ). count h.method + n) (count-append (32 ∷ []) (h.target ++ 32 ∷ from_version h [])
    ∙ ap (λ (n : ℕ). count (32 ∷ []) + n) (count-append h.target (32 ∷ from_version h []) ∙ ap (λ (n : ℕ). n + count (32 ∷ from_version h [])) (count_none is_uri_byte refl h.target is.target.1)))

-- what such a string reads as
printed_reads : (h : RequestHead) (behind : List ℕ) → IsRequestHead h → length (print_request h) ≤ MAX_HEAD → feeds_of (print_request h) ≤ MAX_FEEDS
    → Reads (print_request h ++ behind) (reading_by (judged (parts_of h)) behind)
printed_reads h behind is size few =
    let ends = printed_end h behind is size in
    let front : take (length (print_request h)) (print_request h ++ behind) ≡ print_request h = take-append_seam (print_request h) behind in
    let back : drop (length (print_request h)) (print_request h ++ behind) ≡ behind = drop-append_seam (print_request h) behind in
    subst (λ (e : HeadEnd). ReadsByEnd e (print_request h ++ behind) (reading_by (judged (parts_of h)) behind)) (sym ends) (
      judged (parts_of h),
      (
        parsed (parts_of h),
        (
          subst (λ (head : List ℕ). feeds_of head ≤ MAX_FEEDS) (sym front) few,
          (h, [], (is, front ∙ sym (append-nil (print_request h))), refl),
        ),
        refl,
      ),
      ap (reading_by (judged (parts_of h))) (sym back),
    )

printed_crowded : (h : RequestHead) (behind : List ℕ) → IsRequestHead h → length (print_request h) ≤ MAX_HEAD → MAX_FEEDS < feeds_of (print_request h) → Reads (print_request h ++ behind) (refused HeadTooLarge false)
printed_crowded h behind is size many =
    let front : take (length (print_request h)) (print_request h ++ behind) ≡ print_request h = take-append_seam (print_request h) behind in
    subst (λ (e : HeadEnd). ReadsByEnd e (print_request h ++ behind) (refused HeadTooLarge false)) (sym (printed_end h behind is size))
    (refuses HeadTooLarge false, (crowded, subst (λ (head : List ℕ). MAX_FEEDS < feeds_of head) (sym front) many, refl), refl)

-- the verdict doesn't hang on the target, where it has one of its forms
abbrev refusal_where : Parts → Option (List ℕ) → Option Refusal
refusal_where parts origin =
    if is_none origin || are_misframed parts.minor parts.fields then Some BadMessage
    else (if is_chunked parts.fields then Some NoLength else length_refusal (content_length parts.fields) (max_body parts.method))

same_refusal : (parts : Parts) (aim from to : List ℕ) → origin_of parts.target ≡ Some from → origin_of aim ≡ Some to → refusal_of (record parts { target = aim }) ≡ refusal_of parts
same_refusal parts aim from to e f = ap (refusal_where parts) f ∙ sym (ap (refusal_where parts) e)

same_message : (a b : Message) (x y : Bool) → whole a x ≡ whole b y → (a ≡ b) × (x ≡ y)
same_message a b x y e = (let one : a ≡ b = cc in one, let one : x ≡ y = cc in one)

pub retargeted : RetargetedReads
retargeted bytes other target aim from to message awaited same e f reads = by_size (nat_le (feeds_of (print_request head)) MAX_FEEDS) refl
  where
    head : RequestHead
    head = same.head

    turned : RequestHead
    turned = record head { target = aim }

    parts : Parts
    parts = parts_of head

    origin : origin_of parts.target ≡ Some from
    origin = ap origin_of same.target_is ∙ e

    printed : Reads (print_request head ++ same.behind) (whole message awaited)
    printed = subst (λ (b : List ℕ). Reads b (whole message awaited)) same.first reads

    Wanted : Type 0
    Wanted = (message.path ≡ path_of from) × (message.query ≡ query_of from) × Reads other (whole (record message { path = path_of to; query = query_of to }) awaited)

    by_length : (b : Bool) → nat_le (frame_of parts from).body_len (length same.behind) ≡ b → feeds_of (print_request turned) ≤ MAX_FEEDS → refusal_of parts ≡ None
        → whole message awaited ≡ cond b (whole (framed_message (frame_of parts from) (take (frame_of parts from).body_len same.behind)) (frame_of parts from).awaits_continue) unfinished → Wanted
    by_length false t few none is = absurd (let no : ⊥ = cc in no)
    by_length true t few none is =
        let one = same_message message (framed_message (frame_of parts from) (take (frame_of parts from).body_len same.behind)) awaited (frame_of parts from).awaits_continue is in
        let frame : Frame = frame_of (parts_of turned) to in
        let verdict : judged (parts_of turned) ≡ accepts frame =
        ap (λ (o : Option Refusal). judged_by o (origin_of aim) (parts_of turned)) (same_refusal parts aim from to origin f ∙ none) ∙ ap (λ (o : Option (List ℕ)). judged_by None o (parts_of turned)) f in
        let reading : reading_by (judged (parts_of turned)) same.behind ≡ whole (record message { path = path_of to; query = query_of to }) awaited =
        ap (λ (v : Verdict). reading_by v same.behind) verdict
        ∙ ap (λ (x : Bool). cond x (whole (framed_message frame (take frame.body_len same.behind)) frame.awaits_continue) unfinished) t
        ∙ ap (λ (m : Message). whole (record m { path = path_of to; query = query_of to }) frame.awaits_continue) (sym one.0)
        ∙ ap (whole (record message { path = path_of to; query = query_of to })) (sym one.1) in (
          ap (λ (m : Message). m.path) one.0,
          ap (λ (m : Message). m.query) one.0,
          subst (λ (b : List ℕ). Reads b (whole (record message { path = path_of to; query = query_of to }) awaited)) (sym same.second)
              (subst (Reads (print_request turned ++ same.behind)) reading (printed_reads turned same.behind same.is_other same.second_size few)),
        )

    by_refusal : (o : Option Refusal) → refusal_of parts ≡ o → feeds_of (print_request turned) ≤ MAX_FEEDS → whole message awaited ≡ reading_by (judged_by o (Some from) parts) same.behind → Wanted
    by_refusal (Some refusal) t few is = absurd (let no : ⊥ = cc in no)
    by_refusal None t few is = by_length (nat_le (frame_of parts from).body_len (length same.behind)) refl few t is

    by_size : (b : Bool) → nat_le (feeds_of (print_request head)) MAX_FEEDS ≡ b → Wanted
    by_size true t =
        let few : feeds_of (print_request head) ≤ MAX_FEEDS = leb-true (feeds_of (print_request head)) MAX_FEEDS t in
        let also : feeds_of (print_request turned) ≤ MAX_FEEDS = omega (arith, few, feeds_printed head same.is_head, feeds_printed turned same.is_other) in
        let is : whole message awaited ≡ reading_by (judged parts) same.behind = reads_one (print_request head ++ same.behind) (whole message awaited) _ printed (printed_reads head same.behind same.is_head same.first_size few) in
        by_refusal (refusal_of parts) refl also (is ∙ ap (λ (o : Option (List ℕ)). reading_by (judged_by (refusal_of parts) o parts) same.behind) origin)
    by_size false t =
        let many : MAX_FEEDS < feeds_of (print_request head) = omega (arith, leb-false (feeds_of (print_request head)) MAX_FEEDS t) in
        let is : whole message awaited ≡ refused HeadTooLarge false = reads_one (print_request head ++ same.behind) (whole message awaited) (refused HeadTooLarge false) printed (printed_crowded head same.behind same.is_head same.first_size many) in
        absurd (let no : ⊥ = cc in no)
