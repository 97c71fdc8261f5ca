-- Each string has at most one reading, and bytes that follow change nothing once it is read.
use Rattle.std.proofs.Common.{◌≡◌, ◌≢◌, ℕ, ◌≤◌, List, ◌++◌, length, take, drop, Bool, true, false, nat_le, refl, sym, ap, subst, ◌∙◌, arith, length-append}
use Rattle.std.proofs.lemmas.List.{take-append-le, drop-append-le}
use Rattle.std.proofs.lemmas.Bool.{leb-true, le-leb}
use Rattle.httparse.proofs.GrammarLemmas.{request_unique}
use Rattle.wire.specs.Heads.{HeadEnd, Unfinished, Long, Whole, head_end_of}
use Rattle.wire.specs.Framing.{HeadParse, crowded, malformed, parsed, ParsesAs, parts_of, Verdict, refuses, accepts, verdict_of, IsJudged}
use Rattle.wire.specs.Messages.{Reading, unfinished, whole, framed_message, reading_by, ReadsByEnd, Reads, AwaitsContinueBy, AwaitsContinue}
use Rattle.wire.proofs.HeadLemmas.{head_end_more, head_end_within}

pub parses_one : (head : List ℕ) (a b : HeadParse) → ParsesAs head a → ParsesAs head b → a ≡ b
parses_one head crowded crowded p q = refl
parses_one head crowded malformed p q = absurd (omega (arith, p, q.0))
parses_one head crowded (parsed b) p q = absurd (omega (arith, p, q.0))
parses_one head malformed crowded p q = absurd (omega (arith, q, p.0))
parses_one head malformed malformed p q = refl
parses_one head malformed (parsed b) p q = absurd (p.1 q.1.0 q.1.1 q.1.2)
parses_one head (parsed a) crowded p q = absurd (omega (arith, q, p.0))
parses_one head (parsed a) malformed p q = absurd (q.1 p.1.0 p.1.1 p.1.2)
parses_one head (parsed a) (parsed b) p q =
    let same = request_unique head p.1.0 q.1.0 p.1.1 q.1.1 p.1.2 q.1.2 in
    ap parsed (p.1.3 ∙ ap parts_of same.0 ∙ sym q.1.3)

pub judged_one : (head : List ℕ) (v w : Verdict) → IsJudged head v → IsJudged head w → v ≡ w
judged_one head v w p q = p.2 ∙ ap verdict_of (parses_one head p.0 q.0 p.1 q.1) ∙ sym q.2

reads_one_by : (head_end : HeadEnd) (bytes : List ℕ) (r s : Reading) → ReadsByEnd head_end bytes r → ReadsByEnd head_end bytes s → r ≡ s
reads_one_by Unfinished bytes r s p q = p ∙ sym q
reads_one_by Long bytes r s p q = p ∙ sym q
reads_one_by (Whole n) bytes r s p q =
    p.2 ∙ ap (λ v. reading_by v (drop n bytes)) (judged_one (take n bytes) p.0 q.0 p.1 q.1) ∙ sym q.2

-- each string has at most one reading
pub reads_one : (bytes : List ℕ) (r s : Reading) → Reads bytes r → Reads bytes s → r ≡ s
reads_one bytes r s p q = reads_one_by (head_end_of bytes) bytes r s p q

-- ---- more bytes

fits_more : (m : ℕ) (rest more : List ℕ) (b : Bool) → nat_le m (length rest) ≡ b → b ≡ true → nat_le m (length (rest ++ more)) ≡ true
fits_more m rest more b e t =
    let h : m ≤ length rest = leb-true m (length rest) (e ∙ t) in
    le-leb m (length (rest ++ more)) (omega (arith, length-append rest more, h))

by_more : (v : Verdict) (rest more : List ℕ) (r : Reading) → r ≡ reading_by v rest → r ≢ unfinished → r ≡ reading_by v (rest ++ more)
by_more (refuses refusal is_head) rest more r e u = e
by_more (accepts frame) rest more r e u = by_test (nat_le frame.body_len (length rest)) refl
  where
    by_test : (b : Bool) → nat_le frame.body_len (length rest) ≡ b → r ≡ reading_by (accepts frame) (rest ++ more)
    by_test true t =
        let h : frame.body_len ≤ length rest = leb-true frame.body_len (length rest) t in
        let was : r ≡ whole (framed_message frame (take frame.body_len rest)) frame.awaits_continue = e ∙ rw t refl in
        was ∙ rw (fits_more frame.body_len rest more true t refl, take-append-le frame.body_len rest more h) refl
    by_test false t = absurd (u (e ∙ rw t refl))

reads_more_by : (head_end : HeadEnd) (bytes more : List ℕ) (r : Reading) → ((n : ℕ) → head_end ≡ Whole n → n ≤ length bytes)
    → ReadsByEnd head_end bytes r → r ≢ unfinished → ReadsByEnd head_end (bytes ++ more) r
reads_more_by Unfinished bytes more r within p u = p
reads_more_by Long bytes more r within p u = p
reads_more_by (Whole n) bytes more r within p u =
    let h : n ≤ length bytes = within n refl in
    let J : List ℕ → Type 0 = λ head. IsJudged head p.0 in (
      p.0,
      subst J (sym (take-append-le n bytes more h)) p.1,
      by_more p.0 (drop n bytes) more r p.2 u ∙ ap (λ rest. reading_by p.0 rest) (sym (drop-append-le n bytes more h)),
    )

open_head_end : (bytes : List ℕ) (r : Reading) → Reads bytes r → r ≢ unfinished → head_end_of bytes ≢ Unfinished
open_head_end bytes r p u e = let F : HeadEnd → Type 0 = λ head_end. ReadsByEnd head_end bytes r in u (subst F e p)

-- once a string is read, bytes that follow change nothing
pub reads_more : (bytes more : List ℕ) (r : Reading) → Reads bytes r → r ≢ unfinished → Reads (bytes ++ more) r
reads_more bytes more r p u =
    let F : HeadEnd → Type 0 = λ head_end. ReadsByEnd head_end (bytes ++ more) r in
    subst F (sym (head_end_more bytes more (open_head_end bytes r p u)))
    (reads_more_by (head_end_of bytes) bytes more r (λ n e. head_end_within bytes n e) p u)

awaited_more_by : (head_end : HeadEnd) (bytes more : List ℕ) → ((n : ℕ) → head_end ≡ Whole n → n ≤ length bytes)
    → AwaitsContinueBy head_end bytes → AwaitsContinueBy head_end (bytes ++ more)
awaited_more_by Unfinished bytes more within p = p
awaited_more_by Long bytes more within p = p
awaited_more_by (Whole n) bytes more within p =
    let J : List ℕ → Type 0 = λ head. IsJudged head (accepts p.0) in
    (p.0, subst J (sym (take-append-le n bytes more (within n refl))) p.1, p.2)

awaited_head_end : (bytes : List ℕ) → AwaitsContinue bytes → head_end_of bytes ≢ Unfinished
awaited_head_end bytes p e = let F : HeadEnd → Type 0 = λ head_end. AwaitsContinueBy head_end bytes in subst F e p

-- where a `100 Continue` is awaited, it is awaited whatever follows
pub awaited_more : (bytes more : List ℕ) → AwaitsContinue bytes → AwaitsContinue (bytes ++ more)
awaited_more bytes more p =
    let F : HeadEnd → Type 0 = λ head_end. AwaitsContinueBy head_end (bytes ++ more) in
    subst F (sym (head_end_more bytes more (awaited_head_end bytes p)))
    (awaited_more_by (head_end_of bytes) bytes more (λ n e. head_end_within bytes n e) p)
