-- Each string has a reading, once each whole head has a verdict.
use Rattle.std.proofs.Common.{◌≡◌, ℕ, ◌<◌, ◌≤◌, List, length, take, drop, false, Some, None, refl, sym, ap, subst, ◌∙◌}
use Rattle.basis.specs.declared.refusals.Refusal.TheVariants.{HeadTooLarge}
use Rattle.httparse.specs.declared.spans.HeaderSpan.{HeaderSpan}
use Rattle.httparse.specs.declared.spans.RequestSpans.{RequestSpans}
use Rattle.httparse.specs.Grammar.{HasNoRequest}
use Rattle.httparse.specs.Spans.{IsRequestOf}
use Rattle.wire.specs.declared.heads.TheConstants.{MAX_HEAD}
use Rattle.wire.specs.declared.framing.TheConstants.{MAX_FEEDS}
use Rattle.wire.specs.Heads.{HeadEnd, Unfinished, Long, Whole, head_end_by, head_end_of, head_len, feeds_of}
use Rattle.wire.specs.Framing.{Verdict, verdict_of, malformed, crowded, parsed, parts_of, IsJudged}
use Rattle.wire.specs.Messages.{Reading, unfinished, refused, reading_by, ReadsByEnd, Reads}
use Rattle.wire.proofs.HeadLemmas.{head_end_whole, long_some}

by_head_end : (head_end : HeadEnd) (bytes : List ℕ) → ((n : ℕ) → head_end ≡ Whole n → (v : Verdict) × IsJudged (take n bytes) v)
    → (r : Reading) × ReadsByEnd head_end bytes r
by_head_end Unfinished bytes f = (unfinished, refl)
by_head_end Long bytes f = (refused HeadTooLarge false, refl)
by_head_end (Whole n) bytes f = let j = f n refl in (reading_by j.0 (drop n bytes), (j.0, j.1, refl))

-- no end has come
pub reading_open : (bytes : List ℕ) → head_len bytes ≡ None → (r : Reading) × Reads bytes r
reading_open bytes e =
    by_head_end (head_end_of bytes) bytes (λ n w. let g : None ≡ Some n = sym e ∙ head_end_whole bytes n w in absurd (cc))

-- the end comes too late
pub reading_late : (bytes : List ℕ) (n : ℕ) → head_len bytes ≡ Some n → MAX_HEAD < n → (r : Reading) × Reads bytes r
reading_late bytes n e h =
    let late : head_end_of bytes ≡ Long = ap (λ o. head_end_by o (length bytes)) e ∙ long_some n (length bytes) h in
    by_head_end (head_end_of bytes) bytes (λ m w. let g : Long ≡ Whole m = sym late ∙ w in absurd (cc))

-- a whole head
pub reading_whole : (bytes : List ℕ) (n : ℕ) → head_len bytes ≡ Some n → ((v : Verdict) × IsJudged (take n bytes) v) → (r : Reading) × Reads bytes r
reading_whole bytes n e j =
    by_head_end (head_end_of bytes) bytes
    (λ m w.
    let g : Some n ≡ Some m = sym e ∙ head_end_whole bytes m w in
    let same : n ≡ m = cc in
    let J : ℕ → Type 0 = λ k. IsJudged (take k bytes) j.0 in
    (j.0, subst J same j.1))

pub judged_parts : (head : List ℕ) (headers : List HeaderSpan) (spans : RequestSpans) → feeds_of head ≤ MAX_FEEDS
    → IsRequestOf head headers spans → (v : Verdict) × IsJudged head v
judged_parts head headers spans few of =
    (verdict_of (parsed (parts_of of.0)), (parsed (parts_of of.0), (few, (of.0, drop spans.len head, of.1.reads, refl)), refl))

pub judged_none : (head : List ℕ) → feeds_of head ≤ MAX_FEEDS → HasNoRequest head → (v : Verdict) × IsJudged head v
judged_none head few none = (verdict_of malformed, (malformed, (few, none), refl))

pub judged_crowded : (head : List ℕ) → MAX_FEEDS < feeds_of head → (v : Verdict) × IsJudged head v
judged_crowded head many = (verdict_of crowded, (crowded, many, refl))
