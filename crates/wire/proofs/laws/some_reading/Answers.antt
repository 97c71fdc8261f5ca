use Rattle.std.proofs.Common.{◌≡◌, List, ℕ, [], Some, sym, subst, ap, ◌∙◌}
use Rattle.std.proofs.lemmas.List.{append-nil}
use Rattle.wire.specs.Heads.{head_len}
use Rattle.wire.specs.Framing.{Verdict, IsJudged}
use Rattle.wire.proofs.HeadLemmas.{passes_none}
use Rattle.wire.proofs.ExistenceLemmas.{reading_open, reading_late, reading_whole}
use Rattle.wire.proofs.laws.some_reading.Goals as goal

pub returns-in_default : goal.returns-in_default
returns-in_default c = reading_open c.args.bytes.now (passes_none c.args.bytes.now c.end_in.new.position c.in_default.ensures.end)

pub returns-then-len-gt-MAX_HEAD : goal.returns-then-len-gt-MAX_HEAD
returns-then-len-gt-MAX_HEAD c =
    let end : head_len c.args.bytes.now ≡ Some c.in-Some.len = ap head_len (sym (append-nil c.args.bytes.now)) ∙ c.in-Some.ensures.end [] in
    reading_late c.args.bytes.now c.in-Some.len end c.if-len-gt-MAX_HEAD.true

pub returns : goal.returns
returns c =
    let end : head_len c.args.bytes.now ≡ Some c.in-Some.len = ap head_len (sym (append-nil c.args.bytes.now)) ∙ c.in-Some.ensures.end [] in
    let J : List ℕ → Type 0 = λ head. (v : Verdict) × IsJudged head v in
    reading_whole c.args.bytes.now c.in-Some.len end (subst J c.split_at.ensures.front c.some_verdict.ensures)
