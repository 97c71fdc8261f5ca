use Rattle.std.proofs.Common.{◌∙◌, arith}
use Rattle.std.proofs.lemmas.List.{length-map}
use Rattle.sha2.proofs.Schedule256.{IsWindow_first}
use Rattle.lanes.specs.Inner.Lanes.{one_of, words_of}
use Rattle.lanes.proofs.LaneLemmas.{word_of}
use Rattle.lanes.proofs.blocks.words.Goals as goal

pub returns : goal.returns
returns c j h =
    let w = c.load.w in
    let text = one_of j c.args.a.now c.args.b.now c.args.c.now c.args.d.now in
    IsWindow_first text (words_of j w) (length-map w _ ∙ c.load.invariant.0)
    (λ k lt. word_of j w k ∙ c.load.invariant.1 j h k (omega arith))
