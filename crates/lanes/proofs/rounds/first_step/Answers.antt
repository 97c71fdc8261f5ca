use Rattle.std.proofs.Common.{refl, sym}
use Rattle.sha2.proofs.Schedule256.{rounds_first}
use Rattle.lanes.proofs.LaneLemmas.{word_of}
use Rattle.lanes.specs.Inner.Lanes.{state_of, words_of}
use Rattle.lanes.proofs.rounds.first_step.Goals as goal

pub returns : goal.returns
returns c j k b h window held =
    rounds_first b h (words_of j c.args.w.now) (state_of j c.args.v) c.args.t _ _ _ c.requires window held refl
    (sym (word_of j c.args.w.now c.args.t)) (c.round.ensures j k)
