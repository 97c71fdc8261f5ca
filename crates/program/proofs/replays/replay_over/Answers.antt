use Rattle.std.proofs.Common.{sym, ap, subst, ◌∙◌}
use Rattle.program.proofs.ReplayLemmas.{replies_of_none}
use Rattle.program.proofs.replays.replay_over.Goals as goal

pub returns : goal.returns
returns g c clean sound none =
    let at_first = c.new-service.ensures.keep in
    let replay = c.replay-replies in
    let clean' = subst (λ k. g.K.Keep.clean k) c.into_keep-keep.ensures clean in
    let sound' = subst (λ k. g.K.Keep.sound k) (sym at_first) sound in
    replies_of_none c.args.steps.now (g.K.Keep.rows c.new-service.result.keep) (g.K.Keep.rows replay.new.self.keep) replay.result
    (λ o. ap (λ k. g.K.Keep.rows k o) at_first ∙ none o)
    replay.ensures.one_each (replay.ensures.isolation clean' sound') (replay.ensures.unattributed clean' sound') (replay.ensures.lists clean' sound') (replay.ensures.lists_reported clean' sound')
