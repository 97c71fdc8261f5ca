use Rattle.std.proofs.Common.{rules, refl, ◌<◌, ℕ, arith}
use Rattle.lanes.proofs.LaneLemmas.{below_four}
use Rattle.lanes.proofs.TurnLemmas.{digests_are, follows_next, follows_none}
use Rattle.lanes.proofs.digests.Goals as goal

pub blocks-2-init : goal.blocks-2-init
blocks-2-init c = (refl, λ j h. follows_none _ _ _ (c.initial-state.ensures j h))

pub blocks-2-preserved : goal.blocks-2-preserved
blocks-2-preserved c =
    let n = c.blocks-2.n in
    let before = c.blocks-2.invariant.1 in
    let stepped = λ (j : ℕ) (h : j < 4). c.compress.ensures j h _ (c.words-w.ensures j h) in (
      refl,
      below_four _
          (follows_next _ _ _ _ _ _ n _ (before 0 (omega arith)) c.count-count_a.ensures c.block.ensures.block (stepped 0 (omega arith)) c.kept.ensures.last c.kept.ensures.other)
          (follows_next _ _ _ _ _ _ n _ (before 1 (omega arith)) c.count-count_b.ensures c.block-in-blocks-2.ensures.block (stepped 1 (omega arith)) c.kept-in-blocks-2.ensures.last c.kept-in-blocks-2.ensures.other)
          (follows_next _ _ _ _ _ _ n _ (before 2 (omega arith)) c.count-count_c.ensures c.block-in-blocks-2-2.ensures.block (stepped 2 (omega arith)) c.kept-in-blocks-2-2.ensures.last c.kept-in-blocks-2-2.ensures.other)
          (follows_next _ _ _ _ _ _ n _ (before 3 (omega arith)) c.count-count_d.ensures c.block-in-blocks-2-3.ensures.block (stepped 3 (omega arith)) c.kept-in-blocks-2-3.ensures.last c.kept-in-blocks-2-3.ensures.other),
    )

pub returns : goal.returns
returns c =
    let held = c.blocks-2.invariant.1 in
    let digest = λ (j : ℕ) (h : j < 4). (held j h).digest in
    digests_are _ c.args.texts c.blocks-2.out (search rules) c.blocks-2.invariant.0
    (below_four _ (digest 0 (omega arith) (omega arith)) (digest 1 (omega arith) (omega arith)) (digest 2 (omega arith) (omega arith)) (digest 3 (omega arith) (omega arith)))
