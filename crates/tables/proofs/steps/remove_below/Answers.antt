use Rattle.tables.proofs.Outside.{⊤, ◌≡◌, ◌≤◌, ◌+◌, None, arith, oldest_below}
use Rattle.tables.specs.Inner.Edits.{oldest_gone, so_many_gone, most_gone, gone_below}
use Rattle.tables.proofs.GoneSteps.{gone_one, gone_more, gone_all, ended, none_gone}
use Rattle.tables.proofs.KeepMoves.{step_as, steps_as}
use Rattle.tables.proofs.steps.remove_below.Goals as goal

pub returns-then-not-branch : goal.returns-then-not-branch
returns-then-not-branch g c =
    step_as g.S.Store (oldest_gone c.args.org.now c.args.ws.now c.args.below) (gone_below c.args.org.now c.args.ws.now c.args.below) c.args.tx.now c.remove_oldest.new.tx _ c.in_ok-remove_oldest.ensures.steps tt
    (λ clean inside t holds. none_gone c.args.org.now c.args.ws.now c.args.below t (c.in_ok-remove_oldest.ensures.left clean inside t holds c.if-not-branch.true))

pub versions-init : goal.versions-init
versions-init g c =
    step_as g.S.Store (oldest_gone c.args.org.now c.args.ws.now c.args.below) (so_many_gone 1 c.args.org.now c.args.ws.now c.args.below) c.args.tx.now c.remove_oldest.new.tx _ c.in_ok-remove_oldest.ensures.steps tt
    (λ clean inside t holds. gone_one c.args.org.now c.args.ws.now c.args.below t)

pub returns-then-not-branch-2 : goal.returns-then-not-branch-2
returns-then-not-branch-2 g c =
    let few : c.versions.gone + 1 ≤ most_gone = omega (arith, c.versions-test.true) in
    steps_as g.S.Store (oldest_gone c.args.org.now c.args.ws.now c.args.below) (gone_below c.args.org.now c.args.ws.now c.args.below) c.versions.tx c.remove_oldest-in-versions.new.tx _ c.in_ok-remove_oldest-2.ensures.steps
    (so_many_gone c.versions.gone c.args.org.now c.args.ws.now c.args.below) c.args.tx.now tt tt c.versions.invariant (λ t. oldest_below c.args.org.now c.args.ws.now c.args.below (oldest_gone c.args.org.now c.args.ws.now c.args.below t) ≡ None)
    (λ clean inside t holds. c.in_ok-remove_oldest-2.ensures.left clean inside t holds c.if-not-branch-2.true) (λ t none. ended c.args.org.now c.args.ws.now c.args.below t c.versions.gone few none)

pub versions-preserved : goal.versions-preserved
versions-preserved g c =
    steps_as g.S.Store (oldest_gone c.args.org.now c.args.ws.now c.args.below) (so_many_gone (c.versions.gone + 1) c.args.org.now c.args.ws.now c.args.below) c.versions.tx c.remove_oldest-in-versions.new.tx _ c.in_ok-remove_oldest-2.ensures.steps
    (so_many_gone c.versions.gone c.args.org.now c.args.ws.now c.args.below) c.args.tx.now tt tt c.versions.invariant (λ t. ⊤) (λ clean inside t holds. tt) (λ t none. gone_more c.args.org.now c.args.ws.now c.args.below t c.versions.gone)

pub returns : goal.returns
returns g c =
    let all : c.versions.gone ≡ most_gone = omega (arith, c.versions.auto.gone-end, c.versions-test.false) in
    step_as g.S.Store (so_many_gone c.versions.gone c.args.org.now c.args.ws.now c.args.below) (gone_below c.args.org.now c.args.ws.now c.args.below) c.args.tx.now c.versions.tx tt c.versions.invariant tt
    (λ clean inside t holds. gone_all c.args.org.now c.args.ws.now c.args.below t c.versions.gone all)
