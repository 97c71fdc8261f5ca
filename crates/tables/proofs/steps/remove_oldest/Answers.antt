use Rattle.tables.proofs.Outside.{◌≡◌, ◌≤◌, ◌+◌, Option, Some, refl, sym, ap, ◌∙◌, arith, ltb-false, oldest_below, step_behind, step_none}
use Rattle.basis.specs.declared.rows.VersionRow.{VersionRow as Head}
use Rattle.tables.specs.Inner.Edits.{first_gone, version_gone, oldest_gone}
use Rattle.tables.proofs.GoneSteps.{none_stays}
use Rattle.tables.proofs.KeepMoves.{step_as}
use Rattle.tables.proofs.LastGone.{none_behind_last}
use Rattle.tables.proofs.steps.remove_oldest.Goals as goal

pub returns-in-None-clause-steps : goal.returns-in-None-clause-steps
returns-in-None-clause-steps g c =
    step_none g.S.Store c.args.tx.now c.oldest_below.new.tx c.in_ok-oldest_below.ensures.same_reference c.in_ok-oldest_below.ensures.survives (oldest_gone c.args.org.now c.args.ws.now c.args.below) _
    (λ clean. let seen = c.in_ok-oldest_below.ensures.reads clean in (λ t holds. ap (λ (o : Option Head). first_gone c.args.org.now c.args.ws.now o t) (sym c.in-None.is ∙ seen.0 t holds), seen.1.0))

pub returns-in_ok-remove_version-in-Some-clause-steps : goal.returns-in_ok-remove_version-in-Some-clause-steps
returns-in_ok-remove_version-in-Some-clause-steps g c =
    let f = version_gone c.args.org.now c.args.ws.now c.in-Some.head in
    step_behind g.S.Store c.args.tx.now c.oldest_below.new.tx c.in_ok-oldest_below.ensures.same_reference c.in_ok-oldest_below.ensures.survives f (oldest_gone c.args.org.now c.args.ws.now c.args.below) c.remove_version.new.tx _
    (λ clean. let seen = c.in_ok-oldest_below.ensures.reads clean in (λ t holds. ap (λ (o : Option Head). first_gone c.args.org.now c.args.ws.now o t) (sym c.in-Some.is ∙ seen.0 t holds), seen.1.0))
    (step_as g.S.Store f f c.oldest_below.new.tx c.remove_version.new.tx _ c.in_ok-remove_version-in-Some.ensures _ (λ clean inside t holds. refl))

pub returns-in-None-clause-left : goal.returns-in-None-clause-left
returns-in-None-clause-left g c clean inside t holds same =
    none_stays c.args.org.now c.args.ws.now c.args.below t (sym ((c.in_ok-oldest_below.ensures.reads clean).0 t holds) ∙ c.in-None.is)

pub returns-in_ok-remove_version-in-Some-clause-left : goal.returns-in_ok-remove_version-in-Some-clause-left
returns-in_ok-remove_version-in-Some-clause-left g c clean inside t holds last =
    let org = c.args.org.now in
    let ws = c.args.ws.now in
    let head = c.in-Some.head in
    let seen = c.in_ok-oldest_below.ensures.reads (c.in_ok-remove_version-in-Some.ensures.so_far clean) in
    let found : oldest_below org ws c.args.below t ≡ Some head = sym (seen.0 t holds) ∙ c.in-Some.is in
    let low = ltb-false (c.get-number.result + 1) c.args.below last in
    let far : c.args.below ≤ head.number + 1 = omega (arith, low, c.get-number.ensures.value) in
    ap (λ (o : Option Head). oldest_below org ws c.args.below (first_gone org ws o t)) found ∙ none_behind_last org ws c.args.below t head far found
