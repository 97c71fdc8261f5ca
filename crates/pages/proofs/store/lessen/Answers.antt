use Rattle.pages.proofs.Outside.{◌-◌, cond, sym, ap, lt-ltb, le-ltb}
use Rattle.pages.specs.Rows.{page_used, page_removed}
use Rattle.pages.specs.Puts.{lessened}
use Rattle.pages.proofs.Sequences.{steps_by, steps_are}
use Rattle.pages.proofs.store.lessen.Goals as goal

pub returns-then-uses-gt1-clause-steps : goal.returns-then-uses-gt1-clause-steps
returns-then-uses-gt1-clause-steps g c =
    let key = c.args.key.now in
    steps_are g.S.Store (page_used key c.args.twin (c.args.uses - 1)) (lessened key c.args.twin c.args.uses) c.args.tx.now c.set_uses.new.tx c.set_uses.result
    (λ clean t _. sym (ap (λ b. cond b (page_used key c.args.twin (c.args.uses - 1) t) (page_removed key c.args.twin t)) (lt-ltb 1 c.args.uses c.if-uses-gt1.true)))
    (steps_by g.S.Store _ _ _ _ c.set_uses.ensures.writes)

pub returns-else-uses-gt1-clause-steps : goal.returns-else-uses-gt1-clause-steps
returns-else-uses-gt1-clause-steps g c =
    let key = c.args.key.now in
    steps_are g.S.Store (page_removed key c.args.twin) (lessened key c.args.twin c.args.uses) c.args.tx.now c.remove.new.tx c.remove.result
    (λ clean t _. sym (ap (λ b. cond b (page_used key c.args.twin (c.args.uses - 1) t) (page_removed key c.args.twin t)) (le-ltb 1 c.args.uses c.if-uses-gt1.false)))
    (steps_by g.S.Store _ _ _ _ c.remove.ensures.writes)
