use Rattle.tables.proofs.Outside.{rules, when_done, steps_then}
use Rattle.tables.specs.Inner.Edits.{numbered_rows}
use Rattle.tables.proofs.KeepMoves.{no_keys, takes_by}
use Rattle.tables.proofs.KeyedRows.{below_keyed}
use Rattle.tables.proofs.KeyedSteps.{keyed_by, keyed_then}
use Rattle.tables.proofs.steps.put.Goals as goal

pub returns-in-None-clause-puts : goal.returns-in-None-clause-puts
returns-in-None-clause-puts g c =
    let keys = c.in_ok-add.ensures.adds.0 in
    let added = c.in_ok-add.ensures.adds.1 in
    rw c.in-None.is (
      keys,
      record {
        steps = steps_then g.S.Store _ _ _ _ _ _ _ c.in_ok-count_on.ensures.steps added.steps;
        reports = λ clean inside.
            takes_by g.S.Store keys c.args.org.now c.args.ws.now c.args.version.now c.args.tx.now c.count_on.new.tx c.add.new.tx _
            c.in_ok-count_on.ensures.steps c.in_ok-count_on.ensures.found added.steps.so_far c.in_ok-add.ensures.fresh added.reports clean inside;
      },
    )

pub returns-in-Some-clause-puts : goal.returns-in-Some-clause-puts
returns-in-Some-clause-puts g c =
    let keys = c.in_ok-add.ensures.adds.0 in
    let added = c.in_ok-add.ensures.adds.1 in
    rw c.in-Some.is (
      keys,
      record {
        steps = steps_then g.S.Store _ _ _ _ _ _ _ c.in_ok-count_on.ensures.steps (steps_then g.S.Store _ _ _ _ _ _ _ added.steps c.forget.ensures);
        reports = λ clean inside. when_done c.forget.result (
            takes_by g.S.Store keys c.args.org.now c.args.ws.now c.args.version.now c.args.tx.now c.count_on.new.tx c.add.new.tx _
            c.in_ok-count_on.ensures.steps c.in_ok-count_on.ensures.found added.steps.so_far c.in_ok-add.ensures.fresh added.reports (c.forget.ensures.so_far clean) inside);
      },
    )

pub returns-in_err-count_on-clause-puts : goal.returns-in_err-count_on-clause-puts
returns-in_err-count_on-clause-puts g c = (no_keys, search rules)

pub returns-in-None-clause-keyed : goal.returns-in-None-clause-keyed
returns-in-None-clause-keyed g c =
    let key_of = g.K.PageKey.key_of in
    let counted = keyed_by g.S.Store key_of (numbered_rows c.args.org.now c.args.ws.now c.args.version.now) c.args.tx.now c.count_on.new.tx _ c.in_ok-count_on.ensures.steps (λ t keyed. keyed) in
    keyed_then g.S.Store key_of c.args.tx.now c.count_on.new.tx c.add.new.tx _ _ counted c.in_ok-add.ensures.keyed

pub returns-in-Some-clause-keyed : goal.returns-in-Some-clause-keyed
returns-in-Some-clause-keyed g c =
    let org = c.args.org.now in
    let ws = c.args.ws.now in
    let key_of = g.K.PageKey.key_of in
    let counted = keyed_by g.S.Store key_of (numbered_rows org ws c.args.version.now) c.args.tx.now c.count_on.new.tx _ c.in_ok-count_on.ensures.steps (λ t keyed. keyed) in
    let added = keyed_then g.S.Store key_of c.args.tx.now c.count_on.new.tx c.add.new.tx _ _ counted c.in_ok-add.ensures.keyed in
    keyed_then g.S.Store key_of c.args.tx.now c.add.new.tx c.forget.new.tx _ c.forget.result added (keyed_by g.S.Store key_of _ c.add.new.tx c.forget.new.tx c.forget.result c.forget.ensures (below_keyed key_of org ws _))
