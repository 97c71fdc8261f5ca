use Rattle.tables.proofs.Outside.{when_done, steps_then}
use Rattle.tables.proofs.KeyedSteps.{keyed_by, keyed_then}
use Rattle.tables.proofs.steps.change.Goals as goal

pub returns-in-None-clause-changes : goal.returns-in-None-clause-changes
returns-in-None-clause-changes g c =
    let edited = c.in_ok-edit.ensures.edits.1 in
    rw c.in-None.is (c.in_ok-edit.ensures.edits.0, record { steps = edited.steps; reports = edited.reports })

pub returns-in-Some-clause-changes : goal.returns-in-Some-clause-changes
returns-in-Some-clause-changes g c =
    let edited = c.in_ok-edit.ensures.edits.1 in
    rw c.in-Some.is (
      c.in_ok-edit.ensures.edits.0,
      record {
        steps = steps_then g.S.Store _ _ _ _ _ _ _ edited.steps c.start.ensures;
        reports = λ clean inside. when_done c.start.result (edited.reports (c.start.ensures.so_far clean) inside);
      },
    )

pub returns-in-Some-clause-keyed : goal.returns-in-Some-clause-keyed
returns-in-Some-clause-keyed g c =
    let key_of = g.K.PageKey.key_of in
    keyed_then g.S.Store key_of c.args.tx.now c.edit.new.tx c.start.new.tx _ c.start.result c.in_ok-edit.ensures.keyed
    (keyed_by g.S.Store key_of _ c.edit.new.tx c.start.new.tx c.start.result c.start.ensures (λ t keyed. keyed))
