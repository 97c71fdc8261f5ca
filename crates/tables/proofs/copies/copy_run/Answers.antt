use Rattle.tables.proofs.Outside.{[], ◌∷◌, option_map, refl, run_made, run_added, AnyRows, steps_by, when_done}
use Rattle.tables.specs.Inner.Copies.{Carries, with_runs}
use Rattle.tables.proofs.Copying.{related_by}
use Rattle.tables.proofs.KeyedSteps.{paged_by}
use Rattle.tables.proofs.Standing.{run_carries}
use Rattle.tables.proofs.copies.copy_run.Goals as goal

pub returns-clause-carries : goal.returns-clause-carries
returns-clause-carries g c =
    let org = c.args.org.now in
    let ws = c.args.ws.now in
    let run = c.args.run.now in
    related_by g.S.Store AnyRows (run_added org ws run) (Carries org ws (with_runs (run ∷ []))) c.args.tx.now c.add.new.tx c.add.result (λ t any. run_carries org ws run t)
    (rw (c.optional_str-key.ensures, c.as_str-message.ensures) at (steps_by g.S.Store (run_added org ws (run_made run.number run.plan_only (option_map (λ s. s.now) c.optional_str-key.result) c.as_str-message.result.now run.created run.status run.action)) c.args.tx.now c.add.new.tx c.add.result c.add.ensures)) (λ clean inside. when_done c.add.result (λ t holds. tt))

pub returns-clause-pages : goal.returns-clause-pages
returns-clause-pages g c =
    let run = c.args.run.now in
    let made = run_made run.number run.plan_only (option_map (λ s. s.now) c.optional_str-key.result) c.as_str-message.result.now run.created run.status run.action in
    paged_by g.S.Store (run_added c.args.org.now c.args.ws.now made) c.args.tx.now c.add.new.tx c.add.result (steps_by g.S.Store (run_added c.args.org.now c.args.ws.now made) c.args.tx.now c.add.new.tx c.add.result c.add.ensures) (λ t. refl)
