use Rattle.machine.proofs.run_steps.next_of_queued.Goals as goal

pub returns-in-Pending : goal.returns-in-Pending
returns-in-Pending c = rw c.in-Pending.is (c.next_of_pending.ensures c.args.planned)

pub returns-in-Planned : goal.returns-in-Planned
returns-in-Planned c = rw c.in-Planned.is (c.next_of_planned.ensures c.args.planned)

pub returns-in-Applying : goal.returns-in-Applying
returns-in-Applying c = rw c.in-Applying.is (c.next_of_applying.ensures c.args.planned)
