use Rattle.std.proofs.Common.{refl}
use Rattle.program.proofs.running.run_order.Goals as goal

pub returns-in-Carry-clause-leaves : goal.returns-in-Carry-clause-leaves
returns-in-Carry-clause-leaves g c = rw c.in-Carry.is (c.carry_out.ensures.operates, (refl, refl))

pub returns-in-Compact-clause-leaves : goal.returns-in-Compact-clause-leaves
returns-in-Compact-clause-leaves g c = rw c.in-Compact.is (c.compact.ensures.copies, (refl, refl))

pub returns-in-Serve-clause-leaves : goal.returns-in-Serve-clause-leaves
returns-in-Serve-clause-leaves g c = rw c.in-Serve.is c.serve_with_door.ensures.serves
