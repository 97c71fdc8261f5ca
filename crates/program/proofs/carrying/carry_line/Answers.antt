use Rattle.std.proofs.Common.{refl}
use Rattle.program.proofs.BatchLemmas.{command_ends}
use Rattle.program.proofs.carrying.carry_line.Goals as goal

pub returns-in-Skipped-clause-carries : goal.returns-in-Skipped-clause-carries
returns-in-Skipped-clause-carries g c = rw c.in-Skipped.is (refl, refl, refl, refl)

pub returns-in-Command-clause-ends : goal.returns-in-Command-clause-ends
returns-in-Command-clause-ends g c = command_ends c.in-Command.command c.operate_on.result _ c.operate_on.ensures.line

pub returns-in-Command-clause-carries : goal.returns-in-Command-clause-carries
returns-in-Command-clause-carries g c = rw c.in-Command.is (record { lasts = c.operate_on.ensures.lasts; line = c.operate_on.ensures.line; model = c.operate_on.ensures.model })
