use Rattle.std.proofs.Common.{arith}
use Rattle.program.proofs.LineFaultLemmas.{other_bounds}
use Rattle.program.proofs.line_faults.bounds_fault.Goals as goal

pub returns-in_default : goal.returns-in_default
returns-in_default c = other_bounds c.args.words.now (λ e. grind arith) (λ e. grind arith)

pub returns-in_default-2 : goal.returns-in_default-2
returns-in_default-2 c = other_bounds c.args.words.now (λ e. grind arith) (λ e. grind arith)
