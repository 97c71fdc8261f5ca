use Rattle.std.proofs.Common.{arith}
use Rattle.program.proofs.LineFaultLemmas.{other_token_list}
use Rattle.program.proofs.line_faults.token_list_fault.Goals as goal

pub returns-in_default : goal.returns-in_default
returns-in_default c = other_token_list c.args.words.now (λ e. grind arith)
