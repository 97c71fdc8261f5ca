use Rattle.std.proofs.Common.{arith}
use Rattle.program.proofs.LineFaultLemmas.{other_org_remove, two_org_remove}
use Rattle.program.proofs.line_faults.org_remove_fault.Goals as goal

pub returns-in_default : goal.returns-in_default
returns-in_default c = other_org_remove c.args.words.now (λ e. grind arith) (λ e. grind arith)

pub returns-in-len2 : goal.returns-in-len2
returns-in-len2 c = two_org_remove c.args.words.now _ c.org_or.result (let least = c.in-len2.len_at_least in omega arith) (let most = c.in-len2.len_below in omega arith) c.org_or.ensures
