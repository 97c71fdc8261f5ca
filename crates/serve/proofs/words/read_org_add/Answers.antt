use Rattle.std.proofs.Common.{arith}
use Rattle.serve.proofs.WordLemmas.{no_org_add}
use Rattle.serve.proofs.words.read_org_add.Goals as goal

pub returns-in_default-clause-syntax : goal.returns-in_default-clause-syntax
returns-in_default-clause-syntax c _ = no_org_add c.args.words.now (λ e. grind arith) (λ e. grind arith)
