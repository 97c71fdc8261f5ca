use Rattle.std.proofs.Common.{arith}
use Rattle.serve.proofs.WordLemmas.{no_org_limit}
use Rattle.serve.proofs.words.read_org_limit.Goals as goal

pub returns-in_default-clause-syntax : goal.returns-in_default-clause-syntax
returns-in_default-clause-syntax c _ = no_org_limit c.args.words.now (λ e. grind arith)
