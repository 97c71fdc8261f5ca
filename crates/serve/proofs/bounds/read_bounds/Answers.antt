use Rattle.std.proofs.Common.{arith}
use Rattle.serve.proofs.WordLemmas.{no_bounds_of}
use Rattle.serve.proofs.bounds.read_bounds.Goals as goal

pub returns-in_default-clause-syntax : goal.returns-in_default-clause-syntax
returns-in_default-clause-syntax c _ = no_bounds_of c.args.words.now (λ e. grind arith) (λ e. grind arith) (λ e. grind arith)
