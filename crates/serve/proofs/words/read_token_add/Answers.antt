use Rattle.std.proofs.Common.{arith}
use Rattle.serve.proofs.WordLemmas.{no_token_add}
use Rattle.serve.proofs.words.read_token_add.Goals as goal

pub returns-in_default-clause-syntax : goal.returns-in_default-clause-syntax
returns-in_default-clause-syntax c _ = no_token_add c.args.words.now (omega arith)
