use Rattle.std.proofs.Common.{arith}
use Rattle.serve.proofs.WordLemmas.{no_token_revoke}
use Rattle.serve.proofs.words.read_token_revoke.Goals as goal

pub returns-in_default-clause-syntax : goal.returns-in_default-clause-syntax
returns-in_default-clause-syntax c _ = no_token_revoke c.args.words.now (λ e. grind arith)
