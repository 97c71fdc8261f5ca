use Rattle.std.proofs.Common.{arith}
use Rattle.serve.proofs.WordLemmas.{no_token_list}
use Rattle.serve.proofs.words.read_token_list.Goals as goal

pub returns-in_default-clause-syntax : goal.returns-in_default-clause-syntax
returns-in_default-clause-syntax c _ = no_token_list c.args.words.now (λ e. grind arith)
