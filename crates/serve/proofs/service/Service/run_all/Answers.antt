use Rattle.std.proofs.Common.{[], rules}
use Rattle.serve.proofs.RunLemmas.{runs_none}
use Rattle.serve.proofs.service.Service.run_all.Goals as goal

pub returns-in_default-clause-ran : goal.returns-in_default-clause-ran
returns-in_default-clause-ran g c = λ clean sound. ([], runs_none (g.K.Keep.rows c.args.self.now.keep), tt)

-- no steps, no replies
pub returns-then-is_empty-clause-ran : goal.returns-then-is_empty-clause-ran
returns-then-is_empty-clause-ran g c = λ clean sound. ([], runs_none (g.K.Keep.rows c.args.self.now.keep), search rules)
