use Rattle.std.proofs.Common.{◌∙◌}
use Rattle.checks.proofs.KeyLemmas.{key_found}
use Rattle.checks.proofs.RowLists.{any_same}
use Rattle.checks.proofs.keys.Keys.has.Goals as goal

pub returns : goal.returns
returns c = c.contains.ensures ∙ any_same _ _ (λ x. key_found c.args.key x) c.args.self.now.keys.keys
