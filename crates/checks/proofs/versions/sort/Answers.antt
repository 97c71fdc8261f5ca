use Rattle.checks.proofs.NumberLemmas.{sorted_is}
use Rattle.checks.proofs.versions.sort.Goals as goal

-- a sort gives the one order that numbers have
pub returns : goal.returns
returns c = sorted_is c.args.numbers.now.items c.sort_unstable.new.self.items c.sort_unstable.ensures.permutation c.sort_unstable.ensures.sorted
