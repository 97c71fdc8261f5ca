use Rattle.std.proofs.Common.{rules}
use Rattle.checks.specs.Versions.{is_version}
use Rattle.checks.proofs.Lent.{all_lent}
use Rattle.checks.proofs.versions.are_versions.Goals as goal

pub returns : goal.returns
returns c = rw (all_lent is_version c.args.versions.now) (search rules)
