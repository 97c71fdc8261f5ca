use Rattle.std.proofs.Common.{sym, ◌∙◌}
use Rattle.machine.proofs.PlainLemmas.{revoke_missed}
use Rattle.machine.proofs.records.Organization.revoke.Goals as goal

pub returns-else-remove : goal.returns-else-remove
returns-else-remove c = revoke_missed c.args.self.now c.args.name.now _ c.remove.ensures.removed (sym c.remove.ensures.there ∙ c.if-remove.false)
