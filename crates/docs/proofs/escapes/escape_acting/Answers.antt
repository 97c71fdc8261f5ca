use Rattle.std.proofs.Common.{rules}
use Rattle.docs.proofs.Escaping.{plain_stays}
use Rattle.docs.proofs.escapes.escape_acting.Goals as goal

pub returns-then-is_shown : goal.returns-then-is_shown
returns-then-is_shown c = plain_stays c.args.text.items (search rules)
