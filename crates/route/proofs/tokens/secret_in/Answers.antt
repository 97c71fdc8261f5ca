use Rattle.std.proofs.Common.{refl}
use Rattle.route.proofs.AsciiLemmas.{secret_of-no_text}
use Rattle.route.proofs.tokens.secret_in.Goals as goal

pub returns-in_default : goal.returns-in_default
returns-in_default c = λ _. rw (secret_of-no_text c.args.bytes.now c.in_default.ensures.cases.0) refl
