use Rattle.std.proofs.lemmas.Result.{IfOk-weaker}
use Rattle.command_line.proofs.words.custody.Goals as goal

pub returns : goal.returns
returns c =
    let first = c.with_organizations-organizations.ensures _ c.bare-bare.ensures in
    let second = c.with_tokens-tokens.ensures _ first in
    IfOk-weaker c.with_running.result _ _ (λ whole is. is.0) (c.with_running.ensures _ second)
