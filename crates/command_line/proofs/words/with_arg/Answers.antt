use Rattle.std.proofs.Common.{◌∙◌, ◌||◌, ap₂}
use Rattle.std.proofs.lemmas.Result.{IfOk-weaker}
use Rattle.clap.specs.Words.{with_rule}
use Rattle.command_line.proofs.words.with_arg.Goals as goal

pub returns : goal.returns
returns c app rule is_app is_rule =
    let before = rw c.in_ok-command.was at is_app in
    IfOk-weaker c.arg.result _ _ (λ whole added. (added.shape is_rule.1 ∙ ap₂ with_rule before.0 is_rule.0, added.globals ∙ ap₂ ◌||◌ before.1 is_rule.1)) c.arg.ensures
