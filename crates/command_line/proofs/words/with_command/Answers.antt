use Rattle.std.proofs.Common.{◌∙◌, ◌||◌, ap, ap₂}
use Rattle.std.proofs.lemmas.Result.{IfOk-weaker}
use Rattle.clap.specs.Words.{App, with_subcommand}
use Rattle.command_line.proofs.words.with_command.Goals as goal

pub returns : goal.returns
returns c app sub is_app is_sub =
    let before = rw c.in_ok-command.was at is_app in
    let one = rw c.in_ok-one.was at is_sub in
    IfOk-weaker c.subcommand.result _ _ (λ whole added. (added.shape one.1 ∙ ap₂ with_subcommand before.0 (ap (λ (a : App). a.top) one.0), added.globals ∙ ap₂ ◌||◌ before.1 one.1)) c.subcommand.ensures
