use Rattle.command_line.proofs.words.with_running.Goals as goal

pub returns : goal.returns
returns c app is_app =
    let first = c.with_command-serving.ensures _ _ is_app c.serve.ensures in
    let second = c.with_command-checking.ensures _ _ first c.check.ensures in
    let third = c.with_command-compacting.ensures _ _ second c.compact.ensures in
    let fourth = c.with_command-carrying.ensures _ _ third c.admin.ensures in
    c.with_command.ensures _ _ fourth c.replay.ensures
