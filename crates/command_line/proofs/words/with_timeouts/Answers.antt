use Rattle.command_line.proofs.words.with_timeouts.Goals as goal

pub returns : goal.returns
returns c app is_app =
    let first = c.with_arg-waiting.ensures _ _ is_app c.option.ensures in
    c.with_arg.ensures _ _ first c.option-2.ensures
