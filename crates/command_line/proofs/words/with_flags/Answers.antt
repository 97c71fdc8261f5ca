use Rattle.command_line.proofs.words.with_flags.Goals as goal

pub returns : goal.returns
returns c app is_app =
    let first = c.with_arg-logging.ensures _ _ is_app c.flag.ensures in
    let second = c.with_arg-checking.ensures _ _ first c.flag-2.ensures in
    c.with_arg.ensures _ _ second c.flag-3.ensures
