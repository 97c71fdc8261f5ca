use Rattle.command_line.proofs.words.with_sites.Goals as goal

pub returns : goal.returns
returns c app is_app =
    let first = c.with_arg-at_port.ensures _ _ is_app c.option.ensures in
    c.with_arg.ensures _ _ first c.option-2.ensures
