use Rattle.command_line.proofs.words.org_remove.Goals as goal

pub returns : goal.returns
returns c =
    let first = c.with_arg-on_file.ensures _ _ c.command-bare.ensures c.database.ensures in
    let second = c.with_arg-copied.ensures _ _ first c.option.ensures in
    let third = c.with_arg-forcing.ensures _ _ second c.flag.ensures in
    c.with_arg.ensures _ _ third c.organization.ensures
