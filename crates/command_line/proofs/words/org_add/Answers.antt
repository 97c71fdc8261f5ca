use Rattle.command_line.proofs.words.org_add.Goals as goal

pub returns : goal.returns
returns c =
    let first = c.with_arg-on_file.ensures _ _ c.command-bare.ensures c.database.ensures in
    let second = c.with_arg-limited.ensures _ _ first c.option.ensures in
    c.with_arg.ensures _ _ second c.organization.ensures
