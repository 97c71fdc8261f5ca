use Rattle.command_line.proofs.words.org_copy.Goals as goal

pub returns : goal.returns
returns c =
    let first = c.with_arg-on_file.ensures _ _ c.command-bare.ensures c.database.ensures in
    let second = c.with_arg-to_another.ensures _ _ first c.target.ensures in
    c.with_arg.ensures _ _ second c.organization.ensures
