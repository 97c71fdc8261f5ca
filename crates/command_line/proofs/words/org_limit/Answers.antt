use Rattle.command_line.proofs.words.org_limit.Goals as goal

pub returns : goal.returns
returns c =
    let first = c.with_arg-on_file.ensures _ _ c.command-bare.ensures c.database.ensures in
    let second = c.with_arg-of_one.ensures _ _ first c.organization.ensures in
    c.with_arg.ensures _ _ second c.value.ensures
