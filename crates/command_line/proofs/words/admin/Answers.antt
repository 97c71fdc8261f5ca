use Rattle.command_line.proofs.words.admin.Goals as goal

pub returns : goal.returns
returns c =
    c.with_arg.ensures _ _ c.command-bare.ensures c.database.ensures
