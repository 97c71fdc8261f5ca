use Rattle.command_line.proofs.words.with_tokens.Goals as goal

pub returns : goal.returns
returns c app is_app =
    let first = c.with_command-adding.ensures _ _ is_app c.token_add.ensures in
    let second = c.with_command-listing.ensures _ _ first c.token_list.ensures in
    c.with_command.ensures _ _ second c.token_revoke.ensures
