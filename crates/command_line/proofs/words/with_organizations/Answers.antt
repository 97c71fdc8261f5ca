use Rattle.command_line.proofs.words.with_organizations.Goals as goal

pub returns : goal.returns
returns c app is_app =
    let first = c.with_command-adding.ensures _ _ is_app c.org_add.ensures in
    let second = c.with_command-limiting.ensures _ _ first c.org_limit.ensures in
    let third = c.with_command-copying.ensures _ _ second c.org_copy.ensures in
    let fourth = c.with_command-removing.ensures _ _ third c.org_remove.ensures in
    c.with_command.ensures _ _ fourth c.org_list.ensures
