use Rattle.command_line.proofs.words.token_add.Goals as goal

pub returns : goal.returns
returns c =
    let first = c.with_arg-on_file.ensures _ _ c.command-bare.ensures c.database.ensures in
    let second = c.with_bounds-bounded.ensures _ first in
    let third = c.with_arg-of_one.ensures _ _ second c.organization.ensures in
    let fourth = c.with_arg-named.ensures _ _ third c.token_name.ensures in
    c.with_arg.ensures _ _ fourth c.value.ensures
