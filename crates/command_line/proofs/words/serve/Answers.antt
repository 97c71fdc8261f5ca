use Rattle.command_line.proofs.words.serve.Goals as goal

pub returns : goal.returns
returns c =
    let used = c.with_usage-used.ensures _ c.command-bare.ensures in
    let first = c.with_arg-on_file.ensures _ _ used c.database.ensures in
    let second = c.with_sites-sited.ensures _ first in
    let third = c.with_counts-counted.ensures _ second in
    let fourth = c.with_timeouts-timed.ensures _ third in
    c.with_flags.ensures _ fourth
