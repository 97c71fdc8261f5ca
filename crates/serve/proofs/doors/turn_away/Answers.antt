use Rattle.std.proofs.Common.{ap, ◌∙◌}
use Rattle.serve.specs.Logs.{no_command_row}
use Rattle.serve.proofs.doors.turn_away.Goals as goal

pub returns-in-Ok-clause-ok : goal.returns-in-Ok-clause-ok
returns-in-Ok-clause-ok c = record { reply = c.in-Ok.ensures.ok; row = c.operator_row-row.ensures ∙ ap (no_command_row c.args.at c.args.by) c.in-Ok.ensures.ok }
