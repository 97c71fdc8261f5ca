use Rattle.std.proofs.Common.{◌∙◌, sym}
use Rattle.command_line.specs.Orders.{given_of}
use Rattle.command_line.proofs.MisfitLemmas.{one_misfits}
use Rattle.command_line.proofs.misfits.blamed.Goals as goal

pub unreachable-requires : goal.unreachable-requires
unreachable-requires c = one_misfits c.args.command.now (given_of c.args.values.now) c.requires (sym c.in-Ok-None.ensures ∙ c.in-Ok-None.field-0-is)
