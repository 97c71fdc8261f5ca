use Rattle.std.specs.Prelude.{◌≡◌, drop, find, not}
use Rattle.command_line.specs.Arguments.{fits}
use Rattle.command_line.specs.Orders.{given_of}
use Rattle.command_line.proofs.misfits.first_misfit.Given as goal

abbrev pub invariant-loop-argument : goal.invariant-loop-argument
invariant-loop-argument l = find (λ a. not (fits (given_of l.fn.values) a)) (drop l.argument-index l.argument-items) ≡ find (λ a. not (fits (given_of l.fn.values) a)) l.argument-items
