use Rattle.std.proofs.Common.{◌∙◌, ap, not, rules, refl, sym, true}
use Rattle.std.specs.Prelude.{find}
use Rattle.command_line.specs.Arguments.{fits}
use Rattle.command_line.specs.Orders.{given_of}
use Rattle.command_line.proofs.MisfitLemmas.{misfit_at, misfit_none, misfit_past}
use Rattle.command_line.proofs.misfits.first_misfit.Goals as goal

pub loop-argument-init : goal.loop-argument-init
loop-argument-init c = refl

pub returns-in-Ok-false : goal.returns-in-Ok-false
returns-in-Ok-false c =
    let given = given_of c.args.values.now in
    let here = misfit_at (fits given) c.arguments_of-argument-items.result.now c.loop-argument.argument-index _ c.loop-argument-test.true (search rules) c.loop-argument.invariant in
    here ∙ ap (λ xs. find (λ a. not (fits given a)) xs) c.arguments_of-argument-items.ensures

pub loop-argument-preserved : goal.loop-argument-preserved
loop-argument-preserved c =
    misfit_past (fits (given_of c.args.values.now)) c.arguments_of-argument-items.result.now c.loop-argument.argument-index _ c.loop-argument-test.true (sym c.in-Ok-true.ensures ∙ c.in-Ok-true.field-0-test) c.loop-argument.invariant

pub returns : goal.returns
returns c =
    let given = given_of c.args.values.now in
    misfit_none (λ a. not (fits given a)) c.arguments_of-argument-items.result.now c.loop-argument.argument-index (search rules) c.loop-argument.invariant
    ∙ ap (λ xs. find (λ a. not (fits given a)) xs) c.arguments_of-argument-items.ensures
