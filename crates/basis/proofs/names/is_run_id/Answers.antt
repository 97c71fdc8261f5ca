use Rattle.std.proofs.Common.{Some, None, codes, sym, ◌∙◌}
use Rattle.std.proofs.lemmas.Bool.Decides.{Decides-eqb}
use Rattle.std.proofs.lemmas.Slice.Eq.{strip_prefix_is}
use Rattle.basis.proofs.NameLemmas.{digits_compared, no_run}
use Rattle.basis.proofs.names.is_run_id.Goals as goal

pub returns-in-Some : goal.returns-in-Some
returns-in-Some c =
    let named = strip_prefix_is Decides-eqb c.as_bytes.result.now (codes "run-") (Some c.in-Some.digits) c.in-Some.ensures.cases in
    c.are_digits_of.ensures ∙ digits_compared c.args.id.now c.in-Some.digits.now c.args.number (sym c.as_bytes.ensures.value ∙ named)

pub returns-in-None : goal.returns-in-None
returns-in-None c =
    let unnamed = strip_prefix_is Decides-eqb c.as_bytes.result.now (codes "run-") None c.in-None.ensures.cases in
    no_run c.args.id.now c.args.number (λ rest named. unnamed rest (c.as_bytes.ensures.value ∙ named))
