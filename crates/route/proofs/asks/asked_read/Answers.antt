use Rattle.std.proofs.Common.{Option, sym, ap, subst, ◌∙◌}
use Rattle.basis.specs.Checks.{or_refused, and_then}
use Rattle.basis.specs.Inner.Checks.{Follows}
use Rattle.basis.specs.declared.refusals.Refusal.TheVariants.{NoRoute}
use Rattle.route.specs.Asks.{asked_at}
use Rattle.route.specs.Inner.Kinds.{pairs_of}
use Rattle.route.specs.Paths.{OrgResource}
use Rattle.route.proofs.FoundLemmas.{found_asked}
use Rattle.route.proofs.asks.asked_read.Goals as goal

pub returns-in-Some : goal.returns-in-Some
returns-in-Some c =
    let path = rw c.as_str.ensures at c.in-Some.ensures in
    subst (Follows c.asked_at.result) (sym (found_asked c.args.message.now c.in-Some.found.kind (pairs_of c.in-Some.found.params)) ∙ ap (λ (o : Option OrgResource). and_then (or_refused NoRoute o) (asked_at c.args.message.now)) (sym path)) c.asked_at.ensures
