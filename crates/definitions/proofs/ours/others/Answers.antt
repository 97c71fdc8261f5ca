use Rattle.std.proofs.Common.{◌≡◌, ◌↔◌, ◌∙◌, [], IfOk, subst}
use Rattle.std.specs.List.{AllByRecursion}
use Rattle.std.proofs.lemmas.Result.{IfOk-weaker}
use Rattle.statements.specs.Place.{IsOwn}
use Rattle.definitions.specs.Others.{IsOther, IsOwnOrNamed}
use Rattle.definitions.proofs.Apart.{our_own}
use Rattle.definitions.proofs.ours.others.Goals as goal

pub returns-clause-none : goal.returns-clause-none
returns-clause-none c =
    let s = c.args.schema.now in
    let are = c.as_slice.ensures ∙ c.in_ok-tables.ensures in
    IfOk-weaker c.others_among.result _ _ (λ names reported.
    let ours = subst (λ l. (names ≡ []) ↔ AllByRecursion (IsOwn s) l) are reported in
    (λ none. our_own s (ours.0 none), λ own. ours.1 own.own)) c.others_among.ensures.none

pub returns-clause-named : goal.returns-clause-named
returns-clause-named c = subst (λ l. IfOk c.others_among.result (AllByRecursion (IsOther c.args.schema.now l))) (c.as_slice.ensures ∙ c.in_ok-tables.ensures) c.others_among.ensures.named

pub returns-clause-every : goal.returns-clause-every
returns-clause-every c =
    subst (λ l. IfOk c.others_among.result (λ names. AllByRecursion (IsOwnOrNamed c.args.schema.now names) l)) (c.as_slice.ensures ∙ c.in_ok-tables.ensures) c.others_among.ensures.every
