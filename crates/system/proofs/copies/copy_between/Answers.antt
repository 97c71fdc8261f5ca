use Rattle.std.proofs.lemmas.Result.{IfOk-weaker}
use Rattle.system.proofs.CopyLemmas.{copied_by_rule, on_failure}
use Rattle.system.proofs.copies.copy_between.Goals as goal

pub returns-in-Make-clause-own : goal.returns-in-Make-clause-own
returns-in-Make-clause-own g c clean sound left from =
    rw c.in-Make.is (IfOk-weaker c.copy_from.result _ _ (λ answer is. copied_by_rule answer _ _ _ is) (c.copy_from.ensures.own clean sound left from))

pub returns-in-Compare-clause-own : goal.returns-in-Compare-clause-own
returns-in-Compare-clause-own g c clean sound left from =
    rw c.in-Compare.is (IfOk-weaker c.compare_between.result _ _ (λ answer says. (c.compare_between.ensures.target.same clean c.args.org.now, says)) (c.compare_between.ensures.same clean sound left from))

pub returns-in-Compare-clause-lasts : goal.returns-in-Compare-clause-lasts
returns-in-Compare-clause-lasts g c =
    let target = c.compare_between.ensures.target in
    record { so_far = target.so_far; kept = λ clean sound due. target.kept clean sound; keys = target.keys; shield = target.shield }

pub returns-in-Compare-clause-others : goal.returns-in-Compare-clause-others
returns-in-Compare-clause-others g c clean sound left from o apart = c.compare_between.ensures.target.same clean o

pub returns-in-Compare-clause-err : goal.returns-in-Compare-clause-err
returns-in-Compare-clause-err g c clean = on_failure c.compare_between.result (c.compare_between.ensures.target.same clean)
