use Rattle.tables.proofs.Outside.{All, sym, subst, All-drop}
use Rattle.tables.specs.Remembered.{IsAsker}
use Rattle.tables.proofs.KeptInMemory.{pushed}
use Rattle.tables.proofs.askers.add.Goals as goal

pub returns : goal.returns
returns c = λ t all one.
    pushed (IsAsker t) c.forget_first.new.self c.push.new.self c.args.asked c.push.result c.push.ensures.ok c.push.ensures.err (subst (All (IsAsker t)) (sym c.forget_first.ensures) (All-drop (IsAsker t) _ c.args.list.now all)) one
