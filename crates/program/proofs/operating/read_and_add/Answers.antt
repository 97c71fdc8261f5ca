use Rattle.std.proofs.Common.{rules, refl, inl, inr}
use Rattle.program.proofs.operating.read_and_add.Goals as goal

pub returns-in-Err-Syntax-clause-adds : goal.returns-in-Err-Syntax-clause-adds
returns-in-Err-Syntax-clause-adds g c = inr (refl, inl (search rules, search rules, c.say_why.ensures.reported))

pub returns-in-Err-Syntax-clause-input : goal.returns-in-Err-Syntax-clause-input
returns-in-Err-Syntax-clause-input g c = inl (search rules)

pub returns-clause-input : goal.returns-clause-input
returns-clause-input g c = inr (c.refuse.ensures.said, c.refuse.ensures.why)
