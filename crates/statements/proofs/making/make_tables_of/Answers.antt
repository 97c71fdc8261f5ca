use Rattle.std.proofs.Common.{sym, subst, arith}
use Rattle.statements.specs.Making.{MakesBy}
use Rattle.statements.specs.Tables.{added_by}
use Rattle.statements.specs.Inner.Making.{Grows}
use Rattle.statements.proofs.SchemaTexts.{first_made, first_are, second_made, second_are, third_made, third_are}
use Rattle.statements.proofs.making.make_tables_of.Goals as goal

pub returns-in-1 : goal.returns-in-1
returns-in-1 g c = subst (λ n. MakesBy g.S.Store (Grows (added_by n)) c.args.tx.now c.make_all.new.tx c.make_all.result) (sym c.in-1.is) (c.make_all.ensures first_made first_are (omega arith))

pub returns-in-2 : goal.returns-in-2
returns-in-2 g c = subst (λ n. MakesBy g.S.Store (Grows (added_by n)) c.args.tx.now c.make_all-in-2.new.tx c.make_all-in-2.result) (sym c.in-2.is) (c.make_all-in-2.ensures second_made second_are (omega arith))

pub returns-in-3 : goal.returns-in-3
returns-in-3 g c = subst (λ n. MakesBy g.S.Store (Grows (added_by n)) c.args.tx.now c.make_all-in-3.new.tx c.make_all-in-3.result) (sym c.in-3.is) (c.make_all-in-3.ensures third_made third_are (omega arith))
