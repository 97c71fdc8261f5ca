use Rattle.std.proofs.Common.{arith, sym, ◌∙◌, ap}
use Rattle.machine.specs.Order.{name_cmp}
use Rattle.machine.proofs.MapLemmas.{found_at, gap_at, gap_at_end, below_more}
use Rattle.machine.proofs.maps.NameMap.index_of.Goals as goal

pub returns-in-Less-clause-absent : goal.returns-in-Less-clause-absent
returns-in-Less-clause-absent g c = gap_at _ _ _ c.self.view_is c.self.invariant _ _ c.loop-i.invariant _ (omega arith) c.index.ensures (ap (name_cmp c.args.name.now) (sym c.as_str.ensures) ∙ sym c.cmp.ensures ∙ c.in-Less.is)

pub returns-in-Equal-clause-found : goal.returns-in-Equal-clause-found
returns-in-Equal-clause-found g c = found_at _ _ _ c.self.view_is c.self.invariant _ _ c.loop-i.invariant _ (omega arith) c.index.ensures (ap (name_cmp c.args.name.now) (sym c.as_str.ensures) ∙ sym c.cmp.ensures ∙ c.in-Equal.is)

pub loop-i-preserved : goal.loop-i-preserved
loop-i-preserved g c = below_more _ _ _ c.self.view_is c.self.invariant _ _ c.loop-i.invariant _ (omega arith) c.index.ensures (ap (name_cmp c.args.name.now) (sym c.as_str.ensures) ∙ sym c.cmp.ensures ∙ c.in-Greater.is)

pub returns-clause-absent : goal.returns-clause-absent
returns-clause-absent g c = gap_at_end _ _ _ c.self.view_is c.self.invariant _ _ c.loop-i.invariant _ (omega arith) (omega arith)
