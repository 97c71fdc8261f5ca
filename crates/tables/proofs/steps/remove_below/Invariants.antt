use Rattle.tables.proofs.Outside.{⊤, Ok, Steps}
use Rattle.tables.specs.Inner.Edits.{so_many_gone}
use Rattle.tables.proofs.steps.remove_below.Given as goal

-- so many versions are gone
abbrev pub invariant-versions : goal.invariant-versions
invariant-versions g l = Steps {X = ⊤} {E = ⊤} g.S.Store (so_many_gone l.gone l.org l.ws l.below) l.fn.tx l.tx (Ok tt)
