use Rattle.tables.proofs.Outside.{⊤, take, Ok, Error}
use Rattle.tables.specs.Inner.Copies.{RelatedSteps, Carries, with_runs}
use Rattle.tables.specs.Inner.Keys.{KeepsPages}
use Rattle.tables.proofs.copies.put_runs.Given as goal

-- the runs so far are added
abbrev pub invariant-runs : goal.invariant-runs
invariant-runs g l =
    RelatedSteps {X = ⊤} {E = Error} g.S.Store KeepsPages l.fn.tx l.tx (Ok tt)
    × RelatedSteps {X = ⊤} {E = Error} g.S.Store (Carries l.org l.ws (with_runs (take l.run-index l.runs))) l.fn.tx l.tx (Ok tt)
