use Rattle.tables.proofs.steps.forget.Goals as goal

pub returns : goal.returns
returns g c = rw c.get-last.ensures.value at c.remove_below.ensures
