use Rattle.pages.proofs.Sequences.{steps_by}
use Rattle.tables.proofs.steps.count_on.Goals as goal

pub returns-clause-steps : goal.returns-clause-steps
returns-clause-steps g c =
    let one = rw c.get-number.ensures.value at (steps_by g.S.Store _ _ _ _ c.in_ok-set_next_version.ensures.writes) in
    record { same_reference = one.same_reference; changed = one.changed; so_far = one.so_far; shield = one.shield }
