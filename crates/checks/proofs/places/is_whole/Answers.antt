use Rattle.std.proofs.Common.{◌-◌, arith}
use Rattle.checks.proofs.PlacesLemmas.{whole_by_run}
use Rattle.checks.proofs.places.is_whole.Goals as goal

pub returns : goal.returns
returns c heads vpages has runs =
    let last = c.pages_of-pages.result - 1 in
    whole_by_run heads vpages c.args.version.now c.args.run last (omega arith) (omega arith) c.has_size.result (rw c.size_of_piece.ensures at (c.has_size.ensures heads vpages has)) runs
