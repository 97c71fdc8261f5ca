use Rattle.std.proofs.lemmas.Option.{IfSome_then}
use Rattle.tables.proofs.KeptInMemory.{one_of}
use Rattle.tables.proofs.askers.known_in.Goals as goal

pub returns-clause-known : goal.returns-clause-known
returns-clause-known c =
    let found = rw c.as_slice.ensures at c.in_ok-place.ensures in
    IfSome_then c.renew.result c.renew.ensures.row (λ row is t all. one_of t c.args.org.now c.args.digest.now c.args.list.now c.in_ok-place.place row found.0 found.1 is all)
