use Rattle.form_urlencoded.specs.Parse.{pairs_left}
use Rattle.route.specs.Inner.Pairs.{IsSoFar}
use Rattle.route.proofs.asks.read_query.Given as goal

abbrev pub invariant-loop-pair : goal.invariant-loop-pair
invariant-loop-pair l = IsSoFar l.query l.found (pairs_left l.pair-iterator)
