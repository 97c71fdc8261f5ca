use Rattle.tables.proofs.Outside.{Error, Ok, bound_of, Equals, sees_by}
use Rattle.tables.specs.Inner.Comparing.{AreAlike, entry_of}
use Rattle.tables.proofs.Comparing.{look_at_both, token_alike}
use Rattle.tables.proofs.comparisons.same_token.Goals as goal

pub returns-clause-same : goal.returns-clause-same
returns-clause-same g c =
    let org = c.args.org.now in
    let token = c.args.token.now in
    let says = Equals (bound_of org token.name) in
    look_at_both g.S.Store Error says says (AreAlike (entry_of org) token) c.args.one.now c.find.new.conn c.args.other.now c.find-2.new.conn c.in_ok-reach.reach c.in_ok-found.found c.same_bounds.result
    (λ is f t sound good read there. token_alike org token c.in_ok-reach.reach c.in_ok-found.found (c.same_bounds.ensures.0 is) f t read there)
    (sees_by g.S.Store says c.args.one.now c.find.new.conn (Ok c.in_ok-reach.reach) (rw c.as_str-name.ensures at c.in_ok-reach.ensures)) (sees_by g.S.Store says c.args.other.now c.find-2.new.conn (Ok c.in_ok-found.found) (rw c.as_str-name.ensures at c.in_ok-found.ensures))
