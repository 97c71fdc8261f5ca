use Rattle.tables.proofs.Outside.{Some, sym, ap, ◌∙◌, option_map, IsBoundedRoleOf, Equals}
use Rattle.tables.specs.Inner.Lists.{asker_in}
use Rattle.tables.proofs.Committed.{committed_read}
use Rattle.tables.proofs.KeepFound.{asker_by, asker_found, bound_found}
use Rattle.tables.proofs.callers.caller.Goals as goal

pub returns-in-Some-clause-unchanged : goal.returns-in-Some-clause-unchanged
returns-in-Some-clause-unchanged g c =
    let org = c.args.org.now in
    let digest = c.args.digest.now in
    committed_read g.S.Store (IsBoundedRoleOf org digest) (Equals (asker_in org digest)) c.args.conn.now c.find_by_digest.new.conn c.in_ok-find_by_digest.field-0 _
    (λ t reported. (λ i. Some (record { name = c.in-Some.found.token.name; caller = c.caller_with-caller.ensures i })) ∙ ap (option_map asker_by) (sym c.in-Some.is) ∙ asker_found org digest t c.in_ok-find_by_digest.field-0 reported)
    c.assert_committed.ensures c.in_ok-find_by_digest.ensures

pub returns-in-Some-clause-bound : goal.returns-in-Some-clause-bound
returns-in-Some-clause-bound g c clean =
    λ t held. bound_found c.args.org.now c.args.digest.now t c.in_ok-find_by_digest.field-0 ((c.in_ok-find_by_digest.ensures.read clean).0 t held)

pub returns-in-None-clause-unchanged : goal.returns-in-None-clause-unchanged
returns-in-None-clause-unchanged g c =
    let org = c.args.org.now in
    let digest = c.args.digest.now in
    committed_read g.S.Store (IsBoundedRoleOf org digest) (Equals (asker_in org digest)) c.args.conn.now c.find_by_digest.new.conn c.in_ok-find_by_digest.field-0 _
    (λ t reported. ap (option_map asker_by) (sym c.in-None.is) ∙ asker_found org digest t c.in_ok-find_by_digest.field-0 reported) c.assert_committed.ensures c.in_ok-find_by_digest.ensures

pub returns-in-None-clause-bound : goal.returns-in-None-clause-bound
returns-in-None-clause-bound g c clean =
    λ t held. bound_found c.args.org.now c.args.digest.now t c.in_ok-find_by_digest.field-0 ((c.in_ok-find_by_digest.ensures.read clean).0 t held)
