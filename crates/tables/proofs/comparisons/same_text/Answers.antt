use Rattle.tables.proofs.Outside.{Error, Equals, text_of}
use Rattle.tables.specs.Records.{version_at}
use Rattle.tables.specs.Inner.Comparing.{AreAlike}
use Rattle.tables.proofs.Comparing.{look_at_both, text_alike}
use Rattle.tables.proofs.comparisons.same_text.Goals as goal

pub returns-clause-same : goal.returns-clause-same
returns-clause-same g c =
    let org = c.args.org.now in
    let ws = c.args.ws.now in
    let head = c.args.head.now in
    let says = Equals (text_of org ws head.number head.size) in
    look_at_both g.S.Store Error says says (AreAlike (λ t. version_at t org ws) head) c.args.one.now c.text.new.conn c.args.other.now c.text-2.new.conn c.in_ok-text.text c.in_ok-found.found c.same_bytes.result
    (λ is f t sound good read there. text_alike org ws head c.in_ok-text.text c.in_ok-found.found (c.same_bytes.ensures.0 is) f t read there) c.in_ok-text.ensures.queries c.in_ok-found.ensures.queries
