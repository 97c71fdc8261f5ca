use Rattle.tables.proofs.Outside.{Some, Ok, ap, Error, Equals, text_of, sees_as}
use Rattle.tables.proofs.Committed.{read_committed}
use Rattle.tables.proofs.versions.text_sized.Goals as goal

pub returns-clause-unchanged : goal.returns-clause-unchanged
returns-clause-unchanged g c =
    let q = text_of c.args.org.now c.args.ws.now c.args.number c.args.size in
    read_committed g.S.Store {E = Error} (Equals (λ t. Some (q t))) c.args.conn.now c.text.new.conn (Ok (Some c.in_ok-text.text)) c.assert_committed.ensures c.in_ok-text.ensures.was_open
    (sees_as g.S.Store {E = Error} (Equals q) (Equals (λ t. Some (q t))) c.args.conn.now c.text.new.conn c.in_ok-text.text (Some c.in_ok-text.text) (λ t reported. ap Some reported) c.in_ok-text.ensures.queries)
