use Rattle.tables.proofs.Outside.{sym, ap, ◌∙◌, needed_of, workspace_of, Equals}
use Rattle.tables.specs.Inner.Points.{absent_in, present_in, unit_read_at, unit_read_in}
use Rattle.tables.proofs.Committed.{committed_read_then}
use Rattle.tables.proofs.KeptInMemory.{present_read}
use Rattle.tables.proofs.points.unit.Goals as goal

pub returns-in-Some-clause-unchanged : goal.returns-in-Some-clause-unchanged
returns-in-Some-clause-unchanged g c =
    let need = needed_of c.args.needs.now in
    let org = c.args.org.now in
    let ws = c.args.ws.now in
    committed_read_then g.S.Store (Equals (workspace_of org ws)) (Equals (present_in need org ws c.in-Some.workspace)) (Equals (unit_read_in need c.args.known org ws)) c.args.conn.now c.find.new.conn c.present.new.conn
    c.in_ok-find.field-0 c.present.result (λ unit_read t found seen. seen ∙ present_read need c.args.known org ws t c.in-Some.workspace ∙ ap (unit_read_at need c.args.known org ws t) (sym c.in-Some.is ∙ found)) c.assert_committed.ensures c.in_ok-find.ensures c.present.ensures.unchanged

pub returns-in-None-clause-unchanged : goal.returns-in-None-clause-unchanged
returns-in-None-clause-unchanged g c =
    let need = needed_of c.args.needs.now in
    let org = c.args.org.now in
    let ws = c.args.ws.now in
    committed_read_then g.S.Store (Equals (workspace_of org ws)) (Equals (absent_in need c.args.known org)) (Equals (unit_read_in need c.args.known org ws)) c.args.conn.now c.find.new.conn c.absent.new.conn
    c.in_ok-find.field-0 c.absent.result (λ unit_read t found seen. seen ∙ ap (unit_read_at need c.args.known org ws t) (sym c.in-None.is ∙ found)) c.assert_committed.ensures c.in_ok-find.ensures c.absent.ensures.unchanged
