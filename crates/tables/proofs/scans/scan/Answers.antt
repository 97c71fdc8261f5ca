use Rattle.tables.proofs.Outside.{Ok, Error, sees_as}
use Rattle.tables.specs.Scans.{AreRowsOf}
use Rattle.tables.proofs.Committed.{read_committed}
use Rattle.tables.proofs.scans.scan.Goals as goal

pub returns-clause-unchanged : goal.returns-clause-unchanged
returns-clause-unchanged g c =
    let key_of = g.K.PageKey.key_of in
    let conn = c.args.conn.now in
    let all = c.in_ok-read_all.ensures in
    read_committed g.S.Store {E = Error} (λ rows t. AreRowsOf key_of t rows) conn c.read_all.new.conn (Ok c.read_all.new.rows) c.assert_committed.ensures (λ clean. (all.sees.sees clean).1.0.was_open (all.is_open clean))
    (sees_as g.S.Store (λ _ t. AreRowsOf key_of t c.read_all.new.rows) (λ rows t. AreRowsOf key_of t rows) conn c.read_all.new.conn c.in_ok-read_all.field-0 c.read_all.new.rows (λ t is. is) all.sees)
