use Rattle.sqlite.specs.Held.{state}
use Rattle.statements.specs.Finds.{oldest_below}
use Rattle.statements.specs.Calls.{IsVersionRow}
use Rattle.statements.specs.declared.versions.TheConstants.{OLDEST_VERSION_BELOW}
use Rattle.statements.proofs.Transactions.{reads_by}
use Rattle.statements.proofs.VersionTexts.{oldest_below_asks}
use Rattle.statements.proofs.VersionReads.{oldest_below_shows}
use Rattle.statements.proofs.versions.oldest_below.Goals as goal

pub returns-clause-reads : goal.returns-clause-reads
returns-clause-reads g c clean =
    let old = state g.S.Store c.args.tx.now.conn.now in
    let new = state g.S.Store c.first_row_inside-row.new.tx.conn.now in
    reads_by (oldest_below c.args.org.now c.args.ws.now c.args.number) IsVersionRow old new OLDEST_VERSION_BELOW.now _ c.first_row_inside-row.result c.read_one.result
    (rw (c.params-to_sql.ensures, c.params-to_sql-2.ensures, c.params-to_sql-3.ensures) at (c.first_row_inside-row.ensures.row oldest_below_asks.is_query clean)) (c.first_row_inside-row.ensures.calm oldest_below_asks.is_query clean) c.read_one.ensures
    (λ t holds row first. oldest_below_shows old new t holds c.args.org.now c.args.ws.now c.args.number row first)
