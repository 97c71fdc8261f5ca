use Rattle.sqlite.specs.Held.{state}
use Rattle.statements.proofs.Transactions.{holds_by}
use Rattle.statements.proofs.calls.scan.Goals as goal

pub returns : goal.returns
returns g c is = record {
  mode = c.all_rows-rows.ensures.mode;
  read = λ clean.
      holds_by g.T.Read.is_in (state g.S.Store c.args.conn.now) (state g.S.Store c.all_rows-rows.new.conn) c.args.sql.now c.all_rows-rows.result c.read_all.result
      (c.all_rows-rows.ensures.rows clean) (c.all_rows-rows.ensures.calm is clean) c.read_all.ensures;
  survives = c.all_rows-rows.ensures.survives is;
}
