use Rattle.sqlite.specs.Held.{state}
use Rattle.texts.proofs.WholeReads.{whole_read}
use Rattle.texts.proofs.WholeTexts.{whole_is_query}
use Rattle.texts.proofs.reading.read_text.Goals as goal

pub returns-clause-queries : goal.returns-clause-queries
returns-clause-queries g c =
    let old = state g.S.Store c.args.conn.now in
    let new = state g.S.Store c.join_rows.new.conn in
    record {
      mode = c.join_rows.ensures.mode;
      sees = λ clean. (whole_read old new c.args.org.now c.args.ws.now c.args.number c.args.places c.join_rows.result
          (rw (c.params-to_sql.ensures, c.params-to_sql-2.ensures, c.params-to_sql-3.ensures, c.get-number.ensures.value) at (c.join_rows.ensures.joins whole_is_query clean)) (c.join_rows.ensures.unchanged whole_is_query clean)).0;
      so_far = c.join_rows.ensures.so_far whole_is_query;
      shield = c.join_rows.ensures.shield whole_is_query;
    }

pub returns-clause-there : goal.returns-clause-there
returns-clause-there g c clean =
    let old = state g.S.Store c.args.conn.now in
    let new = state g.S.Store c.join_rows.new.conn in
    (whole_read old new c.args.org.now c.args.ws.now c.args.number c.args.places c.join_rows.result
    (rw (c.params-to_sql.ensures, c.params-to_sql-2.ensures, c.params-to_sql-3.ensures, c.get-number.ensures.value) at (c.join_rows.ensures.joins whole_is_query clean)) (c.join_rows.ensures.unchanged whole_is_query clean)).1

pub returns-clause-was_open : goal.returns-clause-was_open
returns-clause-was_open g c clean = c.join_rows.ensures.was_open whole_is_query clean
