use Rattle.tables.proofs.Outside.{ap, ◌∙◌, listing_of, RunsApart, run_rows_after, EqualsWhere}
use Rattle.tables.specs.Inner.Lists.{asked_rows}
use Rattle.tables.proofs.Committed.{committed_read}
use Rattle.tables.proofs.listings.list_of_runs.Goals as goal

pub returns-clause-unchanged : goal.returns-clause-unchanged
returns-clause-unchanged g c =
    let org = c.args.org.now in
    let ws = c.args.ws.now in
    let q = run_rows_after org ws c.args.after asked_rows in
    committed_read g.S.Store (EqualsWhere (RunsApart org ws) q) (EqualsWhere (RunsApart org ws) (λ t. listing_of (q t))) c.args.conn.now c.list.new.conn c.in_ok-rows.rows c.of.result
    (λ t reported apart. c.of.ensures ∙ ap listing_of (reported apart)) c.assert_committed.ensures c.in_ok-rows.ensures
