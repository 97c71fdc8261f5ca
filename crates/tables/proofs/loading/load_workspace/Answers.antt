use Rattle.sqlite.specs.declared.error.Error.{Error}
use Rattle.tables.proofs.WholeRows.{whole_seen}
use Rattle.tables.proofs.loading.load_workspace.Goals as goal

pub returns : goal.returns
returns g c =
    whole_seen g.S.Store Error c.args.org.now c.args.ws.now c.in_ok-it.field-0 c.in_ok-retention.field-0 c.in-Some.it c.in-Some-2.retention c.in_ok-versions.versions c.in_ok-runs.runs
    c.args.conn.now c.find.new.conn c.find-2.new.conn c.list.new.conn c.list-2.new.conn c.in-Some.is c.in-Some-2.is c.in_ok-it.ensures c.in_ok-retention.ensures c.in_ok-versions.ensures c.in_ok-runs.ensures
