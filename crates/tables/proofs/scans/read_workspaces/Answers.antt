use Rattle.tables.proofs.Outside.{Rows, Tables}
use Rattle.tables.proofs.Filled.{filled_then}
use Rattle.tables.proofs.scans.read_workspaces.Goals as goal

pub returns : goal.returns
returns g c =
    let conn = c.args.conn.now in
    let rows = c.args.rows.now in
    let put_bounds = λ (t : Tables) (r : Rows). record r { bounds = t.bounds } in
    let put_wss = λ (t : Tables) (r : Rows). record r { wss = t.wss } in
    let put_retentions = λ (t : Tables) (r : Rows). record r { retentions = t.retentions } in
    let put_versions = λ (t : Tables) (r : Rows). record r { versions = t.versions } in
    filled_then g.S.Store (λ t r. put_retentions t (put_wss t (put_bounds t r))) put_versions conn c.read_retentions.new.conn c.read_versions.new.conn c.in_ok-read_retentions.field-0 c.read_versions.result rows c.read_retentions.new.rows c.read_versions.new.rows
    (filled_then g.S.Store (λ t r. put_wss t (put_bounds t r)) put_retentions conn c.read_wss.new.conn c.read_retentions.new.conn c.in_ok-read_wss.field-0 _ rows c.read_wss.new.rows c.read_retentions.new.rows
    (filled_then g.S.Store (λ t r. put_bounds t r) put_wss conn c.read_bounds.new.conn c.read_wss.new.conn c.in_ok-read_bounds.field-0 _ rows c.read_bounds.new.rows c.read_wss.new.rows
    (c.in_ok-read_bounds.ensures)
    c.in_ok-read_wss.ensures)
    c.in_ok-read_retentions.ensures)
    c.read_versions.ensures
