use Rattle.tables.proofs.Outside.{Rows, Tables}
use Rattle.tables.proofs.Filled.{filled_then}
use Rattle.tables.proofs.scans.read_first.Goals as goal

pub returns : goal.returns
returns g c =
    let conn = c.args.conn.now in
    let rows = c.args.rows.now in
    let put_metas = λ (t : Tables) (r : Rows). record r { metas = t.metas } in
    let put_editions = λ (t : Tables) (r : Rows). record r { editions = t.editions } in
    let put_orgs = λ (t : Tables) (r : Rows). record r { orgs = t.orgs } in
    let put_tokens = λ (t : Tables) (r : Rows). record r { tokens = t.tokens } in
    filled_then g.S.Store (λ t r. put_orgs t (put_editions t (put_metas t r))) put_tokens conn c.read_orgs.new.conn c.read_tokens.new.conn c.in_ok-read_orgs.field-0 c.read_tokens.result rows c.read_orgs.new.rows c.read_tokens.new.rows
    (filled_then g.S.Store (λ t r. put_editions t (put_metas t r)) put_orgs conn c.read_editions.new.conn c.read_orgs.new.conn c.in_ok-read_editions.field-0 _ rows c.read_editions.new.rows c.read_orgs.new.rows
    (filled_then g.S.Store (λ t r. put_metas t r) put_editions conn c.read_metas.new.conn c.read_editions.new.conn c.in_ok-read_metas.field-0 _ rows c.read_metas.new.rows c.read_editions.new.rows
    (c.in_ok-read_metas.ensures)
    c.in_ok-read_editions.ensures)
    c.in_ok-read_orgs.ensures)
    c.read_tokens.ensures
