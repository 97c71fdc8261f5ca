use Rattle.tables.proofs.Outside.{map, Rows, Tables}
use Rattle.pages.specs.Heads.{head_in}
use Rattle.tables.proofs.Filled.{filled_then}
use Rattle.tables.proofs.scans.read_others.Goals as goal

pub returns-clause-sees : goal.returns-clause-sees
returns-clause-sees g c =
    let conn = c.args.conn.now in
    let rows = c.args.rows.now in
    let put_heads = λ (t : Tables) (r : Rows). record r { pages = map (head_in g.K.PageKey.key_of t) t.pages } in
    let put_vpages = λ (t : Tables) (r : Rows). record r { vpages = t.vpages } in
    let put_runs = λ (t : Tables) (r : Rows). record r { runs = t.runs } in
    filled_then g.S.Store (λ t r. put_vpages t (put_heads t r)) put_runs conn c.read_vpages.new.conn c.read_runs.new.conn c.in_ok-read_vpages.field-0 c.read_runs.result rows c.read_vpages.new.rows c.read_runs.new.rows
    (filled_then g.S.Store (λ t r. put_heads t r) put_vpages conn c.read_heads.new.conn c.read_vpages.new.conn c.in_ok-read_heads.field-0 _ rows c.read_heads.new.rows c.read_vpages.new.rows
    (c.in_ok-read_heads.ensures)
    c.in_ok-read_vpages.ensures)
    c.read_runs.ensures.sees
