use Rattle.tables.proofs.Outside.{◌≡◌, ap, ◌∙◌, Ok, sees_then}
use Rattle.tables.specs.Scans.{AreRowsOf}
use Rattle.tables.specs.Inner.Scans.{with_first, with_workspaces, with_others}
use Rattle.tables.proofs.Filled.{filled_then, all_filled}
use Rattle.tables.proofs.scans.read_all.Goals as goal

pub returns-clause-sees : goal.returns-clause-sees
returns-clause-sees g c =
    let key_of = g.K.PageKey.key_of in
    let conn = c.args.conn.now in
    let rows = c.args.rows.now in
    let first = filled_then g.S.Store with_first with_workspaces conn c.read_first.new.conn c.read_workspaces.new.conn c.in_ok-read_first.field-0 (Ok c.in_ok-read_workspaces.field-0) rows c.read_first.new.rows c.read_workspaces.new.rows
    c.in_ok-read_first.ensures c.in_ok-read_workspaces.ensures in
    sees_then g.S.Store (λ u t. c.read_workspaces.new.rows ≡ with_workspaces t (with_first t rows)) (λ u t. c.read_others.new.rows ≡ with_others key_of t c.read_workspaces.new.rows) (λ u t. AreRowsOf key_of t c.read_others.new.rows)
    conn c.read_workspaces.new.conn c.read_others.new.conn c.in_ok-read_workspaces.field-0 c.read_others.result (λ u t one two. all_filled key_of t rows c.read_others.new.rows (two ∙ ap (with_others key_of t) one)) first c.read_others.ensures.sees
