use Rattle.std.proofs.Common.{ℕ, Option, unwrap_or, ap, ◌∙◌}
use Rattle.tables.proofs.Outside.{FIRST_KEPT, Equals, sees_as}
use Rattle.basis.specs.declared.rows.WsRow.{WsRow}
use Rattle.machine.specs.Showing.{holder_id}
use Rattle.statements.specs.declared.rows.NamedWorkspace.{NamedWorkspace}
use Rattle.tables.specs.Inner.Lists.{newest_shown_in}
use Rattle.tables.specs.Records.{settings_of_cells}
use Rattle.tables.proofs.listings.ws_row.Goals as goal

make : NamedWorkspace → Option ℕ → WsRow
make w version = record { settings = settings_of_cells (unwrap_or w.retention FIRST_KEPT) w.it; holder = holder_id w.it.holder; name = w.name; version = version }

pub returns : goal.returns
unfolding make
returns g c =
    let org = c.args.org.now in
    let w = c.args.workspace.now in
    sees_as g.S.Store (Equals (newest_shown_in org w)) (Equals (λ t. make w (newest_shown_in org w t))) c.args.conn.now c.newest_shown.new.conn c.in_ok-version.version _
    (λ t found. (λ i. record { settings = record { runs = w.it.runs; retention = c.kept.ensures i }; holder = c.in_ok-holder.ensures i; name = c.in_ok-name.ensures i; version = c.in_ok-version.version }) ∙ ap (make w) found) c.in_ok-version.ensures
