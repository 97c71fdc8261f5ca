use Rattle.tables.proofs.Outside.{arith, Error, listing_of}
use Rattle.tables.specs.Inner.Lists.{ws_row_in}
use Rattle.tables.proofs.KeepListed.{seen_more}
use Rattle.tables.proofs.listings.list_workspaces.Goals as goal

pub loop-workspace-preserved : goal.loop-workspace-preserved
loop-workspace-preserved g c =
    seen_more g.S.Store Error Error listing_of (ws_row_in c.args.org.now) c.args.workspaces.now c.loop-workspace.workspace-index c.workspace-item.result c.args.conn.now c.loop-workspace.conn c.ws_row.new.conn
    c.loop-workspace.list c.offer.new.list c.in_ok-row.row (omega arith) c.workspace-item.is c.loop-workspace.invariant c.in_ok-row.ensures
    c.in_ok-offer.ensures
