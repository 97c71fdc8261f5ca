use Rattle.tables.proofs.Outside.{take, map, Ok, Error, listing_of, Equals, Sees}
use Rattle.tables.specs.Inner.Lists.{ws_row_in}
use Rattle.tables.proofs.listings.list_workspaces.Given as goal

-- the rows so far, and the connection as it was
abbrev pub invariant-loop-workspace : goal.invariant-loop-workspace
invariant-loop-workspace g l = Sees {E = Error} g.S.Store (Equals (λ t. listing_of (map (ws_row_in l.org t) (take l.workspace-index l.workspaces)))) l.fn.conn l.conn (Ok l.list)
