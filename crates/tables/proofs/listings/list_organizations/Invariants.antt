use Rattle.tables.proofs.Outside.{take, map, Ok, Error, Equals, Sees}
use Rattle.tables.specs.Inner.Lists.{org_row_in}
use Rattle.tables.proofs.listings.list_organizations.Given as goal

-- the rows so far, and the connection as it was
abbrev pub invariant-loop-organization : goal.invariant-loop-organization
invariant-loop-organization g l = Sees {E = Error} g.S.Store (Equals (λ t. map (org_row_in t) (take l.organization-index l.organizations))) l.fn.conn l.conn (Ok l.rows)
