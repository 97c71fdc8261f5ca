use Rattle.tables.proofs.Outside.{[], ◌∷◌, ◌++◌, ap, ◌∙◌, arith, Error}
use Rattle.tables.specs.Inner.Lists.{org_row_in}
use Rattle.tables.proofs.KeepListed.{seen_more}
use Rattle.tables.proofs.listings.list_organizations.Goals as goal

pub loop-organization-preserved : goal.loop-organization-preserved
loop-organization-preserved g c =
    seen_more g.S.Store Error Error (λ rows. rows) org_row_in c.args.organizations.now c.loop-organization.organization-index c.organization-item.result c.args.conn.now c.loop-organization.conn c.org_row.new.conn
    c.loop-organization.rows c.push.new.items c.in_ok-row.row (omega arith) c.organization-item.is c.loop-organization.invariant c.in_ok-row.ensures
    (λ rows is. c.in_ok-push.ensures ∙ ap (λ xs. xs ++ c.in_ok-row.row ∷ []) is)
