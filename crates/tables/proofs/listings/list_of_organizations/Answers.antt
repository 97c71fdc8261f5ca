use Rattle.tables.proofs.Outside.{map, ap, ◌∙◌, OrgsApart, organizations_in, Equals, EqualsWhere}
use Rattle.tables.specs.Inner.Lists.{org_row_in, organizations_listed_in}
use Rattle.tables.proofs.Committed.{committed_read_then}
use Rattle.tables.proofs.listings.list_of_organizations.Goals as goal

pub returns-clause-unchanged : goal.returns-clause-unchanged
returns-clause-unchanged g c =
    committed_read_then g.S.Store (EqualsWhere OrgsApart organizations_in) (Equals (λ t. map (org_row_in t) c.as_slice.result.now)) (EqualsWhere OrgsApart organizations_listed_in) c.args.conn.now c.list.new.conn c.list_organizations.new.conn
    c.in_ok-rows.rows c.list_organizations.result (λ list t reported seen apart. seen ∙ ap (map (org_row_in t)) (c.as_slice.ensures ∙ reported apart)) c.assert_committed.ensures c.in_ok-rows.ensures c.list_organizations.ensures
