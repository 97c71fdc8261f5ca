use Rattle.tables.proofs.Outside.{map, ap, ◌∙◌, listing_of, WorkspacesApart, workspace_rows_after, Equals, EqualsWhere}
use Rattle.tables.specs.Inner.Lists.{asked_rows, ws_row_in, workspaces_listed_in}
use Rattle.tables.proofs.Committed.{committed_read_then}
use Rattle.tables.proofs.listings.list_of_workspaces.Goals as goal

pub returns-clause-unchanged : goal.returns-clause-unchanged
returns-clause-unchanged g c =
    committed_read_then g.S.Store (EqualsWhere WorkspacesApart (workspace_rows_after c.args.org.now c.args.after.now c.args.prefix.now asked_rows)) (Equals (λ t. listing_of (map (ws_row_in c.args.org.now t) c.as_slice.result.now))) (EqualsWhere WorkspacesApart (workspaces_listed_in c.args.after.now c.args.prefix.now c.args.org.now)) c.args.conn.now c.list.new.conn c.list_workspaces.new.conn
    c.in_ok-rows.rows c.list_workspaces.result (λ list t reported seen apart. seen ∙ ap (λ rows. listing_of (map (ws_row_in c.args.org.now t) rows)) (c.as_slice.ensures ∙ reported apart)) c.assert_committed.ensures c.in_ok-rows.ensures c.list_workspaces.ensures
