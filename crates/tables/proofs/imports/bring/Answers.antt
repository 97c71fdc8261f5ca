use Rattle.tables.proofs.Outside.{TokensApart, NamesApart, digest_tokens_of, workspace_names_of, EqualsWhere, sees_by, Ok, org_row_added, steps_by}
use Rattle.tables.proofs.Brought.{organization_taken}
use Rattle.tables.proofs.KeepFound.{seen_both}
use Rattle.tables.proofs.KeyedSteps.{keyed_by, keyed_then, keyed_pages}
use Rattle.tables.proofs.imports.bring.Goals as goal

pub returns-clause-brings : goal.returns-clause-brings
returns-clause-brings g c =
    let org = c.args.org.now in
    let list = c.in_ok-list.list in
    let names = c.in_ok-names.names in
    let read = c.names.new.conn in
    let copied = c.copy_tokens.new.from in
    let reported = seen_both g.T.Store (EqualsWhere TokensApart (digest_tokens_of org)) (EqualsWhere NamesApart (workspace_names_of org)) c.args.from.now c.list_with_digests.new.conn read list names
    (sees_by g.T.Store _ _ _ _ c.in_ok-list.ensures) (sees_by g.T.Store _ _ _ _ c.in_ok-names.ensures) in
    organization_taken g.S.Store g.T.Store org c.args.cap list names c.args.tx.now c.add.new.tx c.copy_tokens.new.tx c.copy_workspaces.new.tx c.args.from.now read copied c.copy_workspaces.new.from _ _ c.copy_workspaces.result
    reported c.in_ok-add.ensures c.in_ok-copy_tokens.ensures.unchanged (rw c.as_slice.ensures at c.in_ok-copy_tokens.ensures.copies) c.copy_workspaces.ensures.unchanged (rw c.as_slice-2.ensures at c.copy_workspaces.ensures.copies)

pub returns-clause-keyed : goal.returns-clause-keyed
returns-clause-keyed g c =
    let key_of = g.K.PageKey.key_of in
    let row = org_row_added c.args.org.now c.args.cap in
    let added = keyed_by g.S.Store key_of row c.args.tx.now c.add.new.tx (Ok tt) (steps_by g.S.Store row c.args.tx.now c.add.new.tx (Ok tt) c.in_ok-add.ensures) (λ t keyed. keyed) in
    let some = keyed_then g.S.Store key_of c.args.tx.now c.add.new.tx c.copy_tokens.new.tx tt (Ok tt) added (keyed_pages g.S.Store key_of c.add.new.tx c.copy_tokens.new.tx (Ok tt) c.in_ok-copy_tokens.ensures.pages) in
    keyed_then g.S.Store key_of c.args.tx.now c.copy_tokens.new.tx c.copy_workspaces.new.tx tt c.copy_workspaces.result some c.copy_workspaces.ensures.keyed
