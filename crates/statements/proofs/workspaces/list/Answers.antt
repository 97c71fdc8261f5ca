use Rattle.std.proofs.Common.{◌∙◌, sym, ap, subst, length, ◌==◌}
use Rattle.statements.specs.Steps.{EqualsWhere, Queries}
use Rattle.statements.specs.Listings.{workspace_rows_after, WorkspacesApart}
use Rattle.statements.proofs.Prefixes.{empty_is}
use Rattle.statements.proofs.workspaces.list.Goals as goal

pub returns-then-is_empty : goal.returns-then-is_empty
returns-then-is_empty g c =
    let none = empty_is c.args.prefix.now (ap (λ l. length l == 0) (sym c.as_str.ensures.text) ∙ sym c.is_empty.ensures ∙ c.if-is_empty.true) in
    subst (λ p. Queries g.S.Store (EqualsWhere WorkspacesApart (workspace_rows_after c.args.org.now c.args.after.now p c.args.most)) c.args.conn.now c.list_all.new.conn c.list_all.result) (sym none) c.list_all.ensures
