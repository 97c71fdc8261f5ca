use Rattle.tables.proofs.Outside.{Option, Some, Ok, false, sym, ap, ◌∙◌, workspace_of, open_runs_of, Equals, sees_by, sees_as}
use Rattle.statements.specs.declared.rows.Workspace.{Workspace as WorkspaceCells}
use Rattle.tables.specs.Inner.Removals.{is_used_by, is_used_in}
use Rattle.tables.proofs.KeepFound.{seen_both}
use Rattle.tables.proofs.removals.is_in_use.Goals as goal

pub returns-in-None : goal.returns-in-None
returns-in-None g c =
    let org = c.args.org.now in
    let ws = c.args.ws.now in
    record {
      unchanged = sees_as g.S.Store (Equals (workspace_of org ws)) (Equals (is_used_in org ws)) c.args.conn.now c.find.new.conn c.in_ok-find.field-0 false
          (λ t reported. ap (λ (o : Option WorkspaceCells). is_used_by o (open_runs_of org ws t)) (sym c.in-None.is ∙ reported)) (sees_by g.S.Store (Equals (workspace_of org ws)) c.args.conn.now c.find.new.conn (Ok c.in_ok-find.field-0) c.in_ok-find.ensures);
    }

pub returns-in_ok-open_runs-in-Some : goal.returns-in_ok-open_runs-in-Some
returns-in_ok-open_runs-in-Some g c =
    let org = c.args.org.now in
    let ws = c.args.ws.now in
    let found = c.in_ok-find.field-0 in
    record {
      unchanged = sees_as g.S.Store (λ n t. Equals (workspace_of org ws) found t × Equals (open_runs_of org ws) n t) (Equals (is_used_in org ws)) c.args.conn.now c.count_open.new.conn c.in_ok-open_runs-in-Some.open_runs c.is_used.result
          (λ t reported. c.is_used.ensures ∙ (λ i. is_used_by (Some c.in-Some.workspace) (reported.1 i)) ∙ ap (λ (o : Option WorkspaceCells). is_used_by o (open_runs_of org ws t)) (sym c.in-Some.is ∙ reported.0))
          (seen_both g.S.Store (Equals (workspace_of org ws)) (Equals (open_runs_of org ws)) c.args.conn.now c.find.new.conn c.count_open.new.conn found c.in_ok-open_runs-in-Some.open_runs
          (sees_by g.S.Store (Equals (workspace_of org ws)) c.args.conn.now c.find.new.conn (Ok found) c.in_ok-find.ensures)
          (sees_by g.S.Store (Equals (open_runs_of org ws)) c.find.new.conn c.count_open.new.conn (Ok c.in_ok-open_runs-in-Some.open_runs) c.in_ok-open_runs-in-Some.ensures));
    }
