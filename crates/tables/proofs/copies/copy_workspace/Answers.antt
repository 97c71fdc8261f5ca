use Rattle.tables.proofs.Outside.{[], Some, sym, ap, ◌∙◌, on_ok_weaker, state, new_workspace, run_settings_at, still_holds}
use Rattle.tables.proofs.Copying.{never_done, related_in_vain}
use Rattle.tables.proofs.copies.copy_workspace.Goals as goal

pub returns-in_err-loaded-clause-copies : goal.returns-in_err-loaded-clause-copies
returns-in_err-loaded-clause-copies g c =
    let failed = c.from_residual.ensures.0 in
    (new_workspace (record { runs = run_settings_at [] 0; retention = 0 }), related_in_vain g.S.Store _ c.args.tx.now c.from_residual.result failed, λ clean. never_done _ c.from_residual.result failed)

pub returns-clause-copies : goal.returns-clause-copies
returns-clause-copies g c =
    let copied = c.copy_parts.ensures.copies in (
      copied.0,
      copied.1,
      λ clean.
          let seen = c.in_ok-loaded.ensures.sees (c.copy_parts.ensures.unchanged.so_far clean) in
          on_ok_weaker c.copy_parts.result
          (λ reported f holds sound. (seen.0 f holds sound).is ∙ ap Some (sym (reported f (still_holds (state g.T.Store c.args.from.now) (state g.T.Store c.load_workspace.new.conn) seen.1.0 f holds)))) (copied.2 clean),
    )

pub returns-in_err-loaded-clause-keyed : goal.returns-in_err-loaded-clause-keyed
returns-in_err-loaded-clause-keyed g c = related_in_vain g.S.Store _ c.args.tx.now c.from_residual.result c.from_residual.ensures.0
