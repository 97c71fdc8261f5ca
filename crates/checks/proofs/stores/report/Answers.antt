use Rattle.checks.proofs.Outside.{◌∙◌, ap, IfOk-weaker}
use Rattle.std.specs.Prelude.{map}
use Rattle.checks.specs.Lines.{fault_line}
use Rattle.checks.proofs.StoreLemmas.{rows_reported}
use Rattle.checks.proofs.stores.report.Goals as goal

pub returns : goal.returns
returns c =
    IfOk-weaker c.lines_of.result _ _ (λ lines are. rows_reported c.args.rows.now c.in_ok-found.found lines (are ∙ ap (map fault_line) c.faults-2.ensures) c.in_ok-found.ensures.decides c.in_ok-found.ensures.reported) c.lines_of.ensures
