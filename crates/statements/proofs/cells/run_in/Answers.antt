use Rattle.statements.proofs.Outside.{◌+◌, arith, rules, MAX_MOMENT, MAX_NUMBER}
use Rattle.statements.specs.Cells.{HasRun, IsActionCell, IsBooleanCell, IsNullOr, IsStatusCell, IsTextCell, IsWithin}
use Rattle.statements.proofs.CellLemmas.{refused_by}
use Rattle.statements.proofs.cells.run_in.Goals as goal

pub returns-in_err-number_in-clause-err : goal.returns-in_err-number_in-clause-err
returns-in_err-number_in-clause-err c = refused_by c.from_residual.result (IsWithin 1 MAX_NUMBER) (HasRun c.args.at) c.args.row.now c.args.at (c.args.at + 6) (λ has. has.number_is) (omega arith) (search rules)

pub returns-in_err-flag_in-clause-err : goal.returns-in_err-flag_in-clause-err
returns-in_err-flag_in-clause-err c = refused_by c.from_residual-in_err-flag_in.result IsBooleanCell (HasRun c.args.at) c.args.row.now (c.args.at + 1) (c.args.at + 6) (λ has. has.plan_only) (omega arith) (search rules)

pub returns-in_err-moment_in-clause-err : goal.returns-in_err-moment_in-clause-err
returns-in_err-moment_in-clause-err c = refused_by c.from_residual-in_err-moment_in.result (IsWithin 0 MAX_MOMENT) (HasRun c.args.at) c.args.row.now (c.args.at + 4) (c.args.at + 6) (λ has. has.created) (omega arith) (search rules)

pub returns-in_err-status_of_row-clause-err : goal.returns-in_err-status_of_row-clause-err
returns-in_err-status_of_row-clause-err c = refused_by c.from_residual-in_err-status_of_row.result IsStatusCell (HasRun c.args.at) c.args.row.now (c.args.at + 5) (c.args.at + 6) (λ has. has.status) (omega arith) (search rules)

pub returns-in_err-action_in-clause-err : goal.returns-in_err-action_in-clause-err
returns-in_err-action_in-clause-err c = refused_by c.from_residual-in_err-action_in.result (IsNullOr IsActionCell) (HasRun c.args.at) c.args.row.now (c.args.at + 6) (c.args.at + 6) (λ has. has.action) (omega arith) (search rules)

pub returns-in_err-text_in-clause-err : goal.returns-in_err-text_in-clause-err
returns-in_err-text_in-clause-err c = refused_by c.from_residual-in_err-text_in.result IsTextCell (HasRun c.args.at) c.args.row.now (c.args.at + 3) (c.args.at + 6) (λ has. has.message) (omega arith) (search rules)

pub returns-in_err-optional_text-clause-err : goal.returns-in_err-optional_text-clause-err
returns-in_err-optional_text-clause-err c = refused_by c.from_residual-in_err-optional_text.result (IsNullOr IsTextCell) (HasRun c.args.at) c.args.row.now (c.args.at + 2) (c.args.at + 6) (λ has. has.key) (omega arith) (search rules)
