use Rattle.statements.proofs.Outside.{◌+◌, arith, rules, MAX_MOMENT, MAX_NUMBER, MAX_SERIAL}
use Rattle.statements.specs.Cells.{HasVersion, IsNumberCell, IsTextCell, IsWithin}
use Rattle.statements.proofs.CellLemmas.{refused_by}
use Rattle.statements.proofs.cells.version_in.Goals as goal

pub returns-in_err-number_in-clause-err : goal.returns-in_err-number_in-clause-err
returns-in_err-number_in-clause-err c = refused_by c.from_residual.result (IsWithin 1 MAX_NUMBER) (HasVersion c.args.at) c.args.row.now c.args.at (c.args.at + 4) (λ has. has.number_is) (omega arith) (search rules)

pub returns-in_err-serial_in-clause-err : goal.returns-in_err-serial_in-clause-err
returns-in_err-serial_in-clause-err c = refused_by c.from_residual-in_err-serial_in.result (IsWithin 0 MAX_SERIAL) (HasVersion c.args.at) c.args.row.now (c.args.at + 1) (c.args.at + 4) (λ has. has.serial) (omega arith) (search rules)

pub returns-in_err-moment_in-clause-err : goal.returns-in_err-moment_in-clause-err
returns-in_err-moment_in-clause-err c = refused_by c.from_residual-in_err-moment_in.result (IsWithin 0 MAX_MOMENT) (HasVersion c.args.at) c.args.row.now (c.args.at + 3) (c.args.at + 4) (λ has. has.created) (omega arith) (search rules)

pub returns-in_err-unsigned_in-clause-err : goal.returns-in_err-unsigned_in-clause-err
returns-in_err-unsigned_in-clause-err c = refused_by c.from_residual-in_err-unsigned_in.result IsNumberCell (HasVersion c.args.at) c.args.row.now (c.args.at + 4) (c.args.at + 4) (λ has. has.size) (omega arith) (search rules)

pub returns-in_err-text_in-clause-err : goal.returns-in_err-text_in-clause-err
returns-in_err-text_in-clause-err c = refused_by c.from_residual-in_err-text_in.result IsTextCell (HasVersion c.args.at) c.args.row.now (c.args.at + 2) (c.args.at + 4) (λ has. has.lineage) (omega arith) (search rules)
