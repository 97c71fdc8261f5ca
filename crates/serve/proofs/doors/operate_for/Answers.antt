use Rattle.serve.proofs.Outside.{◌≡◌, Some, ap, inl}
use Rattle.std.proofs.Common.{rules}
use Rattle.serve.proofs.DoorLemmas.{unread_of, row_of_turned}
use Rattle.serve.proofs.doors.operate_for.Goals as goal

pub returns-in_default-clause-row : goal.returns-in_default-clause-row
returns-in_default-clause-row g c = λ r awaited.
    unread_of c.args.operator.now (Some c.args.operator.now.name) r c.args.at awaited c.args.message.now c.unread_row.result (inl c.unread_row.ensures)

pub returns-in-Err-clause-row : goal.returns-in-Err-clause-row
returns-in-Err-clause-row g c =
    let same : c.in-Ok.name ≡ c.args.operator.now.name = search rules in
    row_of_turned c.args.operator.now (Some c.args.operator.now.name) (Some c.in-Ok.name) c.args.at c.args.message.now c.turn_away.result (ap Some same) c.turn_away.ensures.row
