use Rattle.program.specs.Outcomes.{stream, error_stream}
use Rattle.program.proofs.BatchLemmas.{carries_none, carries_some}
use Rattle.program.proofs.carrying.carry_all.Goals as goal

pub returns-in-None-clause-carries : goal.returns-in-None-clause-carries
returns-in-None-clause-carries g c =
    carries_none g.K.Keep g.F.Files c.args.db.now c.args.lines.now _ c.args.files.now (g.O.Write.contents c.args.output.now) (g.E.ErrorStream.reported c.args.errors.now) c.first_command.ensures c.in-None.is

pub returns-in-Some-clause-carries : goal.returns-in-Some-clause-carries
returns-in-Some-clause-carries g c =
    let out = g.O.Write.contents in
    let err = g.E.ErrorStream.reported in
    carries_some g.K.Keep g.F.Files c.args.db.now c.args.lines.now _ c.in-Some.first c.args.files.now c.carry_lines.new.files c.carry_lines.result
    (stream (out c.args.output.now) (out c.carry_lines.new.output)) (error_stream (err c.args.errors.now) (err c.carry_lines.new.errors))
    c.first_command.ensures c.in-Some.is c.carry_lines.ensures.carries
