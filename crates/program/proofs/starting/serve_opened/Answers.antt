use Rattle.program.proofs.OutcomeLemmas.{served}
use Rattle.program.proofs.EnvironmentLemmas.{serves_opened}
use Rattle.program.specs.Listening.{bound_site}
use Rattle.program.proofs.starting.serve_opened.Goals as goal

pub returns-clause-line : goal.returns-clause-line
returns-clause-line g c = served _ c.args.terms.now.logs c.serve_bound-exit.result c.say_served.result (g.O.Write.contents c.args.output.now) (g.O.Write.contents c.serve_bound-exit.new.output) (g.O.Write.contents c.say_served.new.output) c.serve_bound-exit.ensures.listens c.say_served.ensures.down c.say_served.ensures.other

pub returns-clause-serves : goal.returns-clause-serves
returns-clause-serves g c = serves_opened g.K.Keep g.F.Files g.N.Connections g.C.Clock g.N.Reader.Inlet g.N.Writer.Outlet
    c.args.db.now (bound_site c.args.bound) c.args.terms.now c.args.count c.args.files.now c.close_after.new.files
    c.args.network.now c.serve_bound-exit.new.network c.args.clock.now c.serve_bound-exit.new.clock
    c.args.keep c.new-service.result.keep c.serve_bound-exit.new.service.keep c.into_keep-keep.result c.serve_bound-exit.result c.say_served.result
    (g.O.Write.contents c.args.output.now) (g.O.Write.contents c.serve_bound-exit.new.output) (g.O.Write.contents c.say_served.new.output)
    (g.E.ErrorStream.reported c.args.errors.now) (g.E.ErrorStream.reported c.serve_bound-exit.new.errors) (g.E.ErrorStream.reported c.close_after.new.errors)
    c.new-service.ensures.keep c.into_keep-keep.ensures
    c.serve_bound-exit.ensures.lasts c.serve_bound-exit.ensures.serves c.serve_bound-exit.ensures.answers
    c.close_after.ensures c.say_served.ensures.says
