use Rattle.std.proofs.Common.{Ok, refl, inl}
use Rattle.command_line.specs.Orders.{site_of}
use Rattle.program.specs.Serving.{state}
use Rattle.program.proofs.OutcomeLemmas.{listens_at}
use Rattle.program.proofs.ServedLemmas.{none_serves}
use Rattle.program.proofs.starting.serve_bound.Goals as goal

pub returns-in-Ok-clause-serves : goal.returns-in-Ok-clause-serves
returns-in-Ok-clause-serves g c clean sound = rw c.in-Ok.is (c.serve_loop.ensures.serves clean sound)

pub returns-in-Err-clause-serves : goal.returns-in-Err-clause-serves
returns-in-Err-clause-serves g c clean sound =
    rw c.in-Err.is (none_serves g.K.Keep g.F.Files g.N.Connections g.C.Clock g.N.Reader.Inlet g.N.Writer.Outlet c.args.terms.now c.args.count c.in-Err.cause
    (state c.args.network.now c.args.clock.now c.args.service.now.keep (g.E.ErrorStream.reported c.args.errors.now) (g.O.Write.contents c.args.output.now))
    (state c.args.network.now c.args.clock.now c.args.service.now.keep (g.E.ErrorStream.reported c.report_cause.new.errors) (g.O.Write.contents c.args.output.now)) refl refl refl
    (c.records_are_lawful.ensures clean sound))

pub returns-in-Ok-clause-answers : goal.returns-in-Ok-clause-answers
returns-in-Ok-clause-answers g c = rw c.in-Ok.is (c.serve_loop.ensures.answers, c.serve_loop.ensures.listens)

pub returns-in-Err-clause-answers : goal.returns-in-Err-clause-answers
returns-in-Err-clause-answers g c = rw c.in-Err.is (refl, refl, refl, c.report_cause.ensures, refl, refl)

pub returns-in-Ok-clause-listens : goal.returns-in-Ok-clause-listens
returns-in-Ok-clause-listens g c = rw c.in-Ok.is (listens_at (Ok (site_of c.in-Ok.given)) (site_of c.in-Ok.given) c.args.terms.now.logs c.serve_loop.result _ _ refl c.serve_loop.ensures.listens)

pub returns-in-Err-clause-listens : goal.returns-in-Err-clause-listens
returns-in-Err-clause-listens g c = inl refl
