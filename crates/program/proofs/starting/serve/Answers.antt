use Rattle.std.proofs.Common.{inl, inr, refl}
use Rattle.program.specs.declared.environment.Opening.TheVariants.{Created}
use Rattle.program.proofs.OutcomeLemmas.{refused_by, refused_serving}
use Rattle.program.proofs.EnvironmentLemmas.{serves_from}
use Rattle.program.specs.Listening.{bound_site}
use Rattle.program.proofs.starting.serve.Goals as goal

pub returns-in-Err-clause-line : goal.returns-in-Err-clause-line
returns-in-Err-clause-line g c = refused_serving _ c.args.terms.now.logs c.in-Err.exit _ _ (refused_by g.K.Keep g.F.Files c.args.db.now Created c.args.files.now c.open_one.new.files c.in-Err.exit (g.O.Write.contents c.args.output.now) (g.O.Write.contents c.open_one.new.output) (g.E.ErrorStream.reported c.args.errors.now) (g.E.ErrorStream.reported c.open_one.new.errors) c.in-Err.ensures.refused)

pub returns-in-Err-clause-serves : goal.returns-in-Err-clause-serves
returns-in-Err-clause-serves g c = inr (c.in-Err.ensures.refused, (refl {a = c.args.network.now}, refl {a = c.args.clock.now}))

pub returns-clause-serves : goal.returns-clause-serves
returns-clause-serves g c = inl (serves_from g.K.Keep g.F.Files g.N.Connections g.C.Clock g.N.Reader.Inlet g.N.Writer.Outlet
    c.args.db.now (bound_site c.args.bound) c.args.terms.now c.args.count c.args.files.now c.open_one.new.files c.serve_opened.new.files
    c.args.network.now c.serve_opened.new.network c.args.clock.now c.serve_opened.new.clock c.in-Ok.keep c.serve_opened.result
    (g.O.Write.contents c.args.output.now) (g.O.Write.contents c.open_one.new.output) (g.O.Write.contents c.serve_opened.new.output)
    (g.E.ErrorStream.reported c.args.errors.now) (g.E.ErrorStream.reported c.open_one.new.errors) (g.E.ErrorStream.reported c.serve_opened.new.errors)
    c.in-Ok.ensures.opened.0 c.in-Ok.ensures.opened.1 c.serve_opened.ensures.serves)
