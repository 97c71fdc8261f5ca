use Rattle.command_line.specs.Orders.{site_of}
use Rattle.program.proofs.ServedLemmas.{loop_serves}
use Rattle.program.proofs.serving.serve_loop.Goals as goal

pub returns-clause-serves : goal.returns-clause-serves
returns-clause-serves g c clean sound =
    loop_serves g.K.Keep g.F.Files g.N.Connections g.C.Clock g.N.Reader.Inlet g.N.Writer.Outlet (site_of c.args.address) c.args.terms.now c.args.count _ _ c.answer_all.result c.answer_all.ensures.answers clean sound
    (c.records_are_lawful.ensures (c.answer_all.ensures.lasts.so_far clean) sound)
