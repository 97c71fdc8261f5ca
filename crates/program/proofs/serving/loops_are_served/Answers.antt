use Rattle.program.proofs.ServedLemmas.{loops_are_served}
use Rattle.program.proofs.serving.loops_are_served.Goals as goal

pub returns : goal.returns
returns g c = loops_are_served g.K.Keep g.F.Files g.N.Connections g.C.Clock g.N.Reader.Inlet g.N.Writer.Outlet
