use Rattle.program.proofs.ServiceLemmas.{services_begin}
use Rattle.program.proofs.laws.services_begin.Goals as goal

pub returns : goal.returns
returns g c = services_begin g.K.Keep g.F.Files g.N.Connections g.C.Clock g.N.Reader.Inlet g.N.Writer.Outlet
