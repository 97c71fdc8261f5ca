use Rattle.program.proofs.LogLemmas.{line_next, reports_changes}
use Rattle.program.proofs.serving.log_reports_changes.Goals as goal

pub returns-clause-next : goal.returns-clause-next
returns-clause-next g c = line_next g.K.Keep g.F.Files g.N.Connections g.C.Clock g.N.Reader.Inlet g.N.Writer.Outlet

pub returns-clause-all : goal.returns-clause-all
returns-clause-all g c = reports_changes g.K.Keep g.F.Files g.N.Connections g.C.Clock g.N.Reader.Inlet g.N.Writer.Outlet
