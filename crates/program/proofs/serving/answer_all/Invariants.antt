use Rattle.std.proofs.Common.{◌≡◌, ℕ, List, length}
use Rattle.machine.specs.StoreCalls.{Lasts}
use Rattle.program.specs.Serving.{AnswersAll, state}
use Rattle.program.proofs.serving.answer_all.Given as goal

-- the connections so far are served
abbrev pub invariant-connections : goal.invariant-connections
invariant-connections g l = record {
  lasts : Lasts g.K.Keep.clean g.K.Keep.sound g.K.Keep.keyed g.K.Keep.shielded l.fn.service.keep l.service.keep;
  answers : (moments : List ℕ) × (length moments ≡ l.connection)
      × AnswersAll g.K.Keep g.F.Files g.N.Connections g.C.Clock g.N.Reader.Inlet g.N.Writer.Outlet l.fn.terms 1 moments
      (state l.fn.network l.fn.clock l.fn.service.keep (g.E.ErrorStream.reported l.fn.errors) (g.O.Write.contents l.initial.output))
      (state l.network l.clock l.service.keep (g.E.ErrorStream.reported l.errors) (g.O.Write.contents l.output));
}
