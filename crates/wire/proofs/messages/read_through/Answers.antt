use Rattle.std.proofs.Common.{List, ℕ, ◌++◌, subst, sym}
use Rattle.std.proofs.KnownBytes.{Consumes-trans}
use Rattle.std.specs.Io.KnownBytes.{Consumes}
use Rattle.wire.proofs.messages.read_through.Goals as goal

pub returns-in-Ok-clause-answer : goal.returns-in-Ok-clause-answer
returns-in-Ok-clause-answer g c =
    let found = c.in-Ok.ensures.found in
    let more = c.read_on.ensures.answer in
    let C : List ℕ → Type 0 = λ received. Consumes (g.I.Inlet.left c.args.inlet.now) (g.I.Inlet.left c.read_head.new.inlet) received in (
      c.in-Ok.received_head.bytes ++ more.0,
      Consumes-trans _ _ _ c.in-Ok.received_head.bytes more.0 (subst C (sym found.2.0) found.1) more.1,
      more.2,
    )
