use Rattle.std.proofs.Common.{[], sym, ◌∙◌}
use Rattle.std.proofs.KnownBytes.{Consumes-nil}
use Rattle.wire.proofs.AnswerLemmas.{continue_refused}
use Rattle.wire.proofs.messages.read_body.Goals as goal

pub returns-then-is_err-clause-body : goal.returns-then-is_err-clause-body
returns-then-is_err-clause-body g c =
    ([], Consumes-nil _, continue_refused c.write_continue.result _ _ c.args.awaits_continue (sym c.is_err.ensures.value ∙ c.if-is_err.true) c.write_continue.ensures.text c.write_continue.ensures.awaited)
