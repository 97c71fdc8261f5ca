use Rattle.serve.proofs.Outside.{sym, subst, IfOk-weaker, Asking}
use Rattle.serve.specs.Inner.Prepared.{IsPrepared}
use Rattle.serve.specs.Inner.Replying.{IsLogged}
use Rattle.serve.specs.Service.{asked_by}
use Rattle.serve.proofs.messages.answer.Goals as goal

pub returns-in-Ok-clause-ok : goal.returns-in-Ok-clause-ok
returns-in-Ok-clause-ok g c = λ clean sound.
    IfOk-weaker c.answer_asked.result _ _ (λ r prepared awaited.
    subst (λ (asking : Asking). IsPrepared (g.K.Keep.rows c.args.keep.now) (asked_by c.args.at awaited c.args.message asking) r) (sym c.in-Ok.ensures.ok) (prepared awaited))
    (c.answer_asked.ensures.ok clean sound)

pub returns-in-Ok-clause-logs : goal.returns-in-Ok-clause-logs
returns-in-Ok-clause-logs g c = λ clean sound.
    IfOk-weaker c.answer_asked.result _ _ (λ r logged awaited.
    subst (λ (asking : Asking). IsLogged (g.K.Keep.rows c.args.keep.now) (asked_by c.args.at awaited c.args.message asking) r.row) (sym c.in-Ok.ensures.ok) (logged awaited))
    (c.answer_asked.ensures.logs clean sound)
