use Rattle.std.proofs.Common.{◌≡◌, ℕ, Bool, false, true, inl, inr, suc, length, ◌<◌, ◌+◌, arith, refl, sym, subst, ◌∙◌, ◌++◌, ◌∷◌, [], rules}
use Rattle.command_line.specs.Orders.{site_of}
use Rattle.machine.proofs.LastingLemmas.{lasts_still, lasts_then}
use Rattle.program.specs.Serving.{state, AnswersNext, EndsEarly, listening_line}
use Rattle.program.proofs.ServingLemmas.{answers_more, one_more}
use Rattle.program.specs.Logs.{row_text}
use Rattle.program.proofs.LogLemmas.{grows_one, grows_then, grows_all, grows_early, heard_log}
use Rattle.program.proofs.serving.answer_all.Goals as goal

pub connections-init : goal.connections-init
connections-init g c = record {
  lasts = lasts_still c.args.service.now.keep;
  answers = ([], refl, refl);
}

pub connections-preserved : goal.connections-preserved
connections-preserved g c =
    let so_far = c.connections.invariant.answers in
    let one = c.in-Ok.ensures.answers in
    let before = c.connections.invariant.lasts in
    let next = c.in-Ok.ensures.lasts in
    record {
      lasts = lasts_then c.args.service.now.keep c.connections.service.keep c.serve_next.new.service.keep before next;
      answers = (
        so_far.0 ++ one.0 ∷ [],
        one_more so_far.0 one.0 c.connections.connection so_far.1,
        answers_more g.K.Keep g.F.Files g.N.Connections g.C.Clock g.N.Reader.Inlet g.N.Writer.Outlet c.args.terms.now 1 (c.connections.connection + 1) so_far.0 one.0
            (state c.args.network.now c.args.clock.now c.args.service.now.keep (g.E.ErrorStream.reported c.args.errors.now) (g.O.Write.contents c.print_listening.new.output))
            (state c.connections.network c.connections.clock c.connections.service.keep (g.E.ErrorStream.reported c.connections.errors) (g.O.Write.contents c.connections.output))
            (state c.serve_next.new.network c.serve_next.new.clock c.serve_next.new.service.keep (g.E.ErrorStream.reported c.serve_next.new.errors) (g.O.Write.contents c.serve_next.new.output)) (let is = so_far.1 in omega arith) so_far.2
            (subst (λ (b : Bool). AnswersNext g.K.Keep g.F.Files g.N.Connections g.C.Clock g.N.Reader.Inlet g.N.Writer.Outlet c.args.terms.now (c.connections.connection + 1) one.0 false b true
            (state c.connections.network c.connections.clock c.connections.service.keep (g.E.ErrorStream.reported c.connections.errors) (g.O.Write.contents c.connections.output))
            (state c.serve_next.new.network c.serve_next.new.clock c.serve_next.new.service.keep (g.E.ErrorStream.reported c.serve_next.new.errors) (g.O.Write.contents c.serve_next.new.output))) c.if-is_stop.false one.1),
      );
    }

-- after a `stop`, none
pub returns-then-is_stop-clause-lasts : goal.returns-then-is_stop-clause-lasts
returns-then-is_stop-clause-lasts g c = lasts_then c.args.service.now.keep c.connections.service.keep c.serve_next.new.service.keep c.connections.invariant.lasts c.in-Ok.ensures.lasts

pub returns-then-is_stop-clause-answers : goal.returns-then-is_stop-clause-answers
returns-then-is_stop-clause-answers g c =
    let so_far = c.connections.invariant.answers in
    let one = c.in-Ok.ensures.answers in
    let last = state c.connections.network c.connections.clock c.connections.service.keep (g.E.ErrorStream.reported c.connections.errors) (g.O.Write.contents c.connections.output) in
    let new = state c.serve_next.new.network c.serve_next.new.clock c.serve_next.new.service.keep (g.E.ErrorStream.reported c.serve_next.new.errors) (g.O.Write.contents c.serve_next.new.output) in
    let next : c.connections.connection + 1 ≡ suc (length so_far.0) = let is = so_far.1 in omega arith in
    let stopped = subst (λ (b : Bool). AnswersNext g.K.Keep g.F.Files g.N.Connections g.C.Clock g.N.Reader.Inlet g.N.Writer.Outlet c.args.terms.now (c.connections.connection + 1) one.0 false b true last new) c.if-is_stop.true one.1 in (
      g.O.Write.contents c.print_listening.new.output,
      search rules,
      so_far.0,
      last,
      so_far.2,
      inr (
        subst (λ (n : ℕ). n < c.args.count) (sym so_far.1) c.connections-test.true,
        one.0,
        subst (λ (n : ℕ). AnswersNext g.K.Keep g.F.Files g.N.Connections g.C.Clock g.N.Reader.Inlet g.N.Writer.Outlet c.args.terms.now n one.0 false true true last new) next stopped,
      ),
    )

pub returns-then-is_stop-clause-listens : goal.returns-then-is_stop-clause-listens
returns-then-is_stop-clause-listens g c =
    let so_far = c.connections.invariant.answers in
    let one = c.in-Ok.ensures.answers.1.answers.answers in
    let heard = g.O.Write.contents c.print_listening.new.output in
    let start = state c.args.network.now c.args.clock.now c.args.service.now.keep (g.E.ErrorStream.reported c.args.errors.now) heard in
    let last = state c.connections.network c.connections.clock c.connections.service.keep (g.E.ErrorStream.reported c.connections.errors) (g.O.Write.contents c.connections.output) in
    heard_log c.args.terms.now.logs (listening_line (site_of c.args.address)) (g.O.Write.contents c.args.output.now) heard (g.O.Write.contents c.serve_next.new.output) (search rules)
    (grows_then c.args.terms.now.logs heard (g.O.Write.contents c.connections.output) (g.O.Write.contents c.serve_next.new.output)
    (grows_all g.K.Keep g.F.Files g.N.Connections g.C.Clock g.N.Reader.Inlet g.N.Writer.Outlet c.args.terms.now 1 so_far.0 start last so_far.2)
    (grows_one c.args.terms.now.logs true (row_text (c.connections.connection + 1) one.result one.row) (g.O.Write.contents c.connections.output) (g.O.Write.contents c.serve_next.new.output) one.logged))

-- all of them
pub returns-clause-answers : goal.returns-clause-answers
returns-clause-answers g c =
    let so_far = c.connections.invariant.answers in
    let new = state c.connections.network c.connections.clock c.connections.service.keep (g.E.ErrorStream.reported c.connections.errors) (g.O.Write.contents c.connections.output) in (
      g.O.Write.contents c.print_listening.new.output,
      search rules,
      so_far.0,
      new,
      so_far.2,
      inl (so_far.1 ∙ search rules, refl),
    )

pub returns-in-Err-clause-answers : goal.returns-in-Err-clause-answers
returns-in-Err-clause-answers g c =
    let so_far = c.connections.invariant.answers in
    let last = state c.connections.network c.connections.clock c.connections.service.keep (g.E.ErrorStream.reported c.connections.errors) (g.O.Write.contents c.connections.output) in
    let new = state c.serve_next.new.network c.serve_next.new.clock c.serve_next.new.service.keep (g.E.ErrorStream.reported c.serve_next.new.errors) (g.O.Write.contents c.serve_next.new.output) in
    let next : c.connections.connection + 1 ≡ suc (length so_far.0) = let is = so_far.1 in omega arith in (
      g.O.Write.contents c.print_listening.new.output,
      search rules,
      so_far.0,
      last,
      subst (λ (n : ℕ). n < c.args.count) (sym so_far.1) c.connections-test.true,
      so_far.2,
      c.in-Err.cause,
      g.E.ErrorStream.reported c.serve_next.new.errors,
      subst (λ (n : ℕ). EndsEarly g.K.Keep g.F.Files g.N.Connections g.C.Clock g.N.Reader.Inlet g.N.Writer.Outlet c.args.terms.now n last new c.in-Err.cause) next c.in-Err.ensures.refused,
      c.report_cause.ensures,
    )

pub returns-in-Err-clause-listens : goal.returns-in-Err-clause-listens
returns-in-Err-clause-listens g c =
    let so_far = c.connections.invariant.answers in
    let heard = g.O.Write.contents c.print_listening.new.output in
    let start = state c.args.network.now c.args.clock.now c.args.service.now.keep (g.E.ErrorStream.reported c.args.errors.now) heard in
    let last = state c.connections.network c.connections.clock c.connections.service.keep (g.E.ErrorStream.reported c.connections.errors) (g.O.Write.contents c.connections.output) in
    let new = state c.serve_next.new.network c.serve_next.new.clock c.serve_next.new.service.keep (g.E.ErrorStream.reported c.serve_next.new.errors) (g.O.Write.contents c.serve_next.new.output) in
    heard_log c.args.terms.now.logs (listening_line (site_of c.args.address)) (g.O.Write.contents c.args.output.now) heard (g.O.Write.contents c.serve_next.new.output) (search rules)
    (grows_then c.args.terms.now.logs heard (g.O.Write.contents c.connections.output) (g.O.Write.contents c.serve_next.new.output)
    (grows_all g.K.Keep g.F.Files g.N.Connections g.C.Clock g.N.Reader.Inlet g.N.Writer.Outlet c.args.terms.now 1 so_far.0 start last so_far.2)
    (grows_early g.K.Keep g.F.Files g.N.Connections g.C.Clock g.N.Reader.Inlet g.N.Writer.Outlet c.args.terms.now (c.connections.connection + 1) last new c.in-Err.cause c.in-Err.ensures.refused))

pub returns-clause-listens : goal.returns-clause-listens
returns-clause-listens g c =
    let so_far = c.connections.invariant.answers in
    let heard = g.O.Write.contents c.print_listening.new.output in
    let start = state c.args.network.now c.args.clock.now c.args.service.now.keep (g.E.ErrorStream.reported c.args.errors.now) heard in
    let new = state c.connections.network c.connections.clock c.connections.service.keep (g.E.ErrorStream.reported c.connections.errors) (g.O.Write.contents c.connections.output) in
    heard_log c.args.terms.now.logs (listening_line (site_of c.args.address)) (g.O.Write.contents c.args.output.now) heard (g.O.Write.contents c.connections.output) (search rules)
    (grows_all g.K.Keep g.F.Files g.N.Connections g.C.Clock g.N.Reader.Inlet g.N.Writer.Outlet c.args.terms.now 1 so_far.0 start new so_far.2)
