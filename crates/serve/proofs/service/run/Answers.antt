use Rattle.std.proofs.Common.{◌≡◌, ◌++◌, ◌∷◌, [], List, ℕ, subst, sym, ◌∙◌, rules, arith, refl}
use Rattle.machine.proofs.LastingLemmas.{lasts_still, lasts_then}
use Rattle.serve.proofs.RunLemmas.{runs_none, step_more}
use Rattle.serve.proofs.service.run.Goals as goal
use Rattle.serve.specs.Inner.Taking.{RunsTo}

pub returns-in_default-clause-ran : goal.returns-in_default-clause-ran
returns-in_default-clause-ran g c = λ clean sound. ([], runs_none (g.K.Keep.rows c.args.keep.now), tt)

pub steps-init : goal.steps-init
steps-init g c = record {
  count = refl;
  len = search rules;
  room = search rules;
  lasts = lasts_still c.args.keep.now;
  ran = λ clean sound. subst (λ (ts : List (List ℕ)). RunsTo [] (g.K.Keep.rows c.args.keep.now) (g.K.Keep.rows c.args.keep.now) ts) (sym c.in-Ok.ensures.items) (runs_none (g.K.Keep.rows c.args.keep.now));
}

pub steps-preserved : goal.steps-preserved
steps-preserved g c =
    let pushed : c.push.new.self.items ≡ c.steps.replies.items ++ c.in_ok-reply.reply ∷ [] = search rules in
    let before = c.steps.invariant.lasts in
    let step = c.take_step.ensures.lasts in
    record {
      count = omega arith;
      len = search rules;
      room = search rules;
      lasts = lasts_then c.args.keep.now c.steps.keep c.take_step.new.keep before step;
      ran = λ clean sound. step_more c.args.steps.now c.steps.step-index c.step-item.result (g.K.Keep.rows c.args.keep.now) (g.K.Keep.rows c.steps.keep) (g.K.Keep.rows c.take_step.new.keep)
          c.steps.replies.items c.push.new.self.items c.in_ok-reply.reply c.steps-test.true c.step-item.is (sym c.steps.replies.ok.0 ∙ c.steps.invariant.len) pushed
          (c.steps.invariant.ran (step.so_far clean) sound) (c.in_ok-reply.ensures.ok clean (before.kept (step.so_far clean) sound));
    }
