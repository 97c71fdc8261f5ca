use Rattle.machine.proofs.KeepLemmas.{org_limit_keeps}
use Rattle.machine.proofs.plain.PlainKeepKeep.org_limit.Goals as goal

pub returns-clause-lasts : goal.returns-clause-lasts
returns-clause-lasts c = record {
  so_far = λ clean. tt;
  kept = λ clean lawful.
      org_limit_keeps c.limit.result _ _ c.as_str.result.now c.args.limit (rw (← c.get.ensures.value) c.get.ensures.most) lawful c.limit.ensures.own c.limit.ensures.others;
  keys = λ clean lawful is. tt;
  shield = λ is. tt;
}
