use Rattle.machine.proofs.KeepLemmas.{org_add_keeps}
use Rattle.machine.proofs.plain.PlainKeepKeep.org_add.Goals as goal

pub returns-clause-lasts : goal.returns-clause-lasts
returns-clause-lasts c = record {
  so_far = λ clean. tt;
  kept = λ clean lawful.
      org_add_keeps c.add.result _ _ c.as_str.result.now c.args.limit (rw (← c.get.ensures.value) c.get.ensures.most) lawful c.add.ensures.own c.add.ensures.others c.add.ensures.err;
  keys = λ clean lawful is. tt;
  shield = λ is. tt;
}
