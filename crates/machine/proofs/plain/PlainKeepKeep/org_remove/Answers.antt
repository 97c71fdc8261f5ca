use Rattle.machine.proofs.KeepLemmas.{org_remove_keeps}
use Rattle.machine.proofs.plain.PlainKeepKeep.org_remove.Goals as goal

pub returns-clause-lasts : goal.returns-clause-lasts
returns-clause-lasts c = record {
  so_far = λ clean. tt;
  kept = λ clean lawful.
      org_remove_keeps c.leave.result _ _ c.as_str.result.now _ lawful c.leave.ensures.own c.leave.ensures.others;
  keys = λ clean lawful is. tt;
  shield = λ is. tt;
}
