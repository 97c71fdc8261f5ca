use Rattle.machine.proofs.KeepLemmas.{token_revoke_keeps}
use Rattle.machine.proofs.plain.PlainKeepKeep.token_revoke.Goals as goal

pub returns-clause-lasts : goal.returns-clause-lasts
returns-clause-lasts c = record {
  so_far = λ clean. tt;
  kept = λ clean lawful.
      token_revoke_keeps c.revoke.result _ _ c.as_str.result.now c.as_str-2.result.now lawful c.revoke.ensures.own c.revoke.ensures.others;
  keys = λ clean lawful is. tt;
  shield = λ is. tt;
}
