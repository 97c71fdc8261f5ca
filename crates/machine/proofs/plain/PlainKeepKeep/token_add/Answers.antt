use Rattle.std.proofs.Common.{sym, subst}
use Rattle.machine.specs.Laws.{IsToken}
use Rattle.machine.proofs.KeepLemmas.{token_add_keeps}
use Rattle.machine.proofs.plain.PlainKeepKeep.token_add.Goals as goal

pub returns-clause-lasts : goal.returns-clause-lasts
returns-clause-lasts c = record {
  so_far = λ clean. tt;
  kept = λ clean lawful.
      let name = c.as_str.ensures.text in
      let fits : IsToken c.in_ok-name.name c.in_ok-token.token = subst (IsToken c.in_ok-name.name) (sym c.in_ok-token.ensures.ok) (record {
        named = rw (c.in_ok-name.ensures, name) c.as_str.ensures.fits;
        digest = c.told-digest;
        until = c.new.ensures.until;
        prefix = c.new.ensures.prefix;
      }) in
      token_add_keeps c.add_token.result _ _ c.as_str-2.result.now c.in_ok-name.name c.in_ok-token.token fits lawful c.add_token.ensures.own c.add_token.ensures.others c.add_token.ensures.err;
  keys = λ clean lawful is. tt;
  shield = λ is. tt;
}
