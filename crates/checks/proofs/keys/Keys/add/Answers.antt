use Rattle.checks.proofs.Outside.{not, ap, ◌∙◌, list_any}
use Rattle.checks.specs.Inner.Keys.{is_key}
use Rattle.checks.proofs.KeyLemmas.{key_among, key_added}
use Rattle.checks.proofs.keys.Keys.add.Goals as goal

pub returns-clause-fresh : goal.returns-clause-fresh
returns-clause-fresh c = c.in_ok-insert.ensures.added ∙ ap not (key_among c.args.key c.args.self.now.keys.keys)

pub returns-clause-added : goal.returns-clause-added
returns-clause-added c = λ first second number place.
    ap (list_any (is_key first second number place)) c.in_ok-insert.ensures.keys ∙ key_added first second number place c.args.key c.args.self.now.keys.keys
