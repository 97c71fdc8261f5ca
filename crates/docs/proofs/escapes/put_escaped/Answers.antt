use Rattle.docs.proofs.Outside.{◌∙◌, drop_all}
use Rattle.docs.proofs.Escaping.{escaped_end}
use Rattle.docs.proofs.escapes.put_escaped.Goals as goal

pub returns : goal.returns
returns c = escaped_end c.loop-i.skip c.loop-i.out.items _ (drop_all c.loop-i.i c.args.text.now c.loop-i-test.false) ∙ c.loop-i.invariant
