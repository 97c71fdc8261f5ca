use Rattle.std.proofs.Common.{true, false, arith, sym, ◌∙◌}
use Rattle.machine.proofs.PlainLemmas.{version_more}
use Rattle.machine.proofs.units.version_of.Goals.{then-eq, else-eq}
use Rattle.machine.proofs.units.version_of.Goals as goal

pub loop-version-preserved : goal.loop-version-preserved
loop-version-preserved c =
    elim c.if-eq.branch [
      | then-eq w ↦ rw w.found-is (sym (version_more c.args.n c.args.versions.now _ _ true (omega arith) c.version-item.is (sym c.eq.ensures ∙ w.if-eq.true)))
      | else-eq w ↦ rw w.found-is (c.loop-version.invariant ∙ sym (version_more c.args.n c.args.versions.now _ _ false (omega arith) c.version-item.is (sym c.eq.ensures ∙ w.if-eq.false)))
    ]
