use Rattle.tables.proofs.Outside.{Error, refl}
use Rattle.tables.specs.Records.{version_at}
use Rattle.tables.proofs.Comparing.{differ, mapped_all, none_yet, one_more}
use Rattle.tables.proofs.comparisons.same_versions.Goals as goal

pub items-init : goal.items-init
items-init g c = none_yet g.S.Store (λ t. version_at t c.args.org.now c.args.ws.now) c.args.heads.now c.args.one.now c.args.other.now

pub items-preserved : goal.items-preserved
items-preserved g c =
    one_more g.S.Store (λ t. version_at t c.args.org.now c.args.ws.now) c.args.heads.now c.items.head-index c.head-item.result c.args.one.now c.items.one c.same_text.new.one c.args.other.now c.items.other c.same_text.new.other c.in_ok-same_text.field-0
    c.items-test.true c.head-item.is c.if-not-branch.false c.items.invariant c.in_ok-same_text.ensures.first c.in_ok-same_text.ensures.second c.in_ok-same_text.ensures.same

pub returns-then-not-branch-clause-same : goal.returns-then-not-branch-clause-same
returns-then-not-branch-clause-same g c = differ g.S.Store Error _ c.args.one.now c.same_text.new.one c.args.other.now c.same_text.new.other _ refl

pub returns-clause-same : goal.returns-clause-same
returns-clause-same g c = mapped_all g.S.Store (λ t. version_at t c.args.org.now c.args.ws.now) c.args.heads.now c.items.head-index c.args.one.now c.items.one c.args.other.now c.items.other c.items-test.false c.items.invariant
