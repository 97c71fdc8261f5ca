use Rattle.std.proofs.Common.{sym, length, arith, ◌∙◌}
use Rattle.std.proofs.lemmas.List.Sums.{position_or_len_is}
use Rattle.wire.specs.Targets.{ends_host}
use Rattle.wire.proofs.heads.host_len.Goals as goal

pub returns-then-ends_host-clause-position : goal.returns-then-ends_host-clause-position
returns-then-ends_host-clause-position c =
    sym (position_or_len_is ends_host c.args.rest.now c.loop-i.i 0 (omega arith) c.loop-i.invariant (λ h. sym c.ends_host.ensures ∙ c.if-ends_host.true))

pub returns-clause-position : goal.returns-clause-position
returns-clause-position c =
    sym (position_or_len_is ends_host c.args.rest.now (length c.args.rest.now) 0 (omega arith) (λ k h. c.loop-i.invariant k (omega (arith, h))) (λ h. absurd (omega arith)))
