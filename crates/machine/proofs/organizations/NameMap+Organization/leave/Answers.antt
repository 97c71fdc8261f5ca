use Rattle.machine.proofs.Outside.{ap, sym, ◌∙◌, option_copied, get}
use Rattle.machine.proofs.MapLemmas.{removed_own, removed_other}
use Rattle.machine.proofs.PlainLemmas.{use_seen, removal_refused, unused_removed, forced_removed}
use Rattle.machine.proofs.organizations.NameMap+Organization.leave.Goals.{else-not-is_forced-via-then-not-is_forced+else-has_use, else-not-is_forced-via-else-not-is_forced}
use Rattle.machine.proofs.organizations.NameMap+Organization.leave.Goals as goal

pub returns-then-has_use-clause-own : goal.returns-then-has_use-clause-own
returns-then-has_use-clause-own c =
    let was = sym (ap option_copied c.in-Some.is) ∙ c.get.ensures in
    let used = use_seen c.in-Some.organization.now (λ e. e.name) (λ e. e.value) c.entries.result.now c.entries.ensures in
    removal_refused c.args.is_forced _ _ was c.if-not-is_forced.true (sym used ∙ sym c.has_use.ensures ∙ c.if-has_use.true)

pub returns-clause-own : goal.returns-clause-own
returns-clause-own c =
    let was = sym (ap option_copied c.in-Some.is) ∙ c.get.ensures in
    let gone = ap (λ m. get m c.args.org.now) c.remove.ensures.removed ∙ removed_own c.args.self.now c.args.org.now in
    elim c.else-not-is_forced.branch [
      | else-not-is_forced-via-then-not-is_forced+else-has_use w ↦
          let used = use_seen c.in-Some.organization.now (λ e. e.name) (λ e. e.value) w.entries.result.now w.entries.ensures in
          unused_removed c.args.is_forced _ _ was _ gone w.if-not-is_forced.true (sym used ∙ sym w.has_use.ensures ∙ w.if-has_use.false)
      | else-not-is_forced-via-else-not-is_forced w ↦ forced_removed c.args.is_forced _ _ was _ gone w.if-not-is_forced.false
    ]

pub returns-clause-others : goal.returns-clause-others
returns-clause-others c = λ o apart. ap (λ m. get m o) c.remove.ensures.removed ∙ removed_other c.args.self.now c.args.org.now o apart
