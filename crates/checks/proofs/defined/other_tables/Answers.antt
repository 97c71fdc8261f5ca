use Rattle.checks.proofs.Outside.{◌≡◌, [], refl, ap, ◌∙◌, subst, take_all}
use Rattle.checks.specs.Judging.{noted, OfSome, Decides, AreReported}
use Rattle.checks.specs.Faults.{table_fault}
use Rattle.checks.proofs.StoreLemmas.{none_reported, noted_more, reported_more_names}
use Rattle.checks.proofs.defined.other_tables.Goals as goal

pub loop-name-init : goal.loop-name-init
loop-name-init c = record { decides = record { holds = λ clean. refl; clean = λ none. c.new-found.ensures }; reported = none_reported c.new-found.result.faults c.new-found.ensures }

pub loop-name-preserved : goal.loop-name-preserved
loop-name-preserved c =
    let is = c.in_ok-note.ensures ∙ ap (λ name. noted (table_fault name) c.loop-name.found.faults) c.as_str.ensures in
    record {
      decides = noted_more c.args.names.now c.loop-name.name-index _ c.loop-name.found c.note.new.self c.loop-name-test.true is;
      reported = reported_more_names c.args.names.now c.loop-name.name-index c.name-item.result c.loop-name.found.faults c.note.new.self.faults c.loop-name-test.true c.name-item.is is c.loop-name.invariant.reported;
    }

pub returns-clause-decides : goal.returns-clause-decides
returns-clause-decides c = subst (λ l. Decides (l ≡ []) c.loop-name.found) (take_all c.loop-name.name-index c.args.names.now c.loop-name-test.false) c.loop-name.invariant.decides

pub returns-clause-reported : goal.returns-clause-reported
returns-clause-reported c = subst (λ l. AreReported (OfSome (λ name f. f ≡ table_fault name) l) c.loop-name.found.faults) (take_all c.loop-name.name-index c.args.names.now c.loop-name-test.false) c.loop-name.invariant.reported
