use Rattle.checks.proofs.Outside.{◌≡◌, true, subst, ◌∙◌, list_any, take_all, AreAmong, is_of}
use Rattle.checks.specs.Judging.{fault_of, Breaks, Judges}
use Rattle.checks.specs.Faults.{Unmatched}
use Rattle.checks.specs.Inner.Keys.{has_key}
use Rattle.checks.proofs.JudgingLemmas.{judges_where, judges_named}
use Rattle.checks.proofs.KeyLemmas.{reported_by}
use Rattle.checks.proofs.RowLists.{all_judged}
use Rattle.checks.proofs.owners.all_among.Goals as goal

pub loop-row-preserved : goal.loop-row-preserved
loop-row-preserved g c =
    let x = c.loop-row-item.result in
    let reported =
    reported_by c.has_texts-known.result (λ m n. has_key c.in_ok-keys.keys m n 0 0) c.as_bytes.result.now c.as_bytes-in-loop-row.result.now x.1.org x.1.name _
    c.has_texts-known.ensures (c.as_bytes.ensures.value ∙ c.as_str-org.ensures) (c.as_bytes-in-loop-row.ensures.value ∙ c.as_str-name.ensures) (c.in_ok-keys.ensures x.1.org x.1.name) in
    all_judged (λ y. Breaks (list_any (is_of y.1.org y.1.name) c.args.others.now ≡ true) (fault_of c.args.kind y.1.org y.1.name (g.T.Numbered.number_of y.1.it)))
    (λ y. list_any (is_of y.1.org y.1.name) c.args.others.now ≡ true)
    c.args.rows.now c.loop-row.row-index x c.args.found.now c.loop-row.found c.judge.new.self c.loop-row-test.true c.loop-row-item.is
    c.loop-row.invariant (judges_where reported (judges_named c.loop-row.found c.judge.new.self (λ j. fault_of c.args.kind (c.as_str-org.ensures j) (c.as_str-name.ensures j) (c.number-number.ensures j)) c.in_ok-judge.ensures))

pub returns : goal.returns
returns g c = subst (λ l. Judges (Unmatched c.args.kind g.T.Numbered.number_of c.args.others.now l) (AreAmong c.args.others.now l) c.args.found.now c.loop-row.found) (take_all c.loop-row.row-index c.args.rows.now c.loop-row-test.false) c.loop-row.invariant
