use Rattle.checks.proofs.Outside.{◌≡◌, ℕ, ◌+◌, ◌==◌, not, cond, List, [], ◌∷◌, ◌++◌, Option, take, refl, sym, ap, subst, arith, ◌∙◌, unwrap_or, get, take_all}
use Rattle.checks.specs.declared.found.FaultKind.TheVariants as kind
use Rattle.checks.specs.Judging.{Judges}
use Rattle.checks.specs.Faults.{org_fault, TooMany}
use Rattle.checks.specs.Inner.Firsts.{key_cmp, value_at}
use Rattle.checks.specs.Workspaces.{count_in}
use Rattle.checks.specs.Inner.Counts.{AreFew}
use Rattle.checks.proofs.FirstsLemmas.{at_key, empty_at}
use Rattle.checks.proofs.GroupLemmas.{org_parts}
use Rattle.checks.proofs.JudgingLemmas.{judges_named}
use Rattle.checks.proofs.RowLists.{next_row}
use Rattle.checks.proofs.CountLemmas.{one_counted, one_judged, counted_below, none_judged}
use Rattle.checks.proofs.counts.judge_counts.Goals as goal

pub loop-row-init : goal.loop-row-init
loop-row-init c = record {
  counted = λ org. ap (λ (o : Option ℕ). unwrap_or o 0) (empty_at org [] 0 0 c.new-counts.result c.new-counts.ensures.empty);
  judged = none_judged c.args.found.now;
}

pub add_one-requires : goal.add_one-requires
add_one-requires c =
    let org = c.as_str-org.result.now in
    let count : unwrap_or (get key_cmp c.loop-row.counts c.ws_key-key.result) 0 ≡ count_in (take c.loop-row.row-index c.args.wss.now) org =
    ap (λ (o : Option ℕ). unwrap_or o 0) (sym (at_key org [] 0 0 c.ws_key-key.result c.loop-row.counts c.ws_key-key.ensures)) ∙ c.loop-row.invariant.counted org in
    let below = counted_below c.args.wss.now c.loop-row.row-index org c.loop-row-test.true in
    omega (arith, count, below)

-- one workspace more was counted, and looked at
pub loop-row-preserved : goal.loop-row-preserved
loop-row-preserved c =
    let x = c.loop-row-item.result in
    let i = c.loop-row.row-index in
    let xs = take i c.args.wss.now in
    let longer : xs ++ x ∷ [] ≡ take (i + 1) c.args.wss.now = sym (next_row c.args.wss.now i x c.loop-row-test.true c.loop-row-item.is) in
    let counted : (org : List ℕ) → unwrap_or (value_at org [] 0 0 c.add_one.new.counts) 0 ≡ count_in (xs ++ x ∷ []) org = λ org.
    one_counted xs x org (unwrap_or (value_at org [] 0 0 c.loop-row.counts) 0) _ (c.loop-row.invariant.counted org)
    (c.in_ok-add_one.ensures org [] 0 0 ∙ ap (λ b. unwrap_or (value_at org [] 0 0 c.loop-row.counts) 0 + cond b 1 0) (org_parts c.ws_key-key.result x.1.org org c.as_str-org.result.now c.ws_key-key.ensures c.as_str-org.ensures)) in
    let count_is : c.count_at-count.result ≡ count_in (xs ++ x ∷ []) x.1.org =
    c.count_at-count.ensures ∙ ap (λ (o : Option ℕ). unwrap_or o 0) (sym (at_key c.as_str-org.result.now [] 0 0 c.ws_key-key.result c.add_one.new.counts c.ws_key-key.ensures))
    ∙ (λ j. unwrap_or (value_at (c.as_str-org.ensures j) [] 0 0 c.add_one.new.counts) 0) ∙ counted x.1.org in
    record {
      counted = λ org. counted org ∙ ap (λ l. count_in l org) longer;
      judged = subst (λ l. Judges (TooMany l) (AreFew l) c.args.found.now c.judge.new.self) longer
          (one_judged xs x c.count_at-count.result (not (c.count_at-count.result == 100_001)) c.args.found.now c.loop-row.found c.judge.new.self count_is refl c.loop-row.invariant.judged (judges_named c.loop-row.found c.judge.new.self (ap (org_fault kind.TooMany) c.as_str-org.ensures) c.in_ok-judge.ensures));
    }

pub returns : goal.returns
returns c = subst (λ l. Judges (TooMany l) (AreFew l) c.args.found.now c.loop-row.found) (take_all c.loop-row.row-index c.args.wss.now c.loop-row-test.false) c.loop-row.invariant.judged
