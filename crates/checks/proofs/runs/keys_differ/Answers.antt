use Rattle.checks.proofs.Outside.{◌≡◌, ◌∙◌, ◌&&◌, ◌+◌, add-one, ◌∷◌, ap, refl, sym, drop, drop-cons, list_all, contains_text}
use Rattle.checks.specs.Inner.Groups.{lent}
use Rattle.checks.specs.Runs.{keys_differ}
use Rattle.checks.proofs.RunKeys.{is_unseen, all_unseen, one_more}
use Rattle.checks.proofs.runs.keys_differ.Goals as goal

pub loop-run-init : goal.loop-run-init
loop-run-init c = ap (λ b. b && keys_differ (lent c.args.runs.now)) (all_unseen (contains_text c.new-seen.result) (λ q. rw c.new-seen.ensures.empty refl) (lent c.args.runs.now))

-- the key of one run more was seen, and was new
pub loop-run-preserved : goal.loop-run-preserved
loop-run-preserved c =
    let x = c.run-item.result in
    let rest = drop (c.loop-run.run-index + 1) c.args.runs.now in
    let at : drop c.loop-run.run-index c.args.runs.now ≡ x ∷ rest = rw add-one (drop-cons c.args.runs.now c.loop-run.run-index x c.loop-run-test.true) ∙ ap (λ y. y ∷ rest) (sym c.run-item.is) in
    one_more x.now (lent rest) (contains_text c.loop-run.seen) (contains_text c.add_of.new.seen) c.in_ok-fresh.ensures.added (sym c.in_ok-fresh.ensures.fresh ∙ c.if-not-fresh.false)
    ∙ ap (λ l. list_all (is_unseen (contains_text c.loop-run.seen)) (lent l) && keys_differ (lent l)) (sym at) ∙ c.loop-run.invariant
