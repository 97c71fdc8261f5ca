use Rattle.tables.proofs.Outside.{◌≡◌, ◌+◌, List, [], ◌∷◌, ◌++◌, take, Ok, sym, ap, ◌∙◌, subst, take_more}
use Rattle.basis.specs.declared.rows.RunRow.{RunRow as Run}
use Rattle.tables.specs.Inner.Copies.{Carries, with_runs}
use Rattle.tables.proofs.Copying.{related_then}
use Rattle.tables.proofs.KeyedSteps.{paged_then}
use Rattle.tables.proofs.Standing.{runs_carry_on}
use Rattle.tables.proofs.copies.put_runs.Goals as goal

-- one run more
pub runs-preserved : goal.runs-preserved
runs-preserved g c =
    let org = c.args.org.now in
    let ws = c.args.ws.now in
    let runs = c.args.runs.now in
    let i = c.runs.run-index in
    let run = c.run-item.result in
    let next : take (i + 1) runs ≡ take i runs ++ run ∷ [] = take_more runs i run c.runs-test.true ∙ ap (λ (r : Run). take i runs ++ r ∷ []) (sym c.run-item.is) in (
      paged_then g.S.Store c.args.tx.now c.runs.tx c.copy_run.new.tx tt (Ok tt) c.runs.invariant.0 c.in_ok-copy_run.ensures.pages,
      related_then g.S.Store (Carries org ws (with_runs (take i runs))) (Carries org ws (with_runs (run ∷ []))) (Carries org ws (with_runs (take (i + 1) runs))) c.args.tx.now c.runs.tx c.copy_run.new.tx tt (Ok tt)
          (λ t u z first then. subst (λ (rs : List Run). Carries org ws (with_runs rs) t z) (sym next) (runs_carry_on org ws (take i runs) (run ∷ []) t u z first then)) c.runs.invariant.1 c.in_ok-copy_run.ensures.carries,
    )
