use Rattle.checks.proofs.Outside.{◌≡◌, ◌+◌, ◌++◌, ◌∷◌, [], map, take, ap, sym, subst, ◌∙◌, map-append, take_all}
use Rattle.checks.specs.Totals.{IsGreatest, made_at}
use Rattle.checks.proofs.RowLists.{next_row}
use Rattle.checks.proofs.totals.newest.Goals as goal

pub loop-row-preserved : goal.loop-row-preserved
loop-row-preserved c =
    let xs = take c.loop-row.row-index c.args.versions.now in
    let longer : map made_at xs ++ c.seconds.result ∷ [] ≡ map made_at (take (c.loop-row.row-index + 1) c.args.versions.now) =
    ap (λ n. map made_at xs ++ n ∷ []) c.seconds.ensures.value ∙ sym (map-append made_at xs (c.row-item.result ∷ [])) ∙ sym (ap (map made_at) (next_row c.args.versions.now c.loop-row.row-index c.row-item.result c.loop-row-test.true c.row-item.is)) in
    subst (λ l. IsGreatest l c.later-newest.result) longer (c.later-newest.ensures (map made_at xs) c.loop-row.invariant)

pub returns : goal.returns
returns c = subst (λ l. IsGreatest (map made_at l) c.loop-row.newest) (take_all c.loop-row.row-index c.args.versions.now c.loop-row-test.false) c.loop-row.invariant
