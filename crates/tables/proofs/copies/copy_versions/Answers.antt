use Rattle.tables.proofs.Outside.{⊤, [], ◌∷◌, ◌++◌, Ok, refl, state, still_holds, sees_then}
use Rattle.tables.specs.Records.{version_at}
use Rattle.tables.specs.Inner.Copies.{Carries, with_versions}
use Rattle.tables.specs.Inner.Keys.{KeepsKeys}
use Rattle.tables.proofs.Copying.{mapped_more, related_none, related_then, seen_none}
use Rattle.tables.proofs.KeyedSteps.{keyed_then}
use Rattle.tables.proofs.Standing.{no_versions_carry, versions_carry_on}
use Rattle.tables.proofs.copies.copy_versions.Goals as goal

pub versions-init : goal.versions-init
versions-init g c =
    let org = c.args.org.now in
    let ws = c.args.ws.now in
    (seen_none g.T.Store c.args.from.now tt, related_none g.S.Store (KeepsKeys g.K.PageKey.key_of) c.args.tx.now tt (λ t keyed. keyed), ([], related_none g.S.Store (Carries org ws (with_versions [])) c.args.tx.now tt (no_versions_carry org ws), λ clean f holds. refl))

-- one version more
pub versions-preserved : goal.versions-preserved
versions-preserved g c =
    let org = c.args.org.now in
    let ws = c.args.ws.now in
    let some = c.versions.invariant in
    let one = c.in_ok-copy_version.ensures in
    let vs = some.2.0 in
    let v = one.copies.0 in
    let s0 = state g.T.Store c.args.from.now in
    let s1 = state g.T.Store c.versions.from in (
      sees_then g.T.Store (λ _ _. ⊤) (λ _ _. ⊤) (λ _ _. ⊤) c.args.from.now c.versions.from c.copy_version.new.from tt (Ok tt) (λ x t first then. tt) some.0 one.unchanged,
      keyed_then g.S.Store g.K.PageKey.key_of c.args.tx.now c.versions.tx c.copy_version.new.tx tt (Ok tt) some.1 one.keyed,
      (
        vs ++ v ∷ [],
        related_then g.S.Store (Carries org ws (with_versions vs)) (Carries org ws (with_versions (v ∷ []))) (Carries org ws (with_versions (vs ++ v ∷ []))) c.args.tx.now c.versions.tx c.copy_version.new.tx tt (Ok tt)
            (versions_carry_on org ws vs (v ∷ [])) some.2.1 one.copies.1,
        λ clean f holds.
            let before = one.unchanged.so_far clean in
            mapped_more (version_at f org ws) c.args.heads.now c.versions.head-index c.head-item.result vs v c.versions-test.true c.head-item.is (some.2.2 before f holds)
            (one.copies.2 clean f (still_holds s0 s1 (some.0.sees before).1.0 f holds)),
      ),
    )
