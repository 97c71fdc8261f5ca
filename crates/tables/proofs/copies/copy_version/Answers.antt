use Rattle.tables.proofs.Outside.{◌≡◌, [], ◌∷◌, None, when_done, size_of}
use Rattle.tables.specs.Records.{version_of_cells}
use Rattle.tables.specs.Inner.Copies.{Carries, with_versions}
use Rattle.tables.specs.Inner.Edits.{added_rows, FitsTwins}
use Rattle.tables.proofs.Copying.{never_done, version_read, related_in_vain, related_by_both}
use Rattle.tables.proofs.Standing.{version_carries}
use Rattle.tables.proofs.copies.copy_version.Goals as goal

pub returns-in_err-text-clause-copies : goal.returns-in_err-text-clause-copies
returns-in_err-text-clause-copies g c =
    let failed = c.from_residual.ensures.0 in
    (version_of_cells [] c.args.head.now, related_in_vain g.S.Store _ c.args.tx.now c.from_residual.result failed, λ clean. never_done _ c.from_residual.result failed)

pub returns-in_err-version-clause-copies : goal.returns-in_err-version-clause-copies
returns-in_err-version-clause-copies g c =
    let failed = c.from_residual-in_err-version.ensures.0 in
    (version_of_cells [] c.args.head.now, related_in_vain g.S.Store _ c.args.tx.now c.from_residual-in_err-version.result failed, λ clean. never_done _ c.from_residual-in_err-version.result failed)

pub returns-clause-copies : goal.returns-clause-copies
returns-clause-copies g c =
    let org = c.args.org.now in
    let ws = c.args.ws.now in
    let head = c.args.head.now in
    let v = c.in_ok-version.version in
    let keys = c.add.ensures.adds.0 in
    let added = c.add.ensures.adds.1 in (
      v,
      related_by_both g.S.Store (λ t. size_of org ws v.number t ≡ None) (FitsTwins keys org ws v) (added_rows keys org ws v) (Carries org ws (with_versions (v ∷ []))) c.args.tx.now c.add.new.tx c.add.result
          (version_carries keys org ws v) added.steps c.add.ensures.fresh added.reports,
      λ clean. when_done c.add.result (λ f holds. version_read f org ws head c.in_ok-text.text v c.in_ok-version.ensures ((c.in_ok-text.ensures.queries.sees clean).0 f holds)),
    )

pub returns-in_err-text-clause-keyed : goal.returns-in_err-text-clause-keyed
returns-in_err-text-clause-keyed g c = related_in_vain g.S.Store _ c.args.tx.now c.from_residual.result c.from_residual.ensures.0

pub returns-in_err-version-clause-keyed : goal.returns-in_err-version-clause-keyed
returns-in_err-version-clause-keyed g c = related_in_vain g.S.Store _ c.args.tx.now c.from_residual-in_err-version.result c.from_residual-in_err-version.ensures.0
