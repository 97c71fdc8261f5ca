use Rattle.tables.proofs.Outside.{[], map, Ok, ap, ◌∙◌, when_done}
use Rattle.tables.specs.Records.{version_at, workspace_of_cells}
use Rattle.tables.specs.Inner.Copies.{Carries, with_versions, with_runs, Begins}
use Rattle.tables.proofs.Copying.{never_done, related_failed, related_then}
use Rattle.tables.specs.Inner.Keys.{KeepsKeys}
use Rattle.tables.proofs.KeyedSteps.{keyed_then, keyed_pages}
use Rattle.tables.proofs.Standing.{begins_then}
use Rattle.tables.proofs.copies.copy_parts.Goals as goal

pub returns-in_err-copy_versions-clause-copies : goal.returns-in_err-copy_versions-clause-copies
returns-in_err-copy_versions-clause-copies g c =
    let org = c.args.org.now in
    let ws = c.args.ws.now in
    let loaded = c.args.loaded.now in
    let vs = c.in_err-copy_versions.ensures.copies.0 in
    let begun = workspace_of_cells loaded.retention loaded.it [] [] in
    let some = workspace_of_cells loaded.retention loaded.it vs [] in
    let failed = c.from_residual-in_err-copy_versions.ensures.0 in
    let result = c.from_residual-in_err-copy_versions.result in (
      some,
      related_then g.S.Store (Begins org ws begun) (Carries org ws (with_versions vs)) (Begins org ws some) c.args.tx.now c.put_head.new.tx c.copy_versions.new.tx tt result (begins_then org ws begun (with_versions vs)) c.in_ok-put_head.ensures.begins
          (related_failed g.S.Store (Carries org ws (with_versions vs)) (Carries org ws (with_versions vs)) c.put_head.new.tx c.copy_versions.new.tx c.in_err-copy_versions.field-0.0 result failed c.in_err-copy_versions.ensures.copies.1),
      λ clean. never_done _ result failed,
    )

pub returns-clause-copies : goal.returns-clause-copies
returns-clause-copies g c =
    let org = c.args.org.now in
    let ws = c.args.ws.now in
    let loaded = c.args.loaded.now in
    let copied = c.in_ok-copy_versions.ensures.copies in
    let vs = copied.0 in
    let runs = c.as_slice-2.result.now in
    let begun = workspace_of_cells loaded.retention loaded.it [] [] in
    let some = workspace_of_cells loaded.retention loaded.it vs [] in
    let all = workspace_of_cells loaded.retention loaded.it vs runs in (
      all,
      related_then g.S.Store (Begins org ws some) (Carries org ws (with_runs runs)) (Begins org ws all) c.args.tx.now c.copy_versions.new.tx c.put_runs.new.tx tt c.put_runs.result (begins_then org ws some (with_runs runs))
          (related_then g.S.Store (Begins org ws begun) (Carries org ws (with_versions vs)) (Begins org ws some) c.args.tx.now c.put_head.new.tx c.copy_versions.new.tx tt (Ok tt) (begins_then org ws begun (with_versions vs)) c.in_ok-put_head.ensures.begins copied.1)
          c.put_runs.ensures.carries,
      λ clean. when_done c.put_runs.result (λ f holds.
          let versions_are = copied.2 clean f holds ∙ ap (map (version_at f org ws)) c.as_slice.ensures in
          λ i. workspace_of_cells loaded.retention loaded.it (versions_are i) (c.as_slice-2.ensures i)),
    )

pub returns-in_err-copy_versions-clause-keyed : goal.returns-in_err-copy_versions-clause-keyed
returns-in_err-copy_versions-clause-keyed g c =
    let key_of = g.K.PageKey.key_of in
    let result = c.from_residual-in_err-copy_versions.result in
    keyed_then g.S.Store key_of c.args.tx.now c.put_head.new.tx c.copy_versions.new.tx tt result (keyed_pages g.S.Store key_of c.args.tx.now c.put_head.new.tx (Ok tt) c.in_ok-put_head.ensures.pages)
    (related_failed g.S.Store (KeepsKeys key_of) (KeepsKeys key_of) c.put_head.new.tx c.copy_versions.new.tx c.in_err-copy_versions.field-0.0 result c.from_residual-in_err-copy_versions.ensures.0 c.in_err-copy_versions.ensures.keyed)

pub returns-clause-keyed : goal.returns-clause-keyed
returns-clause-keyed g c =
    let key_of = g.K.PageKey.key_of in
    keyed_then g.S.Store key_of c.args.tx.now c.copy_versions.new.tx c.put_runs.new.tx tt c.put_runs.result
    (keyed_then g.S.Store key_of c.args.tx.now c.put_head.new.tx c.copy_versions.new.tx tt (Ok tt) (keyed_pages g.S.Store key_of c.args.tx.now c.put_head.new.tx (Ok tt) c.in_ok-put_head.ensures.pages) c.in_ok-copy_versions.ensures.keyed)
    (keyed_pages g.S.Store key_of c.copy_versions.new.tx c.put_runs.new.tx c.put_runs.result c.put_runs.ensures.pages)
