use Rattle.tables.proofs.Outside.{Error, refl, Tables}
use Rattle.tables.specs.declared.loading.LoadedWorkspace.{LoadedWorkspace}
use Rattle.tables.specs.Records.{version_at, workspace_by}
use Rattle.tables.specs.Sound.{IsSound}
use Rattle.tables.specs.Inner.Comparing.{AreAlike, AreMappedAlike}
use Rattle.tables.specs.Inner.Copies.{IsWhole}
use Rattle.tables.proofs.Comparing.{differ, looks_then, workspace_alike}
use Rattle.tables.proofs.comparisons.same_workspace.Goals as goal

pub returns-then-not-same_loaded-clause-same : goal.returns-then-not-same_loaded-clause-same
returns-then-not-same_loaded-clause-same g c = differ g.S.Store Error _ c.args.one.now c.load_workspace.new.conn c.args.other.now c.load_workspace-2.new.conn _ refl

pub returns-clause-same : goal.returns-clause-same
returns-clause-same g c =
    let org = c.args.org.now in
    let ws = c.args.ws.now in
    let loaded = c.in_ok-loaded.loaded in
    let found = c.in_ok-found.found in
    let says : LoadedWorkspace → Tables → Type 0 = λ whole f. IsSound f → IsWhole org ws f whole.it whole.retention whole.versions whole.runs in
    looks_then g.S.Store says says (AreMappedAlike (λ t. version_at t org ws) loaded.versions) (AreAlike (λ t. workspace_by t org) ws)
    c.args.one.now c.load_workspace.new.conn c.same_versions.new.one c.args.other.now c.load_workspace-2.new.conn c.same_versions.new.other loaded found c.same_versions.result
    (λ f t sound good read there texts. workspace_alike org ws loaded found (c.same_loaded.ensures c.if-not-same_loaded.false) f t (read sound) (there good) texts)
    c.in_ok-loaded.ensures c.in_ok-found.ensures c.same_versions.ensures.first.so_far c.same_versions.ensures.second.so_far (rw c.as_slice.ensures at c.same_versions.ensures.same)
