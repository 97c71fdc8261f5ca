use Rattle.std.proofs.Common.{◌∙◌, ap, ap₂, sym, not}
use Rattle.checks.specs.declared.found.FaultKind.TheVariants as kind
use Rattle.checks.specs.Judging.{fault_of}
use Rattle.checks.specs.Faults.{name_fault}
use Rattle.checks.specs.Inner.Groups.{group_in}
use Rattle.checks.specs.Versions.{is_version, version_number, are_versions, unfit_version}
use Rattle.checks.specs.Runs.{run_number, is_run, are_runs, unfit_run}
use Rattle.checks.specs.Workspaces.{retention_among}
use Rattle.checks.proofs.GroupLemmas.{found_group}
use Rattle.checks.proofs.Lent.{found_lent}
use Rattle.checks.proofs.JudgingLemmas.{judges_named}
use Rattle.checks.proofs.RowLemmas.{row_judged}
use Rattle.checks.proofs.workspaces.judge_row.Goals as goal

pub returns : goal.returns
returns c =
    let x = c.args.row.now in
    let groups = c.args.groups.now in
    let of_org = c.as_str-org.ensures in
    let of_ws = c.as_str-ws.ensures in
    let kept = c.rows_at.ensures ∙ found_group c.ws_key-key.result x.org x.name _ _ groups.retentions c.ws_key-key.ensures of_org of_ws in
    let versions = c.rows_at-versions.ensures ∙ found_group c.ws_key-key.result x.org x.name _ _ groups.versions c.ws_key-key.ensures of_org of_ws in
    let runs = c.rows_at-runs.ensures ∙ found_group c.ws_key-key.result x.org x.name _ _ groups.runs c.ws_key-key.ensures of_org of_ws in
    row_judged (group_in x.org x.name groups.retentions) (group_in x.org x.name groups.versions) (group_in x.org x.name groups.runs) x
    c.in_ok-own.own c.in_ok-lawful.lawful c.in_ok-lawful-2.lawful c.get-retention.result c.args.found.now c.judge.new.self c.judge-2.new.self c.judge-3.new.self
    c.in_ok-own.ensures (c.get-retention.ensures.value ∙ c.retention_among.ensures ∙ ap retention_among kept) c.get-retention.ensures.least c.get-retention.ensures.most
    (c.in_ok-lawful.ensures ∙ ap (are_versions c.get-retention.result x.it.next_version) versions) (c.in_ok-lawful-2.ensures ∙ ap (are_runs x.it.holder x.it.next_run) runs)
    (judges_named c.args.found.now c.judge.new.self (ap₂ (name_fault kind.Unlawful) of_org of_ws) c.in_ok-judge.ensures)
    (judges_named c.judge.new.self c.judge-2.new.self (λ j. fault_of kind.Versions (of_org j) (of_ws j) ((c.unfit_version-number.ensures ∙ sym (found_lent (λ v. not (is_version v)) version_number c.rows_at-versions.result.now) ∙ ap unfit_version versions) j)) c.in_ok-judge-2.ensures)
    (judges_named c.judge-2.new.self c.judge-3.new.self (λ j. fault_of kind.Runs (of_org j) (of_ws j) ((c.unfit_run-number.ensures ∙ sym (found_lent (λ r. not (is_run x.it.holder r)) run_number c.rows_at-runs.result.now) ∙ ap (unfit_run x.it.holder) runs) j)) c.in_ok-judge-3.ensures)
