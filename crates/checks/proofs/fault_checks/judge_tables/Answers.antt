use Rattle.checks.proofs.Outside.{List, subst, ◌∙◌, on_ok_weaker, Kept, WsRow}
use Rattle.checks.specs.Judging.{Judges}
use Rattle.checks.specs.Faults.{TooMany}
use Rattle.checks.specs.Inner.Counts.{AreFew}
use Rattle.checks.proofs.JudgingLemmas.{adds_both, judges_both, judges_as}
use Rattle.checks.proofs.MissingLemmas.{missing_in}
use Rattle.checks.proofs.SoundRows.{ws_rows}
use Rattle.checks.proofs.fault_checks.judge_tables.Goals as goal

pub returns-clause-judges : goal.returns-clause-judges
returns-clause-judges c =
    let rows = c.args.rows.now in
    let x = c.args.found.now in
    let x1 = c.judge_pages.new.found in
    let x2 = c.judge_counts.new.found in
    let x3 = c.judge_workspaces.new.found in
    let z = c.judge_missing.new.found in
    on_ok_weaker c.judge_missing.result (λ last key_of t are.
    judges_as x z (λ laws. (laws.0, laws.1.0, laws.1.1.0, laws.1.1.1)) (λ laws. (laws.0, (laws.1, (laws.2, laws.3))))
    (judges_both x x1 z (rw (c.as_slice.ensures, c.as_slice-versions.ensures, c.as_slice-vpages.ensures) at (c.in_ok-judge_pages.ensures.judges key_of t (c.as_slice.ensures ∙ are.pages) (c.as_slice-versions.ensures ∙ are.versions) (c.as_slice-vpages.ensures ∙ are.vpages)))
    (judges_both x1 x2 z (subst (λ (ws : List (Kept WsRow)). Judges (TooMany rows.wss) (AreFew ws) x1 x2) are.wss (rw c.as_slice-wss.ensures at c.in_ok-judge_counts.ensures))
    (judges_both x2 x3 z (c.in_ok-judge_workspaces.ensures.judges t (ws_rows key_of t rows are)) (missing_in t rows.runs rows.wss x3 z are.runs are.wss last)))))
    (rw (c.as_slice-wss.ensures, c.as_slice-runs.ensures) at c.judge_missing.ensures)

pub returns-clause-adds : goal.returns-clause-adds
returns-clause-adds c =
    let x = c.args.found.now.faults in
    let x1 = c.judge_pages.new.found.faults in
    let x2 = c.judge_counts.new.found.faults in
    let x3 = c.judge_workspaces.new.found.faults in
    let z = c.judge_missing.new.found.faults in
    on_ok_weaker c.judge_missing.result (λ last.
    adds_both x x1 z (rw (c.as_slice.ensures, c.as_slice-versions.ensures, c.as_slice-vpages.ensures) at c.in_ok-judge_pages.ensures.adds)
    (adds_both x1 x2 z (rw c.as_slice-wss.ensures at c.in_ok-judge_counts.ensures.adds) (adds_both x2 x3 z c.in_ok-judge_workspaces.ensures.adds last.adds)))
    (rw (c.as_slice-wss.ensures, c.as_slice-runs.ensures) at c.judge_missing.ensures)
