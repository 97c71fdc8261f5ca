use Rattle.std.proofs.lemmas.Result.{on_ok_weaker}
use Rattle.checks.proofs.InTables.{judges_tables}
use Rattle.checks.proofs.JudgingLemmas.{adds_both}
use Rattle.checks.proofs.places.judge_pages.Goals as goal

pub returns-clause-judges : goal.returns-clause-judges
returns-clause-judges c key_of t heads_are versions_are vpages_are =
    on_ok_weaker c.judge_rows.result
    (judges_tables key_of t c.args.heads.now c.args.versions.now c.args.vpages.now c.args.found.now c.pages_apart.new.found c.vpages_apart.new.found c.judge_rows.new.found heads_are versions_are vpages_are c.in_ok-pages_apart.ensures c.in_ok-vpages_apart.ensures)
    c.judge_rows.ensures

pub returns-clause-adds : goal.returns-clause-adds
returns-clause-adds c =
    let x = c.args.found.now.faults in
    let x1 = c.pages_apart.new.found.faults in
    let x2 = c.vpages_apart.new.found.faults in
    let z = c.judge_rows.new.found.faults in
    on_ok_weaker c.judge_rows.result (λ last. adds_both x x1 z c.in_ok-pages_apart.ensures.adds (adds_both x1 x2 z c.in_ok-vpages_apart.ensures.adds last.adds)) c.judge_rows.ensures
