use Rattle.std.proofs.lemmas.Result.{on_ok_weaker}
use Rattle.checks.proofs.PlacesLemmas.{judges_rows}
use Rattle.checks.proofs.places.judge_rows.Goals as goal

pub returns : goal.returns
returns c =
    on_ok_weaker c.judge_texts.result
    (judges_rows c.args.heads.now c.args.versions.now c.args.vpages.now c.args.found.now c.judge_heads.new.found c.judge_counts.new.found c.judge_places.new.found c.judge_texts.new.found c.in_ok-judge_heads.ensures c.in_ok-judge_counts.ensures c.in_ok-judge_places.ensures)
    c.judge_texts.ensures
