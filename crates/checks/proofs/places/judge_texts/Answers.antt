use Rattle.std.proofs.lemmas.Result.{on_ok_weaker}
use Rattle.checks.proofs.JudgingLemmas.{judges_both}
use Rattle.checks.proofs.places.judge_texts.Goals as goal

pub returns : goal.returns
returns c =
    let heads = c.args.heads.now in
    let sized = c.in_ok-sizes.ensures in
    let names = c.in_ok-judge_names.ensures heads sized in
    on_ok_weaker c.judge_wholes.result (judges_both c.args.found.now c.judge_names.new.found c.judge_wholes.new.found names) (c.judge_wholes.ensures heads c.args.vpages.now (c.in_ok-pieces.ensures heads sized))
