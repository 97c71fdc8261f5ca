use Rattle.checks.proofs.Outside.{◌∙◌, true≢false, sym, on_ok_weaker}
use Rattle.checks.proofs.JudgingLemmas.{judges_right, judges_fault}
use Rattle.checks.proofs.places.judge_place.Goals as goal

pub returns-then-is_placed : goal.returns-then-is_placed
returns-then-is_placed c versions has = judges_right c.args.found.now ((c.is_placed.ensures versions has).0 c.if-is_placed.true)

pub returns : goal.returns
returns c versions has =
    on_ok_weaker c.note.result
    (judges_fault c.args.found.now c.note.new.self (λ law. true≢false (sym ((c.is_placed.ensures versions has).1 law) ∙ c.if-is_placed.false)))
    (rw (c.as_str.ensures, c.as_str-2.ensures) at c.note.ensures)
