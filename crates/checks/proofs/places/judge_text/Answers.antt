use Rattle.checks.proofs.Outside.{◌∙◌, true≢false, sym, on_ok_weaker}
use Rattle.checks.proofs.JudgingLemmas.{judges_right, judges_fault}
use Rattle.checks.proofs.places.judge_text.Goals as goal

pub returns-then-is_whole-clause-judges : goal.returns-then-is_whole-clause-judges
returns-then-is_whole-clause-judges c heads vpages has known =
    judges_right c.args.found.now ((c.is_whole.ensures heads vpages has (c.in_ok-run.ensures.run heads vpages has known)).0 c.if-is_whole.true)

pub returns-clause-judges : goal.returns-clause-judges
returns-clause-judges c heads vpages has known =
    on_ok_weaker c.note.result
    (judges_fault c.args.found.now c.note.new.self (λ law. true≢false (sym ((c.is_whole.ensures heads vpages has (c.in_ok-run.ensures.run heads vpages has known)).1 law) ∙ c.if-is_whole.false)))
    (rw (c.as_str.ensures, c.as_str-2.ensures, c.from-number.ensures ∙ c.get.ensures.value) at c.note.ensures)
