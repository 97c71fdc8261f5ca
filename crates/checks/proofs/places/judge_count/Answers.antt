use Rattle.checks.proofs.Outside.{◌∙◌, sym, on_ok_weaker}
use Rattle.checks.proofs.JudgingLemmas.{judges_right, judges_fault}
use Rattle.checks.proofs.PlacesLemmas.{count_here}
use Rattle.checks.proofs.places.judge_count.Goals as goal

pub returns-then-count-head : goal.returns-then-count-head
returns-then-count-head c vpages has =
    judges_right c.args.found.now (sym c.if-count-head.true ∙ count_here vpages c.args.head.now c.count_at-count.result c.page_key.result c.args.counts.now has c.page_key.ensures c.count_at-count.ensures)

pub returns : goal.returns
returns c vpages has =
    let here = count_here vpages c.args.head.now c.count_at-count.result c.page_key.result c.args.counts.now has c.page_key.ensures c.count_at-count.ensures in
    on_ok_weaker c.note_page.result (judges_fault c.args.found.now c.note_page.new.found (λ law. c.if-count-head.false (here ∙ sym law))) c.note_page.ensures
