use Rattle.checks.proofs.Outside.{◌∙◌, true≢false, sym, on_ok_weaker}
use Rattle.checks.proofs.JudgingLemmas.{judges_right, judges_fault}
use Rattle.checks.proofs.found.Found.judge.Goals as goal

pub returns-then-holds : goal.returns-then-holds
returns-then-holds c = judges_right c.args.self.now c.if-holds.true

pub returns : goal.returns
returns c = on_ok_weaker c.note.result (judges_fault c.args.self.now c.note.new.self (λ h. true≢false (sym h ∙ c.if-holds.false))) c.note.ensures
