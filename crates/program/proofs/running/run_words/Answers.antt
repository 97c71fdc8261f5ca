use Rattle.program.proofs.running.run_words.Goals as goal

pub returns-clause-input : goal.returns-clause-input
returns-clause-input g c = (c.run-exit.result, g.E.ErrorStream.reported c.run-exit.new.errors, c.status.ensures, c.run-exit.ensures.input, c.report_end.ensures)
