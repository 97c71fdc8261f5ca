use Rattle.program.proofs.serving.exchange_one.Goals as goal

pub returns-clause-timely : goal.returns-clause-timely
returns-clause-timely g c = rw (← c.seconds.ensures.value) c.seconds.ensures.most
