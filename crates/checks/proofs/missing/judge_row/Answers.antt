use Rattle.std.proofs.lemmas.Result.{on_ok_weaker}
use Rattle.checks.proofs.MissingLemmas.{lacks_judged, none_lacks}
use Rattle.checks.proofs.missing.judge_row.Goals as goal

pub returns-in-Some : goal.returns-in-Some
returns-in-Some c runs keyed =
    on_ok_weaker c.note.result (lacks_judged runs c.args.row.now c.in-Some.number c.args.found.now c.note.new.self (c.in-Some.ensures runs keyed)) (rw (c.as_str.ensures, c.as_str-in-Some.ensures) at c.note.ensures)

pub returns-in-None : goal.returns-in-None
returns-in-None c runs keyed = none_lacks runs c.args.row.now c.args.found.now (c.in-None.ensures runs keyed)
