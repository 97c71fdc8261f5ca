use Rattle.machine.proofs.KeepLemmas.{apply_keeps}
use Rattle.machine.proofs.plain.PlainKeepKeep.apply.Goals as goal

pub returns-clause-kept : goal.returns-clause-kept
returns-clause-kept c = λ clean lawful o there due.
    let org = c.as_str.ensures.text in
    let ws = c.as_str-2.ensures.text in
    apply_keeps c.apply.result _ _ c.as_str.result.now c.as_str-2.result.now c.args.change.now o (rw ws c.as_str-2.ensures.fits) lawful (rw org there) (rw ws due)
    c.apply.ensures.own c.apply.ensures.others c.apply.ensures.err
