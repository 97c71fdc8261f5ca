use Rattle.std.proofs.lemmas.Result.{err_from_is_err_and}
use Rattle.wire.proofs.LinkLemmas.{WritesPrefix-longer, Writes-then}
use Rattle.wire.proofs.replies.write_both.Goals as goal

pub returns-in_err-write_all-clause-text : goal.returns-in_err-write_all-clause-text
returns-in_err-write_all-clause-text g c =
    let p = err_from_is_err_and c.from_residual.result c.from_residual.ensures.1 in
    rw p.1 (WritesPrefix-longer _ _ c.args.head.now c.args.body.now c.in_err-write_all.ensures.text)

pub returns-clause-text : goal.returns-clause-text
returns-clause-text g c =
    Writes-then _ _ _ c.args.head.now c.args.body.now c.write_all-2.result c.in_ok-write_all.ensures.text c.write_all-2.ensures.text
