use Rattle.std.proofs.Common.{Ok, None, Err}
use Rattle.program.proofs.RemoveLemmas.{compared_stay, removes_none, removes_one, removes_failed}
use Rattle.program.proofs.removing.remove_same.Goals as goal

pub returns-in-Err : goal.returns-in-Err
returns-in-Err g c =
    let copy = c.copy.ensures in
    removes_none g.K.Keep c.args.is_forced c.args.org.now c.args.copy.now c.copy.new.from c.args.store.now c.copy.new.to copy.source copy.lasts (Err c.in-Err.down)
    (λ clean sound clean_copy sound_copy stays. stays) (λ clean sound clean_copy sound_copy. c.in-Err.ensures.err clean)

pub returns-then-not-says_same : goal.returns-then-not-says_same
returns-then-not-says_same g c =
    let rows = g.K.Keep.rows in
    let copy = c.copy.ensures in
    removes_none g.K.Keep c.args.is_forced c.args.org.now c.args.copy.now c.copy.new.from c.args.store.now c.copy.new.to copy.source copy.lasts (Ok None)
    (λ clean sound clean_copy sound_copy stays. stays)
    (λ clean sound clean_copy sound_copy. compared_stay (rows c.args.store.now) (rows c.copy.new.to) c.args.org.now (c.in-Ok.ensures.own clean sound clean_copy sound_copy).0 (copy.others clean sound clean_copy sound_copy))

pub returns-in-Ok-org_remove : goal.returns-in-Ok-org_remove
returns-in-Ok-org_remove g c =
    let rows = g.K.Keep.rows in
    let copy = c.copy.ensures in
    removes_one g.K.Keep c.args.is_forced c.args.org.now c.args.copy.now c.copy.new.from c.args.store.now c.copy.new.to copy.source copy.lasts c.org_remove.new.self
    (λ clean sound clean_copy sound_copy.
    let own = c.in-Ok.ensures.own clean sound clean_copy sound_copy in
    (own.0, c.says_same.ensures (rows c.args.copy.now c.args.org.now) (rows c.args.store.now c.args.org.now) c.if-not-says_same.false own.1))
    copy.others c.org_remove.ensures.lasts c.in-Ok-org_remove.answer c.in-Ok-org_remove.ensures.own c.org_remove.ensures.others

pub returns : goal.returns
returns g c =
    let rows = g.K.Keep.rows in
    let copy = c.copy.ensures in
    removes_failed g.K.Keep c.args.is_forced c.args.org.now c.args.copy.now c.copy.new.from c.args.store.now c.copy.new.to copy.source copy.lasts c.org_remove.new.self
    (λ clean sound clean_copy sound_copy.
    let own = c.in-Ok.ensures.own clean sound clean_copy sound_copy in
    (own.0, c.says_same.ensures (rows c.args.copy.now c.args.org.now) (rows c.args.store.now c.args.org.now) c.if-not-says_same.false own.1))
    copy.others c.org_remove.ensures.lasts c.in-Err-org_remove.down c.in-Err-org_remove.ensures.err
