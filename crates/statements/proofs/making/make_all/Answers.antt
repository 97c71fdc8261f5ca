use Rattle.statements.proofs.Outside.{◌+◌, take, sym, subst, arith, length-map}
use Rattle.std.proofs.lemmas.Slice.Zip.{AllZip-long}
use Rattle.statements.specs.Inner.Making.{IsMaker, texts_in, all_of}
use Rattle.statements.proofs.Schemas.{MadeSoFar, made_all, made_more, made_failed, next_made, last_made}
use Rattle.statements.proofs.making.make_all.Goals as goal

pub returns-in_err-make : goal.returns-in_err-make
returns-in_err-make g c made are some =
    let i = c.loop-text.text-index in
    let next = next_made c.args.texts.now made i _ are c.loop-text-test.true in
    made_failed g.S.Store i (all_of (take i made)) next.0 (all_of made) c.args.tx.now c.loop-text.tx c.make.new.tx _ c.from_residual.result c.from_residual.ensures.0 (c.loop-text.invariant made are) (c.in_err-make.ensures next.0 next.1)

pub loop-text-preserved : goal.loop-text-preserved
loop-text-preserved g c made are =
    let i = c.loop-text.text-index in
    let next = next_made c.args.texts.now made i _ are c.loop-text-test.true in
    subst (λ ts. MadeSoFar g.S.Store (i + 1) ts c.args.tx.now c.make.new.tx) (sym next.2)
    (made_more g.S.Store i (all_of (take i made)) next.0 c.args.tx.now c.loop-text.tx c.make.new.tx _ (c.loop-text.invariant made are) (c.in_ok-make.ensures next.0 next.1))

pub returns : goal.returns
returns g c made are some =
    let i = c.loop-text.text-index in
    let so_far = subst (λ l. MadeSoFar g.S.Store i (all_of l) c.args.tx.now c.loop-text.tx) (last_made c.args.texts.now made i are c.loop-text-test.false) (c.loop-text.invariant made are) in
    let as_long = AllZip-long IsMaker (texts_in c.args.texts.now) made are in
    let texts = length-map c.args.texts.now (λ t. t.now) in
    made_all g.S.Store i (all_of made) c.args.tx.now c.loop-text.tx _ (omega (arith, some, as_long, texts, c.loop-text-test.false)) so_far
