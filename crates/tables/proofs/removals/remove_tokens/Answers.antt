use Rattle.tables.proofs.Outside.{⊤, ◌≤◌, ◌<◌, ◌+◌, List, length, take, arith, Ok, subst, take_all, Error, NamedToken, token_removed, steps_by}
use Rattle.tables.specs.Inner.Copies.{RelatedSteps, AreMadeBy}
use Rattle.tables.specs.Inner.Removals.{tokens_gone}
use Rattle.tables.proofs.Copying.{made_by_steps, related_then}
use Rattle.tables.proofs.Using.{tokens_more}
use Rattle.tables.proofs.removals.remove_tokens.Goals as goal

pub tokens-preserved : goal.tokens-preserved
tokens-preserved g c =
    let org = c.args.org.now in
    let list = c.args.list.now in
    let i = c.tokens.token-index in
    let token = c.token-item.result in
    let within : i < length list = omega (arith, c.tokens-test.true) in
    let one = rw c.as_str.ensures at c.in_ok-remove.ensures in
    related_then g.S.Store (AreMadeBy (tokens_gone org (take i list))) (AreMadeBy (token_removed org token.name)) (AreMadeBy (tokens_gone org (take (i + 1) list))) c.args.tx.now c.tokens.tx c.remove.new.tx tt (Ok tt)
    (λ t u z. tokens_more org list i token t u z within c.token-item.is) c.tokens.invariant
    (made_by_steps g.S.Store (token_removed org token.name) c.tokens.tx c.remove.new.tx (Ok tt) (steps_by g.S.Store (token_removed org token.name) c.tokens.tx c.remove.new.tx (Ok tt) one))

pub returns : goal.returns
returns g c =
    let list = c.args.list.now in
    let i = c.tokens.token-index in
    let all : length list ≤ i = omega (arith, c.tokens.auto.token-index-end, c.tokens-test.false) in
    subst (λ (ys : List NamedToken). RelatedSteps {X = ⊤} {E = Error} g.S.Store (AreMadeBy (tokens_gone c.args.org.now ys)) c.args.tx.now c.tokens.tx (Ok tt)) (take_all i list all) c.tokens.invariant
