use Rattle.tables.proofs.Outside.{⊤, take, Ok, Error, Sees}
use Rattle.tables.specs.Inner.Copies.{RelatedSteps}
use Rattle.tables.specs.Inner.Keys.{KeepsPages}
use Rattle.tables.specs.Inner.Imports.{TakesFrom, TokensCome}
use Rattle.tables.proofs.imports.copy_tokens.Given as goal

-- the tokens so far came
abbrev pub invariant-tokens : goal.invariant-tokens
invariant-tokens g l =
    Sees {X = ⊤} {E = Error} g.T.Store (λ _ _. ⊤) l.fn.from l.from (Ok tt)
    × RelatedSteps {X = ⊤} {E = Error} g.S.Store KeepsPages l.fn.tx l.tx (Ok tt)
    × RelatedSteps {X = ⊤} {E = Error} g.S.Store (TakesFrom g.T.Store (TokensCome l.org (take l.token-index l.list)) l.fn.from l.from) l.fn.tx l.tx (Ok tt)
