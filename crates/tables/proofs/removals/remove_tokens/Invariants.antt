use Rattle.tables.proofs.Outside.{⊤, take, Ok, Error}
use Rattle.tables.specs.Inner.Copies.{RelatedSteps, AreMadeBy}
use Rattle.tables.specs.Inner.Removals.{tokens_gone}
use Rattle.tables.proofs.removals.remove_tokens.Given as goal

-- the tokens so far went
abbrev pub invariant-tokens : goal.invariant-tokens
invariant-tokens g l = RelatedSteps {X = ⊤} {E = Error} g.S.Store (AreMadeBy (tokens_gone l.org (take l.token-index l.list))) l.fn.tx l.tx (Ok tt)
