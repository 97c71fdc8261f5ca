use Rattle.tables.proofs.Outside.{⊤, ◌+◌, take, arith, Ok}
use Rattle.tables.specs.Inner.Imports.{TokenComes, TokensCome}
use Rattle.tables.proofs.KeyedSteps.{paged_then}
use Rattle.tables.proofs.Arriving.{tokens_more, takes_then, unchanged_on}
use Rattle.tables.proofs.imports.copy_tokens.Goals as goal

pub tokens-preserved : goal.tokens-preserved
tokens-preserved g c =
    let org = c.args.org.now in
    let list = c.args.list.now in
    let i = c.tokens.token-index in
    let one = c.in_ok-copy_token.ensures in (
      unchanged_on g.T.Store c.args.from.now c.tokens.from c.copy_token.new.from tt (Ok tt) c.tokens.invariant.0 one.unchanged,
      paged_then g.S.Store c.args.tx.now c.tokens.tx c.copy_token.new.tx tt (Ok tt) c.tokens.invariant.1 one.pages,
      takes_then g.S.Store g.T.Store (λ _ _. ⊤) (TokensCome org (take i list)) (TokenComes org c.token-item.result) (TokensCome org (take (i + 1) list)) c.args.tx.now c.tokens.tx c.copy_token.new.tx
          c.args.from.now c.tokens.from c.copy_token.new.from tt tt (Ok tt) (λ f t u z. tokens_more org list i c.token-item.result f t u z (omega arith) c.token-item.is) c.tokens.invariant.0 one.unchanged.so_far c.tokens.invariant.2 one.copies,
    )
