use Rattle.tables.proofs.Outside.{refl, sym, ◌∙◌, token_added, steps_by}
use Rattle.tables.specs.Inner.Imports.{TokenComes}
use Rattle.tables.proofs.KeyedSteps.{paged_by}
use Rattle.tables.proofs.Arriving.{token_is, takes_by}
use Rattle.tables.proofs.imports.copy_token.Goals as goal

pub returns-clause-copies : goal.returns-clause-copies
returns-clause-copies g c =
    let org = c.args.org.now in
    let token = c.args.token.now in
    takes_by g.S.Store g.T.Store (token_added org token.name token.it.digest token.it.role c.in-Some.reach.until c.in-Some.reach.prefix) (TokenComes org token) c.args.tx.now c.add.new.tx c.args.from.now c.find.new.conn c.add.result
    (λ clean f holds t. token_is org token c.in-Some.reach f t (sym c.in-Some.is ∙ (rw c.as_str-name.ensures at (c.in_ok-reach.ensures.read clean).0) f holds)) (rw (c.as_str-name.ensures, c.as_slice.ensures) at c.add.ensures)

pub returns-clause-pages : goal.returns-clause-pages
returns-clause-pages g c =
    let org = c.args.org.now in
    let token = c.args.token.now in
    let added = token_added org token.name token.it.digest token.it.role c.in-Some.reach.until c.in-Some.reach.prefix in
    paged_by g.S.Store added c.args.tx.now c.add.new.tx c.add.result (steps_by g.S.Store added c.args.tx.now c.add.new.tx c.add.result (rw (c.as_str-name.ensures, c.as_slice.ensures) at c.add.ensures)) (λ t. refl)
