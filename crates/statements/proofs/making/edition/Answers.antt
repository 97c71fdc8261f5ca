use Rattle.statements.proofs.Outside.{state, ◌≡◌, ℕ, List, [], Option, Table}
use Rattle.statements.specs.Making.{HasEdition, stored_schema_version}
use Rattle.statements.specs.Rows.{Kept}
use Rattle.statements.specs.Calls.{IsNumber}
use Rattle.statements.specs.declared.making.TheConstants.{EDITION}
use Rattle.statements.proofs.Transactions.{queries_by, one_read}
use Rattle.statements.proofs.EditionTexts.{edition_is_query, edition_reported, edition_shows}
use Rattle.statements.proofs.making.edition.Goals as goal

pub returns-clause-reads : goal.returns-clause-reads
returns-clause-reads g c =
    queries_by IsNumber _ _ _ (c.first_row-row.ensures.mode, (c.first_row-row.ensures.row edition_is_query), c.first_row-row.ensures.calm edition_is_query, c.first_row-row.ensures.survives edition_is_query) c.read_one.ensures
    (λ t holds row first. edition_shows _ _ t holds row first)

pub returns-clause-reported : goal.returns-clause-reported
returns-clause-reported g c clean =
    let old = state g.S.Store c.args.conn.now in
    let new = state g.S.Store c.first_row-row.new.conn in
    one_read IsNumber old new EDITION.now [] c.first_row-row.result c.read_one.result (c.first_row-row.ensures.row edition_is_query clean) c.read_one.ensures
    (λ (o : Option ℕ). (table : Table) (editions : List (Kept ℕ)) → HasEdition old.now table editions → o ≡ stored_schema_version editions)
    (λ o same table editions has. same (stored_schema_version editions) (edition_reported old new table editions has))
