use Rattle.statements.proofs.Outside.{state, ◌≡◌, ℕ, List, [], Option, Table}
use Rattle.statements.specs.Making.{HasMeta, stored_schema_version}
use Rattle.statements.specs.Rows.{Kept}
use Rattle.statements.specs.Calls.{IsNumber}
use Rattle.statements.specs.declared.making.TheConstants.{VERSION}
use Rattle.statements.proofs.Transactions.{queries_by, one_read}
use Rattle.statements.proofs.MetaTexts.{version_is_query, version_reported, version_shows}
use Rattle.statements.proofs.making.schema_version.Goals as goal

pub returns-clause-reads : goal.returns-clause-reads
returns-clause-reads g c =
    queries_by IsNumber _ _ _ (c.first_row-row.ensures.mode, (c.first_row-row.ensures.row version_is_query), c.first_row-row.ensures.calm version_is_query, c.first_row-row.ensures.survives version_is_query) c.read_one.ensures
    (λ t holds row first. version_shows _ _ t holds row first)

pub returns-clause-reported : goal.returns-clause-reported
returns-clause-reported g c clean =
    let old = state g.S.Store c.args.conn.now in
    let new = state g.S.Store c.first_row-row.new.conn in
    one_read IsNumber old new VERSION.now [] c.first_row-row.result c.read_one.result (c.first_row-row.ensures.row version_is_query clean) c.read_one.ensures
    (λ (o : Option ℕ). (table : Table) (metas : List (Kept ℕ)) → HasMeta old.now table metas → o ≡ stored_schema_version metas)
    (λ o same table metas has. same (stored_schema_version metas) (version_reported old new table metas has))
