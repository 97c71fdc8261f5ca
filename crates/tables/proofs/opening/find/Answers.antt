use Rattle.tables.proofs.Outside.{rules, ◌≡◌, true, IfOk-weaker, state}
use Rattle.tables.specs.Opening.{any_there}
use Rattle.tables.proofs.Climbing.{finds_by}
use Rattle.tables.proofs.opening.find.Goals as goal

pub returns-clause-found : goal.returns-clause-found
returns-clause-found g c clean =
    let old = state g.S.Store c.args.conn.now in
    let new = state g.S.Store c.find_schema_version.new.conn in
    let there : any_there c.args.conn.now.schema ≡ true = search rules in
    IfOk-weaker c.find_schema_version.result _ _ (λ found reports. finds_by found old new there reports) (c.find_schema_version.ensures.found clean)
