use Rattle.std.proofs.Common.{◌≡◌, suc, ◌+◌, ◌++◌, subst, arith}
use Rattle.statements.specs.Tables.{schema_tables, added_by}
use Rattle.statements.proofs.Counts.{version_grows, next_version}
use Rattle.statements.proofs.Schemas.{MadeSoFar, made_more}
use Rattle.statements.proofs.making.make_tables.Goals as goal

pub loop-schema_version-preserved : goal.loop-schema_version-preserved
loop-schema_version-preserved g c =
    let n = c.loop-schema_version.schema_version in
    let on : suc n ≡ n + 1 = omega arith in
    let grown = subst (λ m. schema_tables n ++ added_by m ≡ schema_tables m) on (version_grows n (next_version n (omega (arith, c.loop-schema_version-test.true)))) in
    subst (λ ts. MadeSoFar g.S.Store (n + 1) ts c.args.tx.now c.make_tables_of.new.tx) grown
    (made_more g.S.Store n (schema_tables n) (added_by (n + 1)) c.args.tx.now c.loop-schema_version.tx c.make_tables_of.new.tx _ c.loop-schema_version.invariant c.in_ok-make_tables_of.ensures)
