use Rattle.statements.specs.Tables.{schema_tables}
use Rattle.statements.proofs.Schemas.{MadeSoFar}
use Rattle.statements.proofs.making.make_tables.Given as goal

-- the tables of the versions so far are made
abbrev pub invariant-loop-schema_version : goal.invariant-loop-schema_version
invariant-loop-schema_version g l = MadeSoFar g.S.Store l.schema_version (schema_tables l.schema_version) l.fn.tx l.tx
