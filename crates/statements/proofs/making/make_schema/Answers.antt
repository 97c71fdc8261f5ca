use Rattle.statements.specs.declared.making.TheConstants.{SCHEMA_VERSION}
use Rattle.statements.specs.Making.{HasSchema}
use Rattle.statements.specs.Tables.{our_tables}
use Rattle.statements.specs.Inner.Making.{Grows, Reported}
use Rattle.statements.proofs.Schemas.{makes_then, schema_set}
use Rattle.statements.proofs.making.make_schema.Goals as goal

pub returns : goal.returns
returns g c = makes_then g.S.Store (Grows our_tables) (Reported SCHEMA_VERSION) HasSchema schema_set _ _ _ _ _ c.in_ok-make_tables.ensures c.set_schema_version.ensures
