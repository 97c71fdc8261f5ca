use Rattle.statements.specs.Tables.{our_tables}
use Rattle.statements.proofs.SchemaTexts.{tables_defined}
use Rattle.definitions.proofs.ours.our_tables.Goals as goal

pub returns : goal.returns
returns c = c.defined_by.ensures our_tables tables_defined
