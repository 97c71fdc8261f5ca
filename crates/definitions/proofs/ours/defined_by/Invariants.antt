use Rattle.std.proofs.Common.{◌≡◌, List, take}
use Rattle.std.specs.List.{AllZip}
use Rattle.sqlite_schema.specs.declared.schema.Table.{Table}
use Rattle.statements.specs.Inner.Making.{IsDefinedBy, texts_in}
use Rattle.definitions.proofs.ours.defined_by.Given as goal

-- the tables of the texts so far are there
abbrev pub invariant-loop-text : goal.invariant-loop-text
invariant-loop-text l = (tables : List Table) → AllZip IsDefinedBy (texts_in l.texts) tables → l.made ≡ take l.text-index tables
