use Rattle.definitions.proofs.Naming.{NamesSoFar}
use Rattle.definitions.proofs.own.others_among.Given as goal

abbrev pub invariant-loop-table : goal.invariant-loop-table
invariant-loop-table l = NamesSoFar l.schema l.tables l.table-index l.names
