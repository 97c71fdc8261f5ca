use Rattle.std.proofs.Common.{◌≡◌, ◌↔◌, [], subst}
use Rattle.std.proofs.lemmas.List.{take_all}
use Rattle.std.specs.List.{AllByRecursion}
use Rattle.statements.specs.Place.{IsOwn}
use Rattle.definitions.specs.Others.{IsOwnOrNamed}
use Rattle.definitions.proofs.Naming.{names_more}
use Rattle.definitions.proofs.own.others_among.Goals as goal

pub loop-table-preserved : goal.loop-table-preserved
loop-table-preserved c =
    names_more c.args.schema.now c.args.tables.now c.loop-table.table-index c.table-item.result c.loop-table.names c.name_other.new.names c.loop-table-test.true c.table-item.is c.loop-table.invariant c.in_ok-name_other.ensures

pub returns-clause-none : goal.returns-clause-none
returns-clause-none c =
    subst (λ l. (c.loop-table.names ≡ []) ↔ AllByRecursion (IsOwn c.args.schema.now) l) (take_all c.loop-table.table-index c.args.tables.now c.loop-table-test.false) c.loop-table.invariant.none

pub returns-clause-named : goal.returns-clause-named
returns-clause-named c = c.loop-table.invariant.named

pub returns-clause-every : goal.returns-clause-every
returns-clause-every c =
    subst (λ l. AllByRecursion (IsOwnOrNamed c.args.schema.now c.loop-table.names) l) (take_all c.loop-table.table-index c.args.tables.now c.loop-table-test.false) c.loop-table.invariant.every
