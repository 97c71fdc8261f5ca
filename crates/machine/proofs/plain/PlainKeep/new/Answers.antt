use Rattle.machine.proofs.Outside.{ap, ◌∙◌, get, get-empty}
use Rattle.machine.specs.Order.{name_cmp}
use Rattle.machine.proofs.KeepLemmas.{none_are_lawful}
use Rattle.machine.proofs.plain.PlainKeep.new.Goals as goal

pub returns-clause-empty : goal.returns-clause-empty
returns-clause-empty c o = ap (λ m. get m o) c.new.ensures ∙ get-empty name_cmp o

pub returns-clause-sound : goal.returns-clause-sound
returns-clause-sound c = none_are_lawful _ c.new.ensures
