use Rattle.machine.specs.contracts.plain.PlainKeepKeep.TheImpl as plain
use Rattle.fakes.proofs.ServiceLemmas.{none_kept, vacant_paths_are_served}
use Rattle.fakes.proofs.laws.vacant_paths_are_served.Goals as goal

pub returns : goal.returns
returns g c = vacant_paths_are_served (λ old path vacant store held clean. none_kept plain.ghosts _ store vacant.1 (held vacant.0)) (λ store. tt)
