use Rattle.std.proofs.Common.{List, ℕ, sym, subst, ◌∙◌}
use Rattle.sha2.specs.Sha256.{sha256}
use Rattle.sqlite.specs.Files.{file_state}
use Rattle.checks.specs.Standing.{ReportsStore}
use Rattle.checks.specs.Totals.{AreTotalsOf}
use Rattle.system.proofs.files.DiskFilesFilesFileKeep.check.Goals as goal

pub returns-in-Ok-clause-found : goal.returns-in-Ok-clause-found
returns-in-Ok-clause-found g c clean = record {
  faults = subst (λ (faults : List (List ℕ)). ReportsStore sha256 (file_state c.args.store.now.conn).committed faults) (sym c.reported.ensures.faults) (c.in-Ok.ensures.decides clean);
  totals = λ t held. subst (AreTotalsOf t) (sym c.reported.ensures.totals) (c.in-Ok.ensures.totals clean t held);
}

pub returns-in-Ok-clause-sound : goal.returns-in-Ok-clause-sound
returns-in-Ok-clause-sound g c = λ none clean ours. c.in-Ok.ensures.sound clean (sym c.reported.ensures.faults ∙ none) ours.0 ours.1
