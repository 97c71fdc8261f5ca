-- A service over a new file.
use Rattle.std.proofs.Common.{◌⊎◌, inl, inr, ℕ, Bool, List, Option}
use Rattle.machine.specs.declared.keeps.Keep as keep
use Rattle.command_line.specs.Orders.{Site}
use Rattle.command_line.specs.declared.timeouts.Timeouts.{Timeouts}
use Rattle.program.specs.Outcomes.{Stream, Errors, error_stream, Environment}
use Rattle.program.specs.Services.{HasNoOrganization, ServesFromNothing, NobodyIsAnswered}
use Rattle.program.specs.Streams.{Reported}
use Rattle.program.specs.declared.environment.Clock as clock
use Rattle.program.specs.declared.environment.Connections as connections
use Rattle.program.specs.declared.environment.Files as files
use Rattle.program.specs.declared.exits.Exit.{Exit}
use Rattle.program.proofs.ServiceLemmas.{services_begin}
use Rattle.wire.specs.declared.devices.Inlet as inlet
use Rattle.wire.specs.declared.devices.Outlet as outlet
use Rattle.system.specs.Services.{ServesNewFile, NewFilesAreServed}

module _ {K F N C R W : Type 0} {k : keep.Ghosts K} {f : files.Ghosts F K} {n : connections.Ghosts N R W} {c : clock.Ghosts C} {i : inlet.Ghosts R} {o : outlet.Ghosts W} where
  with_disk : (HasCollided : K → Type 0) (path : List ℕ) (site : Site) (count : ℕ) (timeouts : Timeouts) (logs operates : Bool) (input : Option (List ℕ)) (old new : Environment F N C) (e : Exit) (output : Stream) (errors : Errors)
      → ((store : K) → f.holds old.files path store → k.clean store → k.shielded store) → ((store : K) → k.shielded store → k.clean store ⊎ HasCollided store)
      → ((reported : Reported) × ServesFromNothing k f n c i o path site count timeouts logs operates input old new e output (error_stream errors.old reported)) ⊎ NobodyIsAnswered k f n c i o site old new
      → ((reported : Reported) × ServesNewFile k f n c i o HasCollided path site count timeouts logs operates input old new e output (error_stream errors.old reported)) ⊎ NobodyIsAnswered k f n c i o site old new
  with_disk HasCollided path site count timeouts logs operates input old new e output errors guarded means (inl (reported, service)) =
      let program = service.program in
      inl (reported, record { service = service; disk = λ clean. means program.after (program.lasts.shield (guarded program.before program.opens.found clean)) })
  with_disk HasCollided path site count timeouts logs operates input old new e output errors guarded means (inr alone) = inr alone

  pub new_files_are_served : (HasCollided : K → Type 0) (IsUnopened : F → Type 0)
      → ((old : F) (path : List ℕ) → IsUnopened old → HasNoOrganization k f old path) → ((old : F) (path : List ℕ) (store : K) → IsUnopened old → f.holds old path store → k.clean store → k.shielded store)
      → ((store : K) → k.shielded store → k.clean store ⊎ HasCollided store) → NewFilesAreServed k f n c i o HasCollided IsUnopened
  new_files_are_served HasCollided IsUnopened empty guarded means words path site count timeouts logs operates input old new e output errors asks unopened runs =
      with_disk HasCollided path site count timeouts logs operates input old new e output errors (λ store found clean. guarded old.files path store unopened found clean) means
      (services_begin k f n c i o words path site count timeouts logs operates input old new e output errors asks (empty old.files path unopened) runs)
