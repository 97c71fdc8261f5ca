-- A service over a store in memory.
use Rattle.std.proofs.Common.{◌≡◌, ◌⊎◌, inl, inr, ℕ, Bool, List, Option, None, subst}
use Rattle.machine.specs.declared.keeps.Keep as keep
use Rattle.command_line.specs.Orders.{Site}
use Rattle.command_line.specs.declared.timeouts.Timeouts.{Timeouts}
use Rattle.program.specs.Outcomes.{Stream, Errors, error_stream, Environment}
use Rattle.program.specs.Services.{HasNoOrganization, ServesFromNothing, NobodyIsAnswered}
use Rattle.program.specs.Streams.{Reported}
use Rattle.program.specs.declared.environment.Clock as clock
use Rattle.program.specs.declared.environment.Connections as connections
use Rattle.program.specs.declared.environment.Files as files
use Rattle.program.specs.declared.exits.Exit.{Exit}
use Rattle.program.proofs.ServiceLemmas.{services_begin}
use Rattle.wire.specs.declared.devices.Inlet as inlet
use Rattle.wire.specs.declared.devices.Outlet as outlet
use Rattle.fakes.specs.Files.{IsKeptStore}
use Rattle.fakes.specs.Services.{ServesFromMemory, VacantPathsAreServed}

-- where no store is kept yet, one without an organization is found
pub none_kept : {K : Type 0} (k : keep.Ghosts K) (kept : Option K) (store : K) → kept ≡ None → IsKeptStore k kept store → ((org : List ℕ) → k.rows store org ≡ None) × k.sound store
none_kept {K} k kept store none held = let h = subst (λ (o : Option K). IsKeptStore k o store) none held in (h.1, h.0)

module _ {K F N C R W : Type 0} {k : keep.Ghosts K} {f : files.Ghosts F K} {n : connections.Ghosts N R W} {c : clock.Ghosts C} {i : inlet.Ghosts R} {o : outlet.Ghosts W} where
  while_clean : (path : List ℕ) (site : Site) (count : ℕ) (timeouts : Timeouts) (logs operates : Bool) (input : Option (List ℕ)) (old new : Environment F N C) (e : Exit) (output : Stream) (errors : Errors)
      → ((store : K) → k.clean store)
      → ((reported : Reported) × ServesFromNothing k f n c i o path site count timeouts logs operates input old new e output (error_stream errors.old reported)) ⊎ NobodyIsAnswered k f n c i o site old new
      → ((reported : Reported) × ServesFromMemory k f n c i o path site count timeouts logs operates input old new e output (error_stream errors.old reported)) ⊎ NobodyIsAnswered k f n c i o site old new
  while_clean path site count timeouts logs operates input old new e output errors clean (inl (reported, service)) = inl (reported, record { service = service; clean = clean service.program.after })
  while_clean path site count timeouts logs operates input old new e output errors clean (inr alone) = inr alone

  pub vacant_paths_are_served : ((old : F) (path : List ℕ) → f.vacant old path → HasNoOrganization k f old path) → ((store : K) → k.clean store) → VacantPathsAreServed k f n c i o
  vacant_paths_are_served empty clean words path site count timeouts logs operates input old new e output errors asks vacant runs =
      while_clean path site count timeouts logs operates input old new e output errors clean
      (services_begin k f n c i o words path site count timeouts logs operates input old new e output errors asks (empty old.files path vacant) runs)
