-- A service over a store in memory, from the words that ask for it to the replies on its connections.
use Rattle.std.specs.Prelude.{◌≡◌, ◌⊎◌, ℕ, Bool, false, List, Option, Some}
use Rattle.machine.specs.declared.keeps.Keep as keep
use Rattle.command_line.specs.Orders.{Site, serves}
use Rattle.command_line.specs.Words.{asked_in}
use Rattle.command_line.specs.declared.timeouts.Timeouts.{Timeouts}
use Rattle.program.specs.Outcomes.{Stream, Errors, error_stream, Environment, Runs}
use Rattle.program.specs.Services.{ServesFromNothing, NobodyIsAnswered}
use Rattle.program.specs.Streams.{Reported}
use Rattle.program.specs.declared.environment.Clock as clock
use Rattle.program.specs.declared.environment.Connections as connections
use Rattle.program.specs.declared.environment.Files as files
use Rattle.program.specs.declared.exits.Exit.{Exit}
use Rattle.wire.specs.declared.devices.Inlet as inlet
use Rattle.wire.specs.declared.devices.Outlet as outlet

module _ {K F N C R W : Type 0} (k : keep.Ghosts K) (f : files.Ghosts F K) (n : connections.Ghosts N R W) (c : clock.Ghosts C) (i : inlet.Ghosts R) (o : outlet.Ghosts W) where
  -- a service that began without an organization, and whose store was clean to the end: so its exchanges are as promised, whatever happened
  pub record ServesFromMemory (path : List ℕ) (site : Site) (count : ℕ) (timeouts : Timeouts) (logs operates : Bool) (input : Option (List ℕ)) (old new : Environment F N C) (e : Exit) (output : Stream) (errors : Errors) : Type 0 where
    pub service : ServesFromNothing k f n c i o path site count timeouts logs operates input old new e output errors
    pub clean : k.clean service.program.after

  -- what the words of `serve` lead to, at a path at which nothing lies: such a service, or nobody is answered
  abbrev pub VacantPathsAreServed : Type 0
  VacantPathsAreServed = (words : List (List ℕ)) (path : List ℕ) (site : Site) (count : ℕ) (timeouts : Timeouts) (logs operates : Bool) (input : Option (List ℕ)) (old new : Environment F N C) (e : Exit) (output : Stream) (errors : Errors)
      → asked_in words ≡ Some (serves path site count timeouts logs false operates) → f.vacant old.files path → Runs k f n c i o words input old new e output errors
      → ((reported : Reported) × ServesFromMemory path site count timeouts logs operates input old new e output (error_stream errors.old reported)) ⊎ NobodyIsAnswered k f n c i o site old new
