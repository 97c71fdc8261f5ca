-- A service over a new file: what it promises together with its disk.
use Rattle.std.specs.Prelude.{◌≡◌, ◌⊎◌, ℕ, Bool, false, List, Option, Some}
use Rattle.machine.specs.declared.keeps.Keep as keep
use Rattle.command_line.specs.Orders.{Site, serves}
use Rattle.command_line.specs.Words.{asked_in}
use Rattle.command_line.specs.declared.timeouts.Timeouts.{Timeouts}
use Rattle.program.specs.Outcomes.{Stream, Errors, error_stream, Environment, Runs}
use Rattle.program.specs.Services.{ServesFromNothing, NobodyIsAnswered}
use Rattle.program.specs.Streams.{Reported}
use Rattle.program.specs.declared.environment.Clock as clock
use Rattle.program.specs.declared.environment.Connections as connections
use Rattle.program.specs.declared.environment.Files as files
use Rattle.program.specs.declared.exits.Exit.{Exit}
use Rattle.wire.specs.declared.devices.Inlet as inlet
use Rattle.wire.specs.declared.devices.Outlet as outlet

module _ {K F N C R W : Type 0} (k : keep.Ghosts K) (f : files.Ghosts F K) (n : connections.Ghosts N R W) (c : clock.Ghosts C) (i : inlet.Ghosts R) (o : outlet.Ghosts W) where
  -- a service over a new file. If its store was clean when it was opened, it was clean to the end, whatever the disk returned since, or a
  -- digest has collided
  pub record ServesNewFile (HasCollided : K → Type 0) (path : List ℕ) (site : Site) (count : ℕ) (timeouts : Timeouts) (logs operates : Bool) (input : Option (List ℕ)) (old new : Environment F N C) (e : Exit) (output : Stream) (errors : Errors) : Type 0 where
    pub service : ServesFromNothing k f n c i o path site count timeouts logs operates input old new e output errors
    pub disk : k.clean service.program.before → k.clean service.program.after ⊎ HasCollided service.program.after

  -- what the words of `serve` lead to, if the file that is opened first is new: such a service, or nobody is answered
  abbrev pub NewFilesAreServed : (K → Type 0) → (F → Type 0) → Type 0
  NewFilesAreServed HasCollided IsUnopened = (words : List (List ℕ)) (path : List ℕ) (site : Site) (count : ℕ) (timeouts : Timeouts) (logs operates : Bool) (input : Option (List ℕ)) (old new : Environment F N C) (e : Exit) (output : Stream) (errors : Errors)
      → asked_in words ≡ Some (serves path site count timeouts logs false operates) → IsUnopened old.files → Runs k f n c i o words input old new e output errors
      → ((reported : Reported) × ServesNewFile HasCollided path site count timeouts logs operates input old new e output (error_stream errors.old reported)) ⊎ NobodyIsAnswered k f n c i o site old new
