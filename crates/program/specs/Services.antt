-- A service from the words that ask for it to the replies on its connections, over a path without an organization.
use Rattle.std.specs.Prelude.{◌≡◌, ◌⊎◌, ℕ, Bool, false, List, Option, Some, None, Result}
use Rattle.machine.specs.declared.keeps.Keep as keep
use Rattle.machine.specs.declared.records.Organization.{Organization}
use Rattle.serve.specs.declared.doors.Door.{Door}
use Rattle.command_line.specs.Orders.{Site, serves}
use Rattle.command_line.specs.Words.{asked_in}
use Rattle.command_line.specs.declared.timeouts.Timeouts.{Timeouts}
use Rattle.program.specs.Listening.{AsksToListen}
use Rattle.program.specs.Outcomes.{Stream, Errors, error_stream, IsDoor, ServesFrom, Environment, environment, IsAlone, Runs}
use Rattle.program.specs.Serving.{state, Serves, ServesBound}
use Rattle.program.specs.Streams.{Reported}
use Rattle.program.specs.declared.environment.Clock as clock
use Rattle.program.specs.declared.environment.Connections as connections
use Rattle.program.specs.declared.environment.Files as files
use Rattle.program.specs.declared.exits.Exit.{Exit}
use Rattle.program.specs.declared.reasons.Cause.{Cause}
use Rattle.wire.specs.declared.devices.Inlet as inlet
use Rattle.wire.specs.declared.devices.Outlet as outlet

-- there is no organization
abbrev pub no_records : List ℕ → Option Organization
no_records org = None

-- a path has no organization: a store that has its contents is sound and has no record, if it is clean
abbrev pub HasNoOrganization : {K F : Type 0} → keep.Ghosts K → files.Ghosts F K → F → List ℕ → Type 0
HasNoOrganization {K} k f old path = (store : K) → f.holds old path store → k.clean store → ((org : List ℕ) → k.rows store org ≡ None) × k.sound store

module _ {K F N C R W : Type 0} (k : keep.Ghosts K) (f : files.Ghosts F K) (n : connections.Ghosts N R W) (c : clock.Ghosts C) (i : inlet.Ghosts R) (o : outlet.Ghosts W) where
  -- a service that began without an organization, with the door that its words ask for. The network was asked to listen at the site, and
  -- nowhere else (`listens`). The program did what it promises of every service (`program`); and while the store was clean, the
  -- exchanges of its connections are as promised, from no record to the records of the store that it left at its path (`serves`)
  pub record ServesFromNothing (path : List ℕ) (site : Site) (count : ℕ) (timeouts : Timeouts) (logs operates : Bool) (input : Option (List ℕ)) (old new : Environment F N C) (e : Exit) (output : Stream) (errors : Errors) : Type 0 where
    pub door : Door
    pub is_door : IsDoor operates input door
    pub bound : Result Site Cause
    pub network : N
    pub listens : AsksToListen n site old.network bound network
    pub program : ServesFrom k f n c i o path bound (record { timeouts = timeouts; logs = logs; door = door }) count (environment old.files network old.clock) new e output errors
    pub serves : k.clean program.after
        → Serves (λ es. ServesBound k f n c i o bound (record { timeouts = timeouts; logs = logs; door = door }) count es
        (state network old.clock program.before program.noted output.old) (state new.network new.clock program.after program.lines program.reported) program.served)
        door count no_records (k.rows program.after)

  -- nobody was answered: neither network nor clock was used, or the network was asked to listen there, and nothing else
  abbrev pub NobodyIsAnswered : Site → Environment F N C → Environment F N C → Type 0
  NobodyIsAnswered site old new =
      IsAlone old new ⊎ ((bound : Result Site Cause) × AsksToListen n site old.network bound new.network × (new.clock ≡ old.clock))

  -- what the words of `serve` lead to, over a path without an organization: such a service, or nobody is answered
  abbrev pub ServicesBegin : Type 0
  ServicesBegin = (words : List (List ℕ)) (path : List ℕ) (site : Site) (count : ℕ) (timeouts : Timeouts) (logs operates : Bool) (input : Option (List ℕ)) (old new : Environment F N C) (e : Exit) (output : Stream) (errors : Errors)
      → asked_in words ≡ Some (serves path site count timeouts logs false operates) → HasNoOrganization k f old.files path → Runs k f n c i o words input old new e output errors
      → ((reported : Reported) × ServesFromNothing path site count timeouts logs operates input old new e output (error_stream errors.old reported)) ⊎ NobodyIsAnswered site old new
