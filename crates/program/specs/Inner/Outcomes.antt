-- Contracts between functions: what is printed to both streams, and what happens to an open store.
use Rattle.std.specs.Prelude.{◌≡◌, ◌⊎◌, ℕ, List, [], Bool, true, false, Option, Result, Ok}
use Rattle.basis.specs.declared.memory.Down.{Down}
use Rattle.machine.specs.declared.keeps.Keep as keep
use Rattle.machine.specs.StoreCalls.{Lasts}
use Rattle.wire.specs.declared.devices.Inlet as inlet
use Rattle.wire.specs.declared.devices.Outlet as outlet
use Rattle.command_line.specs.Orders.{Site}
use Rattle.program.specs.declared.exits.Exit.{Exit}
use Rattle.program.specs.declared.exits.Exit.TheVariants.{Unprinted}
use Rattle.program.specs.declared.environment.Clock as clock
use Rattle.program.specs.declared.environment.Connections as connections
use Rattle.program.specs.declared.environment.Files as files
use Rattle.program.specs.declared.reasons.Cause.{Cause}
use Rattle.program.specs.declared.serving.Terms.{Terms}
use Rattle.program.specs.declared.totals.Findings.{Findings}
use Rattle.program.specs.Outcomes.{Stream, Errors, Environment, error_stream, Says, GetsSome, SaysServed, ChecksStore, Closes, ReportsUnsound}
use Rattle.program.specs.Serving.{Serves, ServesBound, state, AnswersBound}
use Rattle.program.specs.Streams.{Reported}

-- the line of an exit on standard output and its cause on the error stream; or a stream did not take everything
abbrev pub IsSaidWhy : Exit → Exit → Stream → Errors → Type 0
IsSaidWhy e result output errors = ((result ≡ e) × Says e output × GetsSome errors) ⊎ (result ≡ Unprinted)

-- a check found no fault (`true`); or it found faults, or failed, and the error stream says so
abbrev pub FindsNone : Cause → Result Findings Down → Bool → Errors → Type 0
FindsNone why found true errors = ((findings : Findings) × (found ≡ Ok findings) × (findings.faults ≡ [])) × (errors.new ≡ errors.old)
FindsNone why found false errors = ReportsUnsound why found errors

module _ {K F : Type 0} (k : keep.Ghosts K) (f : files.Ghosts F K) where
  -- the tables of a store were checked
  abbrev pub ChecksFirst : Cause → K → Bool → K → Errors → Type 0
  ChecksFirst why opened is_sound before errors = ChecksStore k f (λ found reported. FindsNone why found is_sound reported) opened before errors

module _ {K F N C R W : Type 0} (k : keep.Ghosts K) (f : files.Ghosts F K) (n : connections.Ghosts N R W) (c : clock.Ghosts C) (i : inlet.Ghosts R) (o : outlet.Ghosts W) where
  -- connections are answered from an open store, which is then closed at this path; the network has been asked to listen, with this result
  pub record ServesOpened (path : List ℕ) (bound : Result Site Cause) (terms : Terms) (count : ℕ) (before : K) (old new : Environment F N C) (e : Exit) (output : Stream) (errors : Errors) : Type 0 where
    pub after : K
    pub lasts : Lasts k.clean k.sound k.keyed k.shielded before after
    pub served : Exit
    pub reported : Option (List ℕ)
    pub lines : Reported
    pub serves : k.clean after → k.sound before
        → Serves (λ es. ServesBound k f n c i o bound terms count es (state old.network old.clock before errors.old output.old) (state new.network new.clock after lines reported) served) terms.door count (k.rows before) (k.rows after)
    pub answers : AnswersBound k f n c i o bound terms count (state old.network old.clock before errors.old output.old) (state new.network new.clock after lines reported) served
    pub says : SaysServed served e reported output.new
    pub closes : Closes k f path old.files new.files after (error_stream lines errors.new)
