-- A service from its words to its replies.
use Rattle.std.proofs.Common.{◌≡◌, inl, inr, ◌⊎◌, ℕ, Bool, false, List, Option, Some, Result, Ok, Err, sym, ap, subst, ◌∙◌}
use Rattle.std.proofs.lemmas.Option.{same_Some}
use Rattle.machine.specs.declared.keeps.Keep as keep
use Rattle.machine.specs.declared.records.Organization.{Organization}
use Rattle.serve.specs.declared.doors.Door.{Door}
use Rattle.command_line.specs.Orders.{Asked, Site, at_port, at_socket, serves}
use Rattle.command_line.specs.declared.timeouts.Timeouts.{Timeouts}
use Rattle.program.specs.Listening.{AsksToListen}
use Rattle.program.specs.Outcomes.{Stream, Errors, error_stream, IsDoor, ServesFrom, StartsAt, ServesWithDoor, Leaves, RefusesWords, Environment, environment, IsAlone}
use Rattle.command_line.specs.Words.{asked_in}
use Rattle.program.specs.Services.{no_records, HasNoOrganization, ServesFromNothing, NobodyIsAnswered, ServicesBegin}
use Rattle.program.specs.Serving.{state, Serves, ServesBound}
use Rattle.program.specs.Streams.{Reported}
use Rattle.program.specs.declared.environment.Clock as clock
use Rattle.program.specs.declared.environment.Connections as connections
use Rattle.program.specs.declared.environment.Files as files
use Rattle.program.specs.declared.exits.Exit.{Exit}
use Rattle.program.specs.declared.serving.Terms.{Terms}
use Rattle.program.specs.declared.reasons.Cause.{Cause}
use Rattle.wire.specs.declared.devices.Inlet as inlet
use Rattle.wire.specs.declared.devices.Outlet as outlet
use Rattle.program.proofs.EnvironmentLemmas.{same_records}

alone_as_before : {F N C : Type 0} (old new : Environment F N C) → new ≡ old → IsAlone old new
alone_as_before {F} {N} {C} old new same = (ap (λ (e : Environment F N C). e.network) same, ap (λ (e : Environment F N C). e.clock) same)

module _ {K F N C R W : Type 0} (k : keep.Ghosts K) (f : files.Ghosts F K) (n : connections.Ghosts N R W) (c : clock.Ghosts C) (i : inlet.Ghosts R) (o : outlet.Ghosts W) where
  -- a service that is opened there begins without an organization
  pub from_nothing : (path : List ℕ) (site : Site) (count : ℕ) (timeouts : Timeouts) (logs operates : Bool) (input : Option (List ℕ)) (old new : Environment F N C) (e : Exit) (output : Stream) (errors : Errors) (door : Door)
      (bound : Result Site Cause) (network : N)
      → IsDoor operates input door → HasNoOrganization k f old.files path → AsksToListen n site old.network bound network
      → ServesFrom k f n c i o path bound (record { timeouts = timeouts; logs = logs; door = door }) count (environment old.files network old.clock) new e output errors
      → ServesFromNothing k f n c i o path site count timeouts logs operates input old new e output errors
  from_nothing path site count timeouts logs operates input old new e output errors door bound network is_door empty listens from = record {
    door = door;
    is_door = is_door;
    bound = bound;
    network = network;
    listens = listens;
    program = from;
    serves = λ clean.
        let begun = empty from.before from.opens.found (from.lasts.so_far clean) in
        subst (λ (rows : List ℕ → Option Organization). Serves (λ es. ServesBound k f n c i o bound (record { timeouts = timeouts; logs = logs; door = door }) count es
        (state network old.clock from.before from.noted output.old) (state new.network new.clock from.after from.lines from.reported) from.served) door count rows (k.rows from.after))
        (same_records (k.rows from.before) no_records begun.0) (from.serves clean begun.1);
  }

  -- a service, or what is left of a start that answers nobody
  by_start : (site : Site) (path : List ℕ) (count : ℕ) (terms : Terms) (old new : Environment F N C) (e : Exit) (output : Stream) (errors : Errors) (bound : Result Site Cause) (network : N)
      → StartsAt k f n c i o site false path bound terms count (environment old.files network old.clock) new e output errors
      → ServesFrom k f n c i o path bound terms count (environment old.files network old.clock) new e output errors ⊎ ((new.network ≡ network) × (new.clock ≡ old.clock))
  by_start (at_port port) path count terms old new e output errors bound network (inl from) = inl from
  by_start (at_port port) path count terms old new e output errors bound network (inr refused) = inr refused.1
  by_start (at_socket at) path count terms old new e output errors (Ok given) network (inl from) = inl from
  by_start (at_socket at) path count terms old new e output errors (Ok given) network (inr refused) = inr refused.1
  by_start (at_socket at) path count terms old new e output errors (Err why) network refused = inr (alone_as_before (environment old.files network old.clock) new refused.0)

  after_start : (path : List ℕ) (site : Site) (count : ℕ) (timeouts : Timeouts) (logs operates : Bool) (input : Option (List ℕ)) (old new : Environment F N C) (e : Exit) (output : Stream) (errors : Errors) (door : Door)
      (bound : Result Site Cause) (network : N)
      → IsDoor operates input door → HasNoOrganization k f old.files path → AsksToListen n site old.network bound network
      → ServesFrom k f n c i o path bound (record { timeouts = timeouts; logs = logs; door = door }) count (environment old.files network old.clock) new e output errors ⊎ ((new.network ≡ network) × (new.clock ≡ old.clock))
      → ServesFromNothing k f n c i o path site count timeouts logs operates input old new e output errors ⊎ NobodyIsAnswered k f n c i o site old new
  after_start path site count timeouts logs operates input old new e output errors door bound network is_door empty listens (inl from) =
      inl (from_nothing path site count timeouts logs operates input old new e output errors door bound network is_door empty listens from)
  after_start path site count timeouts logs operates input old new e output errors door bound network is_door empty listens (inr alone) =
      inr (inr (bound, subst (λ (x : N). AsksToListen n site old.network bound x) (sym alone.0) listens, alone.1))

  by_door : (path : List ℕ) (site : Site) (count : ℕ) (timeouts : Timeouts) (logs operates : Bool) (input : Option (List ℕ)) (old new : Environment F N C) (e : Exit) (output : Stream) (errors : Errors)
      → HasNoOrganization k f old.files path → ServesWithDoor k f n c i o operates false path site timeouts logs count input old new e output errors
      → ServesFromNothing k f n c i o path site count timeouts logs operates input old new e output errors ⊎ NobodyIsAnswered k f n c i o site old new
  by_door path site count timeouts logs operates input old new e output errors empty (inl (door, is_door, bound, network, listens, starts)) =
      after_start path site count timeouts logs operates input old new e output errors door bound network is_door empty listens
      (by_start site path count (record { timeouts = timeouts; logs = logs; door = door }) old new e output errors bound network starts)
  by_door path site count timeouts logs operates input old new e output errors empty (inr refused) = inr (inl (alone_as_before old new refused.1))

  by_words : (words : List (List ℕ)) (path : List ℕ) (site : Site) (count : ℕ) (timeouts : Timeouts) (logs operates : Bool) (input : Option (List ℕ)) (old new : Environment F N C) (e : Exit) (output : Stream) (errors : Errors)
      → asked_in words ≡ Some (serves path site count timeouts logs false operates) → HasNoOrganization k f old.files path
      → ((asked : Asked) × (asked_in words ≡ Some asked) × Leaves k f n c i o asked input old new e output errors) ⊎ (RefusesWords words e output errors × (new ≡ old))
      → ServesFromNothing k f n c i o path site count timeouts logs operates input old new e output errors ⊎ NobodyIsAnswered k f n c i o site old new
  by_words words path site count timeouts logs operates input old new e output errors asks empty (inl (asked, is, leaves)) =
      by_door path site count timeouts logs operates input old new e output errors empty
      (subst (λ (a : Asked). Leaves k f n c i o a input old new e output errors) (same_Some asked (serves path site count timeouts logs false operates) (sym is ∙ asks)) leaves)
  by_words words path site count timeouts logs operates input old new e output errors asks empty (inr refused) = inr (inl (alone_as_before old new refused.1))

  with_report : (path : List ℕ) (site : Site) (count : ℕ) (timeouts : Timeouts) (logs operates : Bool) (input : Option (List ℕ)) (old new : Environment F N C) (e : Exit) (output : Stream) (errors : Errors) (reported : Reported)
      → ServesFromNothing k f n c i o path site count timeouts logs operates input old new e output (error_stream errors.old reported) ⊎ NobodyIsAnswered k f n c i o site old new
      → ((reported : Reported) × ServesFromNothing k f n c i o path site count timeouts logs operates input old new e output (error_stream errors.old reported)) ⊎ NobodyIsAnswered k f n c i o site old new
  with_report path site count timeouts logs operates input old new e output errors reported (inl service) = inl (reported, service)
  with_report path site count timeouts logs operates input old new e output errors reported (inr alone) = inr alone

  pub services_begin : ServicesBegin k f n c i o
  services_begin words path site count timeouts logs operates input old new e output errors asks empty runs =
      with_report path site count timeouts logs operates input old new e output errors runs.reported
      (by_words words path site count timeouts logs operates input old new e output (error_stream errors.old runs.reported) asks empty runs.runs.leaves)
