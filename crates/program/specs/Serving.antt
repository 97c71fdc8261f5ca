-- The loop of `serve`: what it prints, the connections that it answers, the records that it leaves, and what its log says of them.
use Rattle.std.specs.Prelude.{◌≡◌, ◌<◌, ◌≤◌, ℕ, suc, List, [], ◌∷◌, ◌++◌, ◌⊎◌, ⊤, Bool, true, false, Option, Some, None, IfSome, Result, Ok, Err, MatchResult, codes, decimal, length}
use Rattle.std.specs.Io.KnownBytes.{Appends, Consumes}
use Rattle.basis.specs.declared.memory.Down.{Down}
use Rattle.docs.specs.declared.logs.LogRow.{LogRow}
use Rattle.machine.specs.declared.keeps.Keep as keep
use Rattle.machine.specs.declared.records.Organization.{Organization}
use Rattle.machine.specs.Ranges.{IsMoment}
use Rattle.machine.specs.StoreCalls.{Unchanged, Lasts}
use Rattle.serve.specs.declared.exchanges.LinkFault.{LinkFault}
use Rattle.serve.specs.Exchanges.{Exchanges, ChangesAsLogged}
use Rattle.serve.specs.declared.doors.Door.{Door}
use Rattle.serve.specs.Served.{Exchange, AsksToStop, IsServed, AreServed, same_door}
use Rattle.serve.specs.Promises.{IsAsPromised}
use Rattle.program.specs.Errors.{GetsConnectionLines, cause_line}
use Rattle.program.specs.Streams.{Reported, Reports}
use Rattle.program.specs.Checkpoints.{Checkpoints}
use Rattle.docs.specs.Logs.{log_line}
use Rattle.serve.specs.Logs.{names_stop}
use Rattle.program.specs.Logs.{end_word, row_text, names_act, with_log, Logs, Line, log_text, ChangeByLines}
use Rattle.program.specs.declared.reasons.Cause.{Cause}
use Rattle.program.specs.declared.reasons.Cause.TheVariants as cause
use Rattle.program.specs.declared.exits.Exit.{Exit}
use Rattle.program.specs.declared.exits.Exit.TheVariants as exit
use Rattle.program.specs.declared.environment.Connections as connections
use Rattle.program.specs.declared.environment.Files as files
use Rattle.program.specs.declared.environment.Clock as clock
use Rattle.command_line.specs.Orders.{Site, at_port, at_socket}
use Rattle.command_line.specs.declared.timeouts.Timeouts.{Timeouts}
use Rattle.program.specs.declared.serving.Terms.{Terms}
use Rattle.wire.specs.declared.devices.Inlet as inlet
use Rattle.wire.specs.declared.devices.Outlet as outlet

-- `listening 127.0.0.1:PORT` or `listening PATH`, and a line feed (10)
abbrev pub listening_line : Site → List ℕ
listening_line (at_port port) = codes "listening 127.0.0.1:" ++ decimal port ++ 10 ∷ []
listening_line (at_socket path) = codes "listening " ++ path ++ 10 ∷ []

-- what standard output gets: the line with one of these sites once, before the first connection, then the log if it is on (`true`). If no
-- connection can be accepted, the line may be missing
abbrev pub Listens : (Site → Type 0) → Bool → Exit → Option (List ℕ) → Option (List ℕ) → Type 0
Listens IsSite logs exit.Done old new = (site : Site) × IsSite site × (log : List ℕ) × Appends old new (with_log logs (listening_line site) log)
Listens IsSite logs exit.Down old new = (new ≡ old) ⊎ ((site : Site) × IsSite site × (log : List ℕ) × Appends old new (with_log logs (listening_line site) log))
Listens IsSite logs exit.Unprinted old new = ⊤
Listens IsSite logs other old new = ⊥

-- the same, if the site is known
abbrev pub ListensAt : Site → Bool → Exit → Option (List ℕ) → Option (List ℕ) → Type 0
ListensAt site logs exit.Done old new = (log : List ℕ) × Appends old new (with_log logs (listening_line site) log)
ListensAt site logs exit.Down old new = (log : List ℕ) × Appends old new (with_log logs (listening_line site) log)
ListensAt site logs exit.Unprinted old new = ⊤
ListensAt site logs other old new = ⊥

-- the network, the clock, the store, and the contents of the error stream and standard output, between two connections
pub record State (N C K : Type 0) : Type 0 where
  pub network : N
  pub clock : C
  pub store : K
  pub errors : Reported
  pub output : Option (List ℕ)

abbrev pub state : {N C K : Type 0} → N → C → K → Reported → Option (List ℕ) → State N C K
state network clock store errors output = record { network = network; clock = clock; store = store; errors = errors; output = output }

-- no connection is accepted with these timeouts, or the clock has no time for it, or at that time the files are no longer at their path, for
-- this cause: the network and the clock before and after
abbrev pub AcceptsNone : {K F N C R W : Type 0} → files.Ghosts F K → connections.Ghosts N R W → clock.Ghosts C → Timeouts → N → N → C → C → Cause → Type 0
AcceptsNone {K} {F} {N} {C} {R} {W} f n c timeouts network network' clock clock' why =
    ((refused : Down) × n.accepts network timeouts (Err refused) network' × (clock' ≡ clock) × (why ≡ cause.Accept))
    ⊎ (((reader : R) × (writer : W) × n.accepts network timeouts (Ok (reader, writer)) network' × c.reports clock None clock' × (why ≡ cause.Clock))
    ⊎ ((reader : R) × (writer : W) × (at : ℕ) × n.accepts network timeouts (Ok (reader, writer)) network' × c.reports clock (Some at) clock' × f.places at false × (why ≡ cause.Moved)))

module _ {K N R W : Type 0} (k : keep.Ghosts K) (n : connections.Ghosts N R W) (i : inlet.Ghosts R) (o : outlet.Ghosts W) where
  -- the connection of this number, with these two sides, is answered by one exchange at this time. Whether it got the 503 of a failed
  -- allocation or store, which the error stream reports; whether it was a `stop` that was answered `ok`; its line in the log, if the log is on,
  -- and whether that was taken; its end, as one whose message was read completely if the line names an act. The network, the store, and the
  -- contents of the error stream and standard output, before and after
  pub record AnswersOne (terms : Terms) (connection at : ℕ) (is_down is_stop is_logged : Bool) (reader : R) (writer : W) (network network' : N) (store store' : K) (errors errors' : Reported) (output output' : Option (List ℕ)) : Type 0 where
    pub read : R
    pub written : W
    pub result : Result (Unit {0}) LinkFault
    pub row : Option LogRow
    pub timely : IsMoment at
    pub lasts : Lasts k.clean k.sound k.keyed k.shielded store store'
    pub exchanges : k.clean store' → k.sound store → (received : List ℕ) × Consumes (i.left reader) (i.left read) received
        × Exchanges terms.door at received (i.left read) (k.rows store) (k.rows store') (o.written writer) (o.written written) is_down row result
    pub changes : k.clean store' → k.sound store → IfSome row (λ reported. ChangesAsLogged reported (k.rows store) (k.rows store'))
    pub lines : GetsConnectionLines connection is_down result errors errors'
    pub stops : is_stop ≡ names_stop row
    pub logged : Logs terms.logs is_logged (row_text connection result row) output output'
    pub ends : n.ends network read written (names_act row) network'

module _ {K F : Type 0} (k : keep.Ghosts K) (f : files.Ghosts F K) where
  -- after the 503, the files are asked whether a disk error has closed the store, and say so or not, or have no memory for it, which counts as
  -- not. After another reply they are not asked, and checkpoint a long WAL
  abbrev pub AfterReply : Bool → K → Bool → K → Type 0
  AfterReply true old is_shut new = (said : Result Bool Down) × f.shuts old said new × Unchanged k.rows k.clean k.sound k.keyed k.shielded old new × MatchResult said (λ reported. is_shut ≡ reported) (λ down. is_shut ≡ false)
  AfterReply false old is_shut new = (is_shut ≡ false) × f.checkpoints old new × Checkpoints k.rows k.clean k.sound k.keyed k.shielded old new

module _ {K N C R W : Type 0} (k : keep.Ghosts K) (n : connections.Ghosts N R W) (c : clock.Ghosts C) (i : inlet.Ghosts R) (o : outlet.Ghosts W) where
  -- a connection is accepted with the timeouts of these terms, the clock gives this time, and the connection is answered as the one of this
  -- number
  pub record Answers (terms : Terms) (connection at : ℕ) (is_down is_stop is_logged : Bool) (old new : State N C K) : Type 0 where
    pub reader : R
    pub writer : W
    pub network : N
    pub accepts : n.accepts old.network terms.timeouts (Ok (reader, writer)) network
    pub reports : c.reports old.clock (Some at) new.clock
    pub answers : AnswersOne k n i o terms connection at is_down is_stop is_logged reader writer network new.network old.store new.store old.errors new.errors old.output new.output

module _ {K F N C R W : Type 0} (k : keep.Ghosts K) (f : files.Ghosts F K) (n : connections.Ghosts N R W) (c : clock.Ghosts C) (i : inlet.Ghosts R) (o : outlet.Ghosts W) where
  -- the files are at their path, a connection is answered in this way, and then the store is looked after; whether a disk error has closed it is
  -- then known
  pub record AnswersNext (terms : Terms) (connection at : ℕ) (is_shut is_stop is_logged : Bool) (old new : State N C K) : Type 0 where
    pub is_down : Bool
    pub store : K
    pub placed : f.places at true
    pub answers : Answers k n c i o terms connection at is_down is_stop is_logged old (state new.network new.clock store new.errors new.output)
    pub after_reply : AfterReply k f is_down store is_shut new.store

  -- connections are answered in order, one at each of these times, each on these terms, numbered from this one on. After none of them was the
  -- store closed, none was a `stop`, and every line of the log was taken
  abbrev pub AnswersAll : Terms → ℕ → List ℕ → State N C K → State N C K → Type 0
  AnswersAll terms connection [] old new = new ≡ old
  AnswersAll terms connection (at ∷ moments) old new = (mid : State N C K) × AnswersNext terms connection at false false true old mid × AnswersAll terms (suc connection) moments mid new

  -- no further connection is answered, for this cause: an accept or the clock failed, or the files were no longer at their path, and nothing
  -- else changed; or one more was answered, that of this number, and a disk error has closed the store, or it has not and the log's line was
  -- not taken
  abbrev pub EndsEarly : Terms → ℕ → State N C K → State N C K → Cause → Type 0
  EndsEarly terms connection last new why =
      (AcceptsNone f n c terms.timeouts last.network new.network last.clock new.clock why × (new.store ≡ last.store) × (new.errors ≡ last.errors) × (new.output ≡ last.output))
      ⊎ (((at : ℕ) × (is_stop : Bool) × (is_logged : Bool) × AnswersNext terms connection at true is_stop is_logged last new × (why ≡ cause.Shut))
      ⊎ ((at : ℕ) × (is_stop : Bool) × AnswersNext terms connection at false is_stop false last new × (why ≡ cause.Log)))

  -- these many were answered, and no further one is to be: they are all; or they are fewer, and one more was answered, a `stop`
  abbrev pub EndsInOrder : Terms → ℕ → ℕ → State N C K → State N C K → Type 0
  EndsInOrder terms count answered last new =
      ((answered ≡ count) × (new ≡ last))
      ⊎ ((answered < count) × (at : ℕ) × AnswersNext terms (suc answered) at false true true last new)

  -- the line with the site is printed, then this many connections are answered, or fewer, of which the last is a `stop`; or fewer, because no
  -- further one is, and the error stream gets the cause; or none, because the line could not be printed
  abbrev pub AnswersCount : Site → Terms → ℕ → State N C K → State N C K → Exit → Type 0
  AnswersCount site terms count old new exit.Done =
      (heard : Option (List ℕ)) × Appends old.output heard (listening_line site)
      × (moments : List ℕ) × (last : State N C K) × AnswersAll terms 1 moments (state old.network old.clock old.store old.errors heard) last × EndsInOrder terms count (length moments) last new
  AnswersCount site terms count old new exit.Down =
      (heard : Option (List ℕ)) × Appends old.output heard (listening_line site)
      × (moments : List ℕ) × (last : State N C K) × (length moments < count) × AnswersAll terms 1 moments (state old.network old.clock old.store old.errors heard) last
      × (why : Cause) × (errors : Reported) × EndsEarly terms (suc (length moments)) last (state new.network new.clock new.store errors new.output) why × Reports errors new.errors (cause_line why)
  AnswersCount site terms count old new exit.Unprinted = (new.network ≡ old.network) × (new.clock ≡ old.clock) × (new.store ≡ old.store) × (new.errors ≡ old.errors)
  AnswersCount site terms count old new other = ⊥

  -- the network has been asked to listen, with this result. The site that it gave is printed, and this many connections are answered. Or it
  -- cannot listen, and the error stream gets the cause
  abbrev pub AnswersBound : Result Site Cause → Terms → ℕ → State N C K → State N C K → Exit → Type 0
  AnswersBound (Ok given) terms count old new e = AnswersCount given terms count old new e × ListensAt given terms.logs e old.output new.output
  AnswersBound (Err why) terms count old new e =
      (new.network ≡ old.network) × (new.clock ≡ old.clock) × (new.store ≡ old.store) × Reports old.errors new.errors (cause_line why) × (e ≡ exit.Down) × (new.output ≡ old.output)

  -- the log has one line for each answered connection, in order. Between two lines, only the record of the organization that the later line
  -- names changes
  abbrev pub LogReportsChanges : Type 0
  LogReportsChanges = (terms : Terms) → terms.logs ≡ true → (connection : ℕ) (moments : List ℕ) (old new : State N C K)
      → AnswersAll terms connection moments old new → k.clean new.store → k.sound old.store
      → (lines : List Line) × (length lines ≡ length moments) × Appends old.output new.output (log_text connection lines) × ChangeByLines lines (k.rows old.store) (k.rows new.store)

  -- and so has each answered connection, a `stop` too
  abbrev pub LogReportsNext : Type 0
  LogReportsNext = (terms : Terms) → terms.logs ≡ true → (connection at : ℕ) (is_stop : Bool) (old new : State N C K)
      → AnswersNext terms connection at false is_stop true old new → k.clean new.store → k.sound old.store
      → (line : Line) × Appends old.output new.output (log_line connection (end_word line.ended) line.row) × ChangesAsLogged line.row (k.rows old.store) (k.rows new.store)

  -- a connection is answered in this way, and this is its exchange: it received what the connection's reader gave, wrote what its writer
  -- took, and is served from the records before it
  pub record ServesNext (terms : Terms) (connection : ℕ) (e : Exchange) (is_shut is_stop is_logged : Bool) (old new : State N C K) : Type 0 where
    pub next : AnswersNext terms connection e.at is_shut is_stop is_logged old new
    pub received : Consumes (i.left next.answers.reader) (i.left next.answers.answers.read) e.received
    pub written : Appends (o.written next.answers.writer) (o.written next.answers.answers.written) e.written
    pub served : IsServed terms.door e (k.rows old.store) (k.rows new.store)

  -- connections are answered in order, as `AnswersAll` says, and these are their exchanges
  abbrev pub ServesAll : Terms → ℕ → List Exchange → State N C K → State N C K → Type 0
  ServesAll terms connection [] old new = new ≡ old
  ServesAll terms connection (e ∷ es) old new = (mid : State N C K) × ServesNext terms connection e false false true old mid × ServesAll terms (suc connection) es mid new

  -- no further connection is answered, for this cause, as `EndsEarly` says, and these are the exchanges since: none, or one
  abbrev pub EndsServed : Terms → ℕ → List Exchange → State N C K → State N C K → Cause → Type 0
  EndsServed terms connection es last new why =
      ((es ≡ []) × AcceptsNone f n c terms.timeouts last.network new.network last.clock new.clock why × (new.store ≡ last.store) × (new.errors ≡ last.errors) × (new.output ≡ last.output))
      ⊎ (((e : Exchange) × (is_stop : Bool) × (is_logged : Bool) × (es ≡ e ∷ []) × ServesNext terms connection e true is_stop is_logged last new × (why ≡ cause.Shut))
      ⊎ ((e : Exchange) × (is_stop : Bool) × (es ≡ e ∷ []) × ServesNext terms connection e false is_stop false last new × (why ≡ cause.Log)))

  -- no further connection is to be answered, as `EndsInOrder` says, and these are the exchanges since: none, or the
  -- one that asked for it by `stop`
  abbrev pub EndsServedInOrder : Terms → ℕ → ℕ → List Exchange → State N C K → State N C K → Type 0
  EndsServedInOrder terms count answered es last new =
      ((es ≡ []) × (answered ≡ count) × (new ≡ last))
      ⊎ ((answered < count) × (e : Exchange) × (es ≡ e ∷ []) × ServesNext terms (suc answered) e false true true last new × AsksToStop e)

  -- the exchanges of a loop, by how it ended, as `AnswersCount` says
  abbrev pub ServesCount : Site → Terms → ℕ → List Exchange → State N C K → State N C K → Exit → Type 0
  ServesCount site terms count es old new exit.Done =
      (heard : Option (List ℕ)) × Appends old.output heard (listening_line site)
      × (before : List Exchange) × (since : List Exchange) × (es ≡ before ++ since) × (last : State N C K)
      × ServesAll terms 1 before (state old.network old.clock old.store old.errors heard) last × EndsServedInOrder terms count (length before) since last new
  ServesCount site terms count es old new exit.Down =
      (heard : Option (List ℕ)) × Appends old.output heard (listening_line site)
      × (before : List Exchange) × (since : List Exchange) × (es ≡ before ++ since) × (last : State N C K) × (length before < count)
      × ServesAll terms 1 before (state old.network old.clock old.store old.errors heard) last
      × (why : Cause) × (errors : Reported) × EndsServed terms (suc (length before)) since last (state new.network new.clock new.store errors new.output) why × Reports errors new.errors (cause_line why)
  ServesCount site terms count es old new exit.Unprinted = (es ≡ []) × (new.network ≡ old.network) × (new.clock ≡ old.clock) × (new.store ≡ old.store) × (new.errors ≡ old.errors)
  ServesCount site terms count es old new other = ⊥

  -- what a loop answered are exchanges, each with the bytes of its connection, served one after the other
  abbrev pub LoopsAreServed : Type 0
  LoopsAreServed = (site : Site) (terms : Terms) (count : ℕ) (old new : State N C K) (e : Exit)
      → AnswersCount site terms count old new e → k.clean new.store → k.sound old.store
      → (es : List Exchange) × ServesCount site terms count es old new e × AreServed terms.door es (k.rows old.store) (k.rows new.store)

  -- the exchanges, as `AnswersBound` says; none if the network cannot listen
  abbrev pub ServesBound : Result Site Cause → Terms → ℕ → List Exchange → State N C K → State N C K → Exit → Type 0
  ServesBound (Ok given) terms count es old new e = ServesCount given terms count es old new e
  ServesBound (Err why) terms count es old new e =
      (es ≡ []) × (new.network ≡ old.network) × (new.clock ≡ old.clock) × (new.store ≡ old.store) × (e ≡ exit.Down)

-- at most this many exchanges were served with this door, one after the other, as promised, and nothing else changed a record. They are
-- those of the connections (`AreOf`)
pub record Serves (AreOf : List Exchange → Type 0) (door : Door) (count : ℕ) (old new : List ℕ → Option Organization) : Type 0 where
  pub exchanges : List Exchange
  pub few : length exchanges ≤ count
  pub of_connections : AreOf exchanges
  pub served : AreServed door exchanges old new
  pub promised : IsAsPromised (same_door door exchanges) exchanges old new
