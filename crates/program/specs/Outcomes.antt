-- What the program does for each command: how it exits, what is printed to both streams, and what is at each path afterwards. Nothing is said
-- of standard output that did not take everything. The error stream gets each line completely, unless a call on it failed while the line was
-- written.
use Rattle.std.specs.Prelude.{◌≡◌, ◌≢◌, ◌<◌, ◌≤◌, ◌⊎◌, ◌+◌, ◌++◌, ℕ, suc, Bool, List, [], ◌∷◌, ⊤, Option, Some, None, IfSome, Result, Ok, Err, IfOk, true, false, length, is_some}
use Rattle.std.specs.Io.KnownBytes.{Appends}
use Rattle.basis.specs.declared.memory.Down.{Down}
use Rattle.machine.specs.StoreCalls.{Unchanged, Lasts}
use Rattle.machine.specs.declared.keeps.Keep as keep
use Rattle.machine.specs.declared.keeps.OrgRow.{OrgRow}
use Rattle.machine.specs.declared.keeps.TokenRow.{TokenRow}
use Rattle.serve.specs.declared.steps.Step.{Step}
use Rattle.serve.specs.declared.steps.Admin.{Admin}
use Rattle.serve.specs.declared.steps.Admin.TheVariants.{OrgAdd, OrgLimit, OrgRemove, OrgList, TokenAdd, TokenList, TokenRevoke}
use Rattle.machine.specs.declared.keeps.AdminAnswer.{AdminAnswer}
use Rattle.machine.specs.declared.keeps.AdminAnswer.TheVariants as answer
use Rattle.machine.specs.declared.records.Organization.{Organization}
use Rattle.machine.specs.Effects.{effect}
use Rattle.serve.specs.Asks.{commands}
use Rattle.serve.specs.Service.{Carries as CarriesOut, IsAdminAnswer, Stays, org_lines, token_lines}
use Rattle.program.specs.declared.exits.Exit.{Exit}
use Rattle.program.specs.declared.exits.Exit.TheVariants as exit
use Rattle.program.specs.Batches.{AreLines, bad_text, first_command, stopped_text}
use Rattle.program.specs.declared.line_faults.LineFault.{LineFault}
use Rattle.program.specs.declared.batches.BatchLine.{BatchLine}
use Rattle.program.specs.declared.batches.BatchLine.TheVariants as batch_line
use Rattle.program.specs.Exits.{ending_line}
use Rattle.program.specs.Errors.{log_line, readers_line, secret_line, long_operators_line, new_line, cause_line, memory_line, other_line, unprinted_line}
use Rattle.program.specs.declared.reasons.Cause.{Cause}
use Rattle.program.specs.declared.reasons.Cause.TheVariants as cause
use Rattle.program.specs.declared.reasons.OtherSchema.{OtherSchema}
use Rattle.program.specs.declared.reasons.OpenFault.TheVariants as fault
use Rattle.program.specs.Frames.{AreFrames}
use Rattle.program.specs.Logs.{with_log}
use Rattle.program.specs.declared.environment.Files as files
use Rattle.program.specs.declared.environment.Opening.{Opening}
use Rattle.program.specs.declared.environment.Opening.TheVariants as opening
use Rattle.program.specs.declared.totals.Findings.{Findings}
use Rattle.program.specs.declared.totals.Totals.{Totals}
use Rattle.program.specs.Totals.{sound_text, version_text}
use Rattle.command_line.specs.Orders.{Asked, Site, at_port, at_socket, carries, adds_token, checks_file, copies, removes_copied, compacts, serves, carries_all, replays, reports_version}
use Rattle.program.specs.Listening.{AsksToListen, IsGivenFor}
use Rattle.machine.specs.Removal.{org_removed}
use Rattle.program.specs.Moves.{org_copied, IsFilled, SomeAreCopied, CopiesBetween}
use Rattle.program.specs.Paths.{AllStay, OthersStay, OthersStayBut, LeavesVacant, makes, raises}
use Rattle.program.specs.Replies.{printed, bad_frame_text, answer_line, fault_lines, AreReplies, Replays}
use Rattle.program.specs.Secrets.{secret_in}
use Rattle.program.specs.Serving.{listening_line, Serves, ServesBound, state, AnswersBound}
use Rattle.program.specs.Streams.{Reported, GetsAll, Reports}
use Rattle.program.specs.declared.environment.Clock as clock
use Rattle.program.specs.declared.environment.Connections as connections
use Rattle.command_line.specs.declared.timeouts.Timeouts.{Timeouts}
use Rattle.program.specs.declared.serving.Terms.{Terms}
use Rattle.serve.specs.declared.doors.Door.{Door}
use Rattle.serve.specs.declared.doors.Door.TheVariants.{Closed, Open}
use Rattle.serve.specs.declared.operators.Operator.{Operator}
use Rattle.program.specs.Operators.{AreOperators}
use Rattle.wire.specs.declared.devices.Inlet as inlet
use Rattle.wire.specs.declared.devices.Outlet as outlet
use Rattle.command_line.specs.Words.{asked_in, AskForHelp, AreNoCommand}

-- standard output: its contents before and after
pub record Stream : Type 0 where
  pub old : Option (List ℕ)
  pub new : Option (List ℕ)

abbrev pub stream : Option (List ℕ) → Option (List ℕ) → Stream
stream before after = record { old = before; new = after }

abbrev pub Gets : Stream → List ℕ → Type 0
Gets stream text = Appends stream.old stream.new text

-- the error stream: its contents, and how many calls on it have failed, before and after
pub record Errors : Type 0 where
  pub old : Reported
  pub new : Reported

abbrev pub error_stream : Reported → Reported → Errors
error_stream before after = record { old = before; new = after }

-- the whole of a text that is not empty
abbrev pub GetsSome : Errors → Type 0
GetsSome errors = (text : List ℕ) × (0 < length text) × GetsAll errors.old errors.new text

-- the line of an exit
abbrev pub Says : Exit → Stream → Type 0
Says e output = Gets output (answer_line (ending_line e))

-- the line of an exit was printed, or not completely taken
abbrev pub IsSaid : Exit → Exit → Option (List ℕ) → Option (List ℕ) → Type 0
IsSaid e result old new = ((result ≡ e) × Appends old new (answer_line (ending_line e))) ⊎ (result ≡ exit.Unprinted)

-- the one-line answer to an operator's command, or why there is none
abbrev pub AnswersLine : Exit → Stream → Type 0
AnswersLine exit.Done output = Says exit.Done output
AnswersLine exit.Exists output = Says exit.Exists output
AnswersLine exit.Absent output = Says exit.Absent output
AnswersLine exit.InUse output = Says exit.InUse output
AnswersLine exit.Schema output = Says exit.Schema output
AnswersLine exit.Down output = Says exit.Down output
AnswersLine exit.Faults output = ⊥
AnswersLine exit.Usage output = ⊥
AnswersLine exit.BadFrame output = ⊥
AnswersLine exit.Unprinted output = ⊤

-- `ok`, or that an organization already exists, or why neither
abbrev pub AnswersFilled : Exit → Stream → Type 0
AnswersFilled exit.Done output = Says exit.Done output
AnswersFilled exit.Exists output = Says exit.Exists output
AnswersFilled exit.Schema output = Says exit.Schema output
AnswersFilled exit.Down output = Says exit.Down output
AnswersFilled exit.Unprinted output = ⊤
AnswersFilled e output = ⊥

-- the answer to `compact`: every organization was copied to an empty target (`true`), or the target had some
abbrev pub filled_ending : Bool → Exit
filled_ending true = exit.Done
filled_ending false = exit.Exists

-- the list of all organizations, one line each, or why there is none
abbrev pub AnswersList : Exit → Stream → Type 0
AnswersList exit.Done output = (rows : List OrgRow) × Gets output (org_lines rows)
AnswersList exit.Schema output = Says exit.Schema output
AnswersList exit.Down output = Says exit.Down output
AnswersList exit.Unprinted output = ⊤
AnswersList e output = ⊥

-- the list of an organization's tokens, one line each, or why there is none
abbrev pub AnswersTokens : Exit → Stream → Type 0
AnswersTokens exit.Done output = (rows : List TokenRow) × Gets output (token_lines rows)
AnswersTokens exit.Absent output = Says exit.Absent output
AnswersTokens exit.Schema output = Says exit.Schema output
AnswersTokens exit.Down output = Says exit.Down output
AnswersTokens exit.Unprinted output = ⊤
AnswersTokens e output = ⊥

-- an operator's command on a file
abbrev pub AnswersCommand : Admin → Exit → Stream → Type 0
AnswersCommand OrgList e output = AnswersList e output
AnswersCommand (OrgAdd org limit) e output = AnswersLine e output
AnswersCommand (OrgLimit org limit) e output = AnswersLine e output
AnswersCommand (OrgRemove org is_forced) e output = AnswersLine e output
AnswersCommand (TokenAdd org name role secret bounds) e output = AnswersLine e output
AnswersCommand (TokenList org) e output = AnswersTokens e output
AnswersCommand (TokenRevoke org name) e output = AnswersLine e output

-- the word of an answer is printed; a list has no word
abbrev pub ReportsWord : AdminAnswer → Exit → Stream → Type 0
ReportsWord answer.Done e output = IsSaid exit.Done e output.old output.new
ReportsWord answer.Exists e output = IsSaid exit.Exists e output.old output.new
ReportsWord answer.Absent e output = IsSaid exit.Absent e output.old output.new
ReportsWord answer.InUse e output = IsSaid exit.InUse e output.old output.new
ReportsWord (answer.Organizations rows) e output = ⊤
ReportsWord (answer.Tokens rows) e output = ⊤

-- the lines of a list are printed
abbrev pub ReportsList : AdminAnswer → Exit → Stream → Type 0
ReportsList (answer.Organizations rows) e output = ((e ≡ exit.Done) × Gets output (org_lines rows)) ⊎ (e ≡ exit.Unprinted)
ReportsList word e output = ⊤

-- the lines of an organization's tokens are printed, or that the organization does not exist
abbrev pub ReportsTokens : AdminAnswer → Exit → Stream → Type 0
ReportsTokens (answer.Tokens rows) e output = ((e ≡ exit.Done) × Gets output (token_lines rows)) ⊎ (e ≡ exit.Unprinted)
ReportsTokens answer.Absent e output = IsSaid exit.Absent e output.old output.new
ReportsTokens other e output = ⊤

-- the answer to an operator's command is printed
abbrev pub ReportsAnswer : Admin → AdminAnswer → Exit → Stream → Type 0
ReportsAnswer OrgList answer e output = ReportsList answer e output
ReportsAnswer (OrgAdd org limit) answer e output = ReportsWord answer e output
ReportsAnswer (OrgLimit org limit) answer e output = ReportsWord answer e output
ReportsAnswer (OrgRemove org is_forced) answer e output = ReportsWord answer e output
ReportsAnswer (TokenAdd org name role secret bounds) answer e output = ReportsWord answer e output
ReportsAnswer (TokenList org) answer e output = ReportsTokens answer e output
ReportsAnswer (TokenRevoke org name) answer e output = ReportsWord answer e output

-- the error stream gets the cause of `refused down`
abbrev pub ReportsCause : Cause → Errors → Type 0
ReportsCause why errors = Reports errors.old errors.new (cause_line why)

-- `refused down` is printed, and the error stream gets the cause
abbrev pub Refuses : Cause → Exit → Stream → Errors → Type 0
Refuses why e output errors = IsSaid exit.Down e output.old output.new × ReportsCause why errors

-- an operator's command was carried out: each record is what the machine leaves, and its answer, by the records before, was printed. Or an
-- allocation or the store failed, this cause was reported, and no record is seen to have changed
abbrev pub IsOperated : (Cause → Type 0) → Admin → (List ℕ → Option Organization) → (List ℕ → Option Organization) → Exit → Stream → Errors → Type 0
IsOperated Fails command old new e output errors =
    ((answer : AdminAnswer) × (at : ℕ) × CarriesOut (commands at command) old new × IsAdminAnswer old command answer × ReportsAnswer command answer e output × (errors.new ≡ errors.old))
    ⊎ (Stays old new × ((why : Cause) × Fails why × Refuses why e output errors))

-- an organization was copied: its record is what the rule says by the records before, and the answer was printed. Or an allocation or a store
-- failed, this cause was reported, and no record is seen to have changed
abbrev pub IsCopied : (Cause → Type 0) → List ℕ → (from old new : List ℕ → Option Organization) → Exit → Stream → Errors → Type 0
IsCopied Fails org from old new e output errors =
    ((answer : AdminAnswer) × (effect answer (new org) ≡ org_copied (from org) (old org)) × ((other : List ℕ) → other ≢ org → new other ≡ old other)
    × ReportsWord answer e output × (errors.new ≡ errors.old))
    ⊎ (Stays old new × ((why : Cause) × Fails why × Refuses why e output errors))

-- an organization was removed that had the same record in another store: the records are what the rule says, and the answer was printed. Or
-- the records differed, or an allocation or a store failed, this cause was reported, and no record is seen to have changed
abbrev pub IsRemovedCopied : (Cause → Type 0) → Bool → List ℕ → (from old new : List ℕ → Option Organization) → Exit → Stream → Errors → Type 0
IsRemovedCopied Fails is_forced org from old new e output errors =
    ((answer : AdminAnswer) × (from org ≡ old org) × (effect answer (new org) ≡ org_removed is_forced (old org)) × ((other : List ℕ) → other ≢ org → new other ≡ old other)
    × ReportsWord answer e output × (errors.new ≡ errors.old))
    ⊎ (Stays old new × ((why : Cause) × Fails why × Refuses why e output errors))

-- the answer to a removal is printed; or that the records differ (`None`), or that an allocation or a store failed, with this cause
abbrev pub ReportsRemoval : (Cause → Type 0) → Result (Option AdminAnswer) Down → Exit → Stream → Errors → Type 0
ReportsRemoval Fails (Ok (Some answer)) e output errors = ReportsWord answer e output × (errors.new ≡ errors.old)
ReportsRemoval Fails (Ok None) e output errors = (why : Cause) × Fails why × Refuses why e output errors
ReportsRemoval Fails (Err refused) e output errors = (why : Cause) × Fails why × Refuses why e output errors

-- every organization was copied to an empty target, and `ok` was printed. Or the target had some, none was copied, and that was printed. Or an
-- allocation or a store failed before, which was reported, and only some were copied
abbrev pub IsCompacted : (from old new : List ℕ → Option Organization) → Exit → Stream → Errors → Type 0
IsCompacted from old new e output errors =
    ((is_filled : Bool) × IsFilled from old new is_filled × IsSaid (filled_ending is_filled) e output.old output.new × (errors.new ≡ errors.old))
    ⊎ (SomeAreCopied from old new × Refuses cause.Unfinished e output errors)

-- `refused usage` on standard output, and the reason on the error stream
abbrev pub RefusesUsage : Exit → Stream → Errors → Type 0
RefusesUsage exit.Usage output errors = Says exit.Usage output × GetsSome errors
RefusesUsage exit.Unprinted output errors = ⊤
RefusesUsage e output errors = ⊥

-- `refused down`
abbrev pub RefusesDown : Exit → Stream → Type 0
RefusesDown exit.Down output = Says exit.Down output
RefusesDown exit.Unprinted output = ⊤
RefusesDown e output = ⊥

-- the input is known, and this is its secret; or it has none
abbrev pub HasSecret : Option (List ℕ) → Type 0
HasSecret input = IfSome input (λ bytes. is_some (secret_in bytes) ≡ true)

abbrev pub HasNoSecret : Option (List ℕ) → Type 0
HasNoSecret input = IfSome input (λ bytes. secret_in bytes ≡ None)

-- a token is added: its secret is read before the file is opened
abbrev pub AddsToken : Option (List ℕ) → Exit → Stream → Errors → Type 0
AddsToken input e output errors =
    (HasSecret input × AnswersLine e output) ⊎ ((HasNoSecret input × RefusesUsage e output errors) ⊎ RefusesDown e output)

-- the result of a check: if there is no fault, `ok` and the numbers of rows; otherwise one line per fault; or why it failed
abbrev pub AnswersFaults : Exit → Stream → Type 0
AnswersFaults exit.Done output = (totals : Totals) × Gets output (sound_text totals)
AnswersFaults exit.Faults output = (faults : List (List ℕ)) × (0 < length faults) × Gets output (fault_lines faults)
AnswersFaults exit.Schema output = Says exit.Schema output
AnswersFaults exit.Down output = Says exit.Down output
AnswersFaults exit.Unprinted output = ⊤
AnswersFaults e output = ⊥

-- these faults are printed, one line each; if there is none, `ok` and these numbers
abbrev pub ReportsFaults : List (List ℕ) → Totals → Exit → Stream → Type 0
ReportsFaults [] totals e output = ((e ≡ exit.Done) × Gets output (sound_text totals)) ⊎ (e ≡ exit.Unprinted)
ReportsFaults (fault ∷ faults) totals e output = ((e ≡ exit.Faults) × Gets output (fault_lines (fault ∷ faults))) ⊎ (e ≡ exit.Unprinted)

-- what a check of the tables found is printed; or that an allocation or the store failed
abbrev pub ReportsFound : Result Findings Down → Exit → Stream → Errors → Type 0
ReportsFound (Ok findings) e output errors = ReportsFaults findings.faults findings.totals e output × (errors.new ≡ errors.old)
ReportsFound (Err refused) e output errors = Refuses cause.Store e output errors

-- the error stream gets the line of this cause, which says what is not done, and one line per fault
abbrev pub ReportsEach : Cause → List (List ℕ) → Errors → Type 0
ReportsEach why [] errors = ⊥
ReportsEach why (fault ∷ faults) errors = Reports errors.old errors.new (cause_line why ++ fault_lines (fault ∷ faults))

-- a check found faults, or an allocation or the store failed: the error stream says so
abbrev pub ReportsUnsound : Cause → Result Findings Down → Errors → Type 0
ReportsUnsound why (Ok findings) errors = ReportsEach why findings.faults errors
ReportsUnsound why (Err refused) errors = ReportsCause cause.Store errors

-- connections are served at the site that is printed, one of these, followed by the log if it is on (`true`)
abbrev pub ServesAt : (Site → Type 0) → Bool → Exit → Stream → Type 0
ServesAt IsSite logs exit.Done output = (site : Site) × IsSite site × (log : List ℕ) × Gets output (with_log logs (listening_line site) log)
ServesAt IsSite logs exit.Schema output = Says exit.Schema output
ServesAt IsSite logs exit.Down output =
    Says exit.Down output ⊎ ((site : Site) × IsSite site × (log : List ℕ) × Gets output (with_log logs (listening_line site) log ++ answer_line (ending_line exit.Down)))
ServesAt IsSite logs exit.Unprinted output = ⊤
ServesAt IsSite logs e output = ⊥

-- the input is known, it has at most 65,536 bytes, and these are its operators
abbrev pub HasOperators : Option (List ℕ) → List Operator → Type 0
HasOperators input operators = IfSome input (λ bytes. (length bytes ≤ 65_536) × AreOperators [] bytes operators None)

-- if an operator's door is asked for (`true`), its operators are on the input
abbrev pub HasDoor : Bool → Option (List ℕ) → Type 0
HasDoor true input = (operators : List Operator) × HasOperators input operators
HasDoor false input = ⊤

-- a line of the input is no operator, or there is none: `refused usage`, and on the error stream the number of that line and its fault. Or the
-- input is longer
abbrev pub RefusesOperators : Option (List ℕ) → Exit → Stream → Errors → Type 0
RefusesOperators input e output errors = IsSaid exit.Usage e output.old output.new
    × (((operators : List Operator) × (fault : LineFault) × IfSome input (λ bytes. AreOperators [] bytes operators (Some fault)) × Reports errors.old errors.new (bad_text (length operators + 1) fault))
    ⊎ (IfSome input (λ bytes. 65_536 < length bytes) × Reports errors.old errors.new long_operators_line))

-- connections are served at the site that is asked for; if an operator's door is asked for (`operates`), only after its operators are read
abbrev pub ServesBehind : Site → Bool → Bool → Option (List ℕ) → Exit → Stream → Errors → Type 0
ServesBehind site operates logs input e output errors =
    (HasDoor operates input × ServesAt (IsGivenFor site) logs e output)
    ⊎ ((operates ≡ true) × (RefusesOperators input e output errors ⊎ RefusesDown e output))

-- an exit after operator's commands that were carried out in order
abbrev pub EndsBatch : Exit → Type 0
EndsBatch exit.Faults = ⊥
EndsBatch exit.Usage = ⊥
EndsBatch exit.BadFrame = ⊥
EndsBatch e = ⊤

-- operator's commands for a file, one per line. If a line is neither skipped nor a command, `refused usage`, and on the error stream the number of
-- that line and its fault
abbrev pub AnswersBatch : Option (List ℕ) → Exit → Stream → Errors → Type 0
AnswersBatch input exit.Usage output errors =
    Says exit.Usage output × (lines : List BatchLine) × (fault : LineFault) × IfSome input (λ bytes. AreLines bytes lines (Some fault)) × Reports errors.old errors.new (bad_text (length lines + 1) fault)
AnswersBatch input e output errors = EndsBatch e

-- the replies to the frames before a bad one, and on the error stream the number of the bad one, from 1
abbrev pub ReplaysToBad : List ℕ → Stream → Errors → Type 0
ReplaysToBad bytes output errors =
    (steps : List Step) × (replies : List (List ℕ)) × AreFrames bytes steps true × AreReplies steps replies × Gets output (printed replies) × GetsAll errors.old errors.new (bad_frame_text (length steps + 1))

-- frames are replayed over an empty database in memory
abbrev pub ReplaysFrames : Option (List ℕ) → Exit → Stream → Errors → Type 0
ReplaysFrames input exit.Done output errors = IfSome input (λ bytes. Replays bytes false output.old output.new)
ReplaysFrames input exit.BadFrame output errors = IfSome input (λ bytes. ReplaysToBad bytes output errors)
ReplaysFrames input exit.Down output errors = Says exit.Down output × ReportsCause cause.Input errors
ReplaysFrames input exit.Unprinted output errors = ⊤
ReplaysFrames input e output errors = ⊥

-- the version of the program and the newest version of the schema are printed
abbrev pub ReportsVersion : ℕ → Exit → Stream → Type 0
ReportsVersion schema exit.Done output = Gets output (version_text schema)
ReportsVersion schema exit.Unprinted output = ⊤
ReportsVersion schema e output = ⊥

-- the command is carried out, or it is printed why not; this is the newest version of the schema
abbrev pub Does : ℕ → Asked → Option (List ℕ) → Exit → Stream → Errors → Type 0
Does schema (carries db command) input e output errors = AnswersCommand command e output
Does schema (adds_token db org name role bounds) input e output errors = AddsToken input e output errors
Does schema (checks_file db) input e output errors = AnswersFaults e output
Does schema (copies from to org) input e output errors = AnswersLine e output
Does schema (removes_copied db copy org is_forced) input e output errors = AnswersLine e output
Does schema (compacts from to) input e output errors = AnswersFilled e output
Does schema (serves db site count timeouts logs checks operates) input e output errors = ServesBehind site operates logs input e output errors
Does schema (carries_all db) input e output errors = AnswersBatch input e output errors
Does schema replays input e output errors = ReplaysFrames input e output errors
Does schema reports_version input e output errors = ReportsVersion schema e output

-- words without a command to carry out: they ask for help, whose text goes to the error stream; or they are not valid; or an allocation failed
abbrev pub RefusesWords : List (List ℕ) → Exit → Stream → Errors → Type 0
RefusesWords words exit.Done output errors = AskForHelp words × (output.new ≡ output.old) × GetsSome errors
RefusesWords words exit.Usage output errors = (AreNoCommand words ⊎ (asked_in words ≡ None)) × RefusesUsage exit.Usage output errors
RefusesWords words exit.Down output errors = Says exit.Down output × ReportsCause cause.NoMemory errors
RefusesWords words exit.Unprinted output errors = ⊤
RefusesWords words e output errors = ⊥

-- what is printed for these words
abbrev pub PrintsFor : ℕ → List (List ℕ) → Option (List ℕ) → Exit → Stream → Errors → Type 0
PrintsFor schema words input e output errors =
    ((asked : Asked) × (asked_in words ≡ Some asked) × Does schema asked input e output errors) ⊎ RefusesWords words e output errors

-- if a stream did not take everything, the error stream says so; otherwise it gets nothing more
abbrev pub ReportsEnd : Exit → Errors → Type 0
ReportsEnd exit.Unprinted errors = Reports errors.old errors.new unprinted_line
ReportsEnd e errors = errors.new ≡ errors.old

-- and after that, on the error stream, that a stream did not take everything, if one did not
abbrev pub Prints : ℕ → List (List ℕ) → Option (List ℕ) → Exit → Stream → Errors → Type 0
Prints schema words input e output errors =
    (reported : Reported) × PrintsFor schema words input e output (error_stream errors.old reported) × ReportsEnd e (error_stream reported errors.new)

-- the input is known, and this is its secret
abbrev pub IsSecretOf : Option (List ℕ) → List ℕ → Type 0
IsSecretOf input secret = IfSome input (λ bytes. secret_in bytes ≡ Some secret)

-- the door that is asked for: open to the operators on the input (`true`), or closed
abbrev pub IsDoor : Bool → Option (List ℕ) → Door → Type 0
IsDoor true input door = (operators : List Operator) × HasOperators input operators × (door ≡ Open operators)
IsDoor false input door = door ≡ Closed

-- the error stream says that others may read the file, exactly if they may
abbrev pub ReportsOfReaders : Bool → Errors → Type 0
ReportsOfReaders true errors = Reports errors.old errors.new readers_line
ReportsOfReaders false errors = errors.new ≡ errors.old

-- the error stream says that a file was created, exactly if there was none at its path
abbrev pub ReportsOfNew : Bool → Errors → Type 0
ReportsOfNew true errors = Reports errors.old errors.new new_line
ReportsOfNew false errors = errors.new ≡ errors.old

-- both lines, in this order
abbrev pub ReportsOfFile : Bool → Bool → Errors → Type 0
ReportsOfFile is_new others_may_read errors = (mid : Reported) × ReportsOfNew is_new (error_stream errors.old mid) × ReportsOfReaders others_may_read (error_stream mid errors.new)

-- the WAL of a file is copied into it, or the error stream says that it stays beside it
abbrev pub ReportsOfLog : Type 0 → Errors → Type 0
ReportsOfLog IsCopied errors = (IsCopied × (errors.new ≡ errors.old)) ⊎ Reports errors.old errors.new log_line

-- the cause, with `NoFolder` as `NoTargetFolder` if the path came with `--to`
abbrev pub seen_at : Opening → Cause → Cause
seen_at opening.Target cause.NoFolder = cause.NoTargetFolder
seen_at opening why = why

-- only a command that adds an organization creates a database
abbrev pub opening_of : Admin → Opening
opening_of (OrgAdd org limit) = opening.Created
opening_of (OrgLimit org limit) = opening.Existing
opening_of (OrgRemove org is_forced) = opening.Existing
opening_of OrgList = opening.Existing
opening_of (TokenAdd org name role secret bounds) = opening.Existing
opening_of (TokenList org) = opening.Existing
opening_of (TokenRevoke org name) = opening.Existing

-- why a store failed: if a disk error has closed it, a change that was under way may have been made
abbrev pub failure_of : Result Bool Down → Cause
failure_of (Ok true) = cause.Halted
failure_of (Ok false) = cause.Store
failure_of (Err refused) = cause.Unknown

module _ {K F : Type 0} (k : keep.Ghosts K) (f : files.Ghosts F K) where
  -- a store failed, and this is the cause, by whether a disk error has closed it
  abbrev pub FailsAs : K → K → Cause → Type 0
  FailsAs asked after why = (said : Result Bool Down) × f.shuts asked said after × (why ≡ failure_of said)

  -- the same, for any state of the store when it was asked
  abbrev pub HasFailed : K → Cause → Type 0
  HasFailed after why = (asked : K) × FailsAs asked after why

  -- the store at a path is not opened, and nothing changes at any path; if no database may be created, no file is created either. An
  -- allocation or the store failed, or the file has another schema, and the error stream says which
  abbrev pub RefusesToOpen : List ℕ → Opening → F → F → Exit → Stream → Errors → Type 0
  RefusesToOpen path opening old new e output errors =
      AllStay f.holds old new × LeavesVacant f.vacant (makes opening) path old new
      × (((why : Cause) × f.refuses old path (fault.Down why) × Refuses (seen_at opening why) e output errors)
      ⊎ (((bytes : ℕ) × f.refuses old path (fault.Memory bytes) × IsSaid exit.Down e output.old output.new × Reports errors.old errors.new (memory_line bytes))
      ⊎ ((other : OtherSchema) × f.refuses old path (fault.Schema other) × IsSaid exit.Schema e output.old output.new × Reports errors.old errors.new (other_line other))))

  -- a store was opened at a path, and its file reported on. Nothing changed at other paths. If no database may be created, one with our tables
  -- was there. If it is only read, the store has committed what was committed there
  pub record Opens (path : List ℕ) (opening : Opening) (old new : F) (store : K) (errors : Errors) : Type 0 where
    pub found : f.holds old path store
    pub existing : makes opening ≡ false → k.clean store → ¬ f.bare old path
    pub there : makes opening ≡ false → ¬ f.vacant old path
    pub unraised : raises opening ≡ false → f.unraised old path store
    pub vacancies : LeavesVacant f.vacant (makes opening) path old new
    pub others : OthersStay f.holds path old new
    pub is_new : Bool
    pub sought : f.lacks old path is_new
    pub others_may_read : Bool
    pub findings : f.reads old path others_may_read
    pub reports : ReportsOfFile is_new others_may_read errors

  -- a store was closed at a path. Nothing changed at other paths
  pub record Closes (path : List ℕ) (old new : F) (store : K) (errors : Errors) : Type 0 where
    pub left : f.holds new path store
    pub others : OthersStay f.holds path old new
    pub vacancies : LeavesVacant f.vacant true path old new
    pub log : ReportsOfLog (f.copied new path store) errors

  -- an operator's command was carried out on the store at a path. What it left is there now, and nothing else changed
  pub record Operates (path : List ℕ) (command : Admin) (old new : F) (e : Exit) (output : Stream) (errors : Errors) : Type 0 where
    pub before : K
    pub after : K
    pub worked : F
    pub noted : Reported
    pub reported : Reported
    pub opens : Opens path (opening_of command) old worked before (error_stream errors.old noted)
    pub lasts : Lasts k.clean k.sound k.keyed k.shielded before after
    pub model : k.clean after → k.sound before
        → IsOperated (HasFailed after) command (k.rows before) (k.rows after) e output (error_stream noted reported)
    pub why : (reported ≡ noted) ⊎ ((why : Cause) × HasFailed after why × ReportsCause why (error_stream noted reported))
    pub closes : Closes path worked new after (error_stream reported errors.new)
    pub others : OthersStay f.holds path old new

  abbrev pub OperatesAt : List ℕ → Admin → F → F → Exit → Stream → Errors → Type 0
  OperatesAt path command old new e output errors = Operates path command old new e output errors ⊎ RefusesToOpen path (opening_of command) old new e output errors

  -- a token is added at a path with the secret from the input; or there is none, or it could not be read, and nothing changes
  abbrev pub AddsTokenAt : List ℕ → (List ℕ → Admin) → Option (List ℕ) → F → F → Exit → Stream → Errors → Type 0
  AddsTokenAt path adding input old new e output errors =
      ((secret : List ℕ) × IsSecretOf input secret × OperatesAt path (adding secret) old new e output errors)
      ⊎ ((new ≡ old) × ((HasNoSecret input × RefusesUsage e output errors × Reports errors.old errors.new secret_line)
      ⊎ (RefusesDown e output × ReportsCause cause.Input errors)))

  -- a command was carried out on a store, and its answer was printed; or an allocation or the store failed, and this was reported
  pub record CarriesOne (command : Admin) (old new : K) (e : Exit) (output : Stream) (errors : Errors) : Type 0 where
    pub lasts : Lasts k.clean k.sound k.keyed k.shielded old new
    pub line : AnswersCommand command e output
    pub model : k.clean new → k.sound old → IsOperated (HasFailed new) command (k.rows old) (k.rows new) e output errors

  -- a line that is skipped changes nothing and prints nothing; the command of any other is carried out
  abbrev pub CarriesLine : BatchLine → K → K → Exit → Option (List ℕ) → Option (List ℕ) → Reported → Reported → Type 0
  CarriesLine batch_line.Skipped old new e out out' err err' = (new ≡ old) × (e ≡ exit.Done) × (out' ≡ out) × (err' ≡ err)
  CarriesLine (batch_line.Command command) old new e out out' err err' = CarriesOne command old new e (stream out out') (error_stream err err')

  -- the commands of lines, numbered from this one on, were carried out in order, up to the first that did not end with status 0. The error stream
  -- gets the number of its line, and no later command was carried out
  abbrev pub CarriesEach : List BatchLine → ℕ → K → K → Exit → Option (List ℕ) → Option (List ℕ) → Reported → Reported → Type 0
  CarriesEach [] line old new e out out' err err' = (new ≡ old) × (e ≡ exit.Done) × (out' ≡ out) × (err' ≡ err)
  CarriesEach (first ∷ lines) line old new e out out' err err' =
      ((mid : K) × (heard : Option (List ℕ)) × (noted : Reported)
      × CarriesLine first old mid exit.Done out heard err noted × CarriesEach lines (suc line) mid new e heard out' noted err')
      ⊎ ((e ≢ exit.Done) × (noted : Reported) × CarriesLine first old new e out out' err noted × Reports noted err' (stopped_text line))

  -- the commands of these lines were carried out on the store at a path, which was opened once. What they left is there now, and nothing else
  -- changed. The first command decides whether a database may be created
  pub record CarriesLines (path : List ℕ) (first : Admin) (lines : List BatchLine) (old new : F) (e : Exit) (output : Stream) (errors : Errors) : Type 0 where
    pub before : K
    pub after : K
    pub worked : F
    pub noted : Reported
    pub reported : Reported
    pub opens : Opens path (opening_of first) old worked before (error_stream errors.old noted)
    pub carries : CarriesEach lines 1 before after e output.old output.new noted reported
    pub closes : Closes path worked new after (error_stream reported errors.new)
    pub others : OthersStay f.holds path old new

  -- the same, where this is the first command, or the store at the path is not opened; without a command nothing is done
  abbrev pub CarriesFrom : Option Admin → List ℕ → List BatchLine → F → F → Exit → Stream → Errors → Type 0
  CarriesFrom None path lines old new e output errors = (new ≡ old) × (e ≡ exit.Done) × (output.new ≡ output.old) × (errors.new ≡ errors.old)
  CarriesFrom (Some first) path lines old new e output errors =
      CarriesLines path first lines old new e output errors ⊎ RefusesToOpen path (opening_of first) old new e output errors

  abbrev pub CarriesAll : List ℕ → List BatchLine → F → F → Exit → Stream → Errors → Type 0
  CarriesAll path lines old new e output errors = CarriesFrom (first_command lines) path lines old new e output errors

  -- each line of the input is skipped or a command, and the commands are carried out; or one is neither, or the input could not be read, and
  -- nothing changes
  abbrev pub CarriesAllAt : List ℕ → Option (List ℕ) → F → F → Exit → Stream → Errors → Type 0
  CarriesAllAt path input old new e output errors =
      ((lines : List BatchLine) × IfSome input (λ bytes. AreLines bytes lines None) × CarriesAll path lines old new e output errors)
      ⊎ ((new ≡ old) × (((lines : List BatchLine) × (fault : LineFault) × IfSome input (λ bytes. AreLines bytes lines (Some fault))
      × IsSaid exit.Usage e output.old output.new × Reports errors.old errors.new (bad_text (length lines + 1) fault))
      ⊎ (RefusesDown e output × ReportsCause cause.Input errors)))

  -- the tables of a store were checked, and this is reported of what was found. If there was no fault and the store `is_ours`, it is sound and
  -- keyed. Each record is as before
  pub record ChecksStore (IsReported : Result Findings Down → Errors → Type 0) (before after : K) (errors : Errors) : Type 0 where
    pub unchanged : Unchanged k.rows k.clean k.sound k.keyed k.shielded before after
    pub result : Result Findings Down
    pub finds : f.finds before result after
    pub sound : IfOk result (λ findings. findings.faults ≡ [] → k.clean after → f.is_ours before → k.sound before × k.keyed before)
    pub says : IsReported result errors

  -- the store at a path was opened in this way and checked. What the check left is there now, each record as before, and nothing else changed
  pub record ChecksFile (path : List ℕ) (opening : Opening) (IsReported : Result Findings Down → Errors → Type 0) (old new : F) (errors : Errors) : Type 0 where
    pub before : K
    pub after : K
    pub worked : F
    pub noted : Reported
    pub reported : Reported
    pub opens : Opens path opening old worked before (error_stream errors.old noted)
    pub unchanged : ChecksStore IsReported before after (error_stream noted reported)
    pub closes : Closes path worked new after (error_stream reported errors.new)
    pub others : OthersStay f.holds path old new

  -- the store at a path, which is only read, is checked, and the result is printed
  abbrev pub ChecksAt : List ℕ → F → F → Exit → Stream → Errors → Type 0
  ChecksAt path old new e output errors =
      ChecksFile path opening.Read (λ found reported. ReportsFound found e output reported) old new errors ⊎ RefusesToOpen path opening.Read old new e output errors

  -- the store at a path has faults, or its check fails, so nothing more is done, with this cause
  abbrev pub RefusesUnsound : List ℕ → Opening → Cause → F → F → Exit → Stream → Errors → Type 0
  RefusesUnsound path opening why old new e output errors = ChecksFile path opening (ReportsUnsound why) old new errors × IsSaid exit.Down e output.old output.new

  -- a store was opened at a path in this way, and a check of its tables found no fault. So it is sound and keyed, if it `is_ours`
  pub record OpensSound (path : List ℕ) (opening : Opening) (old new : F) (store : K) (errors : Errors) : Type 0 where
    pub opened : K
    pub opens : Opens path opening old new opened errors
    pub unchanged : Unchanged k.rows k.clean k.sound k.keyed k.shielded opened store
    pub findings : Findings
    pub finds : f.finds opened (Ok findings) store
    pub none : findings.faults ≡ []
    pub sound_ours : k.clean store → f.is_ours opened → k.sound opened × k.sound store
    pub keyed_ours : k.clean store → f.is_ours opened → k.keyed opened × k.keyed store

  -- the same, of a store that is only read
  abbrev pub OpensSource : List ℕ → F → F → K → Errors → Type 0
  OpensSource path old new store errors = OpensSound path opening.Read old new store errors

  -- the source, which is only read, is not opened, or its tables have faults, with this cause
  abbrev pub RefusesSource : List ℕ → Cause → F → F → Exit → Stream → Errors → Type 0
  RefusesSource path why old new e output errors =
      RefusesToOpen path opening.Read old new e output errors ⊎ RefusesUnsound path opening.Read why old new e output errors

  -- stores were opened at two paths, one after the other; the first is only read, and has no fault
  pub record OpensBoth (from to : List ℕ) (opening : Opening) (old new : F) (source target : K) (errors : Errors) : Type 0 where
    pub differ : from ≢ to
    pub mid : F
    pub noted : Reported
    pub first : OpensSource from old mid source (error_stream errors.old noted)
    pub second : Opens to opening mid new target (error_stream noted errors.new)

  -- they were closed there, the second one first
  pub record ClosesBoth (from to : List ℕ) (old new : F) (source target : K) (errors : Errors) : Type 0 where
    pub mid : F
    pub noted : Reported
    pub second : Closes to old mid target (error_stream errors.old noted)
    pub first : Closes from mid new source (error_stream noted errors.new)

  -- a store was opened at one path, and the one at the other path is not opened. So the first was closed as it was, and nothing changed at any
  -- other path
  pub record RefusesSecond (from to : List ℕ) (opening : Opening) (old new : F) (e : Exit) (output : Stream) (errors : Errors) : Type 0 where
    pub differ : from ≢ to
    pub source : K
    pub opened : F
    pub unopened : F
    pub noted : Reported
    pub reported : Reported
    pub first : OpensSource from old opened source (error_stream errors.old noted)
    pub second : RefusesToOpen to opening opened unopened e output (error_stream noted reported)
    pub closes : Closes from unopened new source (error_stream reported errors.new)
    pub others : OthersStay f.holds from old new

  -- one of two stores is not opened; or the paths are the same, and nothing is opened
  abbrev pub RefusesBoth : List ℕ → List ℕ → Opening → Cause → F → F → Exit → Stream → Errors → Type 0
  RefusesBoth from to opening why old new e output errors =
      ((from ≡ to) × (new ≡ old) × Refuses cause.InUse e output errors)
      ⊎ (((from ≢ to) × RefusesSource from why old new e output errors) ⊎ RefusesSecond from to opening old new e output errors)

  -- the store at one path, whose tables have no fault, was read, and the one at another path was changed: this became of the records, if the
  -- first `is_ours`. What that left lies there now, and nothing else changed
  pub record CopiesOver (from to : List ℕ) (opening : Opening) (Becomes : K → (from old new : List ℕ → Option Organization) → Errors → Type 0) (Fails : K → Cause → Type 0) (old new : F) (errors : Errors) : Type 0 where
    pub source_before : K
    pub source_after : K
    pub target_before : K
    pub target_after : K
    pub worked : F
    pub noted : Reported
    pub reported : Reported
    pub opens : OpensBoth from to opening old worked source_before target_before (error_stream errors.old noted)
    pub copies : CopiesBetween k (λ source before after. Becomes target_after source before after (error_stream noted reported)) source_before source_after target_before target_after
    pub ours : k.clean target_after → k.sound target_before → k.clean source_after → f.is_ours opens.first.opened
        → Becomes target_after (k.rows opens.first.opened) (k.rows target_before) (k.rows target_after) (error_stream noted reported)
    pub why : (reported ≡ noted) ⊎ ((why : Cause) × Fails target_after why × ReportsCause why (error_stream noted reported))
    pub closes : ClosesBoth from to worked new source_after target_after (error_stream reported errors.new)
    pub left_source : f.holds new from source_after
    pub left_target : f.holds new to target_after
    pub others : OthersStayBut f.holds from to old new

  -- an organization is copied from the store at one path to the store at another
  abbrev pub CopiesAt : List ℕ → List ℕ → List ℕ → F → F → Exit → Stream → Errors → Type 0
  CopiesAt from to org old new e output errors =
      CopiesOver from to opening.Target (λ left source before after reported. IsCopied (HasFailed left) org source before after e output reported) HasFailed old new errors
      ⊎ RefusesBoth from to opening.Target cause.SourceFaults old new e output errors

  -- the records of an organization differ, or a store failed
  abbrev pub DiffersOrFails : K → Cause → Type 0
  DiffersOrFails after why = (why ≡ cause.NotCopied) ⊎ HasFailed after why

  -- an organization is removed from the store at one path, if the store at another path, whose tables have no fault, has the same record. The
  -- records there are unchanged
  abbrev pub RemovesCopiedAt : List ℕ → List ℕ → Bool → List ℕ → F → F → Exit → Stream → Errors → Type 0
  RemovesCopiedAt path copy is_forced org old new e output errors =
      CopiesOver copy path opening.Existing (λ left from before after reported. IsRemovedCopied (DiffersOrFails left) is_forced org from before after e output reported) DiffersOrFails old new errors
      ⊎ RefusesBoth copy path opening.Existing cause.CopyFaults old new e output errors

  -- every organization is copied in this way
  abbrev pub CompactsAt : List ℕ → List ℕ → F → F → Exit → Stream → Errors → Type 0
  CompactsAt from to old new e output errors =
      CopiesOver from to opening.Target (λ left source before after reported. IsCompacted source before after e output reported) (λ left why. why ≡ cause.Unfinished) old new errors
      ⊎ RefusesBoth from to opening.Target cause.SourceFaults old new e output errors

-- the program's environment besides its streams: files, network and clock
pub record Environment (F N C : Type 0) : Type 0 where
  pub files : F
  pub network : N
  pub clock : C

abbrev pub environment : {F N C : Type 0} → F → N → C → Environment F N C
environment files network clock = record { files = files; network = network; clock = clock }

-- neither the network nor the clock is used
abbrev pub IsAlone : {F N C : Type 0} → Environment F N C → Environment F N C → Type 0
IsAlone old new = (new.network ≡ old.network) × (new.clock ≡ old.clock)

-- `refused down` is printed if serving ended with it, and nothing more otherwise
abbrev pub SaysServed : Exit → Exit → Option (List ℕ) → Option (List ℕ) → Type 0
SaysServed served e old new =
    ((served ≡ exit.Down) × IsSaid exit.Down e old new) ⊎ ((served ≢ exit.Down) × (e ≡ served) × (new ≡ old))

module _ {K F N C R W : Type 0} (k : keep.Ghosts K) (f : files.Ghosts F K) (n : connections.Ghosts N R W) (c : clock.Ghosts C) (i : inlet.Ghosts R) (o : outlet.Ghosts W) where
  -- connections are answered on these terms from the store at a path, once the network has been asked to listen, with this result. What they
  -- left is there now, and nothing else changed
  pub record ServesFrom (path : List ℕ) (bound : Result Site Cause) (terms : Terms) (count : ℕ) (old new : Environment F N C) (e : Exit) (output : Stream) (errors : Errors) : Type 0 where
    pub before : K
    pub after : K
    pub worked : F
    pub noted : Reported
    pub opens : Opens k f path opening.Created old.files worked before (error_stream errors.old noted)
    pub lasts : Lasts k.clean k.sound k.keyed k.shielded before after
    pub served : Exit
    pub reported : Option (List ℕ)
    pub lines : Reported
    pub serves : k.clean after → k.sound before
        → Serves (λ es. ServesBound k f n c i o bound terms count es (state old.network old.clock before noted output.old) (state new.network new.clock after lines reported) served) terms.door count (k.rows before) (k.rows after)
    pub answers : AnswersBound k f n c i o bound terms count (state old.network old.clock before noted output.old) (state new.network new.clock after lines reported) served
    pub says : SaysServed served e reported output.new
    pub closes : Closes k f path worked new.files after (error_stream lines errors.new)
    pub others : OthersStay f.holds path old.files new.files

  -- the same for a file that existed, after a check of its tables, which found no fault. So what is served is sound and keyed, if the store
  -- `is_ours`
  pub record ServesChecked (path : List ℕ) (bound : Result Site Cause) (terms : Terms) (count : ℕ) (old new : Environment F N C) (e : Exit) (output : Stream) (errors : Errors) : Type 0 where
    pub before : K
    pub after : K
    pub worked : F
    pub noted : Reported
    pub opens : OpensSound k f path opening.Existing old.files worked before (error_stream errors.old noted)
    pub lasts : Lasts k.clean k.sound k.keyed k.shielded before after
    pub served : Exit
    pub reported : Option (List ℕ)
    pub lines : Reported
    pub serves : k.clean after → k.sound before
        → Serves (λ es. ServesBound k f n c i o bound terms count es (state old.network old.clock before noted output.old) (state new.network new.clock after lines reported) served) terms.door count (k.rows before) (k.rows after)
    pub sound_ours : k.clean after → f.is_ours opens.opened → k.sound opens.opened × k.sound after
    pub keyed_ours : k.clean after → f.is_ours opens.opened → k.keyed opens.opened × k.keyed after
    pub serves_ours : k.clean after → f.is_ours opens.opened
        → Serves (λ es. ServesBound k f n c i o bound terms count es (state old.network old.clock before noted output.old) (state new.network new.clock after lines reported) served) terms.door count (k.rows opens.opened) (k.rows after)
    pub answers : AnswersBound k f n c i o bound terms count (state old.network old.clock before noted output.old) (state new.network new.clock after lines reported) served
    pub says : SaysServed served e reported output.new
    pub closes : Closes k f path worked new.files after (error_stream lines errors.new)
    pub others : OthersStay f.holds path old.files new.files

  -- connections are answered. If a check is asked for (`true`), only after one that found no fault, and no file is created. Or the store at
  -- the path is not opened
  abbrev pub ServesAsAsked : Bool → List ℕ → Result Site Cause → Terms → ℕ → Environment F N C → Environment F N C → Exit → Stream → Errors → Type 0
  ServesAsAsked false path bound terms count old new e output errors =
      ServesFrom path bound terms count old new e output errors ⊎ (RefusesToOpen k f path opening.Created old.files new.files e output errors × IsAlone old new)
  ServesAsAsked true path bound terms count old new e output errors =
      (ServesChecked path bound terms count old new e output errors ⊎ (RefusesUnsound k f path opening.Existing cause.Faults old.files new.files e output errors × IsAlone old new))
      ⊎ (RefusesToOpen k f path opening.Existing old.files new.files e output errors × IsAlone old new)

  -- the network has been asked to listen at a site, with this result. A socket that cannot be had ends the start before the store is opened; of
  -- a port the store is opened first
  abbrev pub StartsAt : Site → Bool → List ℕ → Result Site Cause → Terms → ℕ → Environment F N C → Environment F N C → Exit → Stream → Errors → Type 0
  StartsAt (at_port port) checks path bound terms count old new e output errors = ServesAsAsked checks path bound terms count old new e output errors
  StartsAt (at_socket at) checks path (Ok given) terms count old new e output errors = ServesAsAsked checks path (Ok given) terms count old new e output errors
  StartsAt (at_socket at) checks path (Err why) terms count old new e output errors = (new ≡ old) × Refuses why e output errors

  -- the network is asked to listen at a site, and nowhere else. With the result of that, connections are answered, with these timeouts,
  -- the log or no log, and the door that is asked for. Or a door is asked for (`operates`), and a line of the input is no operator or the
  -- input could not be read, and nothing changes
  abbrev pub ServesWithDoor : Bool → Bool → List ℕ → Site → Timeouts → Bool → ℕ → Option (List ℕ) → Environment F N C → Environment F N C → Exit → Stream → Errors → Type 0
  ServesWithDoor operates checks path site timeouts logs count input old new e output errors =
      ((door : Door) × IsDoor operates input door × (bound : Result Site Cause) × (network : N) × AsksToListen n site old.network bound network
      × StartsAt site checks path bound (record { timeouts = timeouts; logs = logs; door = door }) count (environment old.files network old.clock) new e output errors)
      ⊎ ((operates ≡ true) × (new ≡ old) × (RefusesOperators input e output errors ⊎ (RefusesDown e output × ReportsCause cause.Input errors)))

  -- the command is carried out on the store at its path, and on nothing else
  abbrev pub Leaves : Asked → Option (List ℕ) → Environment F N C → Environment F N C → Exit → Stream → Errors → Type 0
  Leaves (carries db command) input old new e output errors = OperatesAt k f db command old.files new.files e output errors × IsAlone old new
  Leaves (adds_token db org name role bounds) input old new e output errors =
      AddsTokenAt k f db (λ secret. TokenAdd org name role secret bounds) input old.files new.files e output errors × IsAlone old new
  Leaves (checks_file db) input old new e output errors = ChecksAt k f db old.files new.files e output errors × IsAlone old new
  Leaves (copies from to org) input old new e output errors = CopiesAt k f from to org old.files new.files e output errors × IsAlone old new
  Leaves (removes_copied db copy org is_forced) input old new e output errors =
      RemovesCopiedAt k f db copy is_forced org old.files new.files e output errors × IsAlone old new
  Leaves (compacts from to) input old new e output errors = CompactsAt k f from to old.files new.files e output errors × IsAlone old new
  Leaves (serves db site count timeouts logs checks operates) input old new e output errors =
      ServesWithDoor operates checks db site timeouts logs count input old new e output errors
  Leaves (carries_all db) input old new e output errors = CarriesAllAt k f db input old.files new.files e output errors × IsAlone old new
  Leaves replays input old new e output errors = new ≡ old
  Leaves reports_version input old new e output errors = new ≡ old

  -- the program for these words, before it reports that a stream did not take everything
  pub record RunsOver (words : List (List ℕ)) (input : Option (List ℕ)) (old new : Environment F N C) (e : Exit) (output : Stream) (errors : Errors) : Type 0 where
    pub prints : PrintsFor f.newest words input e output errors
    pub leaves : ((asked : Asked) × (asked_in words ≡ Some asked) × Leaves asked input old new e output errors)
        ⊎ (RefusesWords words e output errors × (new ≡ old))

  -- the program for these words: how it exits, what is printed, and its environment before and after
  pub record Runs (words : List (List ℕ)) (input : Option (List ℕ)) (old new : Environment F N C) (e : Exit) (output : Stream) (errors : Errors) : Type 0 where
    pub reported : Reported
    pub runs : RunsOver words input old new e output (error_stream errors.old reported)
    pub ends : ReportsEnd e (error_stream reported errors.new)
