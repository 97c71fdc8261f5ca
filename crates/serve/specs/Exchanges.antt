-- One exchange, with an operator's door or without: what is written for the bytes that were received, and the records afterwards.
use Rattle.std.specs.Prelude.{◌≡◌, ◌≢◌, ◌⊎◌, ℕ, ◌<◌, ◌++◌, Bool, true, false, List, length, Option, Some, None, IfSome, IsSome, Result, Ok, Err}
use Rattle.std.specs.Io.KnownBytes.{Appends, IsAtEnd}
use Rattle.machine.specs.Custody.{KeepsVersions, GainsVersion, IsAnew}
use Rattle.machine.specs.Queue.{Starts}
use Rattle.machine.specs.Records.{workspace_in}
use Rattle.machine.specs.Units.{version_of}
use Rattle.machine.specs.declared.records.Workspace.{Workspace}
use Rattle.machine.specs.declared.records.Organization.{Organization}
use Rattle.wire.specs.Messages.{Reading, Reads, unfinished, refused, whole, AwaitsContinue}
use Rattle.wire.specs.Links.{continue_if, continue_text, WritesPrefix, WritesContinue}
use Rattle.wire.specs.Replies.{Answer, IsReplyText, unavailable_answer}
use Rattle.docs.specs.declared.logs.LogRow.{LogRow}
use Rattle.serve.specs.Asks.{Ask, owner_of}
use Rattle.serve.specs.Doors.{ask_with, operator_with, CarriesOut}
use Rattle.serve.specs.Logs.{silent_row, unavailable_row, IsUnavailableRow, row_of_ask}
use Rattle.serve.specs.Service.{Stays, record_for, is_head}
use Rattle.serve.specs.declared.doors.Door.{Door}
use Rattle.serve.specs.declared.exchanges.LinkFault.{LinkFault}
use Rattle.serve.specs.declared.exchanges.LinkFault.TheVariants.{Ended, Read, Continue, Write}

-- what the bytes ask is carried out, this is the text of its answer, which follows `100 Continue` if that is awaited, and the row of the log
pub record IsServed (door : Door) (now : ℕ) (received : List ℕ) (old new : List ℕ → Option Organization) (awaited : Bool) (text : List ℕ) (row : Option LogRow) : Type 0 where
  pub ask : Ask
  pub answer : Answer
  pub carried : CarriesOut door now received awaited ask answer old new
  pub is : IsReplyText answer now text
  pub logged : row ≡ row_of_ask (operator_with door now carried.asks.reading) (record_for old (owner_of ask)) ask answer

-- whether `100 Continue` comes before the 503 of a failed allocation or store, and whether its body is left out, by what
-- had been read: neither, if an allocation failed while reading; after that, `100 Continue` comes first if it is awaited, and
-- the body is left out if the method is HEAD
abbrev pub IsShapedBy : Option Reading → Bool → Bool → Type 0
IsShapedBy None awaited without_body = (awaited ≡ false) × (without_body ≡ false)
IsShapedBy (Some unfinished) awaited without_body = ⊥
IsShapedBy (Some (refused refusal head)) awaited without_body = (awaited ≡ false) × (without_body ≡ head)
IsShapedBy (Some (whole message due)) awaited without_body = (awaited ≡ due) × (without_body ≡ is_head message)

-- the row of a 503, by what had been read: only the moment, if an allocation failed while reading (none)
abbrev pub IsUnavailableFor : Door → ℕ → (List ℕ → Option Organization) → Option Reading → LogRow → Type 0
IsUnavailableFor door now old None row = row ≡ unavailable_row now
IsUnavailableFor door now old (Some reading) row = IsUnavailableRow (operator_with door now reading) (record_for old (owner_of (ask_with door now reading))) (ask_with door now reading) row

-- an allocation or the store failed, while reading (none) or after it: nothing changes, and the reply's text says so
pub record IsUnavailable (door : Door) (now : ℕ) (received : List ℕ) (old new : List ℕ → Option Organization) (reading : Option Reading) (awaited : Bool) (text : List ℕ) (row : Option LogRow) : Type 0 where
  pub stays : Stays old new
  pub reads : IfSome reading (Reads received)
  pub without_body : Bool
  pub shaped : IsShapedBy reading awaited without_body
  pub is : IsReplyText (unavailable_answer without_body) now text
  pub reported : LogRow
  pub reports : row ≡ Some reported
  pub logged : IsUnavailableFor door now old reading reported

-- what was received is answered, with this door: it is served (`false`), or an allocation or the store failed (`true`)
abbrev pub IsAnswered : Door → ℕ → List ℕ → (List ℕ → Option Organization) → (List ℕ → Option Organization) → Bool → List ℕ → Option LogRow → Bool → Type 0
IsAnswered door now received old new awaited text row false = IsServed door now received old new awaited text row
IsAnswered door now received old new awaited text row true = (reading : Option Reading) × IsUnavailable door now received old new reading awaited text row

-- what an exchange with a door answers, by the bytes that were received from the reader, and those that it has left: the records before and
-- after, what was written before and after, and whether the reply is the 503 of a failed allocation or store, which no exchange without a
-- reply has; and the row of the log. After `Write`, `100 Continue` was written completely if it is awaited, and the reply was not
abbrev pub Exchanges : Door → ℕ → List ℕ → Option (List ℕ) → (List ℕ → Option Organization) → (List ℕ → Option Organization) → Option (List ℕ) → Option (List ℕ) → Bool → Option LogRow → {T : Type 0} → Result T LinkFault → Type 0
Exchanges door now received left old new before after is_down row (Ok done) =
    (awaited : Bool) × (text : List ℕ) × IsAnswered door now received old new awaited text row is_down × Appends before after (continue_if awaited ++ text)
Exchanges door now received left old new before after is_down row (Err Ended) = (is_down ≡ false) × (row ≡ Some (silent_row now)) × Reads received unfinished × IsAtEnd left × WritesContinue received before after
Exchanges door now received left old new before after is_down row (Err Read) = (is_down ≡ false) × (row ≡ Some (silent_row now)) × Reads received unfinished × WritesContinue received before after
Exchanges door now received left old new before after is_down row (Err Continue) = (is_down ≡ false) × (row ≡ Some (silent_row now)) × AwaitsContinue received × WritesPrefix before after continue_text
Exchanges door now received left old new before after is_down row (Err Write) =
    (awaited : Bool) × (part : List ℕ) × (rest : List ℕ) × (0 < length rest) × IsAnswered door now received old new awaited (part ++ rest) row is_down × Appends before after (continue_if awaited ++ part)

-- at most the record of one organization changes
abbrev pub ChangesAtMostOne : (List ℕ → Option Organization) → (List ℕ → Option Organization) → Type 0
ChangesAtMostOne old new = (org : List ℕ) × ((other : List ℕ) → other ≢ org → new other ≡ old other)

-- the workspace of this name exists in an organization's record before and after, and this relation holds between the two
pub record OfNamed (named : Option (List ℕ)) (old new : Option Organization) (IsSo : Workspace → Workspace → Type 0) : Type 0 where
  pub ws : List ℕ
  pub is : named ≡ Some ws
  pub before : Workspace
  pub after : Workspace
  pub stood : workspace_in old ws ≡ Some before
  pub stands : workspace_in new ws ≡ Some after
  pub so : IsSo before after

-- the version of a number is made, and none had this number
pub record Makes (n : ℕ) (w v : Workspace) : Type 0 where
  pub gains : GainsVersion w v
  pub number : gains.made.number ≡ n
  pub absent : version_of n w.versions ≡ None

-- an organization's record changes as the row says. In the workspace that the row names, its version is made, and its run starts; in no
-- workspace is another version made, and no other run starts; and a workspace that did not exist
-- begins anew
pub record ComesAsLogged (row : LogRow) (old new : Option Organization) : Type 0 where
  pub version : IfSome row.version (λ n. OfNamed row.workspace old new (Makes n))
  pub run : IfSome row.run (λ n. OfNamed row.workspace old new (Starts n))
  pub versions : (ws : List ℕ) (w v : Workspace) → workspace_in old ws ≡ Some w → workspace_in new ws ≡ Some v → KeepsVersions w v ⊎ ((row.workspace ≡ Some ws) × IsSome row.version)
  pub runs : (ws : List ℕ) (w v : Workspace) (n : ℕ) → workspace_in old ws ≡ Some w → workspace_in new ws ≡ Some v → Starts n w v → (row.workspace ≡ Some ws) × (row.run ≡ Some n)
  pub anew : (ws : List ℕ) (v : Workspace) → workspace_in old ws ≡ None → workspace_in new ws ≡ Some v → IsAnew v

-- the records change as the row of the log says: only that of its organization, and none if it has a refusal. A row
-- of no organization has no version and no run
pub record ChangesAsLogged (row : LogRow) (old new : List ℕ → Option Organization) : Type 0 where
  pub others : (org : List ℕ) → row.organization ≢ Some org → new org ≡ old org
  pub refused : IsSome row.refusal → Stays old new
  pub own : (org : List ℕ) → row.organization ≡ Some org → ComesAsLogged row (old org) (new org)
  pub nobody : row.organization ≡ None → (row.version ≡ None) × (row.run ≡ None)
