-- Contracts between functions: what the log tells of a decision, by what is seen of its workspace before it.
use Rattle.std.specs.Prelude.{◌≡◌, ℕ, ◌+◌, if◌then◌else◌, List, Option, Some, None}
use Rattle.basis.specs.declared.refusals.Refusal.TheVariants.{Unavailable}
use Rattle.basis.specs.declared.rows.Holder.{Holder}
use Rattle.docs.specs.declared.logs.LogRow.{LogRow}
use Rattle.machine.specs.Laws.{holds}
use Rattle.machine.specs.declared.acts.Answer.{Answer}
use Rattle.machine.specs.declared.acts.Answer.TheVariants as answer
use Rattle.machine.specs.declared.acts.Change.{Change}
use Rattle.machine.specs.declared.acts.Decision.{Decision}
use Rattle.machine.specs.declared.acts.Decision.TheVariants.{Refused, Accepted}
use Rattle.machine.specs.declared.acts.Edit.{Edit}
use Rattle.machine.specs.declared.acts.Edit.TheVariants as edit
use Rattle.machine.specs.declared.acts.Unit.{Unit as AnyUnit}
use Rattle.machine.specs.declared.acts.Unit.TheVariants.{Absent, Present}
use Rattle.machine.specs.declared.records.Organization.{Organization}
use Rattle.route.specs.declared.routes.Asked.{Asked}
use Rattle.serve.specs.Checks.{checked}
use Rattle.serve.specs.Logs.{number_given, no_trace, token_named, id_spelt, task_read, traced, unavailable_row, IsReadSoFar}
use Rattle.serve.specs.declared.logs.RowFacts.{RowFacts}
use Rattle.serve.specs.declared.logs.Trace.{Trace}

-- the run that an answer shows
abbrev pub run_shown_by : Answer → Option ℕ
run_shown_by answer.Done = None
run_shown_by answer.NoState = None
run_shown_by (answer.State n) = None
run_shown_by (answer.Workspace shown) = None
run_shown_by (answer.Run r) = Some r.number
run_shown_by (answer.Versions after) = None
run_shown_by (answer.Runs after) = None

-- the version that an edit makes
abbrev pub edit_number : ℕ → Edit → Option ℕ
edit_number next (edit.Make settings) = None
edit_number next (edit.Configure settings outgoing) = None
edit_number next edit.Remove = None
edit_number next (edit.AddVersion version outgoing) = number_given next (version.number + 1)
edit_number next edit.Purge = None
edit_number next (edit.Hold id text) = None
edit_number next (edit.Release id) = None
edit_number next (edit.AddRun number ask created) = None
edit_number next (edit.Report number action status frees) = None

-- the run that starts, where the workspace stays
abbrev pub start_of : Edit → Option ℕ → Option ℕ
start_of edit.Remove start = None
start_of (edit.Make settings) start = start
start_of (edit.Configure settings outgoing) start = start
start_of (edit.AddVersion version outgoing) start = start
start_of edit.Purge start = start
start_of (edit.Hold id text) start = start
start_of (edit.Release id) start = start
start_of (edit.AddRun number ask created) start = start
start_of (edit.Report number action status frees) start = start

abbrev pub unless_held : Holder → Option ℕ → Option ℕ
unless_held holder None = None
unless_held holder (Some n) = if holds holder n then None else Some n

abbrev pub edit_start : Holder → Change → Option ℕ
edit_start holder change = unless_held holder (start_of change.edit change.start)

abbrev pub version_by : AnyUnit → Change → Option ℕ
version_by (Absent workspaces limit) change = None
version_by (Present u) change = edit_number u.next_version change.edit

abbrev pub run_by : AnyUnit → Change → Option ℕ
run_by (Absent workspaces limit) change = None
run_by (Present u) change = edit_start u.holder change

abbrev pub trace_by : AnyUnit → Decision → Trace
trace_by u (Refused refusal) = no_trace
trace_by u (Accepted answer None) = record { shown_run = run_shown_by answer; version = None; run = None }
trace_by u (Accepted answer (Some change)) = record { shown_run = run_shown_by answer; version = version_by u change; run = run_by u change }

-- what had been read of a request where memory or the store refused
abbrev pub read_so_far : Option (List ℕ) → Option (List ℕ) → RowFacts
read_so_far token id = record { token = token; id = id; trace = no_trace }

pub record AreReadSoFar (r : Option Organization) (at : ℕ) (asked : Asked) (content_md5 : Option (List ℕ)) (body : List ℕ) (facts : RowFacts) : Type 0 where
  pub read : IsReadSoFar r at asked content_md5 body facts.token facts.id
  pub trace : facts.trace ≡ no_trace

-- the row of the 503 in place of an answer: nothing was made
abbrev pub as_unavailable : LogRow → LogRow
as_unavailable row = record row { number = None; refusal = Some Unavailable; run = None; status = (unavailable_row row.at).status; version = None }

-- what the log tells of a request besides its head and its answer
abbrev pub facts_of : Option Organization → ℕ → Asked → Option (List ℕ) → List ℕ → RowFacts
facts_of r at asked content_md5 body = record { token = token_named r at asked; id = id_spelt (task_read r at asked content_md5 body); trace = traced at r (checked r at asked content_md5 body) }
