-- The book of a workspace: each step of its organization's own machine, with the workspace before and after it; its periods; and
-- the laws of custody over it.
use Rattle.std.specs.Prelude.{◌≡◌, ◌<◌, ◌≤◌, ◌⊎◌, ℕ, Bool, true, false, not, ◌&&◌, List, [], ◌∷◌, length, map, filter, Option, Some, None, IfSome, IsSome, is_some, ⊤}
use Rattle.std.specs.List.{AllByRecursion, Contains, flat_map}
use Rattle.std.specs.Str.{bytes_eq}
use Rattle.basis.specs.Names.{run_id}
use Rattle.basis.specs.declared.runs.RunStatus.TheVariants.{Applying}
use Rattle.machine.specs.Laws.{holds, is_nobody, AreLawful}
use Rattle.machine.specs.Queue.{is_active_run}
use Rattle.machine.specs.Records.{workspace_in}
use Rattle.machine.specs.Workspaces.{run_of}
use Rattle.machine.specs.declared.acts.Act.{Act}
use Rattle.machine.specs.declared.acts.Act.TheVariants.{MakeRun as MakeRunAct, ReportRun as ReportRunAct}
use Rattle.basis.specs.declared.rows.Holder.{Holder}
use Rattle.basis.specs.declared.rows.Holder.TheVariants.{Nobody, Lock, Run as HoldingRun}
use Rattle.basis.specs.declared.rows.RunRow.{RunRow as Run}
use Rattle.machine.specs.declared.records.Version.{Version}
use Rattle.machine.specs.declared.records.Workspace.{Workspace}
use Rattle.machine.specs.declared.records.Organization.{Organization}
use Rattle.route.specs.declared.routes.AskedAct.TheVariants.{OfWorkspace}
use Rattle.basis.specs.declared.acts.WsAct.{WsAct}
use Rattle.basis.specs.declared.acts.WsAct.TheVariants.{UpdateState, PurgeState}
use Rattle.serve.specs.declared.steps.Step.{Step}
use Rattle.serve.specs.Asks.{Ask, silent, requests, commands, stops, organization, IsTimely}
use Rattle.serve.specs.Asks as ask
use Rattle.serve.specs.Custody.{Names, IsActOn, CarriesId, ReleasesLock, ForcesRemoval, asked_again, MayRepeat, IsAccepted}
use Rattle.serve.specs.Service.{AreAsked, own_asks}
use Rattle.serve.specs.Steps.{Said, step, own_said, own_record}

-- a step: what is asked, what is said, and the workspace before and after it
pub record Entry : Type 0 where
  pub ask : Ask
  pub said : Said
  pub before : Option Workspace
  pub after : Option Workspace

-- the book of the workspace of a name, from a record of its organization on: what the machine does at each step
abbrev pub book : List ℕ → Option Organization → List Ask → List Entry
book ws r [] = []
book ws r (a ∷ asks) = (record { ask = a; said = (step r a).answer; before = workspace_in r ws; after = workspace_in (step r a).left ws }) ∷ book ws (step r a).left asks

-- the workspace after the last step
abbrev pub after_all : Option Workspace → List Entry → Option Workspace
after_all w [] = w
after_all w (e ∷ es) = after_all e.after es

-- the book is of the machine's run: it has what the machine says, step by step, and ends with the workspace that it leaves
abbrev pub BooksAreOfTheRun : Type 0
BooksAreOfTheRun = (ws : List ℕ) (r : Option Organization) (asks : List Ask)
    → (map (λ (e : Entry). e.said) (book ws r asks) ≡ own_said r asks) × (after_all (workspace_in r ws) (book ws r asks) ≡ workspace_in (own_record r asks) ws)

-- ---- periods

-- a list, if it is taken
abbrev pub if_so : {A : Type 0} → Bool → List A → List A
if_so true es = es
if_so false es = []

-- one more at the front, if it is taken
abbrev pub put_if : {A : Type 0} → Bool → A → List A → List A
put_if true x xs = x ∷ xs
put_if false x xs = xs

-- the steps up to the first after which a condition no longer holds
abbrev pub as_long_as : (Option Workspace → Bool) → List Entry → List Entry
as_long_as is [] = []
as_long_as is (e ∷ es) = e ∷ if_so (is e.after) (as_long_as is es)

-- the periods that begin with a step after which a condition holds, and before which it does not: the steps after that one
abbrev pub begun_periods : (Option Workspace → Bool) → List Entry → List (List Entry)
begun_periods is [] = []
begun_periods is (e ∷ es) = put_if (not (is e.before) && is e.after) (as_long_as is es) (begun_periods is es)

-- the periods of a book in which a condition holds: those; and, if it holds at the start, one that begins there
abbrev pub periods : (Option Workspace → Bool) → List Entry → List (List Entry)
periods is [] = []
periods is (e ∷ es) = put_if (is e.before) (as_long_as is (e ∷ es)) (begun_periods is (e ∷ es))

-- the periods, one after the other, are the steps before which the condition holds
abbrev pub PeriodsAreTheStepsBetween : Type 0
PeriodsAreTheStepsBetween = (is : Option Workspace → Bool) (ws : List ℕ) (r : Option Organization) (asks : List Ask)
    → flat_map (λ (period : List Entry). period) (periods is (book ws r asks)) ≡ filter (λ (e : Entry). is e.before) (book ws r asks)

-- of each step in each of these periods
abbrev pub InEachPeriod : (Option Workspace → Bool) → (Entry → Type 0) → List Entry → Type 0
InEachPeriod is P es = AllByRecursion (λ (period : List Entry). AllByRecursion P period) (periods is es)

-- the lock of an ID holds
abbrev pub is_lock : List ℕ → Holder → Bool
is_lock id Nobody = false
is_lock id (Lock own text) = bytes_eq own id
is_lock id (HoldingRun n) = false

-- the workspace exists, and its holder is such a one
abbrev pub is_held : (Holder → Bool) → Option Workspace → Bool
is_held is None = false
is_held is (Some w) = is w.holder

-- the run of a number holds
abbrev pub is_run : ℕ → Holder → Bool
is_run n holder = holds holder n

-- the steps of a workspace's life after a step: those up to the one that deletes it; one of its name that is created later begins anew
abbrev pub life : Entry → List Entry → List Entry
life e es = if_so (is_some e.after) (as_long_as is_some es)

-- ---- what a step does

-- it asks this of the workspace
abbrev pub AsksOf : List ℕ → WsAct → Ask → Type 0
AsksOf ws what silent = ⊥
AsksOf ws what (ask.refused at awaited refusal is_head at_door) = ⊥
AsksOf ws what (requests at awaited asked content_md5 body) = asked.act ≡ OfWorkspace ws what
AsksOf ws what (stops at) = ⊥
AsksOf ws what (commands at command) = ⊥

-- it asks for this act on the workspace, its documents read
abbrev pub AsksFor : List ℕ → Act → Ask → Type 0
AsksFor ws act silent = ⊥
AsksFor ws act (ask.refused at awaited refusal is_head at_door) = ⊥
AsksFor ws act (requests at awaited asked content_md5 body) = (what : WsAct) × (asked.act ≡ OfWorkspace ws what) × IsActOn asked.act asked.lock_id body act
AsksFor ws act (stops at) = ⊥
AsksFor ws act (commands at command) = ⊥

-- the request has no ID in its query
abbrev pub CarriesNoId : Ask → Type 0
CarriesNoId silent = ⊥
CarriesNoId (ask.refused at awaited refusal is_head at_door) = ⊥
CarriesNoId (requests at awaited asked content_md5 body) = asked.lock_id ≡ None
CarriesNoId (stops at) = ⊥
CarriesNoId (commands at command) = ⊥

-- an accepted update, or an accepted purge, of the workspace
abbrev pub IsAcceptedUpdate : List ℕ → Entry → Type 0
IsAcceptedUpdate ws e = AsksOf ws UpdateState e.ask × IsAccepted e.said

abbrev pub IsAcceptedPurge : List ℕ → Entry → Type 0
IsAcceptedPurge ws e = AsksOf ws PurgeState e.ask × IsAccepted e.said

-- the number that the next version gets: 1 if there is no workspace
abbrev pub next_version : Option Workspace → ℕ
next_version None = 1
next_version (Some w) = w.next_version

-- it makes a version: the next number rises
abbrev pub MakesVersion : Entry → Type 0
MakesVersion e = next_version e.before < next_version e.after

-- the versions that are kept: none if there is no workspace
abbrev pub kept_versions : Option Workspace → List Version
kept_versions None = []
kept_versions (Some w) = w.versions

-- a version that was kept before the step is not kept after it
abbrev pub LosesVersion : Entry → Type 0
LosesVersion e = (v : Version) × Contains (kept_versions e.before) v × (Contains (kept_versions e.after) v → ⊥)

-- it makes a version, or is an accepted purge, or removes a version that was kept before it
abbrev pub WritesState : List ℕ → Entry → Type 0
WritesState ws e = MakesVersion e ⊎ IsAcceptedPurge ws e ⊎ LosesVersion e

-- a run was applying
abbrev pub IsApplying : ℕ → Option Workspace → Type 0
IsApplying n None = ⊥
IsApplying n (Some w) = (r : Run) × (run_of n w.runs ≡ Some r) × (r.status ≡ Applying)

-- a run starts: it does not hold before the step, and holds after it
abbrev pub starts : ℕ → Entry → Bool
starts n e = not (is_held (is_run n) e.before) && is_held (is_run n) e.after

-- it asks what a step before it asked, at another moment: the same bytes, sent again
abbrev pub Repeats : Entry → Entry → Type 0
Repeats e f = (at : ℕ) × (f.ask ≡ asked_again at e.ask)

-- the creation of a run with a key, and an action on a run
abbrev pub IsDoneOnce : Act → Type 0
IsDoneOnce (MakeRunAct ask) = IsSome ask.key
IsDoneOnce (ReportRunAct n action) = ⊤
IsDoneOnce act = ⊥

-- ---- custody

-- the operator removed the organization by force, and nothing is left
abbrev pub IsRemovedByForce : Entry → Type 0
IsRemovedByForce e = ForcesRemoval e.ask × IsAccepted e.said × (e.after ≡ None)

-- in the period of a lock, a step that makes a version, or is an accepted purge, or removes a version that was kept before it, carried
-- the lock's ID, or removed the organization by force
abbrev pub LocksKeepOthersOut : List ℕ → List Entry → Type 0
LocksKeepOthersOut ws es = (id : List ℕ) → InEachPeriod (is_held (is_lock id)) (λ e. WritesState ws e → (Names e.ask ws × CarriesId e.ask id) ⊎ IsRemovedByForce e) es

-- in the period of a run, such a step carried `run-` and its number, and the run was applying; or it removed the organization by force
abbrev pub RunsKeepOthersOut : List ℕ → List Entry → Type 0
RunsKeepOthersOut ws es = (n : ℕ) → InEachPeriod (is_held (is_run n)) (λ e. WritesState ws e → (Names e.ask ws × CarriesId e.ask (run_id n) × IsApplying n e.before) ⊎ IsRemovedByForce e) es

-- while nobody holds, an accepted update or purge carried no ID
abbrev pub NoIdWhereNobodyHolds : List ℕ → List Entry → Type 0
NoIdWhereNobodyHolds ws es = InEachPeriod (is_held is_nobody) (λ e. IsAcceptedUpdate ws e ⊎ IsAcceptedPurge ws e → CarriesNoId e.ask) es

-- a lock's period ends by an UNLOCK of its ID, or by a forced one, or by a forced removal of the organization, and by nothing else
abbrev pub LocksEndByUnlock : List ℕ → List Entry → Type 0
LocksEndByUnlock ws es = (id : List ℕ) → InEachPeriod (is_held (is_lock id)) (λ e. is_held (is_lock id) e.after ≡ false → (Names e.ask ws × ReleasesLock e.ask id × IsAccepted e.said) ⊎ IsRemovedByForce e) es

-- after each step at most one queued run is planning, planned or applying
abbrev pub OneRunAtATime : List ℕ → List Entry → Type 0
OneRunAtATime ws es = AllByRecursion (λ (e : Entry). IfSome e.after (λ w. length (filter is_active_run w.runs) ≤ 1)) es

-- of two runs that start in the life of one workspace, the later one has the greater number
abbrev pub StartsRise : List ℕ → List Entry → Type 0
StartsRise ws [] = ⊤
StartsRise ws (e ∷ es) =
    ((n m : ℕ) → starts n e ≡ true → AllByRecursion (λ (f : Entry). starts m f ≡ true → n < m) (life e es)) × StartsRise ws es

-- an accepted request, sent again while the workspace is as the first left it, leaves it so: all but the creation of a run without a key
abbrev pub RepeatsLeaveIt : List ℕ → List Entry → Type 0
RepeatsLeaveIt ws [] = ⊤
RepeatsLeaveIt ws (e ∷ es) =
    (Names e.ask ws → MayRepeat e.ask → IsAccepted e.said → AllByRecursion (λ (f : Entry). Repeats e f → f.before ≡ e.after → f.after ≡ f.before) es) × RepeatsLeaveIt ws es

-- an accepted creation of a run with a key, or an accepted action on a run, sent again later in the workspace's life, leaves it equal
abbrev pub DoneOnceIsDone : List ℕ → List Entry → Type 0
DoneOnceIsDone ws [] = ⊤
DoneOnceIsDone ws (e ∷ es) =
    ((act : Act) → AsksFor ws act e.ask → IsDoneOnce act → IsAccepted e.said → AllByRecursion (λ (f : Entry). Repeats e f → f.after ≡ f.before) (life e es)) × DoneOnceIsDone ws es

-- a law holds of the book of each workspace of each organization, over what is asked, from its record at the start
abbrev pub OfEachBookOf : (List ℕ → List Entry → Type 0) → List Ask → (List ℕ → Option Organization) → Type 0
OfEachBookOf Law asked rows = (org ws : List ℕ) → Law ws (book ws (rows org) (own_asks (organization org) asked))

-- the same over what steps ask
abbrev pub OfEachBook : (List ℕ → List Entry → Type 0) → List Step → (List ℕ → Option Organization) → Type 0
OfEachBook Law steps rows = (asked : List Ask) → AreAsked steps asked → OfEachBookOf Law asked rows

-- custody, over the book of each workspace: its eight laws hold of what is asked, from these records
pub record KeepsCustody (asked : List Ask) (rows : List ℕ → Option Organization) : Type 0 where
  pub lock_periods : OfEachBookOf LocksKeepOthersOut asked rows
  pub run_periods : OfEachBookOf RunsKeepOthersOut asked rows
  pub unheld : OfEachBookOf NoIdWhereNobodyHolds asked rows
  pub lock_ends : OfEachBookOf LocksEndByUnlock asked rows
  pub one_active : OfEachBookOf OneRunAtATime asked rows
  pub starts_rise : OfEachBookOf StartsRise asked rows
  pub repeats : OfEachBookOf RepeatsLeaveIt asked rows
  pub done_once : OfEachBookOf DoneOnceIsDone asked rows

-- of whatever is asked at moments in range, from lawful records, custody is kept
abbrev pub CustodyIsKept : Type 0
CustodyIsKept = (asked : List Ask) (rows : List ℕ → Option Organization) → AllByRecursion IsTimely asked → AreLawful rows → KeepsCustody asked rows
