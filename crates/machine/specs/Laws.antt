-- The laws that always hold of a workspace and of an organization.
use Rattle.std.specs.Prelude.{◌≡◌, ℕ, ◌+◌, ◌^◌, ◌<◌, ◌≤◌, Bool, true, false, ◌&&◌, ◌||◌, ◌==◌, List, [], ◌∷◌, length, map, Option, Some, None, IfSome, IsSomeAnd, IsTrue, ⊤}
use Rattle.std.specs.List.{AllByRecursion, list_any}
use Rattle.std.specs.Str.{bytes_eq}
use Rattle.std.specs.FinMap.{get}
use Rattle.basis.specs.Names.{is_org_name, is_ws_name, is_prefix, is_free_id, has_length}
use Rattle.basis.specs.declared.runs.RunStatus.{RunStatus}
use Rattle.basis.specs.declared.runs.RunStatus.TheVariants.{Pending, Planning, Planned, Applying, Applied, PlannedAndFinished, Errored, Discarded, Canceled}
use Rattle.basis.specs.declared.runs.RunAction.{RunAction}
use Rattle.basis.specs.declared.numbers.TheConstants.{MAX_NUMBER}
use Rattle.machine.specs.Ranges.{IsRetention, IsMoment}
use Rattle.machine.specs.RunSteps.{RunStep, plan_only_steps, auto_apply_steps, confirmed_steps, is_status, is_action}
use Rattle.machine.specs.Workspaces.{max_open_runs, run_of, open_runs}
use Rattle.basis.specs.declared.rows.Holder.{Holder}
use Rattle.basis.specs.declared.rows.Holder.TheVariants.{Nobody, Lock, Run as HoldingRun}
use Rattle.machine.specs.declared.records.Version.{Version}
use Rattle.basis.specs.declared.rows.RunRow.{RunRow as Run}
use Rattle.machine.specs.declared.records.Token.{Token}
use Rattle.machine.specs.declared.records.Workspace.{Workspace}
use Rattle.machine.specs.declared.records.Organization.{Organization}

-- the numbers rise, are above `low`, and below `next`
abbrev pub Rises : ℕ → List ℕ → ℕ → Type 0
Rises low [] next = ⊤
Rises low (n ∷ ns) next = (low < n) × (n < next) × Rises n ns next

-- the range of the next number of a version or a run
abbrev pub IsNext : ℕ → Type 0
IsNext next = (1 ≤ next) × (next ≤ MAX_NUMBER + 1)

-- the parts of a version are in their ranges
pub record IsVersion (v : Version) : Type 0 where
  pub serial : v.serial < 2 ^ 63
  pub lineage : length v.lineage ≤ 256
  pub created : IsMoment v.created

-- planning, planned or applying
abbrev pub is_active : RunStatus → Bool
is_active Pending = false
is_active Planning = true
is_active Planned = true
is_active Applying = true
is_active Applied = false
is_active PlannedAndFinished = false
is_active Errored = false
is_active Discarded = false
is_active Canceled = false

abbrev pub is_pending : RunStatus → Bool
is_pending Pending = true
is_pending Planning = false
is_pending Planned = false
is_pending Applying = false
is_pending Applied = false
is_pending PlannedAndFinished = false
is_pending Errored = false
is_pending Discarded = false
is_pending Canceled = false

-- whether a step of an action ends in a status
abbrev pub ends_in : List RunStep → RunAction → RunStatus → Bool
ends_in steps action status = list_any (λ (s : RunStep). is_action s.action action && is_status s.to status) steps

-- a run without an action is pending or planning; any other run has a status in which its last action ends
abbrev pub IsWhereActionEnds : Bool → Option RunAction → RunStatus → Type 0
IsWhereActionEnds plan_only None Pending = ⊤
IsWhereActionEnds plan_only None Planning = ⊤
IsWhereActionEnds plan_only None _ = IsTrue false
IsWhereActionEnds true (Some action) status = IsTrue (ends_in plan_only_steps action status)
IsWhereActionEnds false (Some action) status = IsTrue (ends_in auto_apply_steps action status || ends_in confirmed_steps action status)

-- whether the run with this number is the holder
abbrev pub holds : Holder → ℕ → Bool
holds Nobody n = false
holds (Lock id text) n = false
holds (HoldingRun m) n = m == n

abbrev pub is_nobody : Holder → Bool
is_nobody Nobody = true
is_nobody (Lock id text) = false
is_nobody (HoldingRun n) = false

-- A queued run is active exactly if it is the holder. It is pending only while the workspace has a holder. A plan-only run is never
-- pending.
pub record IsRun (holder : Holder) (r : Run) : Type 0 where
  pub key : IfSome r.key (λ key. IsTrue (has_length 1 64 key))
  pub message : length r.message ≤ 1_000
  pub created : IsMoment r.created
  pub action : IsWhereActionEnds r.plan_only r.action r.status
  pub active : r.plan_only ≡ false → is_active r.status ≡ holds holder r.number
  pub waiting : is_pending r.status ≡ true → (r.plan_only ≡ false) × (is_nobody holder ≡ false)

-- no two runs have the same key
abbrev pub KeysDiffer : List Run → Type 0
KeysDiffer [] = ⊤
KeysDiffer (r ∷ runs) = IfSome r.key (λ key. AllByRecursion (λ (s : Run). IfSome s.key (λ other. bytes_eq key other ≡ false)) runs) × KeysDiffer runs

-- a lock's ID is not the ID of a run, and a run that is the holder is a queued run of the list
abbrev pub IsHolder : Holder → List Run → Type 0
IsHolder Nobody runs = ⊤
IsHolder (Lock id text) runs = IsTrue (is_free_id id)
IsHolder (HoldingRun n) runs = IsSomeAnd (run_of n runs) (λ r. r.plan_only ≡ false)

-- the laws of the runs
pub record AreRuns (holder : Holder) (next_run : ℕ) (runs : List Run) : Type 0 where
  pub next : IsNext next_run
  pub rise : Rises 0 (map (λ (r : Run). r.number) runs) next_run
  pub each : AllByRecursion (IsRun holder) runs
  pub open_runs : open_runs runs ≤ max_open_runs
  pub keys : KeysDiffer runs
  pub held : IsHolder holder runs

-- the laws of the versions of a workspace that keeps at most `most`
pub record AreVersions (most next_version : ℕ) (versions : List Version) : Type 0 where
  pub retention : IsRetention most
  pub next : IsNext next_version
  pub rise : Rises 0 (map (λ (v : Version). v.number) versions) next_version
  pub each : AllByRecursion IsVersion versions
  pub kept : length versions ≤ most

-- the laws of a workspace
pub record IsLawful (w : Workspace) : Type 0 where
  pub versions : AreVersions w.settings.retention w.next_version w.versions
  pub runs : AreRuns w.holder w.next_run w.runs
  pub released : IfSome w.released (λ id. IsTrue (is_free_id id))

-- the token's name and prefix are valid, its digest has 32 bytes, and its expiry, if any, is in range
pub record IsToken (name : List ℕ) (t : Token) : Type 0 where
  pub named : IsTrue (is_org_name name)
  pub digest : length t.digest ≡ 32
  pub until : IfSome t.caller.until (λ until. IsMoment until)
  pub prefix : IsTrue (is_prefix t.caller.prefix)

-- the workspace's name is valid, and the workspace is lawful
pub record IsNamedWorkspace (name : List ℕ) (w : Workspace) : Type 0 where
  pub named : IsTrue (is_ws_name name)
  pub lawful : IsLawful w

-- the laws of an organization; among them: no two of its tokens have the same digest
pub record IsLawfulOrganization (o : Organization) : Type 0 where
  pub limit : o.limit ≤ 100_000
  pub tokens : (name : List ℕ) (t : Token) → get o.tokens name ≡ Some t → IsToken name t
  pub digests : (name other : List ℕ) (t u : Token) → get o.tokens name ≡ Some t → get o.tokens other ≡ Some u → t.digest ≡ u.digest → name ≡ other
  pub workspaces : (name : List ℕ) (w : Workspace) → get o.workspaces name ≡ Some w → IsNamedWorkspace name w

-- every record that exists is lawful
abbrev pub AreLawful : (List ℕ → Option Organization) → Type 0
AreLawful rows = (org : List ℕ) (o : Organization) → rows org ≡ Some o → IsLawfulOrganization o

-- the workspace is lawful, if it exists
abbrev pub IsLawfulIfThere : Option Workspace → Type 0
IsLawfulIfThere w = IfSome w IsLawful
