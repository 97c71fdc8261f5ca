-- Custody, as laws of the rules: who writes, how long a lock holds, what becomes of versions, and that repeated acts change nothing.
use Rattle.std.specs.Prelude.{◌≡◌, ◌≤◌, ◌⊎◌, ◌+◌, ℕ, Bool, false, List, [], Option, Some, None, IsSome, ⊤}
use Rattle.basis.specs.Names.{run_id}
use Rattle.basis.specs.declared.acts.Query.TheVariants as query
use Rattle.basis.specs.declared.rows.StateHead.{StateHead}
use Rattle.basis.specs.declared.runs.RunStatus.{RunStatus}
use Rattle.basis.specs.declared.runs.RunStatus.TheVariants.{Applying}
use Rattle.machine.specs.Laws.{is_nobody}
use Rattle.machine.specs.Records.{Seen, missing, there, standing}
use Rattle.machine.specs.Rules.{Outcome, refused, held, done, no_state, state, workspace, the_run, versions, runs, rules}
use Rattle.machine.specs.Units.{version_of}
use Rattle.machine.specs.Workspaces.{newest, holder_status, open_runs}
use Rattle.machine.specs.declared.acts.Act.{Act}
use Rattle.machine.specs.declared.acts.Act.TheVariants.{Query, DeleteWorkspace, UpdateState, PurgeState, Unlock, ForceUnlock, MakeRun}
use Rattle.basis.specs.declared.rows.Holder.{Holder}
use Rattle.basis.specs.declared.rows.Holder.TheVariants.{Nobody, Lock, Run}
use Rattle.machine.specs.declared.records.Version.{Version}
use Rattle.machine.specs.declared.records.Workspace.{Workspace}

-- a workspace just after its creation
pub record IsAnew (w : Workspace) : Type 0 where
  pub holder : w.holder ≡ Nobody
  pub released : w.released ≡ None
  pub versions_begin : (w.versions ≡ []) × (w.next_version ≡ 1)
  pub runs_begin : (w.runs ≡ []) × (w.next_run ≡ 1)

-- a refusal
abbrev pub IsRefusal : Outcome → Type 0
IsRefusal (refused refusal) = ⊤
IsRefusal (held holder) = ⊤
IsRefusal done = ⊥
IsRefusal no_state = ⊥
IsRefusal (state text) = ⊥
IsRefusal (workspace shown) = ⊥
IsRefusal (the_run r) = ⊥
IsRefusal (versions list) = ⊥
IsRefusal (runs list) = ⊥

-- a refusal leaves the workspace as it is
abbrev pub RefusalsChangeNothing : Type 0
RefusalsChangeNothing = (act : Act) (now : ℕ) (s : Seen) → IsRefusal (rules act now s).answer → (rules act now s).left ≡ standing s

-- a refusal that names a holder names the workspace's holder
abbrev pub RefusalsNameTheHolder : Type 0
RefusalsNameTheHolder = (act : Act) (now : ℕ) (w : Workspace) (holder : Holder) → (rules act now (there w)).answer ≡ held holder → holder ≡ w.holder

-- an act that writes: an update or a purge that carries this ID
abbrev pub WritesWith : Act → Option (List ℕ) → Type 0
WritesWith (UpdateState head text given) id = given ≡ id
WritesWith (PurgeState given) id = given ≡ id
WritesWith act id = ⊥

-- the ID that a writer has to give: none if the workspace has no holder, the lock's ID, or the ID of a run that is applying
abbrev pub IsWriter : Holder → Option RunStatus → Option (List ℕ) → Type 0
IsWriter Nobody status id = id ≡ None
IsWriter (Lock own text) status id = id ≡ Some own
IsWriter (Run n) status id = (id ≡ Some (run_id n)) × (status ≡ Some Applying)

-- an accepted update or purge carried the holder's ID, or none if the workspace has no holder
abbrev pub WritesCarryTheId : Type 0
WritesCarryTheId = (act : Act) (now : ℕ) (w : Workspace) (id : Option (List ℕ))
    → WritesWith act id → (rules act now (there w)).answer ≡ done → IsWriter w.holder (holder_status w.holder w.runs) id

-- while a workspace has a holder, its versions change only by an accepted update or purge that carried the holder's ID
abbrev pub HeldVersionsChangeByTheId : Type 0
HeldVersionsChangeByTheId = (act : Act) (now : ℕ) (w v : Workspace) → is_nobody w.holder ≡ false → (rules act now (there w)).left ≡ Some v
    → (v.versions ≡ w.versions) ⊎ ((id : Option (List ℕ)) × WritesWith act id × ((rules act now (there w)).answer ≡ done) × IsWriter w.holder (holder_status w.holder w.runs) id)

-- while a lock holds a workspace, its versions change only by an update or a purge that carried the lock's ID
abbrev pub VersionsChangeByTheId : Type 0
VersionsChangeByTheId = (act : Act) (now : ℕ) (w v : Workspace) (own text : List ℕ)
    → w.holder ≡ Lock own text → (rules act now (there w)).left ≡ Some v → (v.versions ≡ w.versions) ⊎ WritesWith act (Some own)

-- an act that releases the lock with this ID: an UNLOCK by its ID, or a forced UNLOCK
abbrev pub Releases : Act → List ℕ → Type 0
Releases (Unlock id) own = id ≡ own
Releases ForceUnlock own = ⊤
Releases act own = ⊥

-- a lock holds, with the text that took it, until an act releases it
abbrev pub HoldsUntilReleased : Type 0
HoldsUntilReleased = (act : Act) (now : ℕ) (w v : Workspace) (own text : List ℕ)
    → w.holder ≡ Lock own text → (rules act now (there w)).left ≡ Some v → (v.holder ≡ Lock own text) ⊎ Releases act own

-- no act deletes a workspace that a lock holds
abbrev pub LockedWorkspacesStay : Type 0
LockedWorkspacesStay = (act : Act) (now : ℕ) (w : Workspace) (own text : List ℕ) → w.holder ≡ Lock own text → IsSome (rules act now (there w)).left

-- a workspace is deleted only by DELETE, and only if no lock holds it and no run is open
abbrev pub IsUnlocked : Holder → Type 0
IsUnlocked Nobody = ⊤
IsUnlocked (Lock id text) = ⊥
IsUnlocked (Run n) = ⊤

abbrev pub WorkspacesGoByDelete : Type 0
WorkspacesGoByDelete = (act : Act) (now : ℕ) (w : Workspace) → (rules act now (there w)).left ≡ None
    → (act ≡ DeleteWorkspace) × IsUnlocked w.holder × (open_runs w.runs ≡ 0)

-- a workspace that is created starts empty, even if one of the same name was deleted before: it has no version and no run, and both next
-- numbers are 1
abbrev pub WorkspacesBeginAnew : Type 0
WorkspacesBeginAnew = (act : Act) (now : ℕ) (room : Bool) (v : Workspace) → (rules act now (missing room)).left ≡ Some v → IsAnew v

-- GET returns the text that was posted
abbrev pub WhatIsPostedIsRead : Type 0
WhatIsPostedIsRead = (head : StateHead) (text : List ℕ) (id : Option (List ℕ)) (now later : ℕ) (w v : Workspace)
    → (rules (UpdateState head text id) now (there w)).answer ≡ done → (rules (UpdateState head text id) now (there w)).left ≡ Some v
    → (rules (Query query.State) later (there v)).answer ≡ state text

-- after a purge GET finds no state
abbrev pub NothingIsReadOfAPurge : Type 0
NothingIsReadOfAPurge = (id : Option (List ℕ)) (now later : ℕ) (w v : Workspace)
    → (rules (PurgeState id) now (there w)).answer ≡ done → (rules (PurgeState id) now (there w)).left ≡ Some v
    → (rules (Query query.State) later (there v)).answer ≡ no_state

-- no version is added: the next number is unchanged, and so is every version that is left
pub record KeepsVersions (w v : Workspace) : Type 0 where
  pub next : v.next_version ≡ w.next_version
  pub left : (n : ℕ) (u : Version) → version_of n v.versions ≡ Some u → version_of n w.versions ≡ Some u

-- a version is added: it has the next number, which rises by one, and every other version that is left is unchanged
pub record GainsVersion (w v : Workspace) : Type 0 where
  pub made : Version
  pub number : made.number ≡ w.next_version
  pub newest : newest v.versions ≡ Some made
  pub next : v.next_version ≡ w.next_version + 1
  pub left : (n : ℕ) (u : Version) → version_of n v.versions ≡ Some u → (u ≡ made) ⊎ (version_of n w.versions ≡ Some u)

-- The next numbers never fall. The next number of versions rises exactly if a version is added. A version that is kept is unchanged.
abbrev pub NumbersRise : Type 0
NumbersRise = (act : Act) (now : ℕ) (w v : Workspace) → (rules act now (there w)).left ≡ Some v
    → (w.next_run ≤ v.next_run) × (KeepsVersions w v ⊎ GainsVersion w v)

-- an act that changes nothing more if it is repeated: any but the creation of a run without a key
abbrev pub IsRepeatable : Act → Type 0
IsRepeatable (MakeRun ask) = IsSome ask.key
IsRepeatable act = ⊤

-- if an accepted act is repeated on what it left, at any time, it changes nothing more
abbrev pub AcceptedActsComeAgain : Type 0
AcceptedActsComeAgain = (act : Act) (now later : ℕ) (s t : Seen) → IsRepeatable act → (IsRefusal (rules act now s).answer → ⊥)
    → standing t ≡ (rules act now s).left → (rules act later t).left ≡ standing t

-- the same for an act that left a workspace, even if it was refused
abbrev pub RepeatsChangeNothing : Type 0
RepeatsChangeNothing = (act : Act) (now later : ℕ) (s : Seen) (v : Workspace) → IsRepeatable act
    → (rules act now s).left ≡ Some v → (rules act later (there v)).left ≡ Some v
