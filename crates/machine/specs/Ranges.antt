-- The ranges of what is asked.
use Rattle.std.specs.Prelude.{ℕ, ◌^◌, ◌<◌, ◌≤◌, length, IfSome, IsTrue, ⊤}
use Rattle.basis.specs.Names.{is_free_id, has_length}
use Rattle.basis.specs.declared.numbers.TheConstants.{MAX_MOMENT, MAX_KEPT}
use Rattle.basis.specs.declared.rows.RunAsk.{RunAsk}
use Rattle.basis.specs.declared.rows.SettingsAsk.{SettingsAsk}
use Rattle.basis.specs.declared.rows.StateHead.{StateHead}
use Rattle.machine.specs.declared.acts.Act.{Act}
use Rattle.machine.specs.declared.acts.Act.TheVariants.{PutWorkspace, UpdateState, Lock as LockAct, MakeRun}

-- the head of a state is in range
abbrev pub IsHeadInRange : StateHead → Type 0
IsHeadInRange head = (head.serial < 2 ^ 63) × (length head.lineage ≤ 256)

-- what the creation of a run asks for is in range
abbrev pub IsRunAsk : RunAsk → Type 0
IsRunAsk ask = IfSome ask.key (λ key. IsTrue (has_length 1 64 key)) × (length ask.message ≤ 1_000)

-- the range of the number of versions that a workspace keeps
abbrev pub IsRetention : ℕ → Type 0
IsRetention retention = (1 ≤ retention) × (retention ≤ MAX_KEPT)

-- the settings that a PUT asks for are in range
abbrev pub IsSettingsAsk : SettingsAsk → Type 0
IsSettingsAsk ask = IfSome ask.retention IsRetention

-- a time in range, in seconds since 1970
abbrev pub IsMoment : ℕ → Type 0
IsMoment now = now ≤ MAX_MOMENT

-- the act's documents, if it has any, are in range
abbrev pub IsInRange : Act → Type 0
IsInRange (PutWorkspace ask) = IsSettingsAsk ask
IsInRange (UpdateState head text id) = IsHeadInRange head
IsInRange (LockAct id text) = IsTrue (is_free_id id)
IsInRange (MakeRun ask) = IsRunAsk ask
IsInRange act = ⊤
