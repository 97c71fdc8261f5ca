-- Who may write (update or purge a state), by the holder and the ID that the request gives (Terraform documentation, 'Backend Type: http':
-- the ID of the held lock is added to updates).
use Rattle.std.specs.Prelude.{ℕ, Bool, true, false, cond, List, Option, Some, None}
use Rattle.std.specs.Str.{bytes_eq}
use Rattle.basis.specs.Names.{run_id}
use Rattle.basis.specs.declared.refusals.Refusal.{Refusal}
use Rattle.basis.specs.declared.refusals.Refusal.TheVariants.{NotHeld, NotApplying, Locked}
use Rattle.basis.specs.declared.runs.RunStatus.{RunStatus}
use Rattle.basis.specs.declared.runs.RunStatus.TheVariants.{Pending, Planning, Planned, Applying, Applied, PlannedAndFinished, Errored, Discarded, Canceled}
use Rattle.basis.specs.declared.rows.Holder.{Holder}
use Rattle.basis.specs.declared.rows.Holder.TheVariants.{Nobody, Lock, Run}

abbrev pub is_applying : Option RunStatus → Bool
is_applying None = false
is_applying (Some Pending) = false
is_applying (Some Planning) = false
is_applying (Some Planned) = false
is_applying (Some Applying) = true
is_applying (Some Applied) = false
is_applying (Some PlannedAndFinished) = false
is_applying (Some Errored) = false
is_applying (Some Discarded) = false
is_applying (Some Canceled) = false

-- why a write is refused, or none if it is allowed: by the holder, the status of the holding run and the ID given
abbrev pub may_write : Holder → Option RunStatus → Option (List ℕ) → Option Refusal
may_write Nobody status None = None
may_write Nobody status (Some id) = Some NotHeld
may_write (Lock held text) status None = Some Locked
may_write (Lock held text) status (Some id) = cond (bytes_eq id held) None (Some Locked)
may_write (Run n) status None = Some Locked
may_write (Run n) status (Some id) = cond (bytes_eq id (run_id n)) (cond (is_applying status) None (Some NotApplying)) (Some Locked)
