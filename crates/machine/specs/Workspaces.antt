-- Parts of a workspace.
use Rattle.std.specs.Prelude.{ℕ, ◌-◌, Bool, false, ◌==◌, List, [], ◌∷◌, length, take, drop, filter, find, Option, Some, None, option_map}
use Rattle.std.specs.Str.{bytes_eq}
use Rattle.basis.specs.Runs.{is_open}
use Rattle.basis.specs.declared.rows.Settings.{Settings}
use Rattle.basis.specs.declared.runs.RunStatus.{RunStatus}
use Rattle.basis.specs.declared.rows.Holder.{Holder}
use Rattle.basis.specs.declared.rows.Holder.TheVariants.{Nobody, Lock, Run as HoldingRun}
use Rattle.machine.specs.declared.records.Version.{Version}
use Rattle.basis.specs.declared.rows.RunRow.{RunRow as Run}
use Rattle.machine.specs.declared.records.Workspace.{Workspace}

-- the greatest number of open runs of a workspace
abbrev pub max_open_runs : ℕ
max_open_runs = 100

-- the newest version: the last of the list
abbrev pub newest : List Version → Option Version
newest [] = None
newest (v ∷ []) = Some v
newest (v ∷ w ∷ vs) = newest (w ∷ vs)

-- the last `most` of the list: the oldest are removed
abbrev pub last_of : ℕ → List Version → List Version
last_of most vs = drop (length vs - most) vs

-- the greatest number of those removed if the last `staying` are kept
abbrev pub outgoing : ℕ → List Version → Option ℕ
outgoing staying vs = option_map (λ (v : Version). v.number) (newest (take (length vs - staying) vs))

-- a workspace at its creation
abbrev pub new_workspace : Settings → Workspace
new_workspace settings = record { settings = settings; holder = Nobody; released = None; next_version = 1; next_run = 1; versions = []; runs = [] }

-- the run with this number
abbrev pub is_numbered : ℕ → Run → Bool
is_numbered n r = r.number == n

abbrev pub run_of : ℕ → List Run → Option Run
run_of n runs = find (is_numbered n) runs

-- the status of the holding run
abbrev pub holder_status : Holder → List Run → Option RunStatus
holder_status Nobody runs = None
holder_status (Lock id text) runs = None
holder_status (HoldingRun n) runs = option_map (λ (r : Run). r.status) (run_of n runs)

-- the run that has this key, if a key is given
abbrev pub has_key : List ℕ → Option (List ℕ) → Bool
has_key key None = false
has_key key (Some own) = bytes_eq own key

abbrev pub is_keyed : List ℕ → Run → Bool
is_keyed key r = has_key key r.key

abbrev pub keyed_run : Option (List ℕ) → List Run → Option Run
keyed_run None runs = None
keyed_run (Some key) runs = find (is_keyed key) runs

-- the number of open runs
abbrev pub open_runs : List Run → ℕ
open_runs runs = length (filter (λ (r : Run). is_open r.status) runs)
