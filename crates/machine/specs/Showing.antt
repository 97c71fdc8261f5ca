-- What is shown of a workspace, its versions and its runs, and the lists of them.
use Rattle.std.specs.Prelude.{ℕ, nat_lt, Bool, true, ◌&&◌, List, [], length, map, filter, Option, Some, None, option_map}
use Rattle.std.specs.FinMap.{entries}
use Rattle.std.specs.Ordering.{is_lt}
use Rattle.basis.specs.Listings.{listing_of}
use Rattle.basis.specs.Names.{admits}
use Rattle.basis.specs.declared.rows.HolderId.{HolderId}
use Rattle.basis.specs.declared.rows.HolderId.TheVariants.{Lock as LockHolder, Run as RunHolder}
use Rattle.basis.specs.declared.rows.Listing.{Listing}
use Rattle.basis.specs.declared.rows.RunRow.{RunRow as Run}
use Rattle.basis.specs.declared.rows.VersionRow.{VersionRow}
use Rattle.basis.specs.declared.rows.WsRow.{WsRow}
use Rattle.machine.specs.Order.{name_cmp}
use Rattle.machine.specs.Workspaces.{newest}
use Rattle.machine.specs.declared.acts.Shown.{Shown}
use Rattle.basis.specs.declared.rows.Holder.{Holder}
use Rattle.basis.specs.declared.rows.Holder.TheVariants.{Nobody, Lock, Run as HoldingRun}
use Rattle.machine.specs.declared.records.Version.{Version}
use Rattle.machine.specs.declared.records.Workspace.{Workspace}
use Rattle.machine.specs.declared.records.Organization.{Organization}

-- the holder, as it is shown
abbrev pub holder_id : Holder → Option HolderId
holder_id Nobody = None
holder_id (Lock id text) = Some (LockHolder id)
holder_id (HoldingRun n) = Some (RunHolder n)

-- a workspace as it is shown
abbrev pub shown_of : Workspace → Shown
shown_of w = record { settings = w.settings; holder = holder_id w.holder; version = option_map (λ (v : Version). v.number) (newest w.versions) }

-- a workspace as it is shown, with its name
abbrev pub row_of : List ℕ → Shown → WsRow
row_of name shown = record { settings = shown.settings; holder = shown.holder; name = name; version = shown.version }

-- a version as it is listed; its size is the number of bytes of its text
abbrev pub version_row : Version → VersionRow
version_row v = record { created = v.created; lineage = v.lineage; number = v.number; serial = v.serial; size = length v.text }

-- whether a name comes after another, if there is another
abbrev pub comes_after : Option (List ℕ) → List ℕ → Bool
comes_after None name = true
comes_after (Some after) name = is_lt (name_cmp after name)

-- whether a name is listed: it starts with the prefix, and comes after another, if there is another
abbrev pub is_listed : Option (List ℕ) → List ℕ → List ℕ → Bool
is_listed after prefix name = admits prefix name && comes_after after name

-- the list of an organization's workspaces whose names start with the prefix and come after another, in the order of the names' bytes
abbrev pub workspaces_listed : Option (List ℕ) → List ℕ → List (List ℕ × Workspace) → Listing WsRow
workspaces_listed after prefix es = listing_of (map (λ (e : List ℕ × Workspace). row_of e.0 (shown_of e.1)) (filter (λ (e : List ℕ × Workspace). is_listed after prefix e.0) es))

abbrev pub workspaces_after : Option (List ℕ) → List ℕ → Option Organization → Listing WsRow
workspaces_after after prefix None = listing_of []
workspaces_after after prefix (Some o) = workspaces_listed after prefix (entries o.workspaces)

-- the list of a workspace's versions with numbers greater than this one, and that of its runs
abbrev pub versions_listed : ℕ → List Version → Listing VersionRow
versions_listed after versions = listing_of (map version_row (filter (λ (v : Version). nat_lt after v.number) versions))

abbrev pub versions_after : ℕ → Option Workspace → Listing VersionRow
versions_after after None = listing_of []
versions_after after (Some w) = versions_listed after w.versions

abbrev pub runs_listed : ℕ → List Run → Listing Run
runs_listed after runs = listing_of (filter (λ (r : Run). nat_lt after r.number) runs)

abbrev pub runs_after : ℕ → Option Workspace → Listing Run
runs_after after None = listing_of []
runs_after after (Some w) = runs_listed after w.runs
