-- The bodies that the service writes: compact JSON, keys in the order of their bytes.
use Rattle.std.specs.Prelude.{ℕ, List, [], map, Option, Some, None, codes}
use Rattle.serde_json.specs.Data.{Data, Items, Members, null, boolean, number, unsigned, string, array, object, member, no_members}
use Rattle.serde_json.specs.View.{items_of}
use Rattle.serde_json.specs.Written.{compact_text}
use Rattle.basis.specs.Names.{run_id}
use Rattle.basis.specs.Refusals.{line_of}
use Rattle.basis.specs.declared.refusals.Refusal.{Refusal}
use Rattle.basis.specs.declared.rows.HolderId.{HolderId}
use Rattle.basis.specs.declared.rows.HolderId.TheVariants.{Lock, Run}
use Rattle.basis.specs.declared.rows.Listing.{Listing}
use Rattle.basis.specs.declared.rows.RunRow.{RunRow}
use Rattle.basis.specs.declared.rows.VersionRow.{VersionRow}
use Rattle.basis.specs.declared.rows.WsRow.{WsRow}
use Rattle.basis.specs.declared.runs.RunAction.{RunAction}
use Rattle.basis.specs.Runs.{status_word, action_word}
use Rattle.docs.specs.RunSettings.{run_settings_members}

-- the members of a refusal's body: its word
abbrev pub error_members : Refusal → Members
error_members refusal = member (codes "error") (string (line_of refusal).word) no_members

-- the body of a refusal
unfoldable pub error_text : Refusal → List ℕ
error_text refusal = compact_text (object (error_members refusal))

-- who holds: nobody, a lock by its ID, or a run
abbrev pub holder_value : Option HolderId → Data
holder_value None = null
holder_value (Some (Lock id)) = string id
holder_value (Some (Run n)) = string (run_id n)

-- a number that may be absent
abbrev pub number_value : Option ℕ → Data
number_value None = null
number_value (Some n) = number (unsigned n)

-- how runs go, holder, how many versions are kept, name and the number of the newest version
abbrev pub ws_members : WsRow → Members
ws_members row =
    run_settings_members row.settings.runs (
    member (codes "holder") (holder_value row.holder) (
    member (codes "keep_versions") (number (unsigned row.settings.retention)) (
    member (codes "name") (string row.name) (
    member (codes "version") (number_value row.version) no_members))))

-- a workspace as it is shown
unfoldable pub ws_text : WsRow → List ℕ
ws_text row = compact_text (object (ws_members row))

-- a version as it is listed
abbrev pub version_members : VersionRow → Members
version_members row =
    member (codes "created") (number (unsigned row.created)) (
    member (codes "lineage") (string row.lineage) (
    member (codes "number") (number (unsigned row.number)) (
    member (codes "serial") (number (unsigned row.serial)) (
    member (codes "size") (number (unsigned row.size)) no_members))))

-- the last accepted action, if there is one
abbrev pub action_value : Option RunAction → Data
action_value None = null
action_value (Some action) = string (action_word action)

-- a text that may be absent
abbrev pub text_value : Option (List ℕ) → Data
text_value None = null
text_value (Some text) = string text

-- action, moment, key, message, number, kind and status
abbrev pub run_members : RunRow → Members
run_members row =
    member (codes "action") (action_value row.action) (
    member (codes "created") (number (unsigned row.created)) (
    member (codes "key") (text_value row.key) (
    member (codes "message") (string row.message) (
    member (codes "number") (number (unsigned row.number)) (
    member (codes "plan_only") (boolean row.plan_only) (
    member (codes "status") (string (status_word row.status)) no_members))))))

-- a run as it is shown
unfoldable pub run_text : RunRow → List ℕ
run_text row = compact_text (object (run_members row))

-- the run of a workspace in an organization
abbrev pub run_holder_members : List ℕ → List ℕ → ℕ → Members
run_holder_members org ws n =
    member (codes "ID") (string (run_id n)) (
    member (codes "Info") (string []) (
    member (codes "Operation") (string (codes "run")) (
    member (codes "Path") (string ws) (
    member (codes "Version") (string []) (
    member (codes "Who") (string org) no_members)))))

-- a run that holds, as lock information of Terraform
unfoldable pub run_holder_text : List ℕ → List ℕ → ℕ → List ℕ
run_holder_text org ws n = compact_text (object (run_holder_members org ws n))

-- what a list shows of its rows: an object for each
abbrev pub objects : {T : Type 0} → (T → Members) → List T → Items
objects members rows = items_of (map (λ row. object (members row)) rows)

-- the items of a listing in their order, and whether more follow
abbrev pub list_members : {T : Type 0} → (T → Members) → Listing T → Members
list_members members listing =
    member (codes "items") (array (objects members listing.items)) (
    member (codes "more") (boolean listing.more) no_members)

-- lists of workspaces, versions and runs
unfoldable pub ws_list_text : Listing WsRow → List ℕ
ws_list_text listing = compact_text (object (list_members ws_members listing))

unfoldable pub version_list_text : Listing VersionRow → List ℕ
version_list_text listing = compact_text (object (list_members version_members listing))

unfoldable pub run_list_text : Listing RunRow → List ℕ
run_list_text listing = compact_text (object (list_members run_members listing))
