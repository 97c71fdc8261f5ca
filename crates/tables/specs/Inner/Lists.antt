-- What lists read of the rows.
use Rattle.std.specs.Prelude.{◌==◌, cond, ℕ, List, map, Option, Some, None, option_map}
use Rattle.std.specs.Option.{unwrap_or}
use Rattle.basis.specs.Listings.{listing_of}
use Rattle.basis.specs.declared.numbers.TheConstants.{FIRST_KEPT}
use Rattle.basis.specs.declared.rows.Listing.{Listing}
use Rattle.basis.specs.declared.rows.RunRow.{RunRow}
use Rattle.basis.specs.declared.rows.VersionRow.{VersionRow}
use Rattle.basis.specs.declared.rows.WsRow.{WsRow}
use Rattle.machine.specs.Showing.{holder_id}
use Rattle.machine.specs.declared.keeps.AdminAnswer.{AdminAnswer}
use Rattle.machine.specs.declared.keeps.AdminAnswer.TheVariants.{Absent, Tokens}
use Rattle.machine.specs.declared.keeps.OrgRow.{OrgRow}
use Rattle.machine.specs.declared.keeps.TokenRow.{TokenRow}
use Rattle.statements.specs.declared.rows.BoundedRole.{BoundedRole}
use Rattle.statements.specs.declared.rows.NamedRole.{NamedRole}
use Rattle.statements.specs.declared.rows.NamedWorkspace.{NamedWorkspace}
use Rattle.statements.specs.declared.rows.Organization.{Organization as OrganizationCells}
use Rattle.statements.specs.Finds.{cap_of, named_role_of, newest_of, workspaces_of}
use Rattle.statements.specs.Listings.{organizations_in, bounded_tokens_of, workspace_rows_after, version_rows_after, run_rows_after}
use Rattle.statements.specs.Tables.{Tables}
use Rattle.tables.specs.Records.{settings_of_cells, caller_with, bounds_at}

-- one row more than a listing has is asked for: it shows whether more follow
abbrev pub asked_rows : ℕ
asked_rows = 51

-- ---- versions

abbrev pub versions_listed_in : ℕ → List ℕ → List ℕ → Tables → Listing VersionRow
versions_listed_in after org ws t = listing_of (version_rows_after org ws after asked_rows t)

-- ---- runs

abbrev pub runs_listed_in : ℕ → List ℕ → List ℕ → Tables → Listing RunRow
runs_listed_in after org ws t = listing_of (run_rows_after org ws after asked_rows t)

-- ---- workspaces

abbrev pub newest_number_in : List ℕ → List ℕ → Tables → Option ℕ
newest_number_in org ws t = option_map (λ head. head.number) (newest_of org ws t)

-- the number before the next one, if a version has it; none if the next number is 1; otherwise the number that is looked up
abbrev pub newest_by : Option ℕ → ℕ → Option ℕ → Option ℕ
newest_by (Some last) next newest = Some last
newest_by None next newest = cond (next == 1) None newest

abbrev pub newest_shown_in : List ℕ → NamedWorkspace → Tables → Option ℕ
newest_shown_in org w t = newest_by w.last w.it.next_version (newest_number_in org w.name t)

abbrev pub ws_row_in : List ℕ → Tables → NamedWorkspace → WsRow
ws_row_in org t w = record { settings = settings_of_cells (unwrap_or w.retention FIRST_KEPT) w.it; holder = holder_id w.it.holder; name = w.name; version = newest_shown_in org w t }

abbrev pub workspaces_listed_in : List ℕ → List ℕ → List ℕ → Tables → Listing WsRow
workspaces_listed_in after prefix org t = listing_of (map (ws_row_in org t) (workspace_rows_after org after prefix asked_rows t))

-- ---- tokens

abbrev pub token_row_in : List ℕ → Tables → NamedRole → TokenRow
token_row_in org t token = record { name = token.name; caller = caller_with token.role (bounds_at t org token.name) }

-- the caller and the name of the organization's token with this digest, if it has a row
abbrev pub asker_in : List ℕ → List ℕ → Tables → Option TokenRow
asker_in org digest t = option_map (token_row_in org t) (named_role_of org digest t)

abbrev pub token_row_of : BoundedRole → TokenRow
token_row_of b = record { name = b.token.name; caller = caller_with b.token.role b.bounds }

abbrev pub tokens_listed_in : List ℕ → Tables → List TokenRow
tokens_listed_in org t = map token_row_of (bounded_tokens_of org t)

abbrev pub token_list_answer_by : Option ℕ → List ℕ → Tables → AdminAnswer
token_list_answer_by None org t = Absent
token_list_answer_by (Some cap) org t = Tokens (tokens_listed_in org t)

-- the answer to the list of an organization's tokens
abbrev pub token_list_answer_in : List ℕ → Tables → AdminAnswer
token_list_answer_in org t = token_list_answer_by (cap_of org t) org t

-- ---- organizations

abbrev pub org_row_in : Tables → OrganizationCells → OrgRow
org_row_in t o = record { name = o.name; workspaces = workspaces_of o.name t; limit = o.cap }

abbrev pub organizations_listed_in : Tables → List OrgRow
organizations_listed_in t = map (org_row_in t) (organizations_in t)
