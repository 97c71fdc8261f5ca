-- What each list reads of the rows, and the law that the rows must obey for this.
use Rattle.std.specs.Prelude.{◌+◌, ◌==◌, ◌&&◌, ℕ, Bool, List, [], ◌∷◌, map, filter, take, nat_lt, None, if◌then◌else◌}
use Rattle.std.specs.Option.{unwrap_or}
use Rattle.std.specs.declared.cmp.Ordering.{Ordering}
use Rattle.std.specs.Ordering.{nat_cmp, is_lt}
use Rattle.std.specs.Cmp.Lexicographic.{slice_cmp}
use Rattle.std.specs.FinMap.{FinMap, from_entries, entries}
use Rattle.sqlite_keyed.specs.Lists.{sort_by}
use Rattle.sqlite_keyed.specs.Rules.{AreApart}
use Rattle.std.specs.Str.{bytes_eq}
use Rattle.basis.specs.Names.{admits}
use Rattle.basis.specs.declared.roles.Bounds.{Bounds}
use Rattle.basis.specs.declared.roles.Role.{Role}
use Rattle.basis.specs.declared.rows.VersionRow.{VersionRow as Version}
use Rattle.statements.specs.declared.rows.BoundedRole.{BoundedRole}
use Rattle.statements.specs.declared.rows.NamedToken.{NamedToken}
use Rattle.statements.specs.declared.rows.Workspace.{Workspace}
use Rattle.statements.specs.declared.rows.NamedWorkspace.{NamedWorkspace}
use Rattle.basis.specs.declared.rows.RunRow.{RunRow as Run}
use Rattle.statements.specs.declared.rows.Organization.{Organization}
use Rattle.statements.specs.Rows.{Kept, Token, TokenRow}
use Rattle.statements.specs.Tables.{Tables}
use Rattle.statements.specs.Finds.{bound_of, retention_of, version_before, version_cmp, run_cmp}
use Rattle.statements.specs.Changes.{is_org, is_token, is_bound, is_ws_of, is_ws, is_retention, is_version_of, is_version, is_run_of}

-- the order of names: by their bytes
abbrev pub text_cmp : List ℕ → List ℕ → Ordering
text_cmp = slice_cmp nat_cmp

abbrev pub is_behind : List ℕ → List ℕ → Bool
is_behind a name = is_lt (text_cmp a name)

-- ---- organizations

abbrev pub caps : Tables → FinMap text_cmp ℕ
caps t = from_entries (map (λ x. (x.1.name, x.1.cap)) t.orgs)

abbrev pub organization_row : List ℕ × ℕ → Organization
organization_row e = record { name = e.0; cap = e.1 }

-- in the order of their names' bytes
abbrev pub organizations_in : Tables → List Organization
organizations_in t = map organization_row (entries (caps t))

abbrev pub OrgsApart : Tables → Type 0
OrgsApart t = AreApart (λ a b. is_org a.1.name b) t.orgs

-- ---- tokens

abbrev pub is_token_of : List ℕ → Kept TokenRow → Bool
is_token_of org x = bytes_eq x.1.org org

abbrev pub roles_by_name : List ℕ → Tables → FinMap text_cmp Role
roles_by_name org t = from_entries (map (λ x. (x.1.name, x.1.it.role)) (filter (is_token_of org) t.tokens))

-- no expiry, and the empty prefix
abbrev pub no_bounds : Bounds
no_bounds = record { until = None; prefix = [] }

-- a token with the expiry and the prefix in its row of bound; without such a row, it has none
abbrev pub bounded_row : List ℕ → Tables → List ℕ × Role → BoundedRole
bounded_row org t e = record { token = record { name = e.0; role = e.1 }; bounds = unwrap_or (bound_of org e.0 t) no_bounds }

-- those of an organization, in the order of their names' bytes
abbrev pub bounded_tokens_of : List ℕ → Tables → List BoundedRole
bounded_tokens_of org t = map (bounded_row org t) (entries (roles_by_name org t))

abbrev pub tokens_by_name : List ℕ → Tables → FinMap text_cmp Token
tokens_by_name org t = from_entries (map (λ x. (x.1.name, x.1.it)) (filter (is_token_of org) t.tokens))

abbrev pub digest_token_row : List ℕ × Token → NamedToken
digest_token_row e = record { name = e.0; it = e.1 }

-- the same with their digests
abbrev pub digest_tokens_of : List ℕ → Tables → List NamedToken
digest_tokens_of org t = map digest_token_row (entries (tokens_by_name org t))

abbrev pub TokensApart : Tables → Type 0
TokensApart t = AreApart (λ a b. is_token a.1.org a.1.name b) t.tokens

-- a token has at most one row, and at most one row of bound
pub record BoundedTokensApart (t : Tables) : Type 0 where
  pub tokens : TokensApart t
  pub bounds : AreApart (λ a b. is_bound a.1.org a.1.name b) t.bounds

-- ---- workspaces

abbrev pub workspaces_by_name : List ℕ → Tables → FinMap text_cmp Workspace
workspaces_by_name org t = from_entries (map (λ x. (x.1.name, x.1.it)) (filter (is_ws_of org) t.wss))

abbrev pub named_row : List ℕ → Tables → List ℕ × Workspace → NamedWorkspace
named_row org t e = record { name = e.0; it = e.1; retention = retention_of org e.0 t; last = version_before org e.0 e.1.next_version t }

-- those of an organization whose names come after a name and begin with a prefix, each with the number of versions that it keeps and the
-- number before its next version's, in the order of their names' bytes, at most a given number
abbrev pub workspace_rows_after : List ℕ → List ℕ → List ℕ → ℕ → Tables → List NamedWorkspace
workspace_rows_after org after prefix most t = take most (map (named_row org t) (filter (λ e. is_behind after e.0 && admits prefix e.0) (entries (workspaces_by_name org t))))

-- the names of those of an organization, in the order of their bytes
abbrev pub workspace_names_of : List ℕ → Tables → List (List ℕ)
workspace_names_of org t = map (λ e. e.0) (entries (workspaces_by_name org t))

-- no two workspaces of an organization have the same name
abbrev pub NamesApart : Tables → Type 0
NamesApart t = AreApart (λ a b. is_ws a.1.org a.1.name b) t.wss

-- the greater of a name and a prefix
abbrev pub later_of : List ℕ → List ℕ → List ℕ
later_of after prefix = if is_lt (text_cmp after prefix) then prefix else after

-- the least text that comes after every text with this prefix: its last byte is increased by one
abbrev pub end_of : List ℕ → List ℕ
end_of [] = []
end_of (b ∷ []) = (b + 1) ∷ []
end_of (b ∷ c ∷ bytes) = b ∷ end_of (c ∷ bytes)

-- a workspace has at most one row, at most one row of keeping, and at most one row for each of its versions
pub record WorkspacesApart (t : Tables) : Type 0 where
  pub wss : AreApart (λ a b. is_ws a.1.org a.1.name b) t.wss
  pub retentions : AreApart (λ a b. is_retention a.1.org a.1.name b) t.retentions
  pub versions : AreApart (λ a b. is_version a.1.org a.1.name a.1.it.number b) t.versions

-- ---- versions

-- those of a workspace with numbers greater than this one, in the order of their numbers, at most a given number
abbrev pub version_rows_after : List ℕ → List ℕ → ℕ → ℕ → Tables → List Version
version_rows_after org ws after most t = take most (filter (λ v. nat_lt after v.number) (map (λ x. x.1.it) (sort_by version_cmp (filter (is_version_of org ws) t.versions))))

-- no two of them have the same number
abbrev pub VersionsApart : List ℕ → List ℕ → Tables → Type 0
VersionsApart org ws t = AreApart (λ a b. a.1.it.number == b.1.it.number) (filter (is_version_of org ws) t.versions)

-- ---- runs

abbrev pub run_rows_after : List ℕ → List ℕ → ℕ → ℕ → Tables → List Run
run_rows_after org ws after most t = take most (filter (λ r. nat_lt after r.number) (map (λ x. x.1.it) (sort_by run_cmp (filter (is_run_of org ws) t.runs))))

abbrev pub RunsApart : List ℕ → List ℕ → Tables → Type 0
RunsApart org ws t = AreApart (λ a b. a.1.it.number == b.1.it.number) (filter (is_run_of org ws) t.runs)
