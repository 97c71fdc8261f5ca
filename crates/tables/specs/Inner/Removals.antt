-- How an organization is removed with everything in it: its workspaces, its tokens and its row; and what prevents this.
use Rattle.std.specs.Prelude.{◌≡◌, ◌≢◌, ℕ, nat_lt, Bool, false, not, ◌&&◌, ◌||◌, List, [], ◌∷◌, Option, Some, None}
use Rattle.std.specs.List.{list_any}
use Rattle.machine.specs.Effects.{effect}
use Rattle.machine.specs.Removal.{is_locked, org_removed}
use Rattle.machine.specs.declared.keeps.AdminAnswer.{AdminAnswer}
use Rattle.statements.specs.declared.rows.NamedToken.{NamedToken}
use Rattle.statements.specs.declared.rows.Workspace.{Workspace as WorkspaceCells}
use Rattle.statements.specs.Changes.{org_row_removed, token_removed}
use Rattle.statements.specs.Finds.{workspace_of, open_runs_of}
use Rattle.statements.specs.Listings.{TokensApart, NamesApart, digest_tokens_of, workspace_names_of}
use Rattle.statements.specs.Steps.{EqualsWhere}
use Rattle.statements.specs.Tables.{Tables}
use Rattle.tables.specs.Records.{record_of}
use Rattle.tables.specs.Sound.{IsSound}
use Rattle.tables.specs.Inner.Edits.{removed_rows}
use Rattle.tables.specs.Inner.Keys.{KeepsKeys}

-- ---- what prevents it

-- a lock holds the workspace, or one of its runs is open, by its row and the number of open runs
abbrev pub is_used_by : Option WorkspaceCells → ℕ → Bool
is_used_by None runs = false
is_used_by (Some w) runs = is_locked w.holder || nat_lt 0 runs

abbrev pub is_used_in : List ℕ → List ℕ → Tables → Bool
is_used_in org ws t = is_used_by (workspace_of org ws t) (open_runs_of org ws t)

-- the same for one of these workspaces, unless the removal is forced
abbrev pub is_kept_back : List ℕ → Bool → List (List ℕ) → Tables → Bool
is_kept_back org is_forced names t = not is_forced && list_any (λ ws. is_used_in org ws t) names

-- ---- what is removed

-- one workspace after the other
abbrev pub workspaces_gone : List ℕ → List (List ℕ) → Tables → Tables
workspaces_gone org [] t = t
workspaces_gone org (ws ∷ names) t = workspaces_gone org names (removed_rows org ws t)

-- one token after the other
abbrev pub tokens_gone : List ℕ → List NamedToken → Tables → Tables
tokens_gone org [] t = t
tokens_gone org (x ∷ list) t = tokens_gone org list (token_removed org x.name t)

-- its workspaces, then its tokens, then its row
abbrev pub all_gone_of : List ℕ → List (List ℕ) → List NamedToken → Tables → Tables
all_gone_of org names list t = org_row_removed org (tokens_gone org list (workspaces_gone org names t))

-- these are the names of its workspaces, and these its tokens
abbrev pub AreAllOf : List ℕ → List (List ℕ) → List NamedToken → Tables → Type 0
AreAllOf org names list t = EqualsWhere NamesApart (workspace_names_of org) names t × EqualsWhere TokensApart (digest_tokens_of org) list t

-- ---- the command

-- The rows after an answer: they are sound, the organization is as the rules leave it, every other one is unchanged, and pages stay under
-- the keys of their bytes.
pub record Departs (answer : AdminAnswer) (is_forced : Bool) (org : List ℕ) (t u : Tables) : Type 0 where
  pub sound : IsSound u
  pub own : effect answer (record_of u org) ≡ org_removed is_forced (record_of t org)
  pub others : (q : List ℕ) → q ≢ org → record_of u q ≡ record_of t q
  pub keyed : (key_of : List ℕ → List ℕ) → KeepsKeys key_of t u

-- the same for sound rows, by the answer
abbrev pub Leaves : AdminAnswer → Bool → List ℕ → Tables → Tables → Type 0
Leaves answer is_forced org t u = IsSound t → Departs answer is_forced org t u
