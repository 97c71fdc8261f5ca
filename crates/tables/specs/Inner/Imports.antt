-- How an organization is added to a database from the rows of another one: its row, its tokens and its workspaces.
use Rattle.std.specs.Prelude.{◌≡◌, ◌≢◌, ℕ, List, [], ◌∷◌, map, Some, None, IsTrue}
use Rattle.sqlite_trees.specs.declared.store.Store.{Ghosts}
use Rattle.sqlite.specs.Held.{Held, state}
use Rattle.sqlite.specs.State.{State, HasCleanDisk}
use Rattle.machine.specs.declared.keeps.AdminAnswer.{AdminAnswer}
use Rattle.machine.specs.declared.keeps.AdminAnswer.TheVariants.{Done}
use Rattle.machine.specs.declared.records.Token.{Token}
use Rattle.machine.specs.declared.records.Workspace.{Workspace}
use Rattle.statements.specs.declared.rows.NamedToken.{NamedToken}
use Rattle.statements.specs.Tables.{Tables, Holds}
use Rattle.statements.specs.Changes.{token_added}
use Rattle.statements.specs.Finds.{cap_of}
use Rattle.tables.specs.Copying.{IsCopied}
use Rattle.tables.specs.Records.{token_of_cells, bounds_at, workspace_by, record_of}
use Rattle.tables.specs.Sound.{IsSound}
use Rattle.tables.specs.Inner.Copies.{Begins}

-- ---- rows that are read on another connection

-- If the connection that was read stayed clean, its sound rows are in this relation with the rows before and after.
abbrev pub TakesFrom : {T : Type 0} → Ghosts T → (Tables → Tables → Tables → Type 0) → Held T → Held T → Tables → Tables → Type 0
TakesFrom g R old new t u = HasCleanDisk (state g new) → (f : Tables) → Holds (state g old).now f → IsSound f → R f t u

-- the same for the rows that it has committed
abbrev pub TakesCommitted : {T : Type 0} → Ghosts T → (Tables → Tables → Tables → Type 0) → Held T → Held T → Tables → Tables → Type 0
TakesCommitted g R old new t u = HasCleanDisk (state g new) → IsTrue (state g old).is_open × ((f : Tables) → Holds (state g old).committed f → IsSound f → R f t u)

-- ---- tokens

-- a token as it was read, with its expiry and prefix
abbrev pub token_entry : Tables → List ℕ → NamedToken → List ℕ × Token
token_entry f org x = (x.name, token_of_cells (bounds_at f org x.name) x.it)

abbrev pub token_come : List ℕ → List ℕ × Token → Tables → Tables
token_come org e t = token_added org e.0 e.1.digest e.1.caller.role e.1.caller.until e.1.caller.prefix t

-- one token after the other
abbrev pub tokens_come : List ℕ → List (List ℕ × Token) → Tables → Tables
tokens_come org [] t = t
tokens_come org (e ∷ es) t = tokens_come org es (token_come org e t)

abbrev pub TokenComes : List ℕ → NamedToken → Tables → Tables → Tables → Type 0
TokenComes org x f t u = u ≡ token_come org (token_entry f org x) t

abbrev pub TokensCome : List ℕ → List NamedToken → Tables → Tables → Tables → Type 0
TokensCome org xs f t u = u ≡ tokens_come org (map (token_entry f org) xs) t

-- ---- workspaces

-- the workspace with this name is added as it is in the other database
abbrev pub WorkspaceComes : List ℕ → List ℕ → Tables → Tables → Tables → Type 0
WorkspaceComes org ws f t u = (w : Workspace) → workspace_by f org ws ≡ Some w → Begins org ws w t u

-- one workspace after the other
abbrev pub WorkspacesCome : List ℕ → List (List ℕ) → Tables → Tables → Tables → Type 0
WorkspacesCome org [] f t u = u ≡ t
WorkspacesCome org (ws ∷ names) f t u = (m : Tables) × WorkspaceComes org ws f t m × WorkspacesCome org names f m u

-- ---- an organization

-- the rows after an answer: they are sound, and every other organization is unchanged
pub record Arrives (answer : AdminAnswer) (org : List ℕ) (f t u : Tables) : Type 0 where
  pub sound : IsSound u
  pub own : IsCopied answer (record_of f org) (record_of t org) (record_of u org)
  pub others : (q : List ℕ) → q ≢ org → record_of u q ≡ record_of t q

-- an organization with this limit is added to sound tables that lack it
abbrev pub Brings : List ℕ → ℕ → Tables → Tables → Tables → Type 0
Brings org cap f t u = cap_of org f ≡ Some cap → IsSound t → cap_of org t ≡ None → Arrives Done org f t u

-- ---- a transaction

-- The rows that were committed before the transaction are in a relation with those committed after it.
pub record CommitsRelated (R : Tables → Tables → Type 0) (old new : State) : Type 0 where
  pub rows : (t : Tables) → Holds old.committed t → (u : Tables) × Holds new.committed u × R t u
  pub was_open : IsTrue old.is_open
  pub is_open : IsTrue new.is_open

-- the same for sound rows, by the answer
abbrev pub Copies : AdminAnswer → List ℕ → Tables → Tables → Tables → Type 0
Copies answer org f t u = IsSound t → Arrives answer org f t u
