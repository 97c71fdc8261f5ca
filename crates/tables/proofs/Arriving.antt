-- What is read on one connection and written on another, one after the other.
use Rattle.tables.proofs.Outside.{⊤, ◌≡◌, ℕ, ◌+◌, ◌<◌, List, [], ◌∷◌, ◌++◌, map, take, length, get_or, Option, Some, Result, Ok, Err, OnOk, OnErr, refl, sym, ap, subst, ◌∙◌, unwrap_or, take_more, map_more, same_Some, Ghosts, Held, state, State, HasCleanDisk, KeepsCommit, Transaction, Bounds, Token, Workspace, NamedToken, token_added, bound_of, AnyRows, Writes, Sees, Tables, Holds, still_holds, steps_by, when_done, sees_then}
use Rattle.pages.proofs.Sights.{nothing_more}
use Rattle.tables.specs.Records.{no_bounds, workspace_by}
use Rattle.tables.specs.Sound.{IsSound}
use Rattle.tables.specs.Inner.Imports.{TakesFrom, token_entry, token_come, tokens_come, TokenComes, TokensCome, WorkspaceComes, WorkspacesCome}
use Rattle.tables.specs.Inner.Copies.{Relates, RelatedSteps, Begins}
use Rattle.tables.proofs.Copying.{related_by, related_then}

-- ---- tokens and workspaces, and one more

-- how far a token reaches was found
pub token_is : (org : List ℕ) (x : NamedToken) (reach : Bounds) (f t : Tables) → Some reach ≡ bound_of org x.name f → token_added org x.name x.it.digest x.it.role reach.until reach.prefix t ≡ token_come org (token_entry f org x) t
token_is org x reach f t found = ap (λ (o : Option Bounds). token_added org x.name x.it.digest x.it.role (unwrap_or o no_bounds).until (unwrap_or o no_bounds).prefix t) found

token_last : (org : List ℕ) (es : List (List ℕ × Token)) (e : List ℕ × Token) (t : Tables) → tokens_come org (es ++ e ∷ []) t ≡ token_come org e (tokens_come org es t)
token_last org [] e t = refl
token_last org (x ∷ es) e t = token_last org es e (token_come org x t)

pub tokens_more : (org : List ℕ) (xs : List NamedToken) (i : ℕ) (x : NamedToken) (f t u z : Tables) → i < length xs → x ≡ get_or xs i x → TokensCome org (take i xs) f t u → TokenComes org x f u z → TokensCome org (take (i + 1) xs) f t z
tokens_more org xs i x f t u z within is one last =
    last ∙ ap (token_come org (token_entry f org x)) one ∙ sym (token_last org (map (token_entry f org) (take i xs)) (token_entry f org x) t)
    ∙ ap (λ y. tokens_come org (map (token_entry f org) (take i xs) ++ token_entry f org y ∷ []) t) is ∙ sym (ap (λ es. tokens_come org es t) (map_more (token_entry f org) xs i x within))

workspace_last : (org : List ℕ) (names : List (List ℕ)) (ws : List ℕ) (f t u z : Tables) → WorkspacesCome org names f t u → WorkspaceComes org ws f u z → WorkspacesCome org (names ++ ws ∷ []) f t z
workspace_last org [] ws f t u z one last = (z, subst (λ (m : Tables). WorkspaceComes org ws f m z) one last, refl)
workspace_last org (n ∷ names) ws f t u z one last = (one.0, one.1, workspace_last org names ws f one.0 u z one.2 last)

pub workspaces_more : (org : List ℕ) (names : List (List ℕ)) (i : ℕ) (ws : List ℕ) (f t u z : Tables) → i < length names → ws ≡ get_or names i ws → WorkspacesCome org (take i names) f t u → WorkspaceComes org ws f u z
    → WorkspacesCome org (take (i + 1) names) f t z
workspaces_more org names i ws f t u z within is one last =
    subst (λ (ns : List (List ℕ)). WorkspacesCome org ns f t z) (ap (λ n. take i names ++ n ∷ []) is ∙ sym (take_more names i ws within)) (workspace_last org (take i names) ws f t u z one last)

-- ---- steps

related_rows : {X E : Type 0} (R Q : Tables → Tables → Type 0) (a b : State) (result : Result X E) → ((t u : Tables) → R t u → Q t u) → OnOk result (Relates R a b) × OnErr result (KeepsCommit a b) → OnOk result (Relates Q a b) × OnErr result (KeepsCommit a b)
related_rows R Q a b (Ok x) means one =
    (record { rows = λ t holds. let u = one.0.rows t holds in (u.0, u.1, means t u.0 u.2); was_open = one.0.was_open; committed = one.0.committed; inside = one.0.inside }, tt)
related_rows R Q a b (Err e) means one = (tt, one.1)

module _ {S T : Type 0} (g : Ghosts S) (h : Ghosts T) where
  -- the same steps, by another name for what they do
  pub related_as : {X E : Type 0} (R Q : Tables → Tables → Type 0) (a b : Transaction S) (result : Result X E) → ((t u : Tables) → R t u → Q t u) → RelatedSteps g R a b result → RelatedSteps g Q a b result
  related_as R Q a b result means one = record {
    same_reference = one.same_reference;
    changed = λ clean inside. related_rows R Q (state g a.conn.now) (state g b.conn.now) result means (one.changed clean inside);
    so_far = one.so_far;
    shield = one.shield;
  }

  -- a write, and what it is to the rows that were read
  pub takes_by : {X E : Type 0} (change : Tables → Tables) (R : Tables → Tables → Tables → Type 0) (a b : Transaction S) (d e : Held T) (result : Result X E)
      → (HasCleanDisk (state h e) → (f : Tables) → Holds (state h d).now f → (t : Tables) → R f t (change t)) → Writes g AnyRows change a b result → RelatedSteps g (TakesFrom h R d e) a b result
  takes_by change R a b d e result means one =
      related_by g AnyRows change (TakesFrom h R d e) a b result (λ t any clean f holds sound. means clean f holds t) (steps_by g change a b result one) (λ clean inside. when_done result (λ t holds. tt))

  -- one after the other, of rows that stay as they are
  pub takes_then : {W X Y D E F : Type 0} (P : W → Tables → Type 0) (R Q V : Tables → Tables → Tables → Type 0) (a b c : Transaction S) (d e k : Held T) (w : W) (x : X) (result : Result Y F)
      → ((f t u z : Tables) → R f t u → Q f u z → V f t z) → Sees {E = D} h P d e (Ok w) → (HasCleanDisk (state h k) → HasCleanDisk (state h e))
      → RelatedSteps {E = E} g (TakesFrom h R d e) a b (Ok x) → RelatedSteps g (TakesFrom h Q e k) b c result → RelatedSteps g (TakesFrom h V d k) a c result
  takes_then P R Q V a b c d e k w x result means seen so_far one last =
      related_then g (TakesFrom h R d e) (TakesFrom h Q e k) (TakesFrom h V d k) a b c x result
      (λ t u z first second clean f holds sound. means f t u z (first (so_far clean) f holds sound) (second clean f (still_holds (state h d) (state h e) (seen.sees (so_far clean)).1.0 f holds) sound)) one last

  -- behind a query, and what that told
  pub takes_behind : {W X D E : Type 0} (P : W → Tables → Type 0) (R V : Tables → Tables → Tables → Type 0) (a b : Transaction S) (d e k : Held T) (w : W) (result : Result X E)
      → ((f t u : Tables) → IsSound f → P w f → R f t u → V f t u) → Sees {E = D} h P d e (Ok w) → (HasCleanDisk (state h k) → HasCleanDisk (state h e))
      → RelatedSteps g (TakesFrom h R e k) a b result → RelatedSteps g (TakesFrom h V d k) a b result
  takes_behind P R V a b d e k w result means seen so_far one =
      related_as (TakesFrom h R e k) (TakesFrom h V d k) a b result
      (λ t u rows clean f holds sound.
      let reported = seen.sees (so_far clean) in
      means f t u sound (reported.0 f holds) (rows clean f (still_holds (state h d) (state h e) reported.1.0 f holds) sound)) one

  -- a workspace that was read and came
  pub workspace_taken : {X E : Type 0} (org ws : List ℕ) (w : Workspace) (a b : Transaction S) (d e : Held T) (result : Result X E) → RelatedSteps g (Begins org ws w) a b result
      → (HasCleanDisk (state h e) → OnOk result ((f : Tables) → Holds (state h d).now f → IsSound f → workspace_by f org ws ≡ Some w)) → RelatedSteps g (TakesFrom h (WorkspaceComes org ws) d e) a b result
  workspace_taken org ws w a b d e (Ok x) one reported =
      related_as (Begins org ws w) (TakesFrom h (WorkspaceComes org ws) d e) a b (Ok x)
      (λ t u begins clean f holds sound v is. subst (λ (x : Workspace). Begins org ws x t u) (same_Some w v (sym (reported clean f holds sound) ∙ is)) begins) one
  workspace_taken org ws w a b d e (Err f) one reported = record {
    same_reference = one.same_reference;
    changed = λ clean inside. (tt, (one.changed clean inside).1);
    so_far = one.so_far;
    shield = one.shield;
  }

-- ---- looks

module _ {T : Type 0} (h : Ghosts T) where
  -- one after the other
  pub unchanged_on : {X Y E F : Type 0} (d e k : Held T) (x : X) (result : Result Y F) → Sees {E = E} h (λ _ _. ⊤) d e (Ok x) → Sees h (λ _ _. ⊤) e k result → Sees h (λ _ _. ⊤) d k result
  unchanged_on d e k x result one last = sees_then h (λ _ _. ⊤) (λ _ _. ⊤) (λ _ _. ⊤) d e k x result (λ y t p q. tt) one last

  -- whatever comes behind them
  pub unchanged_as : {X Y E F : Type 0} (P : X → Tables → Type 0) (d e : Held T) (x : X) (result : Result Y F) → Sees {E = E} h P d e (Ok x) → Sees h (λ _ _. ⊤) d e result
  unchanged_as P d e x (Ok y) one = record { mode = one.mode; sees = λ clean. (λ t holds. tt, ((one.sees clean).1.0, tt)); so_far = one.so_far; shield = one.shield }
  unchanged_as P d e x (Err f) one = record { mode = one.mode; sees = λ clean. (tt, (tt, nothing_more (state h d) (state h e) (one.sees clean).1.0)); so_far = one.so_far; shield = one.shield }
