-- Steps inside one transaction, one after the other.
use Rattle.tables.proofs.Outside.{◌≡◌, ℕ, true, List, [], is_some, IsTrue, Option, Some, None, Result, Ok, Err, OnOk, OnErr, ◌∙◌, Ghosts, state, State, HasCleanDisk, KeepsCommit, Transaction, Version, workspace_of, size_of, AnyRows, Moves, Steps, Reports, Tables, Holds, moves_more, GoesOn, steps_then, moves_as}
use Rattle.statements.specs.declared.rows.Workspace.{Workspace}
use Rattle.tables.specs.Inner.Edits.{if_there, numbered_rows, FitsTwins, TakesVersion}

-- where no page is put
abbrev pub no_keys : ℕ → List ℕ
no_keys place = []

-- what was done of a workspace that was found is what comes of one that is there
module _ (org ws : List ℕ) (f : Tables → Tables) (a b : State) (there : (t : Tables) → Holds a.now t → is_some (workspace_of org ws t) ≡ true) where
  pub moved_there : Moves AnyRows f a b → Moves AnyRows (λ t. if_there (workspace_of org ws t) (f t) t) a b
  moved_there one = record {
    rows = λ t held any. by_row (workspace_of org ws t) t (there t held) (one.rows t held tt);
    others = one.others;
    was_open = one.was_open;
    is_open = one.is_open;
    committed = one.committed;
    inside = one.inside;
  }
    where
      by_row : (r : Option Workspace) (t : Tables) → is_some r ≡ true → Holds b.now (f t) → Holds b.now (if_there r (f t) t)
      by_row None t e held = absurd (let none : ⊥ = cc in none)
      by_row (Some w) t e held = held

  pub moves_there : {X E : Type 0} (result : Result X E) → OnOk result (Moves AnyRows f a b) × OnErr result (KeepsCommit a b) → OnOk result (Moves AnyRows (λ t. if_there (workspace_of org ws t) (f t) t) a b) × OnErr result (KeepsCommit a b)
  moves_there (Ok x) moved = (moved_there moved.0, tt)
  moves_there (Err e) moved = (tt, moved.1)

-- ---- as one clause

module _ {S : Type 0} (g : Ghosts S) where
  -- steps of which the first found the workspace
  pub steps_there : {Z F : Type 0} (org ws : List ℕ) (f : Tables → Tables) (a b c : Transaction S) (result : Result Z F)
      → (HasCleanDisk (state g b.conn.now) → IsTrue (state g a.conn.now).in_transaction → (t : Tables) → Holds (state g a.conn.now).now t → is_some (workspace_of org ws t) ≡ true)
      → (HasCleanDisk (state g c.conn.now) → HasCleanDisk (state g b.conn.now)) → Steps g f a c result → Steps g (λ t. if_there (workspace_of org ws t) (f t) t) a c result
  steps_there org ws f a b c result found so_far all = record {
    same_reference = all.same_reference;
    changed = λ clean inside. moves_there org ws f (state g a.conn.now) (state g c.conn.now) (found (so_far clean) inside) result (all.changed clean inside);
    so_far = all.so_far;
    shield = all.shield;
  }

  -- a step, and then writes that may be none, which are steps on a connection that is open
  pub steps_then_all : {X Y E F : Type 0} (f h : Tables → Tables) (a b c : Transaction S) (x : X) (result : Result Y F) → Steps {E = E} g f a b (Ok x) → GoesOn g b c
      → (IsTrue (state g b.conn.now).is_open → Steps g h b c result) → Steps g (λ t. h (f t)) a c result
  steps_then_all f h a b c x result one on last = record {
    same_reference = on.same_reference ∙ one.same_reference;
    changed = λ clean inside.
        let first = (one.changed (on.so_far clean) inside).0 in
        moves_more AnyRows AnyRows f h (state g a.conn.now) (state g b.conn.now) (state g c.conn.now) result (λ t any. tt) first ((last first.is_open).changed clean first.inside);
    so_far = λ clean. one.so_far (on.so_far clean);
    shield = λ s. on.shield (one.shield s);
  }

  -- what writes tell behind a step, they tell of the rows before it
  pub reported_then : {X Y E F : Type 0} (f : Tables → Tables) (law : Tables → Type 0) (a b c : Transaction S) (x : X) (result : Result Y F) → Steps {E = E} g f a b (Ok x) → (HasCleanDisk (state g c.conn.now) → HasCleanDisk (state g b.conn.now))
      → (IsTrue (state g b.conn.now).is_open → Reports (λ _. law) (state g b.conn.now) (state g c.conn.now) result) → Reports (λ _ t. law (f t)) (state g a.conn.now) (state g c.conn.now) result
  reported_then f law a b c x (Ok y) one so_far reported clean inside =
      let first = (one.changed (so_far clean) inside).0 in
      λ t holds. reported first.is_open clean first.inside (f t) (first.rows t holds tt)
  reported_then f law a b c x (Err e) one so_far reported clean inside = tt

  -- steps that come to another one, by what the last of them told
  module _ {Y E : Type 0} (h k : Tables → Tables) (b c : Transaction S) (y : Y) (last : Steps {E = E} g h b c (Ok y)) where
    pub step_as : {Z F : Type 0} (z : Z) → (HasCleanDisk (state g c.conn.now) → IsTrue (state g b.conn.now).in_transaction → (t : Tables) → Holds (state g b.conn.now).now t → h t ≡ k t) → Steps {E = F} g k b c (Ok z)
    step_as z is = record {
      same_reference = last.same_reference;
      changed = λ clean inside. (moves_as h k (state g b.conn.now) (state g c.conn.now) (is clean inside) (last.changed clean inside).0, tt);
      so_far = last.so_far;
      shield = last.shield;
    }

    pub steps_as : {X Z D F : Type 0} (f : Tables → Tables) (a : Transaction S) (x : X) (z : Z) → Steps {E = D} g f a b (Ok x) → (law : Tables → Type 0)
        → (HasCleanDisk (state g c.conn.now) → IsTrue (state g b.conn.now).in_transaction → (t : Tables) → Holds (state g b.conn.now).now t → law t) → ((t : Tables) → law (f t) → h (f t) ≡ k t) → Steps {E = F} g k a c (Ok z)
    steps_as f a x z one law reported is =
        let both = steps_then g f h a b c x (Ok y) one last in
        record {
          same_reference = both.same_reference;
          changed = λ clean inside.
              let first = (one.changed (last.so_far clean) inside).0 in
              (moves_as (λ t. h (f t)) k (state g a.conn.now) (state g c.conn.now) (λ t holds. is t (reported clean first.inside (f t) (first.rows t holds tt))) (both.changed clean inside).0, tt);
          so_far = both.so_far;
          shield = both.shield;
        }

  -- what the steps tell by which a version comes
  pub takes_by : {X D : Type 0} (keys : ℕ → List ℕ) (org ws : List ℕ) (v : Version) (a b c : Transaction S) (x : X)
      → Steps {E = D} g (numbered_rows org ws v) a b (Ok x) → Reports {E = D} (λ _ t. is_some (workspace_of org ws t) ≡ true) (state g a.conn.now) (state g b.conn.now) (Ok x)
      → (HasCleanDisk (state g c.conn.now) → HasCleanDisk (state g b.conn.now))
      → (HasCleanDisk (state g c.conn.now) → IsTrue (state g b.conn.now).in_transaction → (t : Tables) → Holds (state g b.conn.now).now t → size_of org ws v.number t ≡ None)
      → (HasCleanDisk (state g c.conn.now) → IsTrue (state g b.conn.now).in_transaction → (t : Tables) → Holds (state g b.conn.now).now t → FitsTwins keys org ws v t)
      → HasCleanDisk (state g c.conn.now) → IsTrue (state g a.conn.now).in_transaction → (t : Tables) → Holds (state g a.conn.now).now t → TakesVersion keys org ws v t
  takes_by keys org ws v a b c x one found before fresh fits clean inside t holds =
      let mid = before clean in
      let first = (one.changed mid inside).0 in
      record {
        there = found mid inside t holds;
        fresh = fresh clean first.inside (numbered_rows org ws v t) (first.rows t holds tt);
        fits = fits clean first.inside (numbered_rows org ws v t) (first.rows t holds tt);
      }
