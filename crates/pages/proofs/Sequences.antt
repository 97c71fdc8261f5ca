-- What queries and writes leave together, one after another, inside one transaction.
use Rattle.pages.proofs.Outside.{◌≡◌, ◌⊎◌, inl, inr, IsTrue, Result, Ok, Err, IfOk, OnOk, OnErr, refl, sym, ◌∙◌, subst, Ghosts, Database, state, State, HasCleanDisk, Survives, IsUnchanged, IsRolledBack, KeepsCommit, Transaction, AnyRows, LeavesForeign, LeavesAsIs, Moves, Writes, Steps, Tables, Holds, clean_before, moves_more}

pub as_it_is : (s : State) → LeavesAsIs s s
as_it_is s = record { was_open = λ is. is; is_open = λ is. is; now = refl; committed = refl; mode = refl }

pub one_query : (a b : State) → IsUnchanged a b → LeavesAsIs a b
one_query a b same = record { was_open = λ _. same.0.was_open; is_open = λ _. same.0.is_open; now = same.0.now_is; committed = same.0.committed_is; mode = same.0.mode }

pub unchanged_then : (a b c : State) → LeavesAsIs a b → LeavesAsIs b c → LeavesAsIs a c
unchanged_then a b c one two =
    record { was_open = λ is. one.was_open (two.was_open is); is_open = λ is. two.is_open (one.is_open is); now = two.now ∙ one.now; committed = two.committed ∙ one.committed; mode = two.mode ∙ one.mode }

pub still_holds : (a b : State) → LeavesAsIs a b → (t : Tables) → Holds a.now t → Holds b.now t
still_holds a b unchanged t holds = subst (λ (db : Database). Holds db t) (sym unchanged.now) holds

pub still_inside : (a b : State) → LeavesAsIs a b → IsTrue a.in_transaction → IsTrue b.in_transaction
still_inside a b unchanged inside = subst IsTrue (sym unchanged.mode) inside

-- a query that failed behind others
pub failed_behind : (a b c : State) → LeavesAsIs a b → IsUnchanged b c ⊎ IsRolledBack b c → KeepsCommit a c
failed_behind a b c unchanged (inl same) = record { was_open = λ _. unchanged.was_open same.0.was_open; committed = λ _. same.0.committed_is ∙ unchanged.committed }
failed_behind a b c unchanged (inr back) = record { was_open = λ is. unchanged.was_open (back.was_open is); committed = λ is. (back.undone is).1 ∙ unchanged.committed }

-- a write behind queries, and what it means by what they told
pub moved_behind : (f h : Tables → Tables) (a b c : State) → LeavesAsIs a b → ((t : Tables) → Holds a.now t → f t ≡ h t) → Moves AnyRows f b c → Moves AnyRows h a c
moved_behind f h a b c unchanged is moved = record {
  rows = λ t holds any. subst (Holds c.now) (is t holds) (moved.rows t (still_holds a b unchanged t holds) tt);
  others = λ t holds any. subst (λ (d : Database). LeavesForeign d c.now) unchanged.now (moved.others t (still_holds a b unchanged t holds) tt);
  was_open = unchanged.was_open moved.was_open;
  is_open = moved.is_open;
  committed = moved.committed ∙ unchanged.committed;
  inside = moved.inside;
}

pub done_behind : {X E : Type 0} (f h : Tables → Tables) (a b c : State) (result : Result X E) → LeavesAsIs a b → ((t : Tables) → Holds a.now t → f t ≡ h t)
    → OnOk result (Moves AnyRows f b c) × OnErr result (KeepsCommit b c) → OnOk result (Moves AnyRows h a c) × OnErr result (KeepsCommit a c)
done_behind f h a b c (Ok x) unchanged is done = (moved_behind f h a b c unchanged is done.0, tt)
done_behind f h a b c (Err e) unchanged is done = (tt, record { was_open = λ open_is. unchanged.was_open (done.1.was_open open_is); committed = λ open_is. done.1.committed open_is ∙ unchanged.committed })

-- a value that was told behind queries
pub reported_behind : {X E : Type 0} (f g : Tables → X) (a b : State) (result : Result X E) → LeavesAsIs a b → ((t : Tables) → Holds a.now t → f t ≡ g t)
    → IfOk result (λ x. (t : Tables) → Holds b.now t → x ≡ f t) → IfOk result (λ x. (t : Tables) → Holds a.now t → x ≡ g t)
reported_behind f g a b (Ok x) unchanged is reported = λ t holds. reported t (still_holds a b unchanged t holds) ∙ is t holds
reported_behind f g a b (Err e) unchanged is reported = tt

-- ---- as one clause

module _ {S : Type 0} (g : Ghosts S) where
  -- a statement that writes is a step
  pub steps_by : {X E : Type 0} (f : Tables → Tables) (a b : Transaction S) (result : Result X E) → Writes g AnyRows f a b result → Steps g f a b result
  steps_by f a b result one = record { same_reference = one.same_reference; changed = one.changed; so_far = clean_before (state g a.conn.now) (state g b.conn.now) _ one.survives; shield = one.survives.shield }

  -- a step, and then the last one
  pub steps_then : {X Y E F : Type 0} (f h : Tables → Tables) (a b c : Transaction S) (x : X) (result : Result Y F) → Steps {E = E} g f a b (Ok x) → Steps g h b c result → Steps g (λ t. h (f t)) a c result
  steps_then f h a b c x result one last = record {
    same_reference = last.same_reference ∙ one.same_reference;
    changed = λ clean inside.
        let first = (one.changed (last.so_far clean) inside).0 in
        moves_more AnyRows AnyRows f h (state g a.conn.now) (state g b.conn.now) (state g c.conn.now) result (λ t any. tt) first (last.changed clean first.inside);
    so_far = λ clean. one.so_far (last.so_far clean);
    shield = λ s. last.shield (one.shield s);
  }

  -- the same step by another name, where rows that are there say so
  pub steps_are : {X E : Type 0} (f h : Tables → Tables) (a b : Transaction S) (result : Result X E) → (HasCleanDisk (state g b.conn.now) → (t : Tables) → Holds (state g a.conn.now).now t → f t ≡ h t) → Steps g f a b result → Steps g h a b result
  steps_are f h a b result is one = record {
    same_reference = one.same_reference;
    changed = λ clean inside. done_behind f h (state g a.conn.now) (state g a.conn.now) (state g b.conn.now) result (as_it_is (state g a.conn.now)) (is clean) (one.changed clean inside);
    so_far = one.so_far;
    shield = one.shield;
  }

  -- a step behind looks
  pub step_after : {Y F : Type 0} (f : Tables → Tables) (a b c : Transaction S) (result : Result Y F) → b.conn.ghost_name ≡ a.conn.ghost_name → (HasCleanDisk (state g b.conn.now) → LeavesAsIs (state g a.conn.now) (state g b.conn.now))
      → (HasCleanDisk (state g b.conn.now) → HasCleanDisk (state g a.conn.now)) → ((state g a.conn.now).IsShielded → (state g b.conn.now).IsShielded) → Steps g f b c result → Steps g f a c result
  step_after f a b c result same_reference unchanged so_far shield last = record {
    same_reference = last.same_reference ∙ same_reference;
    changed = λ clean inside.
        let unchanged = unchanged (last.so_far clean) in
        done_behind f f (state g a.conn.now) (state g b.conn.now) (state g c.conn.now) result unchanged (λ t holds. refl) (last.changed clean (still_inside (state g a.conn.now) (state g b.conn.now) unchanged inside));
    so_far = λ clean. so_far (last.so_far clean);
    shield = λ s. last.shield (shield s);
  }

  -- a query, and then a step that it says the meaning of
  module _ (a b : Transaction S) (same_reference : b.conn.ghost_name ≡ a.conn.ghost_name) (survives : Survives (state g a.conn.now) (state g b.conn.now) (λ _. ⊥)) where
    pub step_behind : {Y F : Type 0} (f h : Tables → Tables) (c : Transaction S) (result : Result Y F)
        → (HasCleanDisk (state g b.conn.now) → ((t : Tables) → Holds (state g a.conn.now).now t → f t ≡ h t) × IsUnchanged (state g a.conn.now) (state g b.conn.now)) → Steps g f b c result → Steps g h a c result
    step_behind f h c result reported last = record {
      same_reference = last.same_reference ∙ same_reference;
      changed = λ clean inside.
          let seen = reported (last.so_far clean) in
          let unchanged = one_query (state g a.conn.now) (state g b.conn.now) seen.1 in
          done_behind f h (state g a.conn.now) (state g b.conn.now) (state g c.conn.now) result unchanged seen.0 (last.changed clean (still_inside (state g a.conn.now) (state g b.conn.now) unchanged inside));
      so_far = λ clean. clean_before (state g a.conn.now) (state g b.conn.now) _ survives (last.so_far clean);
      shield = λ s. last.shield (survives.shield s);
    }

    -- a query, behind which there is nothing to do
    pub step_none : {Y F : Type 0} (h : Tables → Tables) (y : Y)
        → (HasCleanDisk (state g b.conn.now) → ((t : Tables) → Holds (state g a.conn.now).now t → t ≡ h t) × IsUnchanged (state g a.conn.now) (state g b.conn.now)) → Steps {E = F} g h a b (Ok y)
    step_none h y reported = record {
      same_reference = same_reference;
      changed = λ clean inside.
          let seen = reported clean in
          let unchanged = one_query (state g a.conn.now) (state g b.conn.now) seen.1 in (
            moved_behind (λ t. t) h (state g a.conn.now) (state g b.conn.now) (state g b.conn.now) unchanged seen.0 (record {
              rows = λ t holds any. holds;
              others = λ t holds any. record { schema = refl; rows = λ other own passive apart. refl };
              was_open = seen.1.0.is_open;
              is_open = seen.1.0.is_open;
              committed = refl;
              inside = still_inside (state g a.conn.now) (state g b.conn.now) unchanged inside;
            }),
            tt,
          );
      so_far = clean_before (state g a.conn.now) (state g b.conn.now) _ survives;
      shield = survives.shield;
    }
