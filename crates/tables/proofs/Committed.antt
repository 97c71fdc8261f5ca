-- A read of rows that wait for no commit is one at those that are committed.
use Rattle.tables.proofs.Outside.{IsTrue, Result, Ok, Err, sym, subst, Ghosts, Database, Held, state, HasCleanDisk, KeepsCommit, Queries, Sees, Tables, Holds, sees_by, sees_as, sees_then}
use Rattle.tables.specs.Inner.Steps.{IsAllCommitted, ReadsCommitted}

module _ {S : Type 0} (g : Ghosts S) where
  -- any look, on a connection that was open
  pub read_committed : {X E : Type 0} (says : X → Tables → Type 0) (a b : Held S) (result : Result X E) → IsAllCommitted (state g a) → (HasCleanDisk (state g b) → IsTrue (state g a).is_open) → Sees g says a b result → ReadsCommitted says (state g a) (state g b) result
  read_committed says a b (Ok x) all_committed open_was seen clean =
      let was = open_was clean in
      let reported = seen.sees clean in
      ((was, λ t held. reported.0 t (subst (λ (db : Database). Holds db t) (sym (all_committed was)) held)), record { was_open = λ _. was; committed = λ _. reported.1.0.committed })
  read_committed says a b (Err e) all_committed open_was seen clean = (tt, (seen.sees clean).1.1)

  -- one query, as its result is shown
  pub committed_read : {X Z E : Type 0} (P : X → Tables → Type 0) (R : Z → Tables → Type 0) (a b : Held S) (x : X) (z : Z) → ((t : Tables) → P x t → R z t) → IsAllCommitted (state g a) → Queries {E = E} g P a b (Ok x)
      → HasCleanDisk (state g b) → (IsTrue (state g a).is_open × ((t : Tables) → Holds (state g a).committed t → R z t)) × KeepsCommit (state g a) (state g b)
  committed_read {X} {Z} {E} P R a b x z means all_committed one =
      read_committed {E = E} R a b (Ok z) all_committed (λ clean. (one.read clean).1.0.0.was_open) (sees_as g P R a b x z means (sees_by g P a b (Ok x) one))

  -- a query, and another look
  pub committed_read_then : {X Y E F : Type 0} (P : X → Tables → Type 0) (Q R : Y → Tables → Type 0) (a b c : Held S) (x : X) (result : Result Y F) → ((y : Y) (t : Tables) → P x t → Q y t → R y t) → IsAllCommitted (state g a)
      → Queries {E = E} g P a b (Ok x) → Sees g Q b c result → ReadsCommitted R (state g a) (state g c) result
  committed_read_then P Q R a b c x result means all_committed one last =
      read_committed R a c result all_committed (λ clean. (one.read (last.so_far clean)).1.0.0.was_open) (sees_then g P Q R a b c x result means (sees_by g P a b (Ok x) one) last)
