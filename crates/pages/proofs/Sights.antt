-- Reads, one after another: what they leave and tell.
use Rattle.pages.proofs.Outside.{◌≡◌, false, Result, Ok, Err, IsErr, ◌∙◌, Ghosts, Held, state, State, HasCleanDisk, KeepsCommit, LeavesAsIs, Sees, Tables, Holds}
use Rattle.pages.proofs.Sequences.{as_it_is, unchanged_then, still_holds}

-- a read that failed behind others
pub reads_failed : (a b c : State) → LeavesAsIs a b → KeepsCommit b c → KeepsCommit a c
reads_failed a b c unchanged kept = record { was_open = λ is. unchanged.was_open (kept.was_open is); committed = λ is. kept.committed is ∙ unchanged.committed }

-- what failed behind reads was no read
pub nothing_more : (a b : State) → LeavesAsIs a b → KeepsCommit a b
nothing_more a b unchanged = record { was_open = unchanged.was_open; committed = λ _. unchanged.committed }

-- What was read so far, and what it tells of the rows.
pub record SeenSoFar {S : Type 0} (g : Ghosts S) (law : Tables → Type 0) (old new : Held S) : Type 0 where
  pub mode : old.in_transaction ≡ false → new.in_transaction ≡ false
  pub so_far : HasCleanDisk (state g new) → HasCleanDisk (state g old)
  pub shield : (state g old).IsShielded → (state g new).IsShielded
  pub unchanged : HasCleanDisk (state g new) → LeavesAsIs (state g old) (state g new)
  pub reported : HasCleanDisk (state g new) → (t : Tables) → Holds (state g old).now t → law t

module _ {S : Type 0} (g : Ghosts S) where
  -- nothing yet
  pub seen_so_far : (law : Tables → Type 0) (a : Held S) → ((t : Tables) → law t) → SeenSoFar g law a a
  seen_so_far law a is = record { mode = λ idle. idle; so_far = λ clean. clean; shield = λ s. s; unchanged = λ clean. as_it_is (state g a); reported = λ clean t holds. is t }

  module _ (law : Tables → Type 0) (a b : Held S) (some : SeenSoFar g law a b) where
    -- more
    pub seen_more : {X E : Type 0} (Q : X → Tables → Type 0) (later : Tables → Type 0) (c : Held S) (x : X) → ((t : Tables) → Holds (state g a).now t → law t → Q x t → later t) → Sees {E = E} g Q b c (Ok x) → SeenSoFar g later a c
    seen_more Q later c x means last = record {
      mode = λ idle. last.mode (some.mode idle);
      so_far = λ clean. some.so_far (last.so_far clean);
      shield = λ s. last.shield (some.shield s);
      unchanged = λ clean. unchanged_then (state g a) (state g b) (state g c) (some.unchanged (last.so_far clean)) (last.sees clean).1.0;
      reported = λ clean t holds.
          let before = last.so_far clean in
          means t holds (some.reported before t holds) ((last.sees clean).0 t (still_holds (state g a) (state g b) (some.unchanged before) t holds));
    }

    -- all: it is told as a value
    pub seen_all : {X E : Type 0} (R : X → Tables → Type 0) (x : X) → ((t : Tables) → law t → R x t) → Sees {E = E} g R a b (Ok x)
    seen_all R x means = record { mode = some.mode; sees = λ clean. (λ t holds. means t (some.reported clean t holds), (some.unchanged clean, tt)); so_far = some.so_far; shield = some.shield }

    -- what comes next fails
    pub seen_failed : {X Z E F : Type 0} (Q : X → Tables → Type 0) (R : Z → Tables → Type 0) (c : Held S) (e : E) (result : Result Z F) → IsErr result → Sees g Q b c (Err e) → Sees g R a c result
    seen_failed Q R c e (Ok z) failed last = absurd (let none : ⊥ = cc in none)
    seen_failed Q R c e (Err f) failed last = record {
      mode = λ idle. last.mode (some.mode idle);
      sees = λ clean. (tt, (tt, reads_failed (state g a) (state g b) (state g c) (some.unchanged (last.so_far clean)) (last.sees clean).1.1));
      so_far = λ clean. some.so_far (last.so_far clean);
      shield = λ s. last.shield (some.shield s);
    }

    -- it ends behind them, at what is no read
    pub seen_in_vain : {Z F : Type 0} (R : Z → Tables → Type 0) (result : Result Z F) → IsErr result → Sees g R a b result
    seen_in_vain R (Ok z) failed = absurd (let none : ⊥ = cc in none)
    seen_in_vain R (Err f) failed = record { mode = some.mode; sees = λ clean. (tt, (tt, nothing_more (state g a) (state g b) (some.unchanged clean))); so_far = some.so_far; shield = some.shield }
