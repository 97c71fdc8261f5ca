-- Writes, and reads, one after another: what they leave and tell, be it none.
use Rattle.texts.proofs.Outside.{◌≡◌, IsTrue, Option, Some, Result, Ok, Err, OnOk, refl, Ghosts, Held, state, State, HasCleanDisk, IsUnchanged, AnyRows, LeavesAsIs, Moves, Queries, Sees, Tables, Holds, clean_before, moves_then, as_it_is, one_query, unchanged_then, still_holds, failed_behind, moved_behind}
pub use Rattle.pages.proofs.Sights.{reads_failed, nothing_more}

-- whatever holds, holds where a call was done
pub when_done : {X E : Type 0} {P : Type 0} (result : Result X E) → P → OnOk result P
when_done (Ok x) is = is
when_done (Err e) is = tt

-- the same write by another name, where rows that are there say so
pub moves_as : (f g : Tables → Tables) (a b : State) → ((t : Tables) → Holds a.now t → f t ≡ g t) → Moves AnyRows f a b → Moves AnyRows g a b
moves_as f g a b is moved = moved_behind f g a a b (as_it_is a) is moved

-- ---- writes so far

-- What was done so far, on a connection that was open, and what it tells of the rows before it.
pub record WritesSoFar (change : Tables → Tables) (law : Tables → Type 0) (old new : State) : Type 0 where
  pub so_far : HasCleanDisk new → HasCleanDisk old
  pub shield : old.IsShielded → new.IsShielded
  pub moves : HasCleanDisk new → IsTrue old.is_open → IsTrue old.in_transaction → Moves AnyRows change old new
  pub reported : HasCleanDisk new → IsTrue old.is_open → IsTrue old.in_transaction → (t : Tables) → Holds old.now t → law t

-- none yet
pub writes_none : (f : Tables → Tables) (law : Tables → Type 0) (a : State) → ((t : Tables) → t ≡ f t) → ((t : Tables) → law t) → WritesSoFar f law a a
writes_none f law a is reports = record {
  so_far = λ clean. clean;
  shield = λ s. s;
  moves = λ clean open_is inside. moves_as (λ t. t) f a a (λ t holds. is t) (record {
    rows = λ t holds any. holds;
    others = λ t holds any. record { schema = refl; rows = λ other own passive apart. refl };
    was_open = open_is;
    is_open = open_is;
    committed = refl;
    inside = inside;
  });
  reported = λ clean open_is inside t holds. reports t;
}

-- one more
pub writes_more : (f g h : Tables → Tables) (law next reported : Tables → Type 0) (a b c : State) → ((t : Tables) → g (f t) ≡ h t) → ((t : Tables) → law t → next (f t) → reported t)
    → WritesSoFar f law a b → (HasCleanDisk c → HasCleanDisk b) → (b.IsShielded → c.IsShielded) → (HasCleanDisk c → IsTrue b.in_transaction → Moves AnyRows g b c × ((t : Tables) → Holds b.now t → next t)) → WritesSoFar h reported a c
writes_more f g h law next reported a b c is reports some before after last = record {
  so_far = λ clean. some.so_far (before clean);
  shield = λ s. after (some.shield s);
  moves = λ clean open_is inside.
      let one = some.moves (before clean) open_is inside in
      moves_as (λ t. g (f t)) h a c (λ t holds. is t) (moves_then AnyRows AnyRows f g a b c (λ t any. any) one (last clean one.inside).0);
  reported = λ clean open_is inside t holds.
      let one = some.moves (before clean) open_is inside in
      reports t (some.reported (before clean) open_is inside t holds) ((last clean one.inside).1 (f t) (one.rows t holds tt));
}

-- ---- reads so far

-- What was read so far, and what it tells of the rows.
pub record ReadsSoFar {X : Type 0} (value : Tables → X) (law : Tables → Type 0) (old new : State) (x : X) : Type 0 where
  pub so_far : HasCleanDisk new → HasCleanDisk old
  pub shield : old.IsShielded → new.IsShielded
  pub unchanged : HasCleanDisk new → LeavesAsIs old new
  pub read : HasCleanDisk new → (t : Tables) → Holds old.now t → x ≡ value t
  pub reported : HasCleanDisk new → (t : Tables) → Holds old.now t → law t

-- one more
pub reads_more : {X Y : Type 0} (value next : Tables → X) (law reported : Tables → Type 0) (one : Tables → Option Y) (a b c : State) (x z : X) (y : Y) → ((t : Tables) → x ≡ value t → one t ≡ Some y → z ≡ next t)
    → ((t : Tables) → law t → one t ≡ Some y → reported t) → ReadsSoFar value law a b x → (HasCleanDisk c → HasCleanDisk b) → (b.IsShielded → c.IsShielded) → (HasCleanDisk c → ((t : Tables) → Holds b.now t → one t ≡ Some y) × IsUnchanged b c)
    → ReadsSoFar next reported a c z
reads_more value next law reported one a b c x z y is reports some before after last = record {
  so_far = λ clean. some.so_far (before clean);
  shield = λ s. after (some.shield s);
  unchanged = λ clean. unchanged_then a b c (some.unchanged (before clean)) (one_query b c (last clean).1);
  read = λ clean t holds. is t (some.read (before clean) t holds) ((last clean).0 t (still_holds a b (some.unchanged (before clean)) t holds));
  reported = λ clean t holds. reports t (some.reported (before clean) t holds) ((last clean).0 t (still_holds a b (some.unchanged (before clean)) t holds));
}

-- ---- reads as one clause

module _ {S : Type 0} (g : Ghosts S) where
  -- one query is a case of many
  pub sees_by : {X E : Type 0} (says : X → Tables → Type 0) (a b : Held S) (result : Result X E) → Queries g says a b result → Sees g says a b result
  sees_by says a b (Ok x) one = record {
    mode = one.mode;
    sees = λ clean. let read = one.read clean in (read.0, (one_query (state g a) (state g b) read.1.0, tt));
    so_far = clean_before (state g a) (state g b) _ one.survives;
    shield = one.survives.shield;
  }
  sees_by says a b (Err e) one = record {
    mode = one.mode;
    sees = λ clean. (tt, (tt, failed_behind (state g a) (state g a) (state g b) (as_it_is (state g a)) (one.read clean).1.1));
    so_far = clean_before (state g a) (state g b) _ one.survives;
    shield = one.survives.shield;
  }

  -- reads, and then others: what they tell together
  pub sees_then : {X Y E F : Type 0} (P : X → Tables → Type 0) (Q R : Y → Tables → Type 0) (a b c : Held S) (x : X) (result : Result Y F) → ((y : Y) (t : Tables) → P x t → Q y t → R y t)
      → Sees {E = E} g P a b (Ok x) → Sees g Q b c result → Sees g R a c result
  sees_then P Q R a b c x (Ok y) means one last = record {
    mode = λ idle. last.mode (one.mode idle);
    sees = λ clean.
        let first = one.sees (last.so_far clean) in
        let second = last.sees clean in
        (λ t holds. means y t (first.0 t holds) (second.0 t (still_holds (state g a) (state g b) first.1.0 t holds)), (unchanged_then (state g a) (state g b) (state g c) first.1.0 second.1.0, tt));
    so_far = λ clean. one.so_far (last.so_far clean);
    shield = λ s. last.shield (one.shield s);
  }
  sees_then P Q R a b c x (Err e) means one last = record {
    mode = λ idle. last.mode (one.mode idle);
    sees = λ clean. (tt, (tt, reads_failed (state g a) (state g b) (state g c) (one.sees (last.so_far clean)).1.0 (last.sees clean).1.1));
    so_far = λ clean. one.so_far (last.so_far clean);
    shield = λ s. last.shield (one.shield s);
  }

  -- what was read, as it is shown
  pub sees_as : {X Z E F : Type 0} (P : X → Tables → Type 0) (R : Z → Tables → Type 0) (a b : Held S) (x : X) (z : Z) → ((t : Tables) → P x t → R z t) → Sees {E = E} g P a b (Ok x) → Sees {E = F} g R a b (Ok z)
  sees_as P R a b x z means one = record {
    mode = one.mode;
    sees = λ clean. let seen = one.sees clean in (λ t holds. means t (seen.0 t holds), (seen.1.0, tt));
    so_far = one.so_far;
    shield = one.shield;
  }
