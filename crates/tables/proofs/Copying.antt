-- Steps inside one transaction whose rows before and after stand in a relation, and what is read of another database meanwhile.
use Rattle.tables.proofs.Outside.{⊤, ◌≡◌, ◌+◌, ◌<◌, ℕ, List, [], ◌∷◌, ◌++◌, map, take, length, get_or, Result, Ok, Err, IsErr, OnOk, OnErr, refl, sym, ap, ◌∙◌, map_more, Ghosts, Held, state, State, KeepsCommit, Transaction, Version, AnyRows, Moves, Steps, Reports, Sees, Tables, Holds, as_it_is, text_of, when_done}
use Rattle.basis.specs.declared.rows.VersionRow.{VersionRow as Head}
use Rattle.tables.specs.Records.{version_of_cells, version_at}
use Rattle.tables.specs.Inner.Copies.{Relates, RelatedSteps, AreMadeBy}

-- what is told where a call is done, where it isn't
pub never_done : {X E : Type 0} (P : Type 0) (result : Result X E) → IsErr result → OnOk result P
never_done P (Ok x) failed = absurd (let none : ⊥ = cc in none)
never_done P (Err e) failed = tt

-- what is told by two clauses
reported_both : {X E : Type 0} (P Q : Tables → Type 0) (s : State) (result : Result X E) → OnOk result ((t : Tables) → Holds s.now t → P t) → OnOk result ((t : Tables) → Holds s.now t → Q t) → OnOk result ((t : Tables) → Holds s.now t → P t × Q t)
reported_both P Q s (Ok x) one two = λ t holds. (one t holds, two t holds)
reported_both P Q s (Err e) one two = tt

-- a version with the text that was read
pub version_read : (f : Tables) (org ws : List ℕ) (head : Head) (text : List ℕ) (v : Version) → v ≡ version_of_cells text head → text ≡ text_of org ws head.number head.size f → v ≡ version_at f org ws head
version_read f org ws head text v is read = is ∙ ap (λ (bytes : List ℕ). version_of_cells bytes head) read

-- one item more, that is told as the others
pub mapped_more : {A B : Type 0} (f : A → B) (xs : List A) (i : ℕ) (x : A) (ys : List B) (y : B) → i < length xs → x ≡ get_or xs i x → ys ≡ map f (take i xs) → y ≡ f x → ys ++ y ∷ [] ≡ map f (take (i + 1) xs)
mapped_more f xs i x ys y within is before one =
    ap (λ all. all ++ y ∷ []) before ∙ ap (λ z. map f (take i xs) ++ z ∷ []) (one ∙ ap f is) ∙ sym (map_more f xs i x within)

-- ---- rows before and after

-- rows that obey a law, and those that a function makes of them
abbrev pub AreMadeWhere : (Tables → Type 0) → (Tables → Tables) → Tables → Tables → Type 0
AreMadeWhere law f t u = law t × AreMadeBy f t u

-- a change of rows, and what was told of them
related_moves : {X E : Type 0} (law : Tables → Type 0) (f : Tables → Tables) (R : Tables → Tables → Type 0) (a b : State) (result : Result X E) → ((t : Tables) → law t → R t (f t)) → OnOk result ((t : Tables) → Holds a.now t → law t)
    → OnOk result (Moves AnyRows f a b) × OnErr result (KeepsCommit a b) → OnOk result (Relates R a b) × OnErr result (KeepsCommit a b)
related_moves law f R a b (Ok x) means reported moved =
    (record { rows = λ t holds. (f t, moved.0.rows t holds tt, means t (reported t holds)); was_open = λ _. moved.0.was_open; committed = moved.0.committed; inside = moved.0.inside }, tt)
related_moves law f R a b (Err e) means reported moved = (tt, moved.1)

-- one after the other
related_more : {X E : Type 0} (R Q P : Tables → Tables → Type 0) (a b c : State) (result : Result X E) → ((t u z : Tables) → R t u → Q u z → P t z) → Relates R a b
    → OnOk result (Relates Q b c) × OnErr result (KeepsCommit b c) → OnOk result (Relates P a c) × OnErr result (KeepsCommit a c)
related_more R Q P a b c (Ok x) means one last = (
  record {
    rows = λ t holds.
        let u = one.rows t holds in
        let z = last.0.rows u.0 u.1 in
        (z.0, z.1, means t u.0 z.0 u.2 z.2);
    was_open = λ is. one.was_open (last.0.was_open is);
    committed = last.0.committed ∙ one.committed;
    inside = last.0.inside;
  },
  tt,
)
related_more R Q P a b c (Err e) means one last = (tt, record { was_open = λ is. one.was_open (last.1.was_open is); committed = λ is. last.1.committed is ∙ one.committed })

-- ---- as one clause

module _ {S : Type 0} (g : Ghosts S) where
  -- steps that change rows, and what was told of these
  pub related_by : {X E : Type 0} (law : Tables → Type 0) (f : Tables → Tables) (R : Tables → Tables → Type 0) (a b : Transaction S) (result : Result X E) → ((t : Tables) → law t → R t (f t))
      → Steps g f a b result → Reports (λ _. law) (state g a.conn.now) (state g b.conn.now) result → RelatedSteps g R a b result
  related_by law f R a b result means one reported = record {
    same_reference = one.same_reference;
    changed = λ clean inside. related_moves law f R (state g a.conn.now) (state g b.conn.now) result means (reported clean inside) (one.changed clean inside);
    so_far = one.so_far;
    shield = one.shield;
  }

  -- of rows of which two laws are told
  pub related_by_both : {X E : Type 0} (law other : Tables → Type 0) (f : Tables → Tables) (R : Tables → Tables → Type 0) (a b : Transaction S) (result : Result X E) → ((t : Tables) → law t → other t → R t (f t)) → Steps g f a b result
      → Reports (λ _. law) (state g a.conn.now) (state g b.conn.now) result → Reports (λ _. other) (state g a.conn.now) (state g b.conn.now) result → RelatedSteps g R a b result
  related_by_both law other f R a b result means one reported said =
      related_by (λ t. law t × other t) f R a b result (λ t both. means t both.0 both.1) one (λ clean inside. reported_both law other (state g a.conn.now) result (reported clean inside) (said clean inside))

  -- of any rows
  pub made_by_steps : {X E : Type 0} (f : Tables → Tables) (a b : Transaction S) (result : Result X E) → Steps g f a b result → RelatedSteps g (AreMadeBy f) a b result
  made_by_steps f a b result one = related_by AnyRows f (AreMadeBy f) a b result (λ t any. refl) one (λ clean inside. when_done result (λ t holds. tt))

  -- nothing is done
  pub related_none : {X E : Type 0} (R : Tables → Tables → Type 0) (a : Transaction S) (x : X) → ((t : Tables) → R t t) → RelatedSteps {E = E} g R a a (Ok x)
  related_none R a x is = record {
    same_reference = refl;
    changed = λ clean inside. (record { rows = λ t holds. (t, holds, is t); was_open = λ open_is. open_is; committed = refl; inside = inside }, tt);
    so_far = λ clean. clean;
    shield = λ s. s;
  }

  -- it ends before anything is done
  pub related_in_vain : {X E : Type 0} (R : Tables → Tables → Type 0) (a : Transaction S) (result : Result X E) → IsErr result → RelatedSteps g R a a result
  related_in_vain R a (Ok x) failed = absurd (let none : ⊥ = cc in none)
  related_in_vain R a (Err e) failed = record { same_reference = refl; changed = λ clean inside. (tt, record { was_open = λ open_is. open_is; committed = λ _. refl }); so_far = λ clean. clean; shield = λ s. s }

  -- it ends at steps that fail
  pub related_failed : {X Z E F : Type 0} (R P : Tables → Tables → Type 0) (a b : Transaction S) (e : E) (result : Result Z F) → IsErr result → RelatedSteps {X = X} g R a b (Err e) → RelatedSteps g P a b result
  related_failed R P a b e (Ok z) failed one = absurd (let none : ⊥ = cc in none)
  related_failed R P a b e (Err f) failed one = record { same_reference = one.same_reference; changed = λ clean inside. (tt, (one.changed clean inside).1); so_far = one.so_far; shield = one.shield }

  -- one after the other
  pub related_then : {X Y E F : Type 0} (R Q P : Tables → Tables → Type 0) (a b c : Transaction S) (x : X) (result : Result Y F) → ((t u z : Tables) → R t u → Q u z → P t z)
      → RelatedSteps {E = E} g R a b (Ok x) → RelatedSteps g Q b c result → RelatedSteps g P a c result
  related_then R Q P a b c x result means one last = record {
    same_reference = last.same_reference ∙ one.same_reference;
    changed = λ clean inside.
        let first = (one.changed (last.so_far clean) inside).0 in
        related_more R Q P (state g a.conn.now) (state g b.conn.now) (state g c.conn.now) result means first (last.changed clean first.inside);
    so_far = λ clean. one.so_far (last.so_far clean);
    shield = λ s. last.shield (one.shield s);
  }

  -- a change of rows behind another one
  pub made_then : {X Y E F : Type 0} (law : Tables → Type 0) (f h : Tables → Tables) (a b c : Transaction S) (x : X) (result : Result Y F)
      → RelatedSteps {E = E} g (AreMadeWhere law f) a b (Ok x) → RelatedSteps g (AreMadeBy h) b c result → RelatedSteps g (AreMadeWhere law (λ t. h (f t))) a c result
  made_then law f h a b c x result one last = related_then (AreMadeWhere law f) (AreMadeBy h) (AreMadeWhere law (λ t. h (f t))) a b c x result (λ t u z first then. (first.0, then ∙ ap h first.1)) one last

-- ---- what is read meanwhile

module _ {T : Type 0} (h : Ghosts T) where
  -- nothing yet
  pub seen_none : {X E : Type 0} (a : Held T) (x : X) → Sees {E = E} h (λ _ _. ⊤) a a (Ok x)
  seen_none a x = record { mode = λ idle. idle; sees = λ clean. (λ t holds. tt, (as_it_is (state h a), tt)); so_far = λ clean. clean; shield = λ s. s }
