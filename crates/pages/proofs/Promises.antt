-- From what a call did to the rows to what it promises of the map of pages.
use Rattle.pages.proofs.Outside.{◌≡◌, ◌<◌, ℕ, List, Option, Some, None, IsSome, Result, Ok, Err, IfOk, OnOk, inl, sym, ◌∙◌, subst, Ghosts, state, State, HasCleanDisk, IsUnchanged, Survives, Transaction, AnyRows, LeavesAsIs, Moves, Steps, Tables, Holds, clean_before}
use Rattle.statements.proofs.Decoding.{tables-held}
use Rattle.pages.specs.declared.store.PageId.{PageId}
use Rattle.pages.specs.Rows.{page_uses}
use Rattle.pages.specs.Puts.{twin_limit, twin_for, page_put, page_released}
use Rattle.pages.specs.Pages.{pages_in, HasSoundPages, IsKeyFor, PutsPage, PutsUnder, ReleasesPage}
use Rattle.pages.proofs.Sequences.{one_query, still_holds, step_after}
use Rattle.pages.proofs.PageLaws.{put_is, put_keeps, release_is, release_keeps}

-- the rows that a database holds after a step are those of the step
pub rows_are : (f : Tables → Tables) (a b : State) → Moves AnyRows f a b → (t u : Tables) → Holds a.now t → Holds b.now u → f t ≡ u
rows_are f a b moved t u before after = sym (tables-held b.now (f t) (moved.rows t before tt)) ∙ tables-held b.now u after

pub puts_by : (key bytes : List ℕ) (twin : ℕ) (a b : State) → Moves AnyRows (page_put key bytes) a b → twin < twin_limit → ((t : Tables) → Holds a.now t → twin ≡ twin_for key bytes t)
    → (t u : Tables) → Holds a.now t → Holds b.now u → HasSoundPages t → PutsPage key bytes twin (pages_in t) (pages_in u) × HasSoundPages u
puts_by key bytes twin a b moved fits reported t u before after sound =
    let is = rows_are (page_put key bytes) a b moved t u before after in
    let at = reported t before in
    let low = subst (λ n. n < twin_limit) at fits in (
      subst (λ n. PutsPage key bytes n (pages_in t) (pages_in u)) (sym at) (subst (λ v. PutsPage key bytes (twin_for key bytes t) (pages_in t) (pages_in v)) is (put_is key bytes t sound low)),
      subst HasSoundPages is (put_keeps key bytes t low sound),
    )

puts_if : {E : Type 0} (key bytes : List ℕ) (a b : State) (result : Result PageId E) → OnOk result (Moves AnyRows (page_put key bytes) a b) → IfOk result (λ id. (id.key ≡ key) × (id.twin < twin_limit))
    → IfOk result (λ id. (t : Tables) → Holds a.now t → id.twin ≡ twin_for key bytes t) → IfOk result (λ id. (t u : Tables) → Holds a.now t → Holds b.now u → HasSoundPages t → PutsPage key bytes id.twin (pages_in t) (pages_in u) × HasSoundPages u)
puts_if key bytes a b (Ok id) moved named reported = puts_by key bytes id.twin a b moved named.1 reported
puts_if key bytes a b (Err e) moved named reported = tt

reported_before : {E : Type 0} (key bytes : List ℕ) (a b : State) (result : Result PageId E) → LeavesAsIs a b → IfOk result (λ id. (t : Tables) → Holds b.now t → id.twin ≡ twin_for key bytes t) → IfOk result (λ id. (t : Tables) → Holds a.now t → id.twin ≡ twin_for key bytes t)
reported_before key bytes a b (Ok id) unchanged reported = λ t before. reported t (still_holds a b unchanged t before)
reported_before key bytes a b (Err e) unchanged reported = tt

module _ {S E : Type 0} (g : Ghosts S) (key bytes : List ℕ) (a : Transaction S) where
  -- the steps of a put, and the name that it gives, as one clause
  pub puts_under : (b : Transaction S) (result : Result PageId E) → Steps g (page_put key bytes) a b result → IfOk result (λ id. (id.key ≡ key) × (id.twin < twin_limit))
      → (HasCleanDisk (state g b.conn.now) → IfOk result (λ id. (t : Tables) → Holds (state g a.conn.now).now t → id.twin ≡ twin_for key bytes t)) → PutsUnder g key bytes a b result
  puts_under b result steps named reported = record {
    steps = record { same_reference = steps.same_reference; changed = steps.changed; so_far = steps.so_far; shield = steps.shield };
    named = named;
    reports = reported;
    puts = λ clean inside. puts_if key bytes (state g a.conn.now) (state g b.conn.now) result (steps.changed clean inside).0 named (reported clean);
  }

  -- a put behind a query
  pub puts_behind : (b c : Transaction S) (result : Result PageId E) → b.conn.ghost_name ≡ a.conn.ghost_name → Survives (state g a.conn.now) (state g b.conn.now) (λ _. ⊥)
      → (HasCleanDisk (state g b.conn.now) → IsUnchanged (state g a.conn.now) (state g b.conn.now)) → PutsUnder g key bytes b c result → PutsUnder g key bytes a c result
  puts_behind b c result same_reference survives same put =
      let s0 = state g a.conn.now in
      let s1 = state g b.conn.now in
      puts_under c result (step_after g (page_put key bytes) a b c result same_reference (λ clean. one_query s0 s1 (same clean)) (clean_before s0 s1 _ survives) survives.shield put.steps) put.named
      (λ clean. reported_before key bytes s0 s1 result (one_query s0 s1 (same (put.steps.so_far clean))) (put.reports clean))

-- a page's own key is a key for it
pub own_fits : {E : Type 0} (key_of : List ℕ → List ℕ) (page : List ℕ) (a : State) (result : Result PageId E) → IfOk result (λ id. (id.key ≡ key_of page) × (id.twin < twin_limit)) → IfOk result (λ id. (t : Tables) → Holds a.now t → IsKeyFor key_of page id.key t)
own_fits key_of page a (Ok id) named = λ t before. inl named.0
own_fits key_of page a (Err e) named = tt

pub releases_by : (key : List ℕ) (twin : ℕ) (uses : Option ℕ) (a b : State) → Moves AnyRows (page_released key twin) a b → IsSome uses → ((t : Tables) → Holds a.now t → uses ≡ page_uses key twin t)
    → (t u : Tables) → Holds a.now t → Holds b.now u → ReleasesPage key twin (pages_in t) (pages_in u) × (HasSoundPages t → HasSoundPages u)
releases_by key twin None a b moved there reported t u before after = absurd (let no_one : ⊥ = cc in no_one)
releases_by key twin (Some uses) a b moved there reported t u before after =
    let is = rows_are (page_released key twin) a b moved t u before after in
    (subst (λ v. ReleasesPage key twin (pages_in t) (pages_in v)) is (release_is key twin t uses (sym (reported t before))), λ sound. subst HasSoundPages is (release_keeps key twin t sound))

-- the same of a call that may have failed
pub releases_if : {X E : Type 0} (key : List ℕ) (twin : ℕ) (uses : Option ℕ) (a b : State) (result : Result X E) → OnOk result (Moves AnyRows (page_released key twin) a b) → OnOk result (IsSome uses)
    → ((t : Tables) → Holds a.now t → uses ≡ page_uses key twin t)
    → OnOk result ((t u : Tables) → Holds a.now t → Holds b.now u → ReleasesPage key twin (pages_in t) (pages_in u) × (HasSoundPages t → HasSoundPages u))
releases_if key twin uses a b (Ok x) moved there reported = releases_by key twin uses a b moved there reported
releases_if key twin uses a b (Err e) moved there reported = tt
