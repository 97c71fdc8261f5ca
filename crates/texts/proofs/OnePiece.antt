-- One piece of a text: the page that it is, or was.
use Rattle.texts.proofs.Outside.{◌≡◌, ◌<◌, ℕ, true, List, is_some, Option, Some, None, IsSome, option_map, Result, Ok, Err, IfOk, OnOk, OnErr, refl, sym, ◌∙◌, subst, State, IsUnchanged, KeepsCommit, AnyRows, Moves, Tables, Holds, is_page, page_bytes, pages_in, HasSoundPages, ReleasesPage, one_query, still_holds, twin_limit, twin_for, page_put, page_released}
use Rattle.std.specs.Prelude.{find}
use Rattle.sqlite.proofs.Callers.{unchanged_then}
use Rattle.texts.specs.Texts.{place_added}
use Rattle.texts.specs.Inner.Calls.{piece_placed}
use Rattle.texts.proofs.Many.{reads_failed}

some_of : {A B C : Type 0} (f : A → B) (g : A → C) (o : Option A) (b : B) → option_map f o ≡ Some b → is_some (option_map g o) ≡ true
some_of f g None b is = absurd (let none : ⊥ = cc in none)
some_of f g (Some a) b is = refl

-- the row of a page that was put names it by the key and the twin number that it was told
pub placed_as_reported : (own org ws : List ℕ) (n place : ℕ) (piece key : List ℕ) (twin : ℕ) (t : Tables) → key ≡ own → twin ≡ twin_for own piece t
    → place_added org ws n place key twin (page_put own piece t) ≡ piece_placed own org ws n place piece t
placed_as_reported own org ws n place piece key twin t key_is twin_is i = place_added org ws n place (key_is i) (twin_is i) (page_put own piece t)

-- and the twin number that it was told is one that SQL has
pub reported_fits : (own piece : List ℕ) (twin : ℕ) (t : Tables) → twin ≡ twin_for own piece t → twin < twin_limit → twin_for own piece t < twin_limit
reported_fits own piece twin t twin_is low = subst (λ m. m < twin_limit) twin_is low

-- a page of which a use was taken was there
pub released_there : (key : List ℕ) (twin : ℕ) (a b : State) → Moves AnyRows (page_released key twin) a b → ((t u : Tables) → Holds a.now t → Holds b.now u → ReleasesPage key twin (pages_in t) (pages_in u) × (HasSoundPages t → HasSoundPages u))
    → (t : Tables) → Holds a.now t → IsSome (page_bytes key twin t)
released_there key twin a b moved releases t holds =
    let released = releases t (page_released key twin t) holds (moved.rows t holds tt) in
    some_of _ (λ x. x.1.bytes) (find (is_page key twin) t.pages) released.0.page.0 released.0.page.1

-- a value that is there, read behind a query
pub got_behind : {X E : Type 0} (one whole : Tables → Option X) (a b c : State) (result : Result X E) → ((t : Tables) → Holds a.now t → one t ≡ whole t) → IsUnchanged a b
    → IfOk result (λ x. (t : Tables) → Holds b.now t → one t ≡ Some x) × (OnOk result (IsUnchanged b c) × OnErr result (KeepsCommit b c))
    → IfOk result (λ x. (t : Tables) → Holds a.now t → whole t ≡ Some x) × (OnOk result (IsUnchanged a c) × OnErr result (KeepsCommit a c))
got_behind one whole a b c (Ok x) is same got = (λ t holds. sym (is t holds) ∙ got.0 t (still_holds a b (one_query a b same) t holds), (unchanged_then a b c same got.1.0, tt))
got_behind one whole a b c (Err e) is same got = (tt, (tt, reads_failed a b c (one_query a b same) got.1.1))
