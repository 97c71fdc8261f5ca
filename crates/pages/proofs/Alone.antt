-- A page that goes with its only use, by a DELETE that leaves one in more uses: what it does is to release the page, or nothing.
use Rattle.pages.proofs.Outside.{◌≡◌, ◌==◌, ◌<◌, ℕ, ◌-◌, nat_lt, Bool, true, false, ◌&&◌, not, cond, List, [], ◌∷◌, find, is_some, IsTrue, IsSome, Option, Some, None, option_map, Result, Ok, Err, IfOk, OnOk, OnErr, refl, sym, ap, ◌∙◌, subst, arith, bytes_eq, ltb-true, le-ltb, Database, State, KeepsCommit, Kept, PageRow, AnyRows, LeavesForeign, LeavesAsIs, Moves, Tables, Holds, none_passes, none_deleted}
use Rattle.std.proofs.Math.Bool.{and_assoc}
use Rattle.sqlite_keyed.specs.Lists.{delete_where}
use Rattle.pages.specs.Rows.{is_page, is_last, has_last, last_removed, page_used, page_removed, page_uses}
use Rattle.pages.specs.Puts.{released_found, page_released}
use Rattle.pages.specs.Pages.{pages_in, HasSoundPages, ReleasesPage, NamedAreThere}
use Rattle.pages.proofs.PageLaws.{no_row, release_is, release_keeps}
use Rattle.pages.proofs.Promises.{rows_are}

-- ---- rows

module _ (key : List ℕ) (twin : ℕ) where
  -- a page of the name is in one use at most, or stays
  last_is : (x : Kept PageRow) → is_last key twin x ≡ (is_page key twin x && nat_lt x.1.uses 2)
  last_is x = sym (and_assoc (bytes_eq x.1.key key) (x.1.twin == twin) (nat_lt x.1.uses 2))

  abbrev few : Kept PageRow → Bool
  few x = nat_lt x.1.uses 2

  -- where none of the name is left, each of them was removed, and the first one was in one use at most
  none_stays : (xs : List (Kept PageRow)) → find (is_page key twin) (delete_where (is_last key twin) xs) ≡ None
      → (delete_where (is_last key twin) xs ≡ delete_where (is_page key twin) xs) × ((y : Kept PageRow) → find (is_page key twin) xs ≡ Some y → few y ≡ true)
  none_stays [] none = (refl, λ y found. absurd (let no_one : ⊥ = cc in no_one))
  none_stays (x ∷ xs) none = go (is_page key twin x) (few x) (is_last key twin x) refl refl (last_is x) none (none_stays xs)
    where
      lasts : List (Kept PageRow)
      lasts = delete_where (is_last key twin) xs

      others : List (Kept PageRow)
      others = delete_where (is_page key twin) xs

      go : (b c l : Bool) → is_page key twin x ≡ b → few x ≡ c → l ≡ (b && c) → find (is_page key twin) (cond (not l) (x ∷ lasts) lasts) ≡ None
          → (find (is_page key twin) lasts ≡ None → (lasts ≡ others) × ((y : Kept PageRow) → find (is_page key twin) xs ≡ Some y → few y ≡ true))
          → (cond (not l) (x ∷ lasts) lasts ≡ cond (not b) (x ∷ others) others) × ((y : Kept PageRow) → cond b (Some x) (find (is_page key twin) xs) ≡ Some y → few y ≡ true)
      go true true true is in_few reported gone more = ((more gone).0, λ y found. let same : x ≡ y = cc in subst (λ z. few z ≡ true) same in_few)
      go true true false is in_few reported gone more = absurd (let no_one : ⊥ = cc in no_one)
      go true false true is in_few reported gone more = absurd (let no_one : ⊥ = cc in no_one)
      go true false false is in_few reported gone more =
          let stays : ◌≡◌ {A = Option (Kept PageRow)} (Some x) None = subst (λ b. cond b (Some x) (find (is_page key twin) lasts) ≡ None) is gone in
          absurd (let no_one : ⊥ = cc in no_one)
      go false c true is in_few reported gone more = absurd (let no_one : ⊥ = cc in no_one)
      go false c false is in_few reported gone more =
          let rest = more (subst (λ b. cond b (Some x) (find (is_page key twin) lasts) ≡ None) is gone) in
          (ap (λ l. x ∷ l) rest.0, rest.1)

  -- one in one use at most is one of the name
  has_page : (xs : List (Kept PageRow)) → is_some (find (is_last key twin) xs) ≡ true → is_some (find (is_page key twin) xs) ≡ true
  has_page [] some = absurd (let no_one : ⊥ = cc in no_one)
  has_page (x ∷ xs) some = go (is_page key twin x) (few x) (is_last key twin x) (last_is x) some (has_page xs)
    where
      go : (b c l : Bool) → l ≡ (b && c) → is_some (cond l (Some x) (find (is_last key twin) xs)) ≡ true → (is_some (find (is_last key twin) xs) ≡ true → is_some (find (is_page key twin) xs) ≡ true)
          → is_some (cond b (Some x) (find (is_page key twin) xs)) ≡ true
      go true c l reported any more = refl
      go false c true reported any more = absurd (let no_one : ⊥ = cc in no_one)
      go false c false reported any more = more any

pub none_if : {X : Type 0} (o : Option X) → is_some o ≡ false → o ≡ None
none_if None e = refl
none_if (Some x) e = absurd (let no_one : ⊥ = cc in no_one)

some_mapped : {X Y : Type 0} (f : X → Y) (o : Option X) → is_some o ≡ true → IsSome (option_map f o)
some_mapped f None e = absurd (let no_one : ⊥ = cc in no_one)
some_mapped f (Some x) e = refl

-- ---- tables

module _ (key : List ℕ) (twin : ℕ) (t : Tables) where
  abbrev with_pages : List (Kept PageRow) → Tables
  with_pages l = record t { pages = l }

  -- where no page of the name is left, this was to release it
  pub none_left_is : page_uses key twin (last_removed key twin t) ≡ None → last_removed key twin t ≡ page_released key twin t
  none_left_is none = by_row (find (is_page key twin) t.pages) refl
    where
      left : (delete_where (is_last key twin) t.pages ≡ delete_where (is_page key twin) t.pages) × ((y : Kept PageRow) → find (is_page key twin) t.pages ≡ Some y → few key twin y ≡ true)
      left = none_stays key twin t.pages (no_row _ none)

      same : last_removed key twin t ≡ page_removed key twin t
      same = ap with_pages left.0

      by_row : (o : Option (Kept PageRow)) → find (is_page key twin) t.pages ≡ o → last_removed key twin t ≡ released_found key twin (option_map (λ (x : Kept PageRow). x.1.uses) o) t
      by_row None f = same ∙ ap with_pages (none_deleted (is_page key twin) t.pages (none_passes (is_page key twin) t.pages f))
      by_row (Some x) f =
          let low : x.1.uses < 2 = ltb-true x.1.uses 2 (left.1 x f) in
          same ∙ sym (ap (λ b. cond b (page_used key twin (x.1.uses - 1) t) (page_removed key twin t)) (le-ltb 1 x.1.uses (omega (arith, low))))

  -- where none of the name was in one use at most, nothing was done
  pub untouched : has_last key twin t ≡ false → last_removed key twin t ≡ t
  untouched none = ap with_pages (none_deleted (is_last key twin) t.pages (none_passes (is_last key twin) t.pages (none_if _ none)))

  pub last_is_there : has_last key twin t ≡ true → IsSome (page_uses key twin t)
  last_is_there some = some_mapped (λ (x : Kept PageRow). x.1.uses) (find (is_page key twin) t.pages) (has_page key twin t.pages some)

-- ---- states

-- a write, and a query behind it
queried_behind : (f : Tables → Tables) (a b c : State) → Moves AnyRows f a b → LeavesAsIs b c → Moves AnyRows f a c
queried_behind f a b c moved unchanged = record {
  rows = λ t holds any. subst (λ (d : Database). Holds d (f t)) (sym unchanged.now) (moved.rows t holds tt);
  others = λ t holds any. subst (λ (d : Database). LeavesForeign a.now d) (sym unchanged.now) (moved.others t holds tt);
  was_open = moved.was_open;
  is_open = unchanged.is_open moved.is_open;
  committed = unchanged.committed ∙ moved.committed;
  inside = subst IsTrue (sym unchanged.mode) moved.inside;
}

module _ (key : List ℕ) (twin : ℕ) (a b c : State) (moved : Moves AnyRows (last_removed key twin) a b) where
  -- a query behind the write found no page of the name: the page is released
  pub gone_by : {X E : Type 0} (result : Result X E) → IfOk result (λ _. (t : Tables) → Holds b.now t → page_uses key twin t ≡ None) × (OnOk result (LeavesAsIs b c) × OnErr result (KeepsCommit b c))
      → OnOk result (Moves AnyRows (page_released key twin) a c) × OnErr result (KeepsCommit a c)
  gone_by (Ok x) seen =
      let all = queried_behind (last_removed key twin) a b c moved seen.1.0 in (
        record {
          rows = λ t holds any. subst (Holds c.now) (none_left_is key twin t (seen.0 (last_removed key twin t) (moved.rows t holds tt))) (all.rows t holds tt);
          others = all.others;
          was_open = all.was_open;
          is_open = all.is_open;
          committed = all.committed;
          inside = all.inside;
        },
        tt,
      )
  gone_by (Err e) seen = (tt, record { was_open = λ _. moved.was_open; committed = λ is. seen.1.1.committed is ∙ moved.committed })

  -- where the write did nothing, the same rows are held behind it
  pub held_on : ((t : Tables) → Holds a.now t → has_last key twin t ≡ false) → (t : Tables) → Holds a.now t → Holds b.now t
  held_on none t holds = subst (Holds b.now) (untouched key twin t (none t holds)) (moved.rows t holds tt)

-- a page that was there has been released
pub releases_there : {X E : Type 0} (key : List ℕ) (twin : ℕ) (a b : State) (result : Result X E) → OnOk result (Moves AnyRows (page_released key twin) a b) → ((t : Tables) → Holds a.now t → IsSome (page_uses key twin t))
    → OnOk result ((t u : Tables) → Holds a.now t → Holds b.now u → ReleasesPage key twin (pages_in t) (pages_in u) × (HasSoundPages t → HasSoundPages u))
releases_there key twin a b (Ok x) moved there = λ t u before after.
    let is = rows_are (page_released key twin) a b moved t u before after in
    by_uses t u is (page_uses key twin t) refl (there t before)
  where
    by_uses : (t u : Tables) → page_released key twin t ≡ u → (o : Option ℕ) → page_uses key twin t ≡ o → IsSome o → ReleasesPage key twin (pages_in t) (pages_in u) × (HasSoundPages t → HasSoundPages u)
    by_uses t u is None e some = absurd (let no_one : ⊥ = cc in no_one)
    by_uses t u is (Some uses) e some = (subst (λ v. ReleasesPage key twin (pages_in t) (pages_in v)) is (release_is key twin t uses e), λ sound. subst HasSoundPages is (release_keeps key twin t sound))
releases_there key twin a b (Err e) moved there = tt

-- what is said of the rows behind a write that did nothing, and of those behind a query, is said of those before, and of those behind
pub said_before : {X E : Type 0} (P : Tables → Tables → Type 0) (a b c : State) (result : Result X E) → ((t : Tables) → Holds a.now t → Holds b.now t) → OnOk result ((t u : Tables) → Holds b.now t → Holds c.now u → P t u)
    → OnOk result ((t u : Tables) → Holds a.now t → Holds c.now u → P t u)
said_before P a b c (Ok x) still said = λ t u before after. said t u (still t before) after
said_before P a b c (Err e) still said = tt

pub spared_before : {X E : Type 0} (a b c : State) (result : Result X E) → ((t u : Tables) → Holds a.now t → Holds b.now u → NamedAreThere u) → OnOk result (LeavesAsIs b c)
    → OnOk result ((t u : Tables) → Holds a.now t → Holds c.now u → NamedAreThere u)
spared_before a b c (Ok x) spares unchanged = λ t u before after. spares t u before (subst (λ (d : Database). Holds d u) unchanged.now after)
spared_before a b c (Err e) spares unchanged = tt
