-- Who goes on from page to page sees a list whole: pages of a list of which each place has behind it what the page before left out.
use Rattle.machine.proofs.Outside.{◌≡◌, ℕ, zero, suc, ◌-◌, ◌<◌, ◌≤◌, nat_lt, Bool, true, false, List, [], ◌∷◌, ◌++◌, length, map, take, drop, slice_get, Option, Some, IsSomeAnd, refl, sym, ap, subst, ◌∙◌, arith, length-drop, ltb-true, ltb-false, take-append-drop, take_all, length-take-le, listing_of}
use Rattle.basis.specs.declared.rows.Listing.{Listing}
use Rattle.basis.specs.declared.rows.RunRow.{RunRow as Run}
use Rattle.basis.specs.declared.rows.VersionRow.{VersionRow}
use Rattle.basis.specs.declared.rows.WsRow.{WsRow}
use Rattle.machine.specs.Paging.{workspaces_from, versions_from, runs_from, IsPage, last_item, ArePages, items_of, ShowsAll, WorkspacesAreShown, VersionsAreShown, RunsAreShown}
use Rattle.machine.specs.Showing.{shown_of, row_of, version_row, workspaces_after, versions_after, runs_after}
use Rattle.machine.specs.declared.records.Version.{Version}
use Rattle.machine.specs.declared.records.Workspace.{Workspace}
use Rattle.machine.proofs.PageLemmas.{workspace_pages, version_pages, run_pages}

-- what there is at a place below the length
there_at : {X : Type 0} (n : ℕ) (xs : List X) → n < length xs → (x : X) × (slice_get xs n ≡ Some x)
there_at n [] h = absurd (omega arith)
there_at zero (x ∷ xs) h = (x, refl)
there_at (suc n) (x ∷ xs) h = there_at n xs (omega arith)

-- the last of the first n + 1 items
last_of_first : {X : Type 0} (n : ℕ) (xs : List X) → n < length xs → last_item (take (suc n) xs) ≡ slice_get xs n
last_of_first n [] h = absurd (omega arith)
last_of_first zero (x ∷ xs) h = refl
last_of_first (suc n) (x ∷ []) h = absurd (omega arith)
last_of_first (suc n) (x ∷ y ∷ xs) h = last_of_first n (y ∷ xs) (omega arith)

size_of : {X : Type 0} (xs : List X) → IsPage (listing_of xs)
size_of xs = by_test (nat_lt 50 (length xs)) refl
  where
    by_test : (b : Bool) → nat_lt 50 (length xs) ≡ b → IsPage (listing_of xs)
    by_test true t =
        let full : length (take 50 xs) ≡ 50 = length-take-le 50 xs (omega (arith, ltb-true 50 (length xs) t)) in
        record { no_more = omega (arith, full); no_fewer = λ e. full }
    by_test false t =
        let few : length xs ≤ 50 = omega (arith, ltb-false 50 (length xs) t) in
        record { no_more = subst (λ (l : List _). length l ≤ 50) (sym (take_all 50 xs few)) few; no_fewer = λ e. absurd (let none : ⊥ = cc (sym t ∙ e) in none) }

module _ {P X : Type 0} (page : P → Listing X) (cursor : X → P) (all : P → List X) (is : (from : P) → page from ≡ listing_of (all from))
    (goes : (from : P) (x : X) → slice_get (all from) 49 ≡ Some x → all (cursor x) ≡ drop 50 (all from)) where
  more_of : (from : P) → (page from).more ≡ nat_lt 50 (length (all from))
  more_of from = ap (λ (l : Listing X). l.more) (is from)

  items_at : (from : P) → (page from).items ≡ take 50 (all from)
  items_at from = ap (λ (l : Listing X). l.items) (is from)

  -- the last item of a page behind which more follow
  last_at : (from : P) (x : X) → 50 < length (all from) → slice_get (all from) 49 ≡ Some x → last_item (page from).items ≡ Some x
  last_at from x more at = ap last_item (items_at from) ∙ last_of_first 49 (all from) (omega (arith, more)) ∙ at

  abbrev Walk : P → Type 0
  Walk from = (pages : List (Listing X)) × ArePages page cursor from pages

  one_more : (from : P) (x : X) → (page from).more ≡ true → last_item (page from).items ≡ Some x → (pages : List (Listing X)) → ArePages page cursor (cursor x) pages
      → ArePages page cursor from (page from ∷ pages)
  one_more from x more last [] are = absurd are
  one_more from x more last (q ∷ ps) are = (refl, more, subst (λ (o : Option X). IsSomeAnd o (λ y. ArePages page cursor (cursor y) (q ∷ ps))) (sym last) are)

  walk : (n : ℕ) (from : P) → length (all from) ≤ n → Walk from
  walk zero from le = (page from ∷ [], (refl, more_of from ∙ ap (λ (k : ℕ). nat_lt 50 k) (let none : length (all from) ≡ 0 = omega (arith, le) in none)))
  walk (suc n) from le = by_more (nat_lt 50 (length (all from))) refl (λ at less. walk n at less)
    where
      by_more : (b : Bool) → nat_lt 50 (length (all from)) ≡ b → ((at : P) → length (all at) ≤ n → Walk at) → Walk from
      by_more false t on = (page from ∷ [], (refl, more_of from ∙ t))
      by_more true t on =
          let more : 50 < length (all from) = ltb-true 50 (length (all from)) t in
          let found : (x : X) × (slice_get (all from) 49 ≡ Some x) = there_at 49 (all from) (omega (arith, more)) in
          let left : length (all (cursor found.0)) ≡ length (all from) - 50 = ap (λ (l : List X). length l) (goes from found.0 found.1) ∙ length-drop 50 (all from) in
          let rest : Walk (cursor found.0) = on (cursor found.0) (omega (arith, left, le, more)) in
          (page from ∷ rest.0, one_more from found.0 (more_of from ∙ t) (last_at from found.0 more found.1) rest.0 rest.1)

  seen : (pages : List (Listing X)) (from : P) → ArePages page cursor from pages → items_of pages ≡ all from
  seen [] from are = absurd are
  seen (p ∷ []) from are =
      let no_more : nat_lt 50 (length (all from)) ≡ false = sym (more_of from) ∙ ap (λ (l : Listing X). l.more) (sym are.0) ∙ are.1 in
      let whole : take 50 (all from) ≡ all from = take_all 50 (all from) (omega (arith, ltb-false 50 (length (all from)) no_more)) in
      nothing_behind p.items ∙ ap (λ (l : Listing X). l.items) are.0 ∙ items_at from ∙ whole
    where
      nothing_behind : (xs : List X) → xs ++ [] ≡ xs
      nothing_behind [] = refl
      nothing_behind (x ∷ xs) = ap (λ (l : List X). x ∷ l) (nothing_behind xs)
  seen (p ∷ q ∷ ps) from are =
      let more : nat_lt 50 (length (all from)) ≡ true = sym (more_of from) ∙ ap (λ (l : Listing X). l.more) (sym are.0) ∙ are.1 in
      let longer : 50 < length (all from) = ltb-true 50 (length (all from)) more in
      let found : (x : X) × (slice_get (all from) 49 ≡ Some x) = there_at 49 (all from) (omega (arith, longer)) in
      let last : last_item p.items ≡ Some found.0 = ap (λ (l : Listing X). last_item l.items) are.0 ∙ last_at from found.0 longer found.1 in
      let next : ArePages page cursor (cursor found.0) (q ∷ ps) = subst (λ (o : Option X). IsSomeAnd o (λ x. ArePages page cursor (cursor x) (q ∷ ps))) last are.2 in
      ap (λ (l : List X). l ++ items_of (q ∷ ps)) (ap (λ (l : Listing X). l.items) are.0 ∙ items_at from)
      ∙ ap (λ (l : List X). take 50 (all from) ++ l) (seen (q ∷ ps) (cursor found.0) next ∙ goes from found.0 found.1)
      ∙ take-append-drop 50 (all from)

  pub shows_all : (from : P) → ShowsAll page cursor from (all from)
  shows_all from =
      let whole : Walk from = walk (length (all from)) from (omega arith) in
      record {
        sizes = λ at. subst IsPage (sym (is at)) (size_of (all at));
        pages = whole.0;
        ends = whole.1;
        seen = λ any are. seen any from are;
      }

-- an item of a list of shown things is that of a thing
shown_at : {A X : Type 0} (f : A → X) (n : ℕ) (xs : List A) (x : X) → slice_get (map f xs) n ≡ Some x → (a : A) × (slice_get xs n ≡ Some a) × (f a ≡ x)
shown_at f n [] x e = absurd (let none : ⊥ = cc in none)
shown_at f zero (a ∷ xs) x e = let same : f a ≡ x = cc in (a, refl, same)
shown_at f (suc n) (a ∷ xs) x e = shown_at f n xs x e

map_drop : {A X : Type 0} (f : A → X) (n : ℕ) (xs : List A) → map f (drop n xs) ≡ drop n (map f xs)
map_drop f zero xs = refl
map_drop f (suc n) [] = refl
map_drop f (suc n) (a ∷ xs) = map_drop f n xs

pub workspaces_are_shown : WorkspacesAreShown
workspaces_are_shown after prefix o =
    shows_all (λ (from : Option (List ℕ)). workspaces_after from prefix (Some o)) (λ (row : WsRow). Some row.name) shown (λ from. refl) goes after
  where
    row : List ℕ × Workspace → WsRow
    row e = row_of e.0 (shown_of e.1)

    shown : Option (List ℕ) → List WsRow
    shown from = map row (workspaces_from from prefix o)

    goes : (from : Option (List ℕ)) (x : WsRow) → slice_get (shown from) 49 ≡ Some x → shown (Some x.name) ≡ drop 50 (shown from)
    goes from x at =
        let found : (e : List ℕ × Workspace) × (slice_get (workspaces_from from prefix o) 49 ≡ Some e) × (row e ≡ x) = shown_at row 49 (workspaces_from from prefix o) x at in
        ap (λ (y : WsRow). shown (Some y.name)) (sym found.2)
        ∙ ap (map row) (workspace_pages from prefix o found.0 found.1)
        ∙ map_drop row 50 (workspaces_from from prefix o)

pub versions_are_shown : VersionsAreShown
versions_are_shown after w lawful = shows_all (λ (from : ℕ). versions_after from (Some w)) (λ (row : VersionRow). row.number) shown (λ from. refl) goes after
  where
    shown : ℕ → List VersionRow
    shown from = map version_row (versions_from from w)

    goes : (from : ℕ) (x : VersionRow) → slice_get (shown from) 49 ≡ Some x → shown x.number ≡ drop 50 (shown from)
    goes from x at =
        let found : (v : Version) × (slice_get (versions_from from w) 49 ≡ Some v) × (version_row v ≡ x) = shown_at version_row 49 (versions_from from w) x at in
        ap (λ (y : VersionRow). shown y.number) (sym found.2) ∙ ap (map version_row) (version_pages from w found.0 lawful found.1) ∙ map_drop version_row 50 (versions_from from w)

pub runs_are_shown : RunsAreShown
runs_are_shown after w lawful = shows_all (λ (from : ℕ). runs_after from (Some w)) (λ (row : Run). row.number) (λ (from : ℕ). runs_from from w) (λ from. refl) (λ from r at. run_pages from w r lawful at) after
