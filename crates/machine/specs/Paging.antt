-- Pages of a list follow one another: the list after a page's last item is what that page left out. A reader that asks for one page after
-- the other sees each item once.
use Rattle.std.specs.Prelude.{◌≡◌, ◌≤◌, ◌-◌, ℕ, nat_lt, true, false, List, [], ◌∷◌, ◌++◌, length, map, drop, filter, slice_get, Option, Some, None, IsSomeAnd}
use Rattle.std.specs.FinMap.{entries}
use Rattle.basis.specs.Listings.{max_items}
use Rattle.basis.specs.declared.rows.Listing.{Listing}
use Rattle.basis.specs.declared.rows.RunRow.{RunRow as Run}
use Rattle.basis.specs.declared.rows.VersionRow.{VersionRow}
use Rattle.basis.specs.declared.rows.WsRow.{WsRow}
use Rattle.machine.specs.Laws.{IsLawful}
use Rattle.machine.specs.Showing.{shown_of, row_of, version_row, is_listed, workspaces_after, versions_after, runs_after}
use Rattle.machine.specs.declared.records.Organization.{Organization}
use Rattle.machine.specs.declared.records.Version.{Version}
use Rattle.machine.specs.declared.records.Workspace.{Workspace}

-- the items of the list after a place; for workspaces, those whose names start with the prefix
abbrev pub workspaces_from : Option (List ℕ) → List ℕ → Organization → List (List ℕ × Workspace)
workspaces_from after prefix o = filter (λ (e : List ℕ × Workspace). is_listed after prefix e.0) (entries o.workspaces)

abbrev pub versions_from : ℕ → Workspace → List Version
versions_from after w = filter (λ (v : Version). nat_lt after v.number) w.versions

abbrev pub runs_from : ℕ → Workspace → List Run
runs_from after w = filter (λ (r : Run). nat_lt after r.number) w.runs

-- the list after the last item of a full page is what follows that page: no item is left out, and none comes twice
abbrev pub WorkspacePagesFollow : Type 0
WorkspacePagesFollow = (after : Option (List ℕ)) (prefix : List ℕ) (o : Organization) (e : List ℕ × Workspace) → slice_get (workspaces_from after prefix o) (max_items - 1) ≡ Some e
    → workspaces_from (Some e.0) prefix o ≡ drop max_items (workspaces_from after prefix o)

abbrev pub VersionPagesFollow : Type 0
VersionPagesFollow = (after : ℕ) (w : Workspace) (v : Version) → IsLawful w → slice_get (versions_from after w) (max_items - 1) ≡ Some v
    → versions_from v.number w ≡ drop max_items (versions_from after w)

abbrev pub RunPagesFollow : Type 0
RunPagesFollow = (after : ℕ) (w : Workspace) (r : Run) → IsLawful w → slice_get (runs_from after w) (max_items - 1) ≡ Some r
    → runs_from r.number w ≡ drop max_items (runs_from after w)

-- a page has at most 50 items, and exactly 50 if it says that more follow
pub record IsPage {X : Type 0} (page : Listing X) : Type 0 where
  pub no_more : length page.items ≤ 50
  pub no_fewer : page.more ≡ true → length page.items ≡ 50

abbrev pub last_item : {X : Type 0} → List X → Option X
last_item [] = None
last_item (x ∷ []) = Some x
last_item (x ∷ y ∷ xs) = last_item (y ∷ xs)

-- pages, one after the other, from a place on: as long as a page says that more follow, the next one is asked for from the place of its
-- last item
abbrev pub ArePages : {P X : Type 0} → (P → Listing X) → (X → P) → P → List (Listing X) → Type 0
ArePages page cursor from [] = ⊥
ArePages page cursor from (p ∷ []) = (p ≡ page from) × (p.more ≡ false)
ArePages page cursor from (p ∷ q ∷ ps) = (p ≡ page from) × (p.more ≡ true) × IsSomeAnd (last_item p.items) (λ x. ArePages page cursor (cursor x) (q ∷ ps))

-- the items of all pages
abbrev pub items_of : {X : Type 0} → List (Listing X) → List X
items_of [] = []
items_of (p ∷ ps) = p.items ++ items_of ps

-- Pages show a list: a reader that asks for the next page while more follow comes to an end. It has then seen the whole list, each item
-- once, in order.
pub record ShowsAll {P X : Type 0} (page : P → Listing X) (cursor : X → P) (from : P) (all : List X) : Type 0 where
  pub sizes : (at : P) → IsPage (page at)
  pub pages : List (Listing X)
  pub ends : ArePages page cursor from pages
  pub seen : (any : List (Listing X)) → ArePages page cursor from any → items_of any ≡ all

-- pages show the lists of workspaces, of versions and of runs, from any place on
abbrev pub WorkspacesAreShown : Type 0
WorkspacesAreShown = (after : Option (List ℕ)) (prefix : List ℕ) (o : Organization)
    → ShowsAll (λ (from : Option (List ℕ)). workspaces_after from prefix (Some o)) (λ (row : WsRow). Some row.name) after
    (map (λ (e : List ℕ × Workspace). row_of e.0 (shown_of e.1)) (workspaces_from after prefix o))

abbrev pub VersionsAreShown : Type 0
VersionsAreShown = (after : ℕ) (w : Workspace) → IsLawful w
    → ShowsAll (λ (from : ℕ). versions_after from (Some w)) (λ (row : VersionRow). row.number) after (map version_row (versions_from after w))

abbrev pub RunsAreShown : Type 0
RunsAreShown = (after : ℕ) (w : Workspace) → IsLawful w
    → ShowsAll (λ (from : ℕ). runs_after from (Some w)) (λ (row : Run). row.number) after (runs_from after w)
