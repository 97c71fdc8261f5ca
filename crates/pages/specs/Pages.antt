-- The pages that are stored: a map from key and twin number to bytes and uses, and what calls do to it.
use Rattle.std.specs.Prelude.{◌≡◌, ◌≢◌, ◌<◌, ◌≤◌, ◌⊎◌, ℕ, ◌+◌, ◌-◌, ◌^◌, ⊤, false, nat_lt, cond, List, find, IsTrue, IsSome, Option, Some, None, option_map, Result, IfOk, OnOk, OnErr}
use Rattle.std.specs.List.{AllByRecursion}
use Rattle.sqlite_keyed.specs.Rules.{AreApart}
use Rattle.sqlite_trees.specs.declared.store.Store.{Ghosts}
use Rattle.sqlite.specs.Held.{Held, state}
use Rattle.sqlite.specs.State.{State, HasCleanDisk, IsUnchanged, KeepsCommit}
use Rattle.sqlite.specs.declared.transaction.Transaction.{Transaction}
use Rattle.statements.specs.Steps.{Steps}
use Rattle.statements.specs.Tables.{Tables, Holds}
use Rattle.pages.specs.declared.store.PageId.{PageId}
use Rattle.pages.specs.Puts.{twin_for, page_put}
use Rattle.pages.specs.Rows.{is_page, is_equal_page, equal_page}

-- a page's bytes, and the number of its uses
pub record Page : Type 0 where
  pub bytes : List ℕ
  pub uses : ℕ

-- the page with this key and this twin number
abbrev pub PageMap : Type 0
PageMap = List ℕ → ℕ → Option Page

abbrev pub pages_in : Tables → PageMap
pages_in t key twin = option_map (λ x. record { bytes = x.1.bytes; uses = x.1.uses }) (find (is_page key twin) t.pages)

-- No two pages have the same key and twin number, no two with the same key have equal bytes, and each has a use.
pub record HasSoundPages (t : Tables) : Type 0 where
  pub apart : AreApart (λ a b. is_page a.1.key a.1.twin b) t.pages
  pub differ : AreApart (λ a b. is_equal_page a.1.key a.1.bytes b) t.pages
  pub used : AllByRecursion (λ x. 1 ≤ x.1.uses) t.pages

-- every page with another key or twin number is unchanged
abbrev pub KeepsOtherPages : List ℕ → ℕ → PageMap → PageMap → Type 0
KeepsOtherPages key twin old new = (k : List ℕ) (n : ℕ) → ¬ ((k ≡ key) × (n ≡ twin)) → new k n ≡ old k n

-- the least twin number that no page with this key has
pub record IsFreeTwin (pages : PageMap) (key : List ℕ) (twin : ℕ) : Type 0 where
  pub free : pages key twin ≡ None
  pub least : (n : ℕ) → n < twin → IsSome (pages key n)

-- no page with this key has these bytes
abbrev pub IsNewPage : PageMap → List ℕ → List ℕ → Type 0
IsNewPage pages key bytes = (n : ℕ) (p : Page) → pages key n ≡ Some p → p.bytes ≢ bytes

-- A page with this key and these bytes gets one more use; if there is none, it is added under the least free twin number. Every other page
-- is unchanged.
pub record PutsPage (key bytes : List ℕ) (twin : ℕ) (old new : PageMap) : Type 0 where
  pub page :
      ((p : Page) × (old key twin ≡ Some p) × (p.bytes ≡ bytes) × (new key twin ≡ Some (record { bytes = bytes; uses = p.uses + 1 })))
      ⊎ (IsNewPage old key bytes × IsFreeTwin old key twin × (new key twin ≡ Some (record { bytes = bytes; uses = 1 })))
  pub others : KeepsOtherPages key twin old new

-- one use less; without its last use the page is removed
abbrev pub less_used : Page → Option Page
less_used p = cond (nat_lt 1 p.uses) (Some (record p { uses = p.uses - 1 })) None

-- The page exists. One use is removed, and with the last use the page. Every other page is unchanged.
pub record ReleasesPage (key : List ℕ) (twin : ℕ) (old new : PageMap) : Type 0 where
  pub page : (p : Page) × (old key twin ≡ Some p) × (new key twin ≡ less_used p)
  pub others : KeepsOtherPages key twin old new

-- ---- what calls promise, for all rows that a database may have before and after them

-- a key under which a page may be added: its own, or that of a page that has its bytes
abbrev pub IsKeyFor : (List ℕ → List ℕ) → List ℕ → List ℕ → Tables → Type 0
IsKeyFor key_of page key t = (key ≡ key_of page) ⊎ IsSome (equal_page key page t)

-- a use of a page, or the page, is added under a key, in a transaction
abbrev pub PutsBy : {E : Type 0} → List ℕ → List ℕ → State → State → Result PageId E → Type 0
PutsBy key page old new result =
    HasCleanDisk new → IsTrue old.in_transaction
    → IfOk result (λ id. (t u : Tables) → Holds old.now t → Holds new.now u → HasSoundPages t → PutsPage key page id.twin (pages_in t) (pages_in u) × HasSoundPages u)

-- What adding a use of a page, or the page, under a key promises: its name is the key and the twin number that it has in the rows.
pub record PutsUnder {S E : Type 0} (g : Ghosts S) (key page : List ℕ) (old new : Transaction S) (result : Result PageId E) : Type 0 where
  pub steps : Steps g (page_put key page) old new result
  pub named : IfOk result (λ id. (id.key ≡ key) × (id.twin < 2 ^ 63))
  pub reports : HasCleanDisk (state g new.conn.now) → IfOk result (λ id. (t : Tables) → Holds (state g old.conn.now).now t → id.twin ≡ twin_for key page t)
  pub puts : PutsBy key page (state g old.conn.now) (state g new.conn.now) result

-- a page is released, in a transaction
abbrev pub ReleasesBy : {E : Type 0} → List ℕ → ℕ → State → State → Result ⊤ E → Type 0
ReleasesBy key twin old new result =
    HasCleanDisk new → IsTrue old.in_transaction
    → OnOk result ((t u : Tables) → Holds old.now t → Holds new.now u → ReleasesPage key twin (pages_in t) (pages_in u) × (HasSoundPages t → HasSoundPages u))

-- each page that a row of vpage names exists
abbrev pub NamedAreThere : Tables → Type 0
NamedAreThere t = AllByRecursion (λ x. IsSome (pages_in t x.1.key x.1.twin)) t.vpages

-- No page that a row of vpage names was removed, in a transaction: a removal that would do this is refused.
abbrev pub SparesNamed : {X E : Type 0} → State → State → Result X E → Type 0
SparesNamed old new result = HasCleanDisk new → IsTrue old.in_transaction → OnOk result ((t u : Tables) → Holds old.now t → Holds new.now u → NamedAreThere u)

-- What reading a value that is there promises, outside a transaction: none begins, the disk was clean so far, and a shield stays; after a failure nothing is committed.
pub record Gets {S X E : Type 0} (g : Ghosts S) (read : Tables → Option X) (old new : Held S) (result : Result X E) : Type 0 where
  pub mode : old.in_transaction ≡ false → new.in_transaction ≡ false
  pub gets :
      HasCleanDisk (state g new)
      → IfOk result (λ x. (t : Tables) → Holds (state g old).now t → read t ≡ Some x) × (OnOk result (IsUnchanged (state g old) (state g new)) × OnErr result (KeepsCommit (state g old) (state g new)))
  pub so_far : HasCleanDisk (state g new) → HasCleanDisk (state g old)
  pub shield : (state g old).IsShielded → (state g new).IsShielded
