-- The laws of pages and their places, over the rows as they are read: of pages their heads.
use Rattle.std.specs.Prelude.{◌≡◌, ℕ, ◌<◌, List, [], Option, Some, unwrap_or, IfSome, ◌≢◌, ◌-◌, ◌^◌}
use Rattle.std.specs.List.{AllByRecursion}
use Rattle.std.specs.BTreeMap.{BTreeMap}
use Rattle.statements.specs.declared.rows.PageHead.{PageHead}
use Rattle.statements.specs.Rows.{Kept, VersionRow, VpageRow}
use Rattle.statements.specs.Tables.{Tables}
use Rattle.texts.specs.declared.texts.TheConstants.{PAGE_BYTES}
use Rattle.tables.specs.Sound.{IsPlaced, HasText}
use Rattle.tables.specs.Scans.{ArePagesKeyed}
use Rattle.texts.specs.Texts.{HasSoundPlaces}
use Rattle.checks.specs.declared.keys.RowKey.{RowKey}
use Rattle.checks.specs.Pages.{size_in, IsPlacedIn, page_size_in, NamesPage, count_in, IsCountedIn, piece_in, HasTextIn}
use Rattle.checks.specs.Inner.Firsts.{value_at}
use Rattle.checks.specs.Inner.Heads.{IsSoundHead}

-- ---- versions

-- the map has the size of each version's text
abbrev pub HasSizes : List (Kept VersionRow) → BTreeMap RowKey ℕ → Type 0
HasSizes versions m = (org ws : List ℕ) (n : ℕ) → value_at org ws n 0 m ≡ size_in org ws n versions

-- ---- pages

abbrev pub HasPageSizes : List PageHead → BTreeMap RowKey ℕ → Type 0
HasPageSizes heads m = (key : List ℕ) (twin : ℕ) → value_at key [] twin 0 m ≡ page_size_in key twin heads

-- ---- uses

abbrev pub HasCounts : List (Kept VpageRow) → BTreeMap RowKey ℕ → Type 0
HasCounts vpages m = (key : List ℕ) (twin : ℕ) → unwrap_or (value_at key [] twin 0 m) 0 ≡ count_in key twin vpages

-- ---- texts

abbrev pub HasPieces : List PageHead → List (Kept VpageRow) → BTreeMap RowKey (Option ℕ) → Type 0
HasPieces heads vpages m = (org ws : List ℕ) (n place : ℕ) → value_at org ws n place m ≡ piece_in org ws n place heads vpages

-- This many of the version's first places, in order, name whole pages, and the next one does not. (No text has as many pages as the bound
-- says.)
pub record IsRunOf (heads : List PageHead) (vpages : List (Kept VpageRow)) (org ws : List ℕ) (n run : ℕ) : Type 0 where
  pub full : (place : ℕ) → place < run → piece_in org ws n place heads vpages ≡ Some (Some PAGE_BYTES)
  pub ends : run < 2 ^ 64 - 1 → piece_in org ws n run heads vpages ≢ Some (Some PAGE_BYTES)

-- the map has right runs
abbrev pub AreRuns : List PageHead → List (Kept VpageRow) → BTreeMap RowKey ℕ → Type 0
AreRuns heads vpages m = (org ws : List ℕ) (n : ℕ) → IfSome (value_at org ws n 0 m) (λ run. IsRunOf heads vpages org ws n run)

-- ---- all of them

-- The laws of pages and their places, over the rows: each page is in use, keyed by its bytes and the first of its key with them, and its uses are
-- the rows that name it; each row of vpage stands at a place of a version and names a page that is there; each page of a version's text is there.
pub record AreRowsSound (heads : List PageHead) (versions : List (Kept VersionRow)) (vpages : List (Kept VpageRow)) : Type 0 where
  pub heads_sound : AllByRecursion IsSoundHead heads
  pub counts : AllByRecursion (IsCountedIn vpages) heads
  pub places : AllByRecursion (λ x. IsPlacedIn versions x.1) vpages
  pub names : AllByRecursion (λ x. NamesPage heads x.1) vpages
  pub whole : AllByRecursion (λ x. HasTextIn heads vpages x.1) versions

-- The laws of pages, their places and texts, over the tables.
pub record AreTextsSound (key_of : List ℕ → List ℕ) (t : Tables) : Type 0 where
  pub places : HasSoundPlaces t
  pub keyed : ArePagesKeyed key_of t
  pub placed : AllByRecursion (IsPlaced t) t.vpages
  pub texts : AllByRecursion (HasText t) t.versions
