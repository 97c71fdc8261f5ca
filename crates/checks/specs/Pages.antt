-- When pages, their places and the texts of versions are sound, by the rows as they are read; a page is represented by its head.
use Rattle.std.specs.Prelude.{◌≡◌, ℕ, ◌<◌, Bool, ◌&&◌, ◌==◌, List, length, filter, find, Option, Some, option_map, IsSome, IsSomeAnd}
use Rattle.std.specs.Str.{bytes_eq}
use Rattle.statements.specs.declared.rows.PageHead.{PageHead}
use Rattle.statements.specs.Rows.{Kept, VersionRow, VpageRow}
use Rattle.statements.specs.Changes.{is_version}
use Rattle.texts.specs.Texts.{is_place, names_page, pages_for, piece_size}

-- the size of a version's text, by its first row
abbrev pub size_in : List ℕ → List ℕ → ℕ → List (Kept VersionRow) → Option ℕ
size_in org ws n versions = option_map (λ x. x.1.it.size) (find (is_version org ws n) versions)

-- the row's version exists, and the row's place is below the number of its text's pages
abbrev pub IsPlacedIn : List (Kept VersionRow) → VpageRow → Type 0
IsPlacedIn versions x = IsSomeAnd (size_in x.org x.ws x.number versions) (λ size. x.place < pages_for size)

-- the head of the page of a key and a twin number
abbrev pub is_head : List ℕ → ℕ → PageHead → Bool
is_head key twin h = bytes_eq h.key key && h.twin == twin

-- the size of the page, by its first row
abbrev pub page_size_in : List ℕ → ℕ → List PageHead → Option ℕ
page_size_in key twin heads = option_map (λ h. h.size) (find (is_head key twin) heads)

-- the page that the row names exists
abbrev pub NamesPage : List PageHead → VpageRow → Type 0
NamesPage heads x = IsSome (page_size_in x.key x.twin heads)

-- the number of rows that name the page
abbrev pub count_in : List ℕ → ℕ → List (Kept VpageRow) → ℕ
count_in key twin vpages = length (filter (names_page key twin) vpages)

-- the page's uses are the number of rows that name it
abbrev pub IsCountedIn : List (Kept VpageRow) → PageHead → Type 0
IsCountedIn vpages h = h.uses ≡ count_in h.key h.twin vpages

-- the size of the page that the row names, if it exists
abbrev pub named_size_in : List PageHead → Kept VpageRow → Option ℕ
named_size_in heads x = page_size_in x.1.key x.1.twin heads

-- the first row of the place, and the size of the page that it names
abbrev pub piece_in : List ℕ → List ℕ → ℕ → ℕ → List PageHead → List (Kept VpageRow) → Option (Option ℕ)
piece_in org ws n place heads vpages = option_map (named_size_in heads) (find (is_place org ws n place) vpages)

-- the page at this place of the version's text exists and has the right size
abbrev pub HasPieceIn : List PageHead → List (Kept VpageRow) → VersionRow → ℕ → Type 0
HasPieceIn heads vpages x place = piece_in x.org x.name x.it.number place heads vpages ≡ Some (Some (piece_size x.it.size place))

-- every page of the version's text exists
abbrev pub HasTextIn : List PageHead → List (Kept VpageRow) → VersionRow → Type 0
HasTextIn heads vpages x = (place : ℕ) → place < pages_for x.it.size → HasPieceIn heads vpages x place
