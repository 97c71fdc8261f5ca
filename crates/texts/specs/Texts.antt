-- The texts of versions, in pages: the rows of vpage that name the pages of a text in order, and the rows after a text is added or removed.
use Rattle.std.specs.Prelude.{◌≡◌, ◌<◌, ℕ, zero, suc, ◌+◌, ◌-◌, ◌*◌, ◌/◌, min, ⊤, Bool, true, ◌&&◌, ◌==◌, List, [], ◌++◌, length, filter, find, take, drop, Option, Some, None, IsSome, option_map, unwrap_or, Result}
use Rattle.std.specs.Str.{bytes_eq}
use Rattle.sqlite_keyed.specs.Rules.{AreApart}
use Rattle.sqlite_keyed.specs.Lists.{delete_where}
use Rattle.sqlite_trees.specs.declared.store.Store.{Ghosts}
use Rattle.sqlite.specs.Held.{state}
use Rattle.sqlite.specs.State.{HasCleanDisk}
use Rattle.sqlite.specs.declared.transaction.Transaction.{Transaction}
use Rattle.statements.specs.Rows.{Kept, VpageRow}
use Rattle.statements.specs.Steps.{Steps, Reports}
use Rattle.statements.specs.Tables.{Tables}
use Rattle.statements.specs.Changes.{with_next}
use Rattle.pages.specs.Rows.{page_bytes, page_uses}
use Rattle.pages.specs.Puts.{twin_limit, twin_for, page_put, page_released}
use Rattle.pages.specs.Pages.{HasSoundPages, IsKeyFor}
use Rattle.pages.specs.declared.store.PageId.{PageId}
use Rattle.texts.specs.declared.texts.TheConstants.{PAGE_BYTES}

-- ---- rows of vpage

-- a row of a version
abbrev pub is_place_of : List ℕ → List ℕ → ℕ → Kept VpageRow → Bool
is_place_of org ws n x = bytes_eq x.1.org org && (bytes_eq x.1.ws ws && x.1.number == n)

-- the row of a version at a place
abbrev pub is_place : List ℕ → List ℕ → ℕ → ℕ → Kept VpageRow → Bool
is_place org ws n place x = bytes_eq x.1.org org && (bytes_eq x.1.ws ws && (x.1.number == n && x.1.place == place))

-- a row that names a page
abbrev pub names_page : List ℕ → ℕ → Kept VpageRow → Bool
names_page key twin x = bytes_eq x.1.key key && x.1.twin == twin

abbrev pub place_added : List ℕ → List ℕ → ℕ → ℕ → List ℕ → ℕ → Tables → Tables
place_added org ws n place key twin t = record t { vpages = with_next (record { org = org; ws = ws; number = n; place = place; key = key; twin = twin }) t.vpages }

abbrev pub place_removed : List ℕ → List ℕ → ℕ → ℕ → Tables → Tables
place_removed org ws n place t = record t { vpages = delete_where (is_place org ws n place) t.vpages }

abbrev pub page_name : Kept VpageRow → PageId
page_name x = record { key = x.1.key; twin = x.1.twin }

-- the name of the page at a place of a version
abbrev pub page_at : List ℕ → List ℕ → ℕ → ℕ → Tables → Option PageId
page_at org ws n place t = option_map page_name (find (is_place org ws n place) t.vpages)

-- ---- pieces of a text

-- the number of pages of a text of this size
abbrev pub pages_for : ℕ → ℕ
pages_for size = (size + 16_383) / PAGE_BYTES

-- the piece of a text at a place
abbrev pub piece_at : List ℕ → ℕ → List ℕ
piece_at text place = take PAGE_BYTES (drop (place * PAGE_BYTES) text)

-- the number of bytes of the piece at a place of a text of this size
abbrev pub piece_size : ℕ → ℕ → ℕ
piece_size size place = min PAGE_BYTES (size - place * PAGE_BYTES)

-- ---- adding a text: the piece at each place is added under a key

abbrev pub piece_added : (ℕ → List ℕ) → List ℕ → List ℕ → ℕ → List ℕ → ℕ → Tables → Tables
piece_added keys org ws n text place t = place_added org ws n place (keys place) (twin_for (keys place) (piece_at text place) t) (page_put (keys place) (piece_at text place) t)

-- a given number of a text's first pieces are added, and so are the rows that name them
abbrev pub pieces_added : (ℕ → List ℕ) → List ℕ → List ℕ → ℕ → List ℕ → ℕ → Tables → Tables
pieces_added keys org ws n text zero t = t
pieces_added keys org ws n text (suc place) t = piece_added keys org ws n text place (pieces_added keys org ws n text place t)

abbrev pub text_added : (ℕ → List ℕ) → List ℕ → List ℕ → ℕ → List ℕ → Tables → Tables
text_added keys org ws n text t = pieces_added keys org ws n text (pages_for (length text)) t

-- each of a given number of first pieces was added under a twin number that SQL has
abbrev pub TwinsFit : (ℕ → List ℕ) → List ℕ → List ℕ → ℕ → List ℕ → ℕ → Tables → Type 0
TwinsFit keys org ws n text zero t = ⊤
TwinsFit keys org ws n text (suc place) t = TwinsFit keys org ws n text place t × (twin_for (keys place) (piece_at text place) (pieces_added keys org ws n text place t) < twin_limit)

-- each of a given number of first pieces was added under its own key, or under that of a page that had its bytes
abbrev pub KeysFit : (List ℕ → List ℕ) → (ℕ → List ℕ) → List ℕ → List ℕ → ℕ → List ℕ → ℕ → Tables → Type 0
KeysFit key_of keys org ws n text zero t = ⊤
KeysFit key_of keys org ws n text (suc place) t = KeysFit key_of keys org ws n text place t × IsKeyFor key_of (piece_at text place) (keys place) (pieces_added keys org ws n text place t)

-- A call in a transaction, done or not: it stays that of the same connection, the disk was clean so far, and a shield stays.
pub record GoesOn {S : Type 0} (g : Ghosts S) (old new : Transaction S) : Type 0 where
  pub same_reference : new.conn.ghost_name ≡ old.conn.ghost_name
  pub so_far : HasCleanDisk (state g new.conn.now) → HasCleanDisk (state g old.conn.now)
  pub shield : (state g old.conn.now).IsShielded → (state g new.conn.now).IsShielded

-- What adding a text under these keys promises: each piece is added, under a key that it may have and a twin number that SQL has.
pub record AddsText {S E : Type 0} (g : Ghosts S) (key_of : List ℕ → List ℕ) (keys : ℕ → List ℕ) (org ws : List ℕ) (n : ℕ) (text : List ℕ) (old new : Transaction S) (result : Result ⊤ E) : Type 0 where
  pub steps : Steps g (text_added keys org ws n text) old new result
  pub fits : Reports (λ _. TwinsFit keys org ws n text (pages_for (length text))) (state g old.conn.now) (state g new.conn.now) result
  pub keyed : Reports (λ _. KeysFit key_of keys org ws n text (pages_for (length text))) (state g old.conn.now) (state g new.conn.now) result

-- ---- removing a text

abbrev pub released_at : Option PageId → Tables → Tables
released_at None t = t
released_at (Some id) t = page_released id.key id.twin t

-- the row at the place is removed, and then a use of the page that it named
abbrev pub piece_removed : List ℕ → List ℕ → ℕ → ℕ → Tables → Tables
piece_removed org ws n place t = released_at (page_at org ws n place t) (place_removed org ws n place t)

abbrev pub pieces_removed : List ℕ → List ℕ → ℕ → ℕ → Tables → Tables
pieces_removed org ws n zero t = t
pieces_removed org ws n (suc place) t = piece_removed org ws n place (pieces_removed org ws n place t)

abbrev pub text_removed : List ℕ → List ℕ → ℕ → ℕ → Tables → Tables
text_removed org ws n size t = pieces_removed org ws n (pages_for size) t

-- ---- reading a text

abbrev pub bytes_named : Option PageId → Tables → Option (List ℕ)
bytes_named None t = None
bytes_named (Some id) t = page_bytes id.key id.twin t

-- the bytes of the page at a place of a version, if it exists
abbrev pub piece_of : List ℕ → List ℕ → ℕ → ℕ → Tables → Option (List ℕ)
piece_of org ws n place t = bytes_named (page_at org ws n place t) t

-- a given number of a version's first pages exist
abbrev pub AreThere : List ℕ → List ℕ → ℕ → ℕ → Tables → Type 0
AreThere org ws n places t = (place : ℕ) → place < places → IsSome (piece_of org ws n place t)

-- each of a given number of a version's first pages exists when its row is removed
abbrev pub WereThere : List ℕ → List ℕ → ℕ → ℕ → Tables → Type 0
WereThere org ws n places t = (place : ℕ) → place < places → IsSome (piece_of org ws n place (pieces_removed org ws n place t))

-- the bytes of a given number of a version's first pages, one after the other
abbrev pub joined : List ℕ → List ℕ → ℕ → ℕ → Tables → List ℕ
joined org ws n zero t = []
joined org ws n (suc place) t = joined org ws n place t ++ unwrap_or (piece_of org ws n place t) []

-- the text of a version, of this size
abbrev pub text_of : List ℕ → List ℕ → ℕ → ℕ → Tables → List ℕ
text_of org ws n size t = joined org ws n (pages_for size) t

-- whether a given number of a version's first pages are the pieces of this text
abbrev pub are_pieces : List ℕ → List ℕ → ℕ → List ℕ → ℕ → Tables → Bool
are_pieces org ws n text zero t = true
are_pieces org ws n text (suc place) t = are_pieces org ws n text place t && bytes_eq (unwrap_or (piece_of org ws n place t) []) (piece_at text place)

-- ---- sound texts

-- every page of the text exists; each has 16,384 bytes but the last, which has the rest
abbrev pub IsWhole : List ℕ → List ℕ → ℕ → ℕ → Tables → Type 0
IsWhole org ws n size t = (place : ℕ) → place < pages_for size → (bytes : List ℕ) × (piece_of org ws n place t ≡ Some bytes) × (length bytes ≡ piece_size size place)

-- the version has no row of vpage
abbrev pub HasNoPlaces : List ℕ → List ℕ → ℕ → Tables → Type 0
HasNoPlaces org ws n t = find (is_place_of org ws n) t.vpages ≡ None

-- The pages are sound, the uses of each page are the number of rows that name it, and each place of a version has at most one row.
pub record HasSoundPlaces (t : Tables) : Type 0 where
  pub pages : HasSoundPages t
  pub counted : (key : List ℕ) (twin : ℕ) → unwrap_or (page_uses key twin t) 0 ≡ length (filter (names_page key twin) t.vpages)
  pub apart : AreApart (λ a b. is_place a.1.org a.1.ws a.1.number a.1.place b) t.vpages
