-- What the statements on the table page change and read of its rows.
use Rattle.std.specs.Prelude.{◌≡◌, ℕ, Bool, ◌&&◌, ◌==◌, nat_lt, List, find, is_some, Option, option_map}
use Rattle.std.specs.Str.{bytes_eq}
use Rattle.sqlite_value.specs.declared.value.Value.TheVariants.{Blob}
use Rattle.sqlite_value.specs.Order.{Row, column}
use Rattle.sqlite_keyed.specs.Lists.{update_where, delete_where}
use Rattle.statements.specs.Rows.{Kept, PageRow, number}
use Rattle.statements.specs.Tables.{Tables}
use Rattle.statements.specs.Changes.{with_next}
use Rattle.pages.specs.declared.rows.FirstPage.{FirstPage}
use Rattle.pages.specs.declared.rows.PageUse.{PageUse}
use Rattle.pages.specs.declared.store.PageId.{PageId}

-- the page with this key and this twin number
abbrev pub is_page : List ℕ → ℕ → Kept PageRow → Bool
is_page key twin x = bytes_eq x.1.key key && x.1.twin == twin

-- a page with this key and these bytes
abbrev pub is_equal_page : List ℕ → List ℕ → Kept PageRow → Bool
is_equal_page key bytes x = bytes_eq x.1.key key && bytes_eq x.1.bytes bytes

abbrev pub page_added : List ℕ → ℕ → List ℕ → Tables → Tables
page_added key twin bytes t = record t { pages = with_next (record { key = key; twin = twin; bytes = bytes; uses = 1 }) t.pages }

abbrev pub page_used : List ℕ → ℕ → ℕ → Tables → Tables
page_used key twin uses t = record t { pages = update_where (is_page key twin) (λ x. (x.0, record x.1 { uses = uses })) t.pages }

abbrev pub page_removed : List ℕ → ℕ → Tables → Tables
page_removed key twin t = record t { pages = delete_where (is_page key twin) t.pages }

-- that page, if it has at most one use
abbrev pub is_last : List ℕ → ℕ → Kept PageRow → Bool
is_last key twin x = bytes_eq x.1.key key && (x.1.twin == twin && nat_lt x.1.uses 2)

abbrev pub has_last : List ℕ → ℕ → Tables → Bool
has_last key twin t = is_some (find (is_last key twin) t.pages)

abbrev pub last_removed : List ℕ → ℕ → Tables → Tables
last_removed key twin t = record t { pages = delete_where (is_last key twin) t.pages }

abbrev pub page_bytes : List ℕ → ℕ → Tables → Option (List ℕ)
page_bytes key twin t = option_map (λ x. x.1.bytes) (find (is_page key twin) t.pages)

abbrev pub page_uses : List ℕ → ℕ → Tables → Option ℕ
page_uses key twin t = option_map (λ x. x.1.uses) (find (is_page key twin) t.pages)

abbrev pub page_use : Kept PageRow → PageUse
page_use x = record { twin = x.1.twin; uses = x.1.uses }

abbrev pub equal_page : List ℕ → List ℕ → Tables → Option PageUse
equal_page key bytes t = option_map page_use (find (is_equal_page key bytes) t.pages)

-- a page with this key
abbrev pub is_of_key : List ℕ → Kept PageRow → Bool
is_of_key key x = bytes_eq x.1.key key

-- the twin number of the page with this key that was added first
abbrev pub first_twin : List ℕ → Tables → Option ℕ
first_twin key t = option_map (λ x. x.1.twin) (find (is_of_key key) t.pages)

-- a page, and whether it has these bytes
abbrev pub compared : List ℕ → Kept PageRow → FirstPage
compared bytes x = record { found = page_use x; same = bytes_eq x.1.bytes bytes }

-- the page with this key that was added first
abbrev pub first_page : List ℕ → List ℕ → Tables → Option FirstPage
first_page key bytes t = option_map (compared bytes) (find (is_of_key key) t.pages)

-- A row of a query's result that names a page: its key, then its twin number.
pub record IsPageName (row : Row) (id : PageId) : Type 0 where
  pub key : column row 0 ≡ Blob id.key
  pub twin : column row 1 ≡ number id.twin
