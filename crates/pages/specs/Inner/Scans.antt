-- How the rows of page are read one after the other.
use Rattle.std.specs.Prelude.{◌≡◌, ℕ, ℤ, int_lt, Bool, true, List, length, find, Option, Some, None, option_map}
use Rattle.std.specs.Str.{bytes_eq}
use Rattle.sqlite_value.specs.declared.value.Value.TheVariants.{Int, Blob}
use Rattle.sqlite_value.specs.Order.{Row, column}
use Rattle.statements.specs.declared.rows.PageHead.{PageHead}
use Rattle.statements.specs.Rows.{Kept, PageRow, number}
use Rattle.statements.specs.Tables.{Tables}
use Rattle.pages.specs.declared.scans.PageRow.{PageRow as ReadRow}
use Rattle.pages.specs.declared.scans.Unhashed.{Unhashed}
use Rattle.pages.specs.Rows.{equal_page}
use Rattle.pages.specs.Heads.{has_twin}

pub record IsPageRow (row : Row) (page : ReadRow) : Type 0 where
  pub id : column row 0 ≡ Int page.id
  pub key : column row 1 ≡ Blob page.key
  pub twin : column row 2 ≡ number page.twin
  pub bytes : column row 3 ≡ Blob page.bytes
  pub uses : column row 4 ≡ number page.uses

-- whether a row's rowid is greater than this one, if one is given
abbrev pub is_behind : {R : Type 0} → Option ℤ → Kept R → Bool
is_behind None x = true
is_behind (Some id) x = int_lt id x.0

-- a row with its rowid, as one value
abbrev pub page_row : Kept PageRow → ReadRow
page_row x = record { id = x.0; key = x.1.key; twin = x.1.twin; bytes = x.1.bytes; uses = x.1.uses }

-- the first row of page after the row with this rowid
abbrev pub page_row_behind : Option ℤ → Tables → Option ReadRow
page_row_behind id t = option_map page_row (find (is_behind id) t.pages)

-- with the first page of its key that has its bytes
abbrev pub unhashed_of : ReadRow → Tables → Unhashed
unhashed_of page t = record { page = page; found = equal_page page.key page.bytes t }

abbrev pub unhashed_row : Tables → Kept PageRow → Unhashed
unhashed_row t x = unhashed_of (page_row x) t

abbrev pub unhashed_behind : Option ℤ → Tables → Option Unhashed
unhashed_behind id t = option_map (unhashed_row t) (find (is_behind id) t.pages)

-- what is said of a page whose bytes have this key
abbrev pub head_under : List ℕ → Unhashed → PageHead
head_under key row = record {
  key = row.page.key;
  twin = row.page.twin;
  size = length row.page.bytes;
  uses = row.page.uses;
  is_keyed = bytes_eq key row.page.key;
  is_first = has_twin row.found row.page.twin;
}

abbrev pub hashed : (List ℕ → List ℕ) → Unhashed → PageHead
hashed key_of row = head_under (key_of row.page.bytes) row
