-- What a row of page says of its page, without the bytes.
use Rattle.std.specs.Prelude.{ℕ, Bool, false, ◌==◌, List, length, Option, Some, None}
use Rattle.std.specs.Str.{bytes_eq}
use Rattle.statements.specs.declared.rows.PageHead.{PageHead}
use Rattle.statements.specs.Rows.{Kept, PageRow}
use Rattle.statements.specs.Tables.{Tables}
use Rattle.pages.specs.declared.rows.PageUse.{PageUse}
use Rattle.pages.specs.Rows.{equal_page}

abbrev pub has_twin : Option PageUse → ℕ → Bool
has_twin None twin = false
has_twin (Some found) twin = found.twin == twin

-- for keys that this function computes: whether the key is that of the bytes, and whether the first page with this key and these bytes has
-- this twin number
abbrev pub head_in : (List ℕ → List ℕ) → Tables → Kept PageRow → PageHead
head_in key_of t x = record {
  key = x.1.key;
  twin = x.1.twin;
  size = length x.1.bytes;
  uses = x.1.uses;
  is_keyed = bytes_eq (key_of x.1.bytes) x.1.key;
  is_first = has_twin (equal_page x.1.key x.1.bytes t) x.1.twin;
}
