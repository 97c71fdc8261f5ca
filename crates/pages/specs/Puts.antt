-- The tables after a page is added or released.
use Rattle.std.specs.Prelude.{ℕ, zero, suc, ◌+◌, ◌-◌, nat_lt, Bool, cond, List, is_some, Option, Some, None, option_map}
use Rattle.std.specs.Str.{bytes_eq}
use Rattle.statements.specs.Tables.{Tables}
use Rattle.pages.specs.declared.rows.PageUse.{PageUse}
use Rattle.pages.specs.Rows.{page_added, page_used, page_removed, page_bytes, page_uses, equal_page}

-- the number of twin numbers: SQL has no integer of this size or greater
abbrev pub twin_limit : ℕ
twin_limit = 9_223_372_036_854_775_808

-- the least number that no page with this key has, among a given number of them from this one on
unfoldable pub free_from : List ℕ → ℕ → ℕ → Tables → ℕ
free_from key zero twin t = twin
free_from key (suc left) twin t = cond (is_some (page_uses key twin t)) (free_from key left (twin + 1) t) twin

unfoldable pub free_twin : List ℕ → Tables → ℕ
free_twin key t = free_from key twin_limit 0 t

-- ---- add

abbrev pub twin_found : List ℕ → Option PageUse → Tables → ℕ
twin_found key None t = free_twin key t
twin_found key (Some found) t = found.twin

-- the twin number of the page after it is added
abbrev pub twin_for : List ℕ → List ℕ → Tables → ℕ
twin_for key bytes t = twin_found key (equal_page key bytes t) t

abbrev pub put_found : List ℕ → List ℕ → Option PageUse → Tables → Tables
put_found key bytes None t = page_added key (free_twin key t) bytes t
put_found key bytes (Some found) t = page_used key found.twin (found.uses + 1) t

-- one more use of the page with this key and these bytes, or the page with one use
abbrev pub page_put : List ℕ → List ℕ → Tables → Tables
page_put key bytes t = put_found key bytes (equal_page key bytes t) t

-- ---- release

-- one use less of a page that has this many uses
abbrev pub lessened : List ℕ → ℕ → ℕ → Tables → Tables
lessened key twin uses t = cond (nat_lt 1 uses) (page_used key twin (uses - 1) t) (page_removed key twin t)

abbrev pub released_found : List ℕ → ℕ → Option ℕ → Tables → Tables
released_found key twin None t = t
released_found key twin (Some uses) t = lessened key twin uses t

abbrev pub page_released : List ℕ → ℕ → Tables → Tables
page_released key twin t = released_found key twin (page_uses key twin t) t

-- ---- same

-- whether the page has these bytes, if it exists
abbrev pub is_bytes_of : List ℕ → ℕ → List ℕ → Tables → Option Bool
is_bytes_of key twin page t = option_map (λ bytes. bytes_eq bytes page) (page_bytes key twin t)
