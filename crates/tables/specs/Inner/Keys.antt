-- What changes keep of the keys of pages.
use Rattle.std.specs.Prelude.{◌≡◌, ℕ, List}
use Rattle.statements.specs.Tables.{Tables}
use Rattle.tables.specs.Scans.{ArePagesKeyed}

-- if each page had the key of its bytes, it still has
abbrev pub KeepsKeys : (List ℕ → List ℕ) → Tables → Tables → Type 0
KeepsKeys key_of t u = ArePagesKeyed key_of t → ArePagesKeyed key_of u

-- no page changes
abbrev pub KeepsPages : Tables → Tables → Type 0
KeepsPages t u = u.pages ≡ t.pages
