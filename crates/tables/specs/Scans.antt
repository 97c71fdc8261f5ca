-- The rows of all tables, read at once; of each page, its head.
use Rattle.std.specs.Prelude.{◌≡◌, ℕ, List, map}
use Rattle.std.specs.List.{AllByRecursion}
use Rattle.statements.specs.declared.rows.Rows.{Rows}
use Rattle.statements.specs.Tables.{Tables}
use Rattle.pages.specs.Heads.{head_in}

pub record AreRowsOf (key_of : List ℕ → List ℕ) (t : Tables) (rows : Rows) : Type 0 where
  pub metas : rows.metas ≡ t.metas
  pub orgs : rows.orgs ≡ t.orgs
  pub tokens : rows.tokens ≡ t.tokens
  pub wss : rows.wss ≡ t.wss
  pub versions : rows.versions ≡ t.versions
  pub runs : rows.runs ≡ t.runs
  pub pages : rows.pages ≡ map (head_in key_of t) t.pages
  pub vpages : rows.vpages ≡ t.vpages
  pub bounds : rows.bounds ≡ t.bounds
  pub editions : rows.editions ≡ t.editions
  pub retentions : rows.retentions ≡ t.retentions

-- each page's key is that of its bytes
abbrev pub ArePagesKeyed : (List ℕ → List ℕ) → Tables → Type 0
ArePagesKeyed key_of t = AllByRecursion (λ x. key_of x.1.bytes ≡ x.1.key) t.pages
