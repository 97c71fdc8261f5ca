-- The rows of one table after the other.
use Rattle.tables.proofs.Outside.{◌≡◌, ap, ◌∙◌, ℕ, List, Result, Ok, Ghosts, Held, Rows, Sees, Tables, sees_then}
use Rattle.tables.specs.Scans.{AreRowsOf}
use Rattle.tables.specs.Inner.Scans.{with_first, with_workspaces, with_others}

-- what one reading fills in, and then another
pub filled_then : {S X Y E F : Type 0} (g : Ghosts S) (f h : Tables → Rows → Rows) (a b c : Held S) (done : X) (result : Result Y F) (x y z : Rows) → Sees {E = E} g (λ u t. y ≡ f t x) a b (Ok done) → Sees g (λ u t. z ≡ h t y) b c result → Sees g (λ u t. z ≡ h t (f t x)) a c result
filled_then g f h a b c done result x y z one last = sees_then g (λ u t. y ≡ f t x) (λ u t. z ≡ h t y) (λ u t. z ≡ h t (f t x)) a b c done result (λ u t first second. second ∙ ap (h t) first) one last

-- all of them, whatever there was before
pub all_filled : (key_of : List ℕ → List ℕ) (t : Tables) (old new : Rows) → new ≡ with_others key_of t (with_workspaces t (with_first t old)) → AreRowsOf key_of t new
all_filled key_of t old new is = record {
  metas = ap (λ (r : Rows). r.metas) is;
  orgs = ap (λ (r : Rows). r.orgs) is;
  tokens = ap (λ (r : Rows). r.tokens) is;
  wss = ap (λ (r : Rows). r.wss) is;
  versions = ap (λ (r : Rows). r.versions) is;
  runs = ap (λ (r : Rows). r.runs) is;
  pages = ap (λ (r : Rows). r.pages) is;
  vpages = ap (λ (r : Rows). r.vpages) is;
  bounds = ap (λ (r : Rows). r.bounds) is;
  editions = ap (λ (r : Rows). r.editions) is;
  retentions = ap (λ (r : Rows). r.retentions) is;
}
