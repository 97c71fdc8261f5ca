-- The typed rows of a database are those that it holds.
use Rattle.std.proofs.Common.{◌≡◌, ℕ, nat_lt, arith, Bool, true, false, cond, unsigned_abs, List, [], map, Option, Some, None, refl, ap, ◌∙◌}
use Rattle.statements.proofs.Outside.{or_null, int_of, unless_null, nat_tests, map_back, Database}
use Rattle.statements.specs.Rows.{Kept, TokenRow, WsRow, RunRow, BoundRow, stored, token_cells, ws_cells, run_cells, bound_cells, number, kept_by, token_at, ws_at, run_at, bound_at}
use Rattle.statements.specs.declared.making.TheConstants.{SCHEMA_VERSION}
use Rattle.statements.specs.Tables.{Layout, Tables, Holds, HoldsIn, count_in, rows_in, up_to, rows_of, tables_of, tables_at}
use Rattle.statements.proofs.Held.{IsHeld, Ours, metas, orgs, tokens, wss, versions, runs, pages, vpages, bounds, editions, retentions, held_in, holds_all}
use Rattle.statements.proofs.Codes.{role_back}
use Rattle.statements.proofs.ReadBack.{workspace_back, run_row_back}

pub token_back : (x : Kept TokenRow) → kept_by token_at (stored token_cells x) ≡ x
token_back x = λ i. (x.0, record { org = x.1.org; name = x.1.name; it = record { digest = x.1.it.digest; role = role_back x.1.it.role i } })

pub ws_back : (x : Kept WsRow) → kept_by ws_at (stored ws_cells x) ≡ x
ws_back x = λ i. (x.0, record { org = x.1.org; name = x.1.name; it = workspace_back x.1.it i })

pub run_back : (x : Kept RunRow) → kept_by run_at (stored run_cells x) ≡ x
run_back x = λ i. (x.0, record { org = x.1.org; name = x.1.name; it = run_row_back x.1.it i })

until_back : (o : Option ℕ) → unless_null (λ v. unsigned_abs (int_of v)) (or_null number o) ≡ o
until_back None = refl
until_back (Some n) = refl

pub bound_back : (x : Kept BoundRow) → kept_by bound_at (stored bound_cells x) ≡ x
bound_back x = λ i. (x.0, record { org = x.1.org; name = x.1.name; it = record { until = until_back x.1.it.until i; prefix = x.1.it.prefix } })

-- the rows of a table are read back from its tree
rows_back : {R : Type 0} (layout : Layout R) (db : Database) (xs : List (Kept R)) → ((x : Kept R) → kept_by layout.read (stored layout.cells x) ≡ x) → IsHeld layout db xs → rows_of layout db ≡ xs
rows_back layout db xs back held = ap (map (kept_by layout.read)) held.rows ∙ map_back (stored layout.cells) (kept_by layout.read) back xs

-- ---- a database holds the rows of one `Tables` at most

-- of a version: these are they
module _ (n : ℕ) (db : Database) (t : Tables) (h : HoldsIn n db t) where
  read_back : {R : Type 0} (x : Ours R) → ((r : Kept R) → kept_by x.layout.read (stored x.layout.cells r) ≡ r) → rows_in n x.place (rows_of x.layout db) ≡ rows_in n x.place (x.rows t)
  read_back x back = by_place (nat_lt x.place (count_in n)) refl
    where
      by_place : (b : Bool) → nat_lt x.place (count_in n) ≡ b → cond b (rows_of x.layout db) [] ≡ cond b (x.rows t) []
      by_place true low = rows_back x.layout db (x.rows t) back (held_in x (count_in n) (grind (arith, nat_tests)) db t h)
      by_place false high = refl

  pub tables_at-held : tables_at n db ≡ up_to n t
  tables_at-held = λ i. record {
    metas = read_back metas (λ x. refl) i;
    orgs = read_back orgs (λ x. refl) i;
    tokens = read_back tokens token_back i;
    wss = read_back wss ws_back i;
    versions = read_back versions (λ x. refl) i;
    runs = read_back runs run_back i;
    pages = read_back pages (λ x. refl) i;
    vpages = read_back vpages (λ x. refl) i;
    bounds = read_back bounds bound_back i;
    editions = read_back editions (λ x. refl) i;
    retentions = read_back retentions (λ x. refl) i;
  }

-- and of ours
pub tables-held : (db : Database) (t : Tables) → Holds db t → tables_of db ≡ t
tables-held db t h = tables_at-held SCHEMA_VERSION db t (holds_all db t h)
