-- Our tables with their rows, and the databases that have them, or those of an earlier version of the schema.
use Rattle.std.specs.Prelude.{◌≡◌, ℕ, zero, suc, nat_lt, ℤ, Bool, false, cond, is_some, List, [], ◌∷◌, map, take, drop, slice_get, unwrap_or}
use Rattle.std.specs.List.{AllByRecursion}
use Rattle.sqlite_value.specs.Order.{Row, column}
use Rattle.sqlite_typed.specs.Columns.{int_of}
use Rattle.sqlite_schema.specs.declared.schema.Schema.{Schema}
use Rattle.sqlite_schema.specs.declared.schema.Table.{Table}
use Rattle.sqlite_keyed.specs.Keyed.{IsKeyedBy}
use Rattle.sqlite.specs.Effect.{Database}
use Rattle.statements.specs.Place.{tree_of, AreOwn}
use Rattle.statements.specs.Schema.{meta_table, org_table, token_table, ws_table, version_table, run_table, page_table, vpage_table, bound_table, edition_table, retention_table}
use Rattle.statements.specs.Rows.{Kept, OrgRow, TokenRow, WsRow, VersionRow, RunRow, PageRow, VpageRow, BoundRow, RetentionRow, stored, meta_cells, org_cells, token_cells, ws_cells, version_cells, run_cells, page_cells, vpage_cells, bound_cells, edition_cells, retention_cells, kept_by, meta_at, org_at, token_at, ws_at, version_at, run_at, page_at, vpage_at, bound_at, edition_at, retention_row_at}

-- One of our tables: its definition, the cells that store a row, and the row that cells stand for.
pub record Layout (R : Type 0) : Type 0 where
  pub table : Table
  pub cells : R → Row
  pub read : Row → R

abbrev pub meta_layout : Layout ℕ
meta_layout = record { table = meta_table; cells = meta_cells; read = meta_at }

abbrev pub org_layout : Layout OrgRow
org_layout = record { table = org_table; cells = org_cells; read = org_at }

abbrev pub token_layout : Layout TokenRow
token_layout = record { table = token_table; cells = token_cells; read = token_at }

abbrev pub ws_layout : Layout WsRow
ws_layout = record { table = ws_table; cells = ws_cells; read = ws_at }

abbrev pub version_layout : Layout VersionRow
version_layout = record { table = version_table; cells = version_cells; read = version_at }

abbrev pub run_layout : Layout RunRow
run_layout = record { table = run_table; cells = run_cells; read = run_at }

abbrev pub page_layout : Layout PageRow
page_layout = record { table = page_table; cells = page_cells; read = page_at }

abbrev pub vpage_layout : Layout VpageRow
vpage_layout = record { table = vpage_table; cells = vpage_cells; read = vpage_at }

abbrev pub bound_layout : Layout BoundRow
bound_layout = record { table = bound_table; cells = bound_cells; read = bound_at }

abbrev pub edition_layout : Layout ℕ
edition_layout = record { table = edition_table; cells = edition_cells; read = edition_at }

abbrev pub retention_layout : Layout RetentionRow
retention_layout = record { table = retention_table; cells = retention_cells; read = retention_row_at }

-- the rows of our tables
pub record Tables : Type 0 where
  pub metas : List (Kept ℕ)
  pub orgs : List (Kept OrgRow)
  pub tokens : List (Kept TokenRow)
  pub wss : List (Kept WsRow)
  pub versions : List (Kept VersionRow)
  pub runs : List (Kept RunRow)
  pub pages : List (Kept PageRow)
  pub vpages : List (Kept VpageRow)
  pub bounds : List (Kept BoundRow)
  pub editions : List (Kept ℕ)
  pub retentions : List (Kept RetentionRow)

abbrev pub no_rows : Tables
no_rows = record { metas = []; orgs = []; tokens = []; wss = []; versions = []; runs = []; pages = []; vpages = []; bounds = []; editions = []; retentions = [] }

-- a table, and the rows that its tree stores
pub record StoredTable : Type 0 where
  pub table : Table
  pub rows : List Row

abbrev pub stored_table : {R : Type 0} → Layout R → List (Kept R) → StoredTable
stored_table layout xs = record { table = layout.table; rows = map (stored layout.cells) xs }

-- our tables with these rows, in the order in which they are created
abbrev pub stored_tables : Tables → List StoredTable
stored_tables t =
    stored_table meta_layout t.metas ∷ stored_table org_layout t.orgs ∷ stored_table token_layout t.tokens ∷ stored_table ws_layout t.wss
    ∷ stored_table version_layout t.versions ∷ stored_table run_layout t.runs ∷ stored_table page_layout t.pages ∷ stored_table vpage_layout t.vpages
    ∷ stored_table bound_layout t.bounds ∷ stored_table edition_layout t.editions ∷ stored_table retention_layout t.retentions ∷ []

abbrev pub tables_in : List StoredTable → List Table
tables_in = map (λ (x : StoredTable). x.table)

abbrev pub our_tables : List Table
our_tables = tables_in (stored_tables no_rows)

-- The number of our tables in each version of the schema, from version 0 on, which has none. They are the first ones, since a version
-- creates its tables after the earlier ones.
abbrev pub table_counts : List ℕ
table_counts = 0 ∷ 8 ∷ 10 ∷ 11 ∷ []

abbrev pub is_known : ℕ → Bool
is_known zero = false
is_known (suc n) = is_some (slice_get table_counts (suc n))

abbrev pub count_in : ℕ → ℕ
count_in n = unwrap_or (slice_get table_counts n) 0

-- the tables of a version, with these rows
abbrev pub stored_in : ℕ → Tables → List StoredTable
stored_in n t = take (count_in n) (stored_tables t)

-- the tables of a version, those that later versions add, and those that it added
abbrev pub schema_tables : ℕ → List Table
schema_tables n = take (count_in n) our_tables

abbrev pub later_tables : ℕ → List Table
later_tables n = drop (count_in n) our_tables

abbrev pub added_by : ℕ → List Table
added_by zero = []
added_by (suc n) = drop (count_in n) (schema_tables (suc n))

abbrev pub IsOurs : Schema → Type 0
IsOurs s = AreOwn s our_tables

abbrev pub rowid_of : Row → ℤ
rowid_of r = int_of (column r 0)

-- The table's tree has these rows, in the order of their rowids.
pub record HasRows (db : Database) (x : StoredTable) : Type 0 where
  pub rows : db.trees (tree_of db.schema x.table.name) ≡ x.rows
  pub keyed : IsKeyedBy rowid_of x.rows

-- The database has these tables with these rows, whatever else it has.
pub record HoldsAll (db : Database) (xs : List StoredTable) : Type 0 where
  pub own : AreOwn db.schema (tables_in xs)
  pub rows : AllByRecursion (HasRows db) xs

-- The database has our tables with these rows, whatever else it has.
pub record Holds (db : Database) (t : Tables) : Type 0 where
  pub ours : IsOurs db.schema
  pub rows : AllByRecursion (HasRows db) (stored_tables t)

-- The database has the tables of a version with these rows, whatever else it has.
abbrev pub HoldsIn : ℕ → Database → Tables → Type 0
HoldsIn n db t = HoldsAll db (stored_in n t)

-- the typed rows that the rows of a table's tree stand for
abbrev pub rows_of : {R : Type 0} → Layout R → Database → List (Kept R)
rows_of layout db = map (kept_by layout.read) (db.trees (tree_of db.schema layout.table.name))

-- the rows of our tables in a database: the rows that it has, if it has our tables
abbrev pub tables_of : Database → Tables
tables_of db = record {
  metas = rows_of meta_layout db;
  orgs = rows_of org_layout db;
  tokens = rows_of token_layout db;
  wss = rows_of ws_layout db;
  versions = rows_of version_layout db;
  runs = rows_of run_layout db;
  pages = rows_of page_layout db;
  vpages = rows_of vpage_layout db;
  bounds = rows_of bound_layout db;
  editions = rows_of edition_layout db;
  retentions = rows_of retention_layout db;
}

-- the rows of the table at a place, in a version; none if the version does not have the table
abbrev pub rows_in : {X : Type 0} → ℕ → ℕ → List X → List X
rows_in n place xs = cond (nat_lt place (count_in n)) xs []

abbrev pub up_to : ℕ → Tables → Tables
up_to n t = record {
  metas = rows_in n 0 t.metas;
  orgs = rows_in n 1 t.orgs;
  tokens = rows_in n 2 t.tokens;
  wss = rows_in n 3 t.wss;
  versions = rows_in n 4 t.versions;
  runs = rows_in n 5 t.runs;
  pages = rows_in n 6 t.pages;
  vpages = rows_in n 7 t.vpages;
  bounds = rows_in n 8 t.bounds;
  editions = rows_in n 9 t.editions;
  retentions = rows_in n 10 t.retentions;
}

-- the rows of our tables in a database of a version
abbrev pub tables_at : ℕ → Database → Tables
tables_at n db = up_to n (tables_of db)
