-- The tables, as their texts define them.
use Rattle.std.specs.Prelude.{ℕ, ◌+◌, pos, Bool, true, false, List, [], ◌∷◌, ◌++◌, length, codes, Some, None}
use Rattle.sqlite_value.specs.declared.keys.Collation.TheVariants.{Binary}
use Rattle.sqlite_value.specs.declared.keys.Order.{Order}
use Rattle.sqlite_value.specs.declared.value.Value.TheVariants.{Null, Int}
use Rattle.sqlite_value.specs.Keys.{plain}
use Rattle.sqlite_sql.specs.Term.{Term, lit, col, op1, op2}
use Rattle.sqlite_sql.specs.declared.ops.CompareOp.TheVariants.{Eq, Le, Ge}
use Rattle.sqlite_sql.specs.declared.ops.BinaryOp.TheVariants.{Compare, And, Is}
use Rattle.sqlite_sql.specs.declared.ops.UnaryOp.TheVariants.{Not}
use Rattle.sqlite_schema.specs.declared.schema.Action.TheVariants.{NoAction, Restrict, Cascade}
use Rattle.sqlite_schema.specs.declared.schema.Column.{Column}
use Rattle.sqlite_schema.specs.declared.schema.Kind.{Kind}
use Rattle.sqlite_schema.specs.declared.schema.Kind.TheVariants.{Integer, Text, Blob}
use Rattle.sqlite_schema.specs.declared.schema.Reference.{Reference}
use Rattle.sqlite_schema.specs.declared.schema.Table.{Table}

abbrev pub column : List ℕ → Kind → Bool → Column
column name kind not_null = record { name = name; kind = kind; is_strict = true; not_null = not_null; default = Null; collation = Binary }

-- a table with these unique keys, the first of which is its primary key
abbrev pub keyed_table : List ℕ → List Column → List ℕ → List (List ℕ) → List Order → List Term → Table
keyed_table name columns primary uniques orders checks = record {
  name = name;
  tree = 0;
  columns = columns;
  key = None;
  primary = primary;
  uniques = uniques;
  orders = orders;
  checks = checks;
  references = [];
  computed = [];
  stamps = record { places = []; terms = []; formats = [] };
  is_counted = false;
}

-- the value of this column is between two numbers
abbrev pub is_between : ℕ → ℕ → ℕ → Term
is_between place least most = op2 And (op2 (Compare Ge Binary) (col 1 place) (lit (Int (pos least)))) (op2 (Compare Le Binary) (col 1 place) (lit (Int (pos most))))

abbrev pub org_table : Table
org_table = keyed_table (codes "org")
    (column (codes "name") Text true ∷ column (codes "cap") Integer true ∷ [])
    (1 ∷ []) ((1 ∷ []) ∷ []) (plain ∷ []) (is_between 2 0 100_000 ∷ [])

abbrev pub token_table : Table
token_table = keyed_table (codes "token")
    (column (codes "org") Text true ∷ column (codes "name") Text true ∷ column (codes "digest") Blob true ∷ column (codes "role") Integer true ∷ [])
    (1 ∷ 2 ∷ []) ((1 ∷ 2 ∷ []) ∷ (1 ∷ 3 ∷ []) ∷ []) (plain ∷ plain ∷ []) (is_between 4 0 2 ∷ [])

-- the columns of the settings of a workspace's runs
abbrev pub run_settings_columns : List Column
run_settings_columns = column (codes "auto") Integer true ∷ []

-- the place of the column `kind`, which comes after them
abbrev pub kind_index : ℕ
kind_index = 3 + length run_settings_columns

-- the column so many places after `kind` is not null exactly if `kind` is this number
abbrev pub is_given_for : ℕ → ℕ → Term
is_given_for behind kind = op2 (Compare Eq Binary) (op1 Not (op2 (Is Binary) (col 1 (kind_index + behind)) (lit Null))) (op2 (Compare Eq Binary) (col 1 kind_index) (lit (Int (pos kind))))

abbrev pub ws_table : Table
ws_table = keyed_table (codes "ws")
    (column (codes "org") Text true ∷ column (codes "name") Text true ∷ (run_settings_columns ++ column (codes "kind") Integer true
    ∷ column (codes "lock_id") Text false ∷ column (codes "lock_text") Blob false ∷ column (codes "run") Integer false ∷ column (codes "released") Text false
    ∷ column (codes "next_version") Integer true ∷ column (codes "next_run") Integer true ∷ []))
    (1 ∷ 2 ∷ []) ((1 ∷ 2 ∷ []) ∷ []) (plain ∷ [])
    (is_between kind_index 0 2 ∷ is_given_for 1 1 ∷ is_given_for 2 1 ∷ is_given_for 3 2 ∷ [])

abbrev pub version_table : Table
version_table = keyed_table (codes "version")
    (column (codes "org") Text true ∷ column (codes "ws") Text true ∷ column (codes "number") Integer true ∷ column (codes "serial") Integer true
    ∷ column (codes "lineage") Text true ∷ column (codes "created") Integer true ∷ column (codes "size") Integer true ∷ [])
    (1 ∷ 2 ∷ 3 ∷ []) ((1 ∷ 2 ∷ 3 ∷ []) ∷ []) (plain ∷ []) []

abbrev pub run_table : Table
run_table = keyed_table (codes "run")
    (column (codes "org") Text true ∷ column (codes "ws") Text true ∷ column (codes "number") Integer true ∷ column (codes "plan_only") Integer true
    ∷ column (codes "rkey") Text false ∷ column (codes "message") Text true ∷ column (codes "created") Integer true ∷ column (codes "status") Integer true
    ∷ column (codes "action") Integer false ∷ [])
    (1 ∷ 2 ∷ 3 ∷ []) ((1 ∷ 2 ∷ 3 ∷ []) ∷ (1 ∷ 2 ∷ 5 ∷ []) ∷ []) (plain ∷ plain ∷ [])
    (is_between 8 0 8 ∷ is_between 9 0 6 ∷ [])

-- the pages of texts, each with its key and the number that distinguishes it from others with that key
abbrev pub page_table : Table
page_table = keyed_table (codes "page")
    (column (codes "pkey") Blob true ∷ column (codes "twin") Integer true ∷ column (codes "bytes") Blob true ∷ column (codes "uses") Integer true ∷ [])
    (1 ∷ 2 ∷ []) ((1 ∷ 2 ∷ []) ∷ []) (plain ∷ []) (op2 (Compare Ge Binary) (col 1 4) (lit (Int (pos 1))) ∷ [])

-- Which page is at which place of a version's text. A page that a row names cannot be deleted.
abbrev pub vpage_table : Table
vpage_table = record (keyed_table (codes "vpage")
    (column (codes "org") Text true ∷ column (codes "ws") Text true ∷ column (codes "number") Integer true ∷ column (codes "place") Integer true
    ∷ column (codes "pkey") Blob true ∷ column (codes "twin") Integer true ∷ [])
    (1 ∷ 2 ∷ 3 ∷ 4 ∷ []) ((1 ∷ 2 ∷ 3 ∷ 4 ∷ []) ∷ []) (plain ∷ []) []) {
      references = record {
        columns = 5 ∷ 6 ∷ [];
        parent = codes "page";
        parent_columns = codes "pkey" ∷ codes "twin" ∷ [];
        on_delete = Restrict;
        on_update = NoAction;
        is_deferred = false;
      } ∷ [];
    }

-- the one row of meta has 1 in the column `one`, which is the rowid
abbrev pub meta_table : Table
meta_table = record {
  name = codes "meta";
  tree = 0;
  columns = column (codes "one") Integer false ∷ column (codes "version") Integer true ∷ [];
  key = Some 0;
  primary = 0 ∷ [];
  uniques = [];
  orders = [];
  checks = op2 (Compare Eq Binary) (col 1 0) (lit (Int (pos 1))) ∷ op2 (Compare Eq Binary) (col 1 2) (lit (Int (pos 1))) ∷ [];
  references = [];
  computed = [];
  stamps = record { places = []; terms = []; formats = [] };
  is_counted = false;
}

-- a reference to the row of a token; if that is deleted, so is the row that refers to it
abbrev pub to_token : Reference
to_token = record { columns = 1 ∷ 2 ∷ []; parent = codes "token"; parent_columns = codes "org" ∷ codes "name" ∷ []; on_delete = Cascade; on_update = NoAction; is_deferred = false }

-- For each token, when it expires and the prefix of its workspaces. The row is deleted with the token's.
abbrev pub bound_table : Table
bound_table = record (keyed_table (codes "bound")
    (column (codes "org") Text true ∷ column (codes "name") Text true ∷ column (codes "until") Integer false ∷ column (codes "prefix") Text true ∷ [])
    (1 ∷ 2 ∷ []) ((1 ∷ 2 ∷ []) ∷ []) (plain ∷ []) []) { references = to_token ∷ [] }

-- the one row of edition has 1 in the column `one`, which is the rowid
abbrev pub edition_table : Table
edition_table = record {
  name = codes "edition";
  tree = 0;
  columns = column (codes "one") Integer false ∷ column (codes "version") Integer true ∷ [];
  key = Some 0;
  primary = 0 ∷ [];
  uniques = [];
  orders = [];
  checks = op2 (Compare Eq Binary) (col 1 0) (lit (Int (pos 1))) ∷ op2 (Compare Ge Binary) (col 1 2) (lit (Int (pos 2))) ∷ [];
  references = [];
  computed = [];
  stamps = record { places = []; terms = []; formats = [] };
  is_counted = false;
}

-- a reference to the row of a workspace; if that is deleted, so is the row that refers to it
abbrev pub to_ws : Reference
to_ws = record { columns = 1 ∷ 2 ∷ []; parent = codes "ws"; parent_columns = codes "org" ∷ codes "name" ∷ []; on_delete = Cascade; on_update = NoAction; is_deferred = false }

-- The number of versions that each workspace keeps. The row is deleted with the workspace's.
abbrev pub retention_table : Table
retention_table = record (keyed_table (codes "keeping")
    (column (codes "org") Text true ∷ column (codes "ws") Text true ∷ column (codes "keep") Integer true ∷ [])
    (1 ∷ 2 ∷ []) ((1 ∷ 2 ∷ []) ∷ []) (plain ∷ []) (is_between 3 1 1_000 ∷ [])) { references = to_ws ∷ [] }
