-- The statements as they are written, without the blanks of their texts.
use Rattle.std.specs.Prelude.{ℕ, suc, Bool, true, false, List, [], ◌∷◌, ◌++◌, map, zip, codes, Option, Some, None}
use Rattle.statements.proofs.Outside.{Expr, Sort, roll-Sort, Statement}
use Rattle.sqlite_ast.specs.declared.Expr.TheVariants.{Column, Parameter, Integer, Text, Null, CallStar, Binary as Two}
use Rattle.sqlite_ast.specs.declared.Binary.TheVariants.{And, Eq, Lt, Gt, Ge, Sub}
use Rattle.sqlite_ast.specs.declared.Conflict.TheVariants.{Abort}
use Rattle.sqlite_ast.specs.declared.Rows.TheVariants.{Values, Select as Selected}
use Rattle.sqlite_ast.specs.declared.Origin.TheVariants.{Table}
use Rattle.sqlite_ast.specs.declared.Source.{Source, roll-Source}
use Rattle.sqlite_ast.specs.declared.Shown.{Shown}
use Rattle.sqlite_ast.specs.declared.Shown.TheVariants.{One}
use Rattle.sqlite_ast.specs.declared.Core.{Core, roll-Core}
use Rattle.sqlite_ast.specs.declared.Select.{Select, roll-Select}
use Rattle.sqlite_ast.specs.declared.Statement.TheVariants as written
use Rattle.statements.specs.Schema.{run_settings_columns}
use Rattle.statements.proofs.Columns.{names_of}

abbrev pub named : List ℕ → Expr
named column = Column None column

-- a column is the parameter of this number
abbrev pub is_given : List ℕ → ℕ → Expr
is_given column n = Two Eq (named column) (Parameter n)

abbrev pub also : Expr → Expr → Expr
also = Two And

-- the two columns are the first two parameters
abbrev pub at_key : List ℕ → List ℕ → Expr
at_key a b = also (is_given a 1) (is_given b 2)

-- a parameter for each of these columns, the first of this number
abbrev pub parameters : ℕ → List (List ℕ) → List Expr
parameters n [] = []
parameters n (name ∷ names) = Parameter n ∷ parameters (suc n) names

abbrev pub zero : Expr
zero = Integer (codes "0")

abbrev pub one : Expr
one = Integer (codes "1")

abbrev pub four : Expr
four = Integer (codes "4")

abbrev pub update : List ℕ → List (List ℕ × Expr) → Expr → Statement
update table sets test = written.Update table sets (Some test) []

abbrev pub delete : List ℕ → Expr → Statement
delete table test = written.Delete table (Some test) []

abbrev pub insert : List ℕ → List (List ℕ) → List Expr → Statement
insert table columns values = written.Insert Abort table columns (Values (values ∷ [])) [] []

abbrev pub shown_columns : List (List ℕ) → List Shown
shown_columns = map (λ name. One (named name) None name)

abbrev pub from_table : List Shown → List ℕ → Expr → Core
from_table shown table test =
    roll-Core (record { distinct = false; shown = shown; from = roll-Source (record { is_left = false; origin = Table table; alias = None; on = None; using = [] }) ∷ []; filter = Some test; group = []; having = None })

abbrev pub from_all : List Shown → List ℕ → Core
from_all shown table =
    roll-Core (record { distinct = false; shown = shown; from = roll-Source (record { is_left = false; origin = Table table; alias = None; on = None; using = [] }) ∷ []; filter = None; group = []; having = None })

-- a column is above the parameter of this number
abbrev pub is_above : List ℕ → ℕ → Expr
is_above column n = Two Gt (named column) (Parameter n)

abbrev pub by_column : List ℕ → List Sort
by_column column = roll-Sort (record { key = named column; descending = false; nulls_first = None }) ∷ []

abbrev pub by_rowid : Bool → List Sort
by_rowid descending = roll-Sort (record { key = named (codes "rowid"); descending = descending; nulls_first = None }) ∷ []

abbrev pub by_column_and_rowid : List ℕ → Bool → List Sort
by_column_and_rowid column descending = roll-Sort (record { key = named column; descending = descending; nulls_first = None }) ∷ by_rowid descending

abbrev pub select : Core → List Sort → Option Expr → Select
select core order limit = roll-Select (record { with = []; first = core; others = []; order = order; limit = limit; offset = None })

-- the columns of a workspace that say how runs go, and the others besides its key
abbrev pub run_settings_names : List (List ℕ)
run_settings_names = names_of run_settings_columns

abbrev pub ws_names : List (List ℕ)
ws_names = codes "kind" ∷ codes "lock_id" ∷ codes "lock_text" ∷ codes "run" ∷ codes "released" ∷ codes "next_version" ∷ codes "next_run" ∷ []

abbrev pub find_ws_core : Core
find_ws_core = from_table (shown_columns (ws_names ++ run_settings_names)) (codes "ws") (at_key (codes "org") (codes "name"))

abbrev pub add_ws : Statement
add_ws =
    insert (codes "ws") (codes "org" ∷ codes "name" ∷ (run_settings_names ++ codes "kind" ∷ codes "next_version" ∷ codes "next_run" ∷ []))
    (Parameter 1 ∷ Parameter 2 ∷ (parameters 3 run_settings_names ++ zero ∷ one ∷ one ∷ []))

abbrev pub set_run_settings : Statement
set_run_settings = update (codes "ws") (zip run_settings_names (parameters 3 run_settings_names)) (at_key (codes "org") (codes "name"))

abbrev pub hold : Statement
hold = update (codes "ws") ((codes "kind", Parameter 3) ∷ (codes "lock_id", Parameter 4) ∷ (codes "lock_text", Parameter 5) ∷ (codes "run", Parameter 6) ∷ []) (at_key (codes "org") (codes "name"))

abbrev pub release_lock : Statement
release_lock = update (codes "ws") ((codes "kind", zero) ∷ (codes "lock_id", Null) ∷ (codes "lock_text", Null) ∷ (codes "run", Null) ∷ (codes "released", Parameter 3) ∷ []) (at_key (codes "org") (codes "name"))

abbrev pub set_next_version : Statement
set_next_version = update (codes "ws") ((codes "next_version", Parameter 3) ∷ []) (at_key (codes "org") (codes "name"))

abbrev pub set_next_run : Statement
set_next_run = update (codes "ws") ((codes "next_run", Parameter 3) ∷ []) (at_key (codes "org") (codes "name"))

abbrev pub remove_ws : Statement
remove_ws = delete (codes "ws") (at_key (codes "org") (codes "name"))

abbrev pub count_ws_core : Core
count_ws_core = from_table (One (CallStar (codes "count")) None (codes "count(*)") ∷ []) (codes "ws") (is_given (codes "org") 1)

abbrev pub newest_version_core : Core
newest_version_core = from_table (shown_columns (codes "number" ∷ codes "serial" ∷ codes "lineage" ∷ codes "created" ∷ codes "size" ∷ [])) (codes "version") (at_key (codes "org") (codes "ws"))

abbrev pub oldest_below_core : Core
oldest_below_core = from_table (shown_columns (codes "number" ∷ codes "serial" ∷ codes "lineage" ∷ codes "created" ∷ codes "size" ∷ [])) (codes "version") (also (at_key (codes "org") (codes "ws")) (Two Lt (named (codes "number")) (Parameter 3)))

abbrev pub version_size_core : Core
version_size_core = from_table (shown_columns (codes "size" ∷ [])) (codes "version") (also (at_key (codes "org") (codes "ws")) (is_given (codes "number") 3))

abbrev pub add_version : Statement
add_version = insert (codes "version") (codes "org" ∷ codes "ws" ∷ codes "number" ∷ codes "serial" ∷ codes "lineage" ∷ codes "created" ∷ codes "size" ∷ []) (Parameter 1 ∷ Parameter 2 ∷ Parameter 3 ∷ Parameter 4 ∷ Parameter 5 ∷ Parameter 6 ∷ Parameter 7 ∷ [])

abbrev pub remove_version : Statement
remove_version = delete (codes "version") (also (at_key (codes "org") (codes "ws")) (is_given (codes "number") 3))

abbrev pub add_token : Statement
add_token = insert (codes "token") (codes "org" ∷ codes "name" ∷ codes "digest" ∷ codes "role" ∷ []) (Parameter 1 ∷ Parameter 2 ∷ Parameter 3 ∷ Parameter 4 ∷ [])

abbrev pub token_role_core : Core
token_role_core = from_table (shown_columns (codes "role" ∷ [])) (codes "token") (also (is_given (codes "org") 1) (is_given (codes "digest") 2))

abbrev pub named_token_role_core : Core
named_token_role_core = from_table (shown_columns (codes "role" ∷ [])) (codes "token") (at_key (codes "org") (codes "name"))

abbrev pub list_digest_tokens_core : Core
list_digest_tokens_core = from_table (shown_columns (codes "name" ∷ codes "digest" ∷ codes "role" ∷ [])) (codes "token") (is_given (codes "org") 1)

abbrev pub find_bound_core : Core
find_bound_core = from_table (shown_columns (codes "until" ∷ codes "prefix" ∷ [])) (codes "bound") (at_key (codes "org") (codes "name"))

abbrev pub bound_columns : List (List ℕ)
bound_columns = codes "org" ∷ codes "name" ∷ codes "until" ∷ codes "prefix" ∷ []

abbrev pub add_bound : Statement
add_bound = insert (codes "bound") bound_columns (Parameter 1 ∷ Parameter 2 ∷ Parameter 3 ∷ Parameter 4 ∷ [])

abbrev pub remove_bound : Statement
remove_bound = delete (codes "bound") (at_key (codes "org") (codes "name"))

abbrev pub fill_bounds_core : Core
fill_bounds_core = from_all (One (named (codes "org")) None (codes "org") ∷ One (named (codes "name")) None (codes "name") ∷ One Null None (codes "NULL") ∷ One (Text []) None (codes "''") ∷ []) (codes "token")

abbrev pub fill_bounds : Statement
fill_bounds = written.Insert Abort (codes "bound") bound_columns (Selected (select fill_bounds_core (by_rowid false) None)) [] []

abbrev pub find_retention_core : Core
find_retention_core = from_table (shown_columns (codes "keep" ∷ [])) (codes "keeping") (at_key (codes "org") (codes "ws"))

abbrev pub retention_columns : List (List ℕ)
retention_columns = codes "org" ∷ codes "ws" ∷ codes "keep" ∷ []

abbrev pub add_retention : Statement
add_retention = insert (codes "keeping") retention_columns (Parameter 1 ∷ Parameter 2 ∷ Parameter 3 ∷ [])

abbrev pub set_retention : Statement
set_retention = update (codes "keeping") ((codes "keep", Parameter 3) ∷ []) (at_key (codes "org") (codes "ws"))

abbrev pub remove_retention : Statement
remove_retention = delete (codes "keeping") (at_key (codes "org") (codes "ws"))

abbrev pub fill_retentions_core : Core
fill_retentions_core = from_all (One (named (codes "org")) None (codes "org") ∷ One (named (codes "name")) None (codes "name") ∷ One (Integer (codes "100")) None (codes "100") ∷ []) (codes "ws")

abbrev pub fill_retentions : Statement
fill_retentions = written.Insert Abort (codes "keeping") retention_columns (Selected (select fill_retentions_core (by_rowid false) None)) [] []

abbrev pub clear_schema_version : Statement
clear_schema_version = written.Delete (codes "meta") None []

abbrev pub remove_token : Statement
remove_token = delete (codes "token") (at_key (codes "org") (codes "name"))

abbrev pub add_org : Statement
add_org = insert (codes "org") (codes "name" ∷ codes "cap" ∷ []) (Parameter 1 ∷ Parameter 2 ∷ [])

abbrev pub org_cap_core : Core
org_cap_core = from_table (shown_columns (codes "cap" ∷ [])) (codes "org") (is_given (codes "name") 1)

abbrev pub set_cap : Statement
set_cap = update (codes "org") ((codes "cap", Parameter 2) ∷ []) (is_given (codes "name") 1)

abbrev pub remove_org : Statement
remove_org = delete (codes "org") (is_given (codes "name") 1)

abbrev pub list_orgs_core : Core
list_orgs_core = from_all (shown_columns (codes "name" ∷ codes "cap" ∷ [])) (codes "org")

-- a column of a table
abbrev pub named_of : List ℕ → List ℕ → Expr
named_of table column = Column (Some table) column

-- a table that is joined, where no more than one of its rows is to match
abbrev pub joined_left : List ℕ → Expr → Source
joined_left table on = roll-Source (record { is_left = true; origin = Table table; alias = None; on = Some on; using = [] })

-- the token of a digest, with its row of bound
abbrev pub find_token_columns : List Shown
find_token_columns = One (named_of (codes "token") (codes "name")) None (codes "token.name") ∷ shown_columns (codes "role" ∷ codes "until" ∷ codes "prefix" ∷ [])

abbrev pub of_token : Expr
of_token = also (Two Eq (named_of (codes "bound") (codes "org")) (Parameter 1)) (Two Eq (named_of (codes "bound") (codes "name")) (named_of (codes "token") (codes "name")))

-- the tokens that pass, each with its row of bound
abbrev pub tokens_joined : Expr → Core
tokens_joined test =
    let token = roll-Source (record { is_left = false; origin = Table (codes "token"); alias = None; on = None; using = [] }) in
    roll-Core (record { distinct = false; shown = find_token_columns; from = token ∷ joined_left (codes "bound") of_token ∷ []; filter = Some test; group = []; having = None })

abbrev pub list_tokens_test : Expr
list_tokens_test = Two Eq (named_of (codes "token") (codes "org")) (Parameter 1)

abbrev pub list_tokens_core : Core
list_tokens_core = tokens_joined list_tokens_test

abbrev pub by_token_name : List Sort
by_token_name = roll-Sort (record { key = named_of (codes "token") (codes "name"); descending = false; nulls_first = None }) ∷ []

abbrev pub find_token_test : Expr
find_token_test = also list_tokens_test (is_given (codes "digest") 2)

abbrev pub find_token_core : Core
find_token_core = tokens_joined find_token_test

-- the row is one of the workspace, by its columns of these names
abbrev pub of_workspace : List ℕ → Expr
of_workspace table = also (Two Eq (named_of table (codes "org")) (Parameter 1)) (Two Eq (named_of table (codes "ws")) (named (codes "name")))

-- and it is that of the version before the next one
abbrev pub of_version_before : List ℕ → Expr
of_version_before table = also (of_workspace table) (Two Eq (named (codes "number")) (Two Sub (named (codes "next_version")) one))

-- the workspaces, each with how many versions it keeps and the version before its next one
abbrev pub from_ws_joined : List Shown → Expr → Core
from_ws_joined shown test =
    let ws = roll-Source (record { is_left = false; origin = Table (codes "ws"); alias = None; on = None; using = [] }) in
    let keeping = joined_left (codes "keeping") (of_workspace (codes "keeping")) in
    let version = joined_left (codes "version") (of_version_before (codes "version")) in
    roll-Core (record { distinct = false; shown = shown; from = ws ∷ keeping ∷ version ∷ []; filter = Some test; group = []; having = None })

abbrev pub list_ws_columns : List Shown
list_ws_columns = shown_columns (ws_names ++ codes "name" ∷ codes "keep" ∷ codes "number" ∷ run_settings_names)

abbrev pub list_ws_test : Expr
list_ws_test = also (Two Eq (named_of (codes "ws") (codes "org")) (Parameter 1)) (is_above (codes "name") 2)

abbrev pub list_ws_core : Core
list_ws_core = from_ws_joined list_ws_columns list_ws_test

abbrev pub list_ws_within_test : Expr
list_ws_within_test = also (also list_ws_test (Two Ge (named (codes "name")) (Parameter 3))) (Two Lt (named (codes "name")) (Parameter 4))

abbrev pub list_ws_within_core : Core
list_ws_within_core = from_ws_joined list_ws_columns list_ws_within_test

abbrev pub list_names_core : Core
list_names_core = from_table (shown_columns (codes "name" ∷ [])) (codes "ws") (is_given (codes "org") 1)

abbrev pub list_versions_core : Core
list_versions_core = from_table (shown_columns (codes "number" ∷ codes "serial" ∷ codes "lineage" ∷ codes "created" ∷ codes "size" ∷ [])) (codes "version") (also (at_key (codes "org") (codes "ws")) (is_above (codes "number") 3))

abbrev pub first_waiting_core : Core
first_waiting_core = from_table (shown_columns (codes "number" ∷ [])) (codes "run") (also (also (at_key (codes "org") (codes "ws")) (Two Eq (named (codes "status")) zero)) (Two Eq (named (codes "plan_only")) zero))

abbrev pub run_status_core : Core
run_status_core = from_table (shown_columns (codes "status" ∷ [])) (codes "run") (also (at_key (codes "org") (codes "ws")) (is_given (codes "number") 3))

abbrev pub run_columns : List Shown
run_columns = shown_columns (codes "number" ∷ codes "plan_only" ∷ codes "rkey" ∷ codes "message" ∷ codes "created" ∷ codes "status" ∷ codes "action" ∷ [])

abbrev pub find_run_core : Core
find_run_core = from_table run_columns (codes "run") (also (at_key (codes "org") (codes "ws")) (is_given (codes "number") 3))

abbrev pub find_keyed_run_core : Core
find_keyed_run_core = from_table run_columns (codes "run") (also (at_key (codes "org") (codes "ws")) (is_given (codes "rkey") 3))

abbrev pub list_runs_core : Core
list_runs_core = from_table run_columns (codes "run") (also (at_key (codes "org") (codes "ws")) (is_above (codes "number") 3))

abbrev pub count_open_runs_core : Core
count_open_runs_core = from_table (One (CallStar (codes "count")) None (codes "count(*)") ∷ []) (codes "run") (also (at_key (codes "org") (codes "ws")) (Two Lt (named (codes "status")) four))

abbrev pub set_run_status : Statement
set_run_status = update (codes "run") ((codes "status", Parameter 4) ∷ []) (also (at_key (codes "org") (codes "ws")) (is_given (codes "number") 3))

abbrev pub record_action : Statement
record_action = update (codes "run") ((codes "status", Parameter 4) ∷ (codes "action", Parameter 5) ∷ []) (also (at_key (codes "org") (codes "ws")) (is_given (codes "number") 3))

abbrev pub add_run : Statement
add_run = insert (codes "run") (codes "org" ∷ codes "ws" ∷ codes "number" ∷ codes "plan_only" ∷ codes "rkey" ∷ codes "message" ∷ codes "created" ∷ codes "status" ∷ codes "action" ∷ []) (Parameter 1 ∷ Parameter 2 ∷ Parameter 3 ∷ Parameter 4 ∷ Parameter 5 ∷ Parameter 6 ∷ Parameter 7 ∷ Parameter 8 ∷ Parameter 9 ∷ [])

abbrev pub remove_runs : Statement
remove_runs = delete (codes "run") (at_key (codes "org") (codes "ws"))
