-- What the parts of the list of workspaces mean, each by itself: its columns, the tables that it joins, WHERE and ORDER BY.
use Rattle.statements.proofs.Outside.{◌≡◌, ℕ, ◌+◌, ◌-◌, pos, true, false, List, [], ◌∷◌, ◌++◌, map, length, codes, Option, Some, Ok, refl, Collation, Binary, Int, Eq, Compare, Arith, Term, lit, col, op2, Query, Join, left, end, Schema, Table, Left, Bound, Level, Joined, nothing, Context, outermost, inside, named, lower, within, outputs, left_join, tests, sorts, everything}
use Rattle.sqlite_sql.specs.declared.ops.ArithOp.TheVariants.{Sub}
use Rattle.sqlite_resolve.specs.declared.scope.Output.{Output}
use Rattle.statements.specs.Place.{StandsAt}
use Rattle.statements.specs.Schema.{ws_table, retention_table, version_table}
use Rattle.statements.proofs.SyntaxTrees as st
use Rattle.statements.proofs.Columns.{place_of, orders_of}
use Rattle.statements.proofs.JoinParts.{composed, by_bytes, shown_as, read_so_far, no_tests}
use Rattle.statements.proofs.Listed.{sorted_by}
use Rattle.statements.proofs.Commands.{is_from, is_below, is_at, is_above, point_rest, page_to, joined_draft}

-- a row that a later step of FROM finds is one of the workspace in ws
abbrev pub of_workspace : ℕ → List Term
of_workspace slot = op2 (Compare Eq Binary) (col slot 1) (col 0 0) ∷ op2 (Compare Eq Binary) (col slot 2) (col 1 2) ∷ []

-- and it is that of the version before the next one
abbrev pub of_version_before : ℕ → List Term
of_version_before slot = of_workspace slot ++ op2 (Compare Eq Binary) (col slot 3) (op2 (Arith Sub) (col 1 (place_of ws_table (codes "next_version"))) (lit (Int (pos 1)))) ∷ []

-- the rows of keeping and of version
abbrev pub with_both : ℕ → ℕ → Join
with_both retentions versions = left retentions (of_workspace 2) (left versions (of_version_before 3) end)

abbrev pub list_ws_names : List (List ℕ)
list_ws_names = st.ws_names ++ codes "name" ∷ codes "keep" ∷ codes "number" ∷ st.run_settings_names

abbrev pub list_ws_orders : List (Option Collation)
list_ws_orders = orders_of list_ws_names

-- columns of the table of a step of FROM
abbrev shown_in : ℕ → Table → List (List ℕ) → List Output
shown_in slot table = map (λ name. shown_as name slot (place_of table name))

abbrev pub list_ws_shown : List Output
list_ws_shown =
    shown_in 1 ws_table st.ws_names ++ shown_in 1 ws_table (codes "name" ∷ []) ++ shown_in 2 retention_table (codes "keep" ∷ []) ++ shown_in 3 version_table (codes "number" ∷ [])
    ++ shown_in 1 ws_table st.run_settings_names

abbrev list_ws_project : List Term
list_ws_project = map (λ (o : Output). o.term) list_ws_shown

abbrev pub list_ws_rest : Query
list_ws_rest = point_rest (is_at 1 0 ∷ is_above 2 1 ∷ []) list_ws_project (page_to 2)

abbrev pub list_ws_within_rest : Query
list_ws_within_rest = point_rest (is_at 1 0 ∷ is_above 2 1 ∷ is_from 2 2 ∷ is_below 2 3 ∷ []) list_ws_project (page_to 4)

-- what is left of the resolver's budget behind the columns and so many steps
abbrev left_behind : ℕ → ℕ
left_behind steps = 100_000 - (length list_ws_names + steps)

module _ (s : Schema) (at tree : ℕ) (h : StandsAt s (codes "ws") ws_table at tree) (retention_at retentions : ℕ) (k : StandsAt s (codes "keeping") retention_table retention_at retentions)
    (version_at versions : ℕ) (v : StandsAt s (codes "version") version_table version_at versions) where
  abbrev pub list_ws_tables : List Bound
  list_ws_tables =
      record { name = codes "ws"; table = at; slot = 1; shared = [] } ∷ record { name = codes "keeping"; table = retention_at; slot = 2; shared = [] }
      ∷ record { name = codes "version"; table = version_at; slot = 3; shared = [] } ∷ []

  abbrev pub list_ws_level : List Output → Level
  list_ws_level shown = record { tables = list_ws_tables; shown = shown }

  pub columns_are : outputs lower (within (outermost s) (list_ws_level []) true) list_ws_tables st.list_ws_columns (read_so_far 4 100_000 nothing) ≡ Ok (list_ws_shown, read_so_far 4 (left_behind 0) by_bytes)
  unfolding everything
  columns_are = rw (h.found, k.found, v.found, h.found, k.found, v.found) refl

  -- ON and WHERE, which may name the columns
  abbrev pub list_ws_inside : Context
  list_ws_inside = within (outermost s) (list_ws_level list_ws_shown) false

  pub joins_retention : (done : Joined) → left_join lower list_ws_inside done retentions 2 [] (Some (st.of_workspace (codes "keeping"))) (read_so_far 4 (left_behind 0) by_bytes)
      ≡ Ok (record done { steps = done.steps ++ Left retentions (of_workspace 2) ∷ [] }, read_so_far 4 (left_behind 7) nothing)
  unfolding everything
  joins_retention done = rw (h.found, k.found, k.found, v.found, h.found, k.found, h.found) refl

  pub joins_version : (done : Joined) → left_join lower list_ws_inside done versions 3 [] (Some (st.of_version_before (codes "version"))) (read_so_far 4 (left_behind 7) nothing)
      ≡ Ok (record done { steps = done.steps ++ Left versions (of_version_before 3) ∷ [] }, read_so_far 4 (left_behind 20) nothing)
  unfolding everything
  joins_version done = rw (h.found, k.found, v.found, h.found, v.found, h.found, v.found) refl

  pub those_after : tests lower list_ws_inside [] (Some st.list_ws_test) (read_so_far 4 (left_behind 20) nothing) ≡ Ok (is_at 1 0 ∷ is_above 2 1 ∷ [], read_so_far 4 (left_behind 27) nothing)
  unfolding everything
  those_after = rw (h.found, k.found, h.found, v.found, h.found, h.found) refl

  pub those_within : tests lower list_ws_inside [] (Some st.list_ws_within_test) (read_so_far 4 (left_behind 20) nothing) ≡ Ok (is_at 1 0 ∷ is_above 2 1 ∷ is_from 2 2 ∷ is_below 2 3 ∷ [], read_so_far 4 (left_behind 35) nothing)
  unfolding everything
  those_within = rw (h.found, k.found, h.found, v.found, h.found, h.found) refl

  pub by_name : sorts lower (inside s (list_ws_level list_ws_shown) false) list_ws_shown (st.by_column (codes "name")) (read_so_far 4 (left_behind 27) nothing) ≡ Ok (sorted_by 2, read_so_far 4 (left_behind 28) by_bytes)
  unfolding everything
  by_name = rw (h.found, k.found, v.found, h.found) refl

  pub by_name_within : sorts lower (inside s (list_ws_level list_ws_shown) false) list_ws_shown (st.by_column (codes "name")) (read_so_far 4 (left_behind 35) nothing) ≡ Ok (sorted_by 2, read_so_far 4 (left_behind 36) by_bytes)
  unfolding everything
  by_name_within = rw (h.found, k.found, v.found, h.found) refl

  pub list_ws_named : named s st.list_ws_core (st.by_column (codes "name")) (page_to 2) ≡ Ok ((joined_draft list_ws_rest tree (with_both retentions versions) 2), list_ws_names, list_ws_orders)
  unfolding composed
  list_ws_named = rw (h.named, k.named, v.named, columns_are, h.found, no_tests list_ws_inside (read_so_far 4 (left_behind 0) by_bytes))
      (rw (k.found, joins_retention _, v.found, joins_version _, those_after) (rw (no_tests (inside s (list_ws_level list_ws_shown) false) (read_so_far 4 (left_behind 27) nothing), by_name) refl))

  pub list_ws_within_named : named s st.list_ws_within_core (st.by_column (codes "name")) (page_to 4) ≡ Ok ((joined_draft list_ws_within_rest tree (with_both retentions versions) 2), list_ws_names, list_ws_orders)
  unfolding composed
  list_ws_within_named = rw (h.named, k.named, v.named, columns_are, h.found, no_tests list_ws_inside (read_so_far 4 (left_behind 0) by_bytes))
      (rw (k.found, joins_retention _, v.found, joins_version _, those_within) (rw (no_tests (inside s (list_ws_level list_ws_shown) false) (read_so_far 4 (left_behind 35) nothing), by_name_within) refl))
