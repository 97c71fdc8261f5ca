-- The queries that the texts stand for.
use Rattle.statements.proofs.Outside.{ℕ, pos, negsuc, Bool, false, List, [], ◌∷◌, Some, None, Int, Collation, Binary, Term, lit, col, op2, Query, Join, inner, end, CountRows, Eq, Lt, Gt, Ge, Compare, Draft}
use Rattle.statements.proofs.Answered.{by_rowid, by_column_and_rowid}
use Rattle.statements.proofs.Listed.{sorted_by}

-- a column is a parameter, each by its place
abbrev pub is_at : ℕ → ℕ → Term
is_at column parameter = op2 (Compare Eq Binary) (col 1 column) (col 0 parameter)

abbrev pub is_below : ℕ → ℕ → Term
is_below column parameter = op2 (Compare Lt Binary) (col 1 column) (col 0 parameter)

abbrev pub is_above : ℕ → ℕ → Term
is_above column parameter = op2 (Compare Gt Binary) (col 1 column) (col 0 parameter)

abbrev pub is_from : ℕ → ℕ → Term
is_from column parameter = op2 (Compare Ge Binary) (col 1 column) (col 0 parameter)

abbrev pub is_number : ℕ → ℕ → Term
is_number column n = op2 (Compare Eq Binary) (col 1 column) (lit (Int (pos n)))

abbrev pub is_under : ℕ → ℕ → Term
is_under column n = op2 (Compare Lt Binary) (col 1 column) (lit (Int (pos n)))

abbrev pub simple_query : ℕ → List Term → List Term → Query
simple_query tree filter project = record {
  from = inner tree end;
  filter = filter;
  group = None;
  project = project;
  distinct = false;
  collations = [];
  order = [];
  limit = lit (Int (negsuc 0));
  offset = lit (Int (pos 0));
}

abbrev pub update_query : ℕ → List Term → List Term → Query
update_query tree filter cells = simple_query tree filter (col 1 0 ∷ col 1 0 ∷ cells)

abbrev pub delete_query : ℕ → List Term → Query
delete_query tree filter = simple_query tree filter (col 1 0 ∷ [])

-- LIMIT and OFFSET
abbrev pub no_page : Term × Term
no_page = (lit (Int (negsuc 0)), lit (Int (pos 0)))

abbrev pub one_page : Term × Term
one_page = (lit (Int (pos 1)), lit (Int (pos 0)))

-- as many rows as a parameter says
abbrev pub page_to : ℕ → Term × Term
page_to parameter = (col 0 parameter, lit (Int (pos 0)))

-- WHERE, the columns that are shown, and the page
abbrev pub point_rest : List Term → List Term → Term × Term → Query
point_rest filter project page = record (simple_query 0 filter project) { limit = page.0; offset = page.1 }

abbrev pub point_draft : Query → ℕ → Bool → Draft
point_draft rest tree descending = record {
  from = inner tree end;
  filter = rest.filter;
  group = None;
  project = rest.project;
  distinct = false;
  collations = [];
  order = by_rowid descending;
  limit = rest.limit;
  offset = rest.offset;
}

-- in the order of a column, in which two rows may have one value
abbrev pub ranked_draft : Query → ℕ → ℕ → Bool → Draft
ranked_draft rest tree column descending = record (point_draft rest tree descending) { order = by_column_and_rowid column descending }

-- in the order of a column
abbrev pub listing_draft : Query → ℕ → ℕ → Draft
listing_draft rest tree column = record (point_draft rest tree false) { order = sorted_by column }

-- with what further steps of FROM add to each row
abbrev pub joined_draft : Query → ℕ → Join → ℕ → Draft
joined_draft rest tree more column = record (listing_draft rest tree column) { from = inner tree more }

-- in no order
abbrev pub matching_draft : Query → ℕ → Join → Draft
matching_draft rest tree more = record (joined_draft rest tree more 0) { order = [] }

abbrev pub tally_draft : Query → ℕ → Collation → Term → Draft
tally_draft rest tree collation argument = record {
  from = inner tree end;
  filter = rest.filter;
  group = Some (record { keys = []; collations = []; aggregates = record { op = CountRows; distinct = false; collation = collation; argument = argument } ∷ []; having = [] });
  project = col 1 0 ∷ [];
  distinct = false;
  collations = [];
  order = [];
  limit = rest.limit;
  offset = rest.offset;
}
