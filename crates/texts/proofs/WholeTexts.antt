-- The query that a text is read by: how it is written, and what it means in each schema that has the tables vpage and page.
use Rattle.texts.proofs.Outside.{ℕ, false, List, [], ◌∷◌, codes, Some, None, refl, Binary, Eq, Compare, Term, col, op2, Query, Join, left, end, Schema, Select, Expr, everything, StandsAt, vpage_table, page_table, IsQuery, Means, IsSelect, asks_query, select_means, plain_program, joined_listing, is_at, point_rest, joined_draft, no_page}
use Rattle.sqlite_ast.specs.declared.Expr.TheVariants.{Binary as Two}
use Rattle.sqlite_ast.specs.declared.Binary.TheVariants as sign
use Rattle.sqlite_ast.specs.declared.Origin.TheVariants.{Table}
use Rattle.sqlite_ast.specs.declared.Source.{roll-Source}
use Rattle.sqlite_ast.specs.declared.Core.{Core, roll-Core}
use Rattle.statements.proofs.SyntaxTrees as st
use Rattle.texts.specs.declared.reading.TheConstants.{TEXT_PIECES}

-- the row of page is the one that the row of vpage names
abbrev same_column : List ℕ → Expr
same_column name = Two sign.Eq (st.named_of (codes "page") name) (st.named_of (codes "vpage") name)

abbrev whole_core : Core
whole_core =
    let vpage = roll-Source (record { is_left = false; origin = Table (codes "vpage"); alias = None; on = None; using = [] }) in
    let page = st.joined_left (codes "page") (st.also (same_column (codes "pkey")) (same_column (codes "twin"))) in
    let test = st.also (st.at_key (codes "org") (codes "ws")) (st.is_given (codes "number") 3) in
    roll-Core (record { distinct = false; shown = st.shown_columns (codes "place" ∷ codes "bytes" ∷ []); from = vpage ∷ page ∷ []; filter = Some test; group = []; having = None })

whole_reads : IsSelect TEXT_PIECES.now whole_core (st.by_column (codes "place")) None
unfolding everything
whole_reads = refl

pub whole_is_query : IsQuery TEXT_PIECES.now
whole_is_query = asks_query TEXT_PIECES.now whole_core (st.by_column (codes "place")) None whole_reads

abbrev pub names_it : List Term
names_it = op2 (Compare Eq Binary) (col 2 1) (col 1 5) ∷ op2 (Compare Eq Binary) (col 2 2) (col 1 6) ∷ []

abbrev pub with_page : ℕ → Join
with_page pages = left pages names_it end

abbrev pub whole_rest : Query
whole_rest = point_rest (is_at 1 0 ∷ is_at 2 1 ∷ is_at 3 2 ∷ []) (col 1 4 ∷ col 2 3 ∷ []) no_page

abbrev pub whole_names : List (List ℕ)
whole_names = codes "place" ∷ codes "bytes" ∷ []

module _ (s : Schema) (at tree : ℕ) (h : StandsAt s (codes "vpage") vpage_table at tree) (page_at pages : ℕ) (k : StandsAt s (codes "page") page_table page_at pages) where
  pub whole_means : Means s (Select (plain_program (joined_listing whole_rest tree (with_page pages) 4)) whole_names) TEXT_PIECES.now
  unfolding everything
  whole_means =
      select_means TEXT_PIECES.now whole_core (st.by_column (codes "place")) None whole_reads s no_page (joined_draft whole_rest tree (with_page pages) 4) (joined_listing whole_rest tree (with_page pages) 4) whole_names (Some Binary ∷ Some Binary ∷ []) refl refl (λ again. refl)
      (rw (h.named, k.named, h.found, k.found, h.found, k.found) (rw (h.found, k.found, h.found, k.found, h.found) refl)) (rw (h.low, k.low, h.treed, k.treed) refl)
