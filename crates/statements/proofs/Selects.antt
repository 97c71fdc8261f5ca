-- What a text means that is one SELECT, from what its parts mean.
use Rattle.statements.proofs.Outside.{◌≡◌, ℕ, List, [], Option, Ok, refl, Collation, Core, out-Core, Expr, Sort, out-Select, Term, Query, Draft, Schema, Table, Select, named, paging, first, command, timed, returning, everything}
use Rattle.sqlite_ast.specs.declared.Select as ast
use Rattle.sqlite_ast.specs.declared.Statement.TheVariants as written
use Rattle.sqlite_resolve.specs.Program.{Shown, Building, sources, program}
use Rattle.statements.specs.Place.{StandsAt}
use Rattle.statements.specs.Calls.{IsQuery}
use Rattle.statements.proofs.SyntaxTrees.{select}
use Rattle.statements.proofs.Meaning.{IsText, Means, means, some_parsed}
use Rattle.statements.proofs.Reading.{read_is}
use Rattle.statements.proofs.Writes.{plain_program}

abbrev pub IsSelect : List ℕ → Core → List Sort → Option Expr → Type 0
IsSelect text core order limit = IsText text (written.Select (select core order limit))

-- of any tables
module _ (text : List ℕ) (core : Core) (order : List Sort) (limit : Option Expr) (reads : IsSelect text core order limit) where
  pub asks_query : IsQuery text
  asks_query = (select core order limit, some_parsed (first text), reads)

  module _ (s : Schema) (page : Term × Term) (draft : Draft) (query : Query) (names : List (List ℕ)) (orders : List (Option Collation)) (is_order : (out-Select (select core order limit)).order ≡ order) (pages : paging s (select core order limit) ≡ Ok page)
      (from_tables : (again : Schema → ast.Select → Building Shown) → sources again s (out-Core core).from [] ≡ Ok (s, [])) (is_named : named s core order page ≡ Ok (draft, names, orders))
      (fits : program s [] draft ≡ Ok (plain_program query)) where
    select_is : (base : ℕ) → command s [] base (written.Select (select core order limit)) ≡ Ok (Select (plain_program query) names)
    unfolding everything
    select_is base = read_is s (select core order limit) core order page (draft, names, orders) refl refl refl is_order pages from_tables is_named (plain_program query) fits base

    pub select_means : Means s (Select (plain_program query) names) text
    unfolding timed returning
    select_means = means s text (written.Select (select core order limit)) reads refl (λ _. refl) select_is

-- The text asks this table: it is a SELECT, and in each schema that has the table it means this query, and shows columns of these names.
pub record Asks (table : Table) (text : List ℕ) (query : ℕ → Query) (names : List (List ℕ)) : Type 0 where
  pub is_query : IsQuery text
  pub meaning : (s : Schema) (at tree : ℕ) → StandsAt s table.name table at tree → Means s (Select (plain_program (query tree)) names) text

pub asks : {table : Table} {text : List ℕ} {query : ℕ → Query} {names : List (List ℕ)} (core : Core) (order : List Sort) (limit : Option Expr) (draft : ℕ → Draft) (orders : List (Option Collation)) → IsSelect text core order limit
    → (out-Select (select core order limit)).order ≡ order → ((s : Schema) (tree : ℕ) → paging s (select core order limit) ≡ Ok ((draft tree).limit, (draft tree).offset))
    → ((s : Schema) (again : Schema → ast.Select → Building Shown) → sources again s (out-Core core).from [] ≡ Ok (s, []))
    → ((s : Schema) (at tree : ℕ) → StandsAt s table.name table at tree → named s core order ((draft tree).limit, (draft tree).offset) ≡ Ok (draft tree, names, orders))
    → ((s : Schema) (at tree : ℕ) → StandsAt s table.name table at tree → program s [] (draft tree) ≡ Ok (plain_program (query tree))) → Asks table text query names
asks {table} {text} {query} {names} core order limit draft orders reads is_order pages from_table is_named fits = record {
  is_query = asks_query text core order limit reads;
  meaning = λ s at tree h.
      select_means text core order limit reads s ((draft tree).limit, (draft tree).offset) (draft tree) (query tree) names orders is_order (pages s tree) (from_table s) (is_named s at tree h) (fits s at tree h);
}
