-- What a SELECT from one table means, from what its parts mean.
use Rattle.statements.proofs.Outside.{◌≡◌, ℕ, suc, List, [], Ok, refl, Core, out-Core, Sort, Term, Schema, Program, named, paging, command, read}
use Rattle.sqlite_ast.specs.declared.Select.{Select, out-Select}
use Rattle.sqlite_ast.specs.declared.Statement.TheVariants as written
use Rattle.sqlite_schema.specs.declared.command.Command.TheVariants as made
use Rattle.sqlite_resolve.specs.Program.{Shown, Building, viewing, single, alone, whole, level, with, query_to, query, sources, program}

-- One SELECT over stored tables, with no WITH and no other part. How deep queries nest is left open here, so that no recursion is opened.
module _ (s : Schema) (q : Select) (core : Core) (order : List Sort) (page : Term × Term) (shown : Shown)
    (plain : (out-Select q).with ≡ []) (is_first : (out-Select q).first ≡ core) (no_others : (out-Select q).others ≡ []) (is_order : (out-Select q).order ≡ order) (pages : paging s q ≡ Ok page)
    (from_table : (again : Schema → Select → Building Shown) → sources again s (out-Core core).from [] ≡ Ok (s, [])) (is_named : named s core order page ≡ Ok shown) where
  viewing_is : (again : Schema → Select → Building Shown) (n : ℕ) → viewing again s core order page (suc n) s [] ≡ Ok ((shown, s), [])
  unfolding viewing
  viewing_is again n = rw is_named refl

  single_is : (again : Schema → Select → Building Shown) → single again s core order page [] ≡ Ok ((shown, s), [])
  unfolding single
  single_is again = rw (from_table again, viewing_is again 63) refl

  alone_is : (again : Schema → Select → Building Shown) → alone again s core order page [] ≡ Ok (shown, [])
  unfolding alone
  alone_is again = rw (single_is again) refl

  whole_is : (again : Schema → Select → Building Shown) → whole again s q [] ≡ Ok (shown, [])
  unfolding whole
  whole_is again = rw (pages, no_others, is_first, is_order, alone_is again) refl

  level_is : (again : Schema → Select → Building Shown) → level again s q [] ≡ Ok (shown, [])
  unfolding level with
  level_is again = rw (plain, whole_is again) refl

  pub query_is : query s q ≡ Ok (shown, [])
  unfolding query query_to
  query_is = level_is (query_to 15)

  pub read_is : (p : Program) → program s [] shown.0 ≡ Ok p → (base : ℕ) → command s [] base (written.Select q) ≡ Ok (made.Select p shown.1)
  unfolding command read
  read_is p fits base = rw (query_is, fits) refl
