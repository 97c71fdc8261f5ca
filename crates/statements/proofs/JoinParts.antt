-- The parts of a query that joins tables, each by itself: together they are more than one `rw` takes.
use Rattle.statements.proofs.Outside.{◌≡◌, ℕ, true, false, List, [], Some, None, Ok, refl, Binary, col, take_slot, Context, named, parts, having, assembled, ungrouped, lower, sorts, keys}
use Rattle.sqlite_ast.specs.declared.Expr.TheViews.{out-Core, roll-Core, out-Source, roll-Source}
use Rattle.sqlite_ast.specs.declared.Expr.TheBlock.{hidden-the_row-Source-5, shown-the_row-Source-5, hidden-the_row-Shown-4, shown-the_row-Shown-4, hidden-the_row-Expr-0, shown-the_row-Expr-0, hidden-the_row-Expr-1, shown-the_row-Expr-1}
use denote.Hole.Carrier.{out, roll, shown, hidden}
use Rattle.sqlite_resolve.specs.declared.scope.Output.{Output}
use Rattle.sqlite_resolve.specs.declared.state.Carried.{Carried}
use Rattle.sqlite_resolve.specs.declared.state.State.{State}
use Rattle.sqlite_resolve.specs.Body.{tests, body, bounds, bound, table_in, result, matching, joins, join, inner_join, shared}

-- what unfolds where the parts are put together, and not inside of them
unfoldable pub composed : Unit {0}
unfolding
    named parts having assembled ungrouped body bounds bound table_in result matching joins join inner_join shared take_slot keys
    out-Core roll-Core out-Source roll-Source hidden-the_row-Source-5 shown-the_row-Source-5 hidden-the_row-Shown-4 shown-the_row-Shown-4 hidden-the_row-Expr-0 shown-the_row-Expr-0 hidden-the_row-Expr-1 shown-the_row-Expr-1 out roll shown hidden
composed = tt

-- what a column carries
abbrev pub by_bytes : Carried
by_bytes = record { collation = Some Binary; is_written = false }

abbrev pub shown_as : List ℕ → ℕ → ℕ → Output
shown_as name slot place = record { name = name; is_alias = false; is_column = true; term = col slot place; carried = by_bytes }

-- the resolver's state behind FROM: the first free slot, how much of its budget is left, and what was read last
abbrev pub read_so_far : ℕ → ℕ → Carried → State
read_so_far free budget last = record { next = free; steps = []; aggregates = []; budget = budget; written = None; last = last }

pub no_tests : (cx : Context) (so_far : State) → tests lower cx [] None so_far ≡ Ok ([], so_far)
unfolding tests
no_tests cx so_far = refl

pub no_sorts : (cx : Context) (shown : List Output) (so_far : State) → sorts lower cx shown [] so_far ≡ Ok ([], so_far)
unfolding sorts
no_sorts cx shown so_far = refl
