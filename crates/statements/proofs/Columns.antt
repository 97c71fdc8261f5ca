-- What texts show, set and insert of a table, by the names of its columns.
use Rattle.statements.proofs.Outside.{ℕ, suc, cond, List, [], ◌∷◌, map, Option, Some, position_or_len, bytes_eq, Null, Collation, Binary, Term, lit, col, Table}
use Rattle.sqlite_schema.specs.declared.schema.Column.{Column}

abbrev pub names_of : List Column → List (List ℕ)
names_of = map (λ (c : Column). c.name)

-- where a row has the column of a name, behind its rowid, which stands at 0
abbrev pub place_of : Table → List ℕ → ℕ
place_of table name = suc (position_or_len (λ (c : Column). bytes_eq c.name name) table.columns)

-- the columns of these names, and their sort orders
abbrev pub shown_of : Table → List (List ℕ) → List Term
shown_of table = map (λ name. col 1 (place_of table name))

abbrev pub orders_of : List (List ℕ) → List (Option Collation)
orders_of = map (λ name. Some Binary)

-- these columns are parameters, the first of them the one at this place
abbrev pub given_from : ℕ → List (List ℕ) → List (List ℕ × Term)
given_from n [] = []
given_from n (name ∷ names) = (name, col 0 n) ∷ given_from (suc n) names

-- what is given for a name, or else another term
abbrev pub given_or : Term → List ℕ → List (List ℕ × Term) → Term
given_or other name [] = other
given_or other name (x ∷ given) = cond (bytes_eq x.0 name) x.1 (given_or other name given)

-- the cells of a new row, its rowid in front: those that aren't given are Null
abbrev pub new_cells : Table → List (List ℕ × Term) → List Term
new_cells table given = lit Null ∷ map (λ (c : Column). given_or (lit Null) c.name given) table.columns

-- the cells of a row in which some are set: the others stay
abbrev pub cells_with : Table → List (List ℕ × Term) → List Term
cells_with table given = map (λ (c : Column). given_or (col 1 (place_of table c.name)) c.name given) table.columns
