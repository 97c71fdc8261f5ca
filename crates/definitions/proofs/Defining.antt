-- The tables that texts define, one behind the other.
use Rattle.std.proofs.Common.{◌≡◌, ◌+◌, ◌<◌, ◌≤◌, ℕ, zero, suc, List, [], ◌∷◌, ◌++◌, take, length, get_or, Ok, ap, ◌∙◌, arith}
use Rattle.std.specs.Borrow.{Bor}
use Rattle.std.specs.List.{AllZip}
use Rattle.std.proofs.lemmas.List.{take_all, length-map}
use Rattle.std.proofs.lemmas.Slice.Zip.{AllZip-long}
use Rattle.sqlite_schema.specs.declared.schema.Table.{Table}
use Rattle.sqlite_resolve.specs.Compile.{table_defined_by}
use Rattle.statements.specs.Inner.Making.{IsDefinedBy, texts_in}

-- the table of the next text stands behind those of the texts before it
pub next_defined : (texts : List (Bor (List ℕ))) (tables : List Table) (i : ℕ) (text : Bor (List ℕ)) (made : Table) → AllZip IsDefinedBy (texts_in texts) tables → i < length texts
    → table_defined_by (get_or texts i text).now ≡ Ok made → take i tables ++ made ∷ [] ≡ take (i + 1) tables
next_defined [] tables i text made are low is = absurd (omega (arith, low))
next_defined (t ∷ texts) [] i text made are low is = absurd are
next_defined (t ∷ texts) (x ∷ tables) zero text made are low is =
    let same : made ≡ x = cc in
    ap (λ y. y ∷ []) same
next_defined (t ∷ texts) (x ∷ tables) (suc i) text made are low is =
    let one_on : suc (i + 1) ≡ suc i + 1 = omega arith in
    ap (λ l. x ∷ l) (next_defined texts tables i text made are.1 (omega arith) is) ∙ ap (λ k. take k (x ∷ tables)) one_on

-- where no text is next, all tables are there
pub all_defined : (texts : List (Bor (List ℕ))) (tables : List Table) (i : ℕ) → AllZip IsDefinedBy (texts_in texts) tables → length texts ≤ i → take i tables ≡ tables
all_defined texts tables i are high = take_all i tables (omega (arith, high, AllZip-long IsDefinedBy (texts_in texts) tables are, length-map texts (λ (t : Bor (List ℕ)). t.now)))
