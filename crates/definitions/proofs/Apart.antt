-- Tables of different names that stand in a schema as they are defined have different trees.
use Rattle.std.proofs.Common.{◌≡◌, ◌≢◌, ℕ, ◌==◌, List, [], ◌∷◌, find, Option, Some, option_map, unwrap_or, Bool, true, not, ◌&&◌, refl, sym, ap, ◌∙◌}
use Rattle.std.specs.Str.{bytes_eq}
use Rattle.std.specs.List.{AllByRecursion}
use Rattle.std.proofs.lemmas.Bool.{true≢false, and_parts, not-true}
use Rattle.std.proofs.lemmas.Slice.Eq.{bytes_eq-Decides}
use Rattle.sqlite_trees.specs.Tree.{IsAscending}
use Rattle.sqlite_schema.specs.declared.schema.Schema.{Schema}
use Rattle.sqlite_schema.specs.declared.schema.Table.{Table}
use Rattle.statements.specs.Place.{tree_of, IsOwn, AreOwn}
use Rattle.statements.specs.Tables.{our_tables, IsOurs}

abbrev pub AreNamedApart : List Table → Type 0
AreNamedApart = IsAscending (λ (a b : Table). a.name ≢ b.name)

module _ (s : Schema) where
  -- the first table of a tree has one name
  two_apart : (a b : Table) → IsOwn s a → IsOwn s b → a.name ≢ b.name → tree_of s a.name ≢ tree_of s b.name
  two_apart a b x y other same =
      let first : Some (record a { tree = tree_of s a.name }) ≡ Some (record b { tree = tree_of s b.name }) =
      sym x.place.treed ∙ ap (λ (n : ℕ). find (λ (t : Table). t.tree == n) s.tables) same ∙ y.place.treed in
      other (ap (λ (o : Option Table). unwrap_or (option_map (λ (t : Table). t.name) o) []) first)

  all_apart : (a : Table) (tables : List Table) → IsOwn s a → AllByRecursion (IsOwn s) tables → AllByRecursion (λ (b : Table). a.name ≢ b.name) tables → AllByRecursion (λ (b : Table). tree_of s a.name ≢ tree_of s b.name) tables
  all_apart a [] x ys other = tt
  all_apart a (b ∷ tables) x ys other = (two_apart a b x ys.0 other.0, all_apart a tables x ys.1 other.1)

  own_apart : (tables : List Table) → AreNamedApart tables → AllByRecursion (IsOwn s) tables → IsAscending (λ (a b : Table). tree_of s a.name ≢ tree_of s b.name) tables
  own_apart [] other own = tt
  own_apart (a ∷ tables) other own = (all_apart a tables own.0 own.1 other.0, own_apart tables other.1 own.1)

  pub are_own : (tables : List Table) → AreNamedApart tables → AllByRecursion (IsOwn s) tables → AreOwn s tables
  are_own tables other own = record { own = own; apart = own_apart tables other own }

-- whether the names differ, as a test that is computed
abbrev is_apart : List ℕ → List Table → Bool
is_apart name [] = true
is_apart name (t ∷ tables) = not (bytes_eq name t.name) && is_apart name tables

abbrev are_apart : List Table → Bool
are_apart [] = true
are_apart (t ∷ tables) = is_apart t.name tables && are_apart tables

one_apart : (name : List ℕ) (tables : List Table) → is_apart name tables ≡ true → AllByRecursion (λ (b : Table). name ≢ b.name) tables
one_apart name [] test = tt
one_apart name (t ∷ tables) test =
    let both = and_parts _ _ test in
    ((λ same. absurd (true≢false (sym ((bytes_eq-Decides name t.name).1 same) ∙ not-true _ both.0))), one_apart name tables both.1)

named_apart : (tables : List Table) → are_apart tables ≡ true → AreNamedApart tables
named_apart [] test = tt
named_apart (t ∷ tables) test = let both = and_parts _ _ test in (one_apart t.name tables both.0, named_apart tables both.1)

pub our_own : (s : Schema) → AllByRecursion (IsOwn s) our_tables → IsOurs s
our_own s own = are_own s our_tables (named_apart our_tables refl) own
