-- A table of ours that follows another one: its rows go where rows of that one go, and no other write elsewhere changes them.
use Rattle.statements.proofs.Outside.{◌≡◌, ◌≢◌, inr, ◌⊎◌, ℕ, zero, suc, ◌+◌, ◌<◌, Bool, true, false, cond, List, [], ◌∷◌, find, slice_get, Option, Some, None, option_map, option_and_then, refl, sym, ap, ◌∙◌, subst, arith, ⊤, AllByRecursion, position_from, Order, Reference, Schema, Table, same_name, ParentKey, key_in, key_places, declared_order, all_weaker}
use Rattle.statements.specs.Place.{RefersPassively, IsOwn, at_of, tree_of}
use Rattle.statements.specs.Schema.{token_table, ws_table, bound_table, retention_table}
use Rattle.statements.proofs.Lead.{GoesTo}

-- each reference of the table is passive or goes to the parent, whose own are passive
pub record Follows (s : Schema) (parent other : Table) : Type 0 where
  pub own : IsOwn s parent
  pub passive : RefersPassively parent
  pub goes : AllByRecursion (GoesTo s (tree_of s parent.name)) other.references

-- a write elsewhere changes no row of the table, or it is to the one that the table follows
abbrev pub IsSteady : Schema → Table → Type 0
IsSteady s table = RefersPassively table ⊎ ((parent : Table) × Follows s parent table × (tree_of s parent.name ≢ tree_of s table.name))

-- what is kept in a table's tree refers as the table does
pub there : (P : Reference → Type 0) (s : Schema) (table : Table) → IsOwn s table → AllByRecursion P table.references → AllByRecursion (λ (t : Table). t.tree ≡ tree_of s table.name → AllByRecursion P t.references) s.tables
there P s table own h =
    all_weaker (λ (t : Table). t.tree ≡ tree_of s table.name → t.references ≡ table.references) (λ (t : Table). t.tree ≡ tree_of s table.name → AllByRecursion P t.references)
    (λ t refers same. subst (AllByRecursion P) (sym (refers same)) h) s.tables own.refers

module _ {X : Type 0} (p : X → Bool) where
  -- the first that passes stands at the first place that does
  first_at : (n at : ℕ) (xs : List X) → position_from p n xs ≡ Some at → (i : ℕ) × (at ≡ n + i) × (find p xs ≡ slice_get xs i)
  first_at n at [] h = absurd (cc)
  first_at n at (x ∷ xs) h = go (p x) h (first_at (n + 1) at xs)
    where
      go : (b : Bool) → cond b (Some n) (position_from p (n + 1) xs) ≡ Some at → (position_from p (n + 1) xs ≡ Some at → (i : ℕ) × (at ≡ n + 1 + i) × (find p xs ≡ slice_get xs i))
          → (i : ℕ) × (at ≡ n + i) × (cond b (Some x) (find p xs) ≡ slice_get (x ∷ xs) i)
      go true e more = let same : n ≡ at = cc in (0, omega arith, refl)
      go false e more = let it = more e in (suc it.0, let same = it.1 in omega arith, it.2)

-- the table that a name means is the first of the name
pub named_first : (s : Schema) (table : Table) → IsOwn s table → find (λ (t : Table). same_name t.name table.name) s.tables ≡ Some (record table { tree = tree_of s table.name })
named_first s table own =
    let it = first_at (λ (t : Table). same_name t.name table.name) 0 (at_of s table.name) s.tables own.place.named in
    let place : it.0 ≡ at_of s table.name = let same = it.1 in omega arith in
    it.2 ∙ ap (slice_get s.tables) place ∙ own.place.found

-- a key of a table is in its tree
key_tree : (t : Table) (names : List (List ℕ)) (key : ParentKey) → option_and_then (key_in t) (key_places t names) ≡ Some key → key.0 ≡ t.tree
key_tree t names key h = go (key_places t names) h
  where
    in_order : (places : List ℕ) (o : Option Order) → option_map (λ (d : Order). (t.tree, places, d)) o ≡ Some key → key.0 ≡ t.tree
    in_order places None e = absurd (cc)
    in_order places (Some d) e = let same : (t.tree, places, d) ≡ key = cc in sym (ap (λ (k : ParentKey). k.0) same)

    go : (o : Option (List ℕ)) → option_and_then (key_in t) o ≡ Some key → key.0 ≡ t.tree
    go None e = absurd (cc)
    go (Some places) e = in_order places (declared_order t places) e

-- a reference to a name goes to the tree of the table that the name means
pub goes_to : (s : Schema) (parent : Table) (ref : Reference) → IsOwn s parent → ref.parent ≡ parent.name → GoesTo s (tree_of s parent.name) ref
goes_to s parent ref own is = inr (λ key reported. key_tree (record parent { tree = tree_of s parent.name }) ref.parent_columns key (
    sym (ap (option_and_then (λ t. option_and_then (key_in t) (key_places t ref.parent_columns))) (ap (λ name. find (λ (t : Table). same_name t.name name) s.tables) is ∙ named_first s parent own)) ∙ reported))

pub follows_by : (s : Schema) (parent table : Table) → IsOwn s parent → RefersPassively parent → AllByRecursion (λ (ref : Reference). ref.parent ≡ parent.name) table.references → Follows s parent table
follows_by s parent table own passive refs = record { own = own; passive = passive; goes = all_weaker (λ (ref : Reference). ref.parent ≡ parent.name) (GoesTo s (tree_of s parent.name)) (λ ref is. goes_to s parent ref own is) table.references refs }

pub bound_follows : (s : Schema) → IsOwn s token_table → Follows s token_table bound_table
bound_follows s own = follows_by s token_table bound_table own tt (refl, tt)

pub retention_follows : (s : Schema) → IsOwn s ws_table → Follows s ws_table retention_table
retention_follows s own = follows_by s ws_table retention_table own tt (refl, tt)

-- ---- which of several follows which

-- the references of the table at a place are passive, or go to one before it, whose own are
abbrev pub IsFollowing : List Table → ℕ → Table → Option ℕ → Type 0
IsFollowing all n table None = RefersPassively table
IsFollowing all n table (Some m) = (m < n) × (parent : Table) × (slice_get all m ≡ Some parent) × RefersPassively parent × AllByRecursion (λ (ref : Reference). ref.parent ≡ parent.name) table.references

abbrev pub AllFollow : List Table → ℕ → List Table → List (Option ℕ) → Type 0
AllFollow all n [] [] = ⊤
AllFollow all n [] (o ∷ os) = ⊥
AllFollow all n (x ∷ xs) [] = ⊥
AllFollow all n (x ∷ xs) (o ∷ os) = IsFollowing all n x o × AllFollow all (suc n) xs os

pub follow_at : (all : List Table) (k : ℕ) (ts : List Table) (os : List (Option ℕ)) → AllFollow all k ts os → (n : ℕ) (table : Table) → slice_get ts n ≡ Some table → (o : Option ℕ) × IsFollowing all (n + k) table o
follow_at all k [] os f n table at = absurd (cc)
follow_at all k (t ∷ ts) [] f n table at = absurd f
follow_at all k (t ∷ ts) (o ∷ os) f zero table at =
    let is : t ≡ table = cc in
    let here : k ≡ 0 + k = omega arith in
    (o, subst (λ m. IsFollowing all m table o) here (subst (λ u. IsFollowing all k u o) is f.0))
follow_at all k (t ∷ ts) (o ∷ os) f (suc n) table at =
    let it = follow_at all (suc k) ts os f.1 n table at in
    let on : n + suc k ≡ suc n + k = omega arith in
    (it.0, subst (λ m. IsFollowing all m table it.0) on it.1)
