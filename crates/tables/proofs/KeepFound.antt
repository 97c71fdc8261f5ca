-- What is found by more than one query.
use Rattle.std.proofs.Common.{◌≡◌, ℕ, List, Option, Some, None, is_some, IsSome, IfSome, option_map, Ok, sym, ap, ◌∙◌, subst}
use Rattle.std.specs.Option.{unwrap_or}
use Rattle.sqlite_trees.specs.declared.store.Store.{Ghosts}
use Rattle.sqlite.specs.Held.{Held}
use Rattle.basis.specs.declared.roles.Bounds.{Bounds}
use Rattle.machine.specs.declared.keeps.TokenRow.{TokenRow}
use Rattle.statements.specs.declared.rows.NamedRole.{NamedRole}
use Rattle.statements.specs.declared.rows.BoundedRole.{BoundedRole}
use Rattle.statements.specs.Finds.{bound_of, IsBoundedRoleOf}
use Rattle.statements.specs.Steps.{Equals, Sees}
use Rattle.statements.specs.Tables.{Tables}
use Rattle.tables.specs.Records.{caller_with, no_bounds, IsBound}
use Rattle.tables.specs.Inner.Lists.{token_row_in, asker_in}
use Rattle.texts.proofs.Many.{sees_then, sees_as}

module _ {S : Type 0} (g : Ghosts S) where
  -- what two looks, one after the other, find
  pub seen_both : {X Y E F : Type 0} (P : X → Tables → Type 0) (Q : Y → Tables → Type 0) (a b c : Held S) (x : X) (y : Y) → Sees {E = E} g P a b (Ok x) → Sees {E = F} g Q b c (Ok y) → Sees {E = F} g (λ z t. P x t × Q z t) a c (Ok y)
  seen_both P Q a b c x y one two = sees_then g P Q (λ z t. P x t × Q z t) a b c x (Ok y) (λ z t p q. (p, q)) one two

  -- and four
  module _ {P Q R T X : Type 0} (E F G H I : Type 0) (p : Tables → P) (q : Tables → Q) (r : Tables → R) (s : Tables → T) (make : P → Q → R → T → X) (x : P) (y : Q) (z : R) (w : T) (a b c d e : Held S) where
    pub seen_four : Sees {E = E} g (Equals p) a b (Ok x) → Sees {E = F} g (Equals q) b c (Ok y) → Sees {E = G} g (Equals r) c d (Ok z) → Sees {E = H} g (Equals s) d e (Ok w)
        → Sees {E = I} g (Equals (λ t. make (p t) (q t) (r t) (s t))) a e (Ok (make x y z w))
    seen_four one two three four =
        let first = seen_both (Equals p) (Equals q) a b c x y one two in
        let second = seen_both (λ v t. Equals p x t × Equals q v t) (Equals r) a c d y z first three in
        let third = seen_both (λ v t. (Equals p x t × Equals q y t) × Equals r v t) (Equals s) a d e z w second four in
        sees_as g (λ v t. ((Equals p x t × Equals q y t) × Equals r z t) × Equals s v t) (Equals (λ t. make (p t) (q t) (r t) (s t))) a e w (make x y z w) (λ t reported i. make (reported.0.0.0 i) (reported.0.0.1 i) (reported.0.1 i) (reported.1 i)) third

  -- what is found by what was found first
  pub seen_by_first : {P Q X : Type 0} (E F G : Type 0) (p : Tables → P) (q : P → Tables → Q) (make : P → Q → X) (x : P) (y : Q) (a b c : Held S)
      → Sees {E = E} g (Equals p) a b (Ok x) → Sees {E = F} g (Equals (q x)) b c (Ok y) → Sees {E = G} g (Equals (λ t. make (p t) (q (p t) t))) a c (Ok (make x y))
  seen_by_first E F G p q make x y a b c one two =
      sees_as g (λ v t. Equals p x t × Equals (q x) v t) (Equals (λ t. make (p t) (q (p t) t))) a c y (make x y) (λ t reported. ap (make x) reported.1 ∙ (λ i. make (reported.0 i) (q (reported.0 i) t))) (seen_both (Equals p) (Equals (q x)) a b c x y one two)

  -- what is looked up for a row that was found
  pub seen_mapped : {A X : Type 0} (E F G : Type 0) (q : Tables → Option A) (f : Tables → A → X) (x : A) (y : X) (o : Option A) (a b d : Held S) → o ≡ Some x
      → Sees {E = E} g (Equals q) a b (Ok o) → Sees {E = F} g (Equals (λ t. f t x)) b d (Ok y) → Sees {E = G} g (Equals (λ t. option_map (f t) (q t))) a d (Ok (Some y))
  seen_mapped E F G q f x y o a b d is one two =
      sees_as g (λ v t. Equals q o t × Equals (λ u. f u x) v t) (Equals (λ t. option_map (f t) (q t))) a d y (Some y) (λ t reported. ap Some reported.1 ∙ ap (option_map (f t)) (sym is ∙ reported.0)) (seen_both (Equals q) (Equals (λ t. f t x)) a b d o y one two)

-- ---- a token has its row of bound

abbrev pub asker_by : BoundedRole → TokenRow
asker_by b = record { name = b.token.name; caller = caller_with b.token.role b.bounds }

module _ (org digest : List ℕ) (t : Tables) where
  -- the token that was found with how far it reaches is who asks
  pub asker_found : (found : Option BoundedRole) → IsBoundedRoleOf org digest found t → option_map asker_by found ≡ asker_in org digest t
  asker_found None reported = ap (option_map (token_row_in org t)) reported.0
  asker_found (Some b) reported =
      ap (λ (o : Option Bounds). Some (asker_by (record b { bounds = unwrap_or o no_bounds }))) (sym reported.1) ∙ ap (option_map (token_row_in org t)) reported.0

  pub bound_found : (found : Option BoundedRole) → IsBoundedRoleOf org digest found t → IsBound org digest t
  bound_found None reported = subst (λ (o : Option NamedRole). IfSome o (λ x. IsSome (bound_of org x.name t))) reported.0 tt
  bound_found (Some b) reported = subst (λ (o : Option NamedRole). IfSome o (λ x. IsSome (bound_of org x.name t))) reported.0 (ap is_some reported.1)
