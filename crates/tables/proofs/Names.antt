-- Tests of rows by names.
use Rattle.tables.proofs.Outside.{◌≡◌, ◌≢◌, ℕ, true, false, List, refl, sym, subst, ◌∙◌, bytes_eq, eq_by_cmp, eq_by_cmp_equiv, false_from_ne_true, and_from, first_of_both, second_of_both, equal_bytes, name_cmp, names_total, apart_from}
use Rattle.std.proofs.lemmas.Map.Text.{is_eq-slice_cmp}
use Rattle.std.proofs.lemmas.Slice.Eq.{bytes_eq-Decides}
pub use Rattle.tables.specs.Inner.Standing.{is_pair}

pub name_is : (a : List ℕ) → bytes_eq a a ≡ true
name_is a = (bytes_eq-Decides a a).1 refl

pub apart_name : (a b : List ℕ) → a ≢ b → bytes_eq a b ≡ false
apart_name a b apart = false_from_ne_true (bytes_eq a b) (λ e. apart (equal_bytes a b e))

pub turned_apart : (a b : List ℕ) → bytes_eq a b ≡ false → bytes_eq b a ≡ false
turned_apart a b apart = apart_name b a (λ same. apart_from a b apart (sym same))

pub pair_first : (a b p q : List ℕ) → is_pair a b p q ≡ true → p ≡ a
pair_first a b p q e = equal_bytes p a (first_of_both _ _ e)

pub pair_second : (a b p q : List ℕ) → is_pair a b p q ≡ true → q ≡ b
pair_second a b p q e = equal_bytes q b (second_of_both _ _ e)

pub pair_is : (a b : List ℕ) → is_pair a b a b ≡ true
pair_is a b = and_from (bytes_eq a a) (bytes_eq b b) (name_is a) (name_is b)

-- a pair that is one is no other
pub pair_apart : (org ws a b p q : List ℕ) → is_pair org ws a b ≡ false → is_pair org ws p q ≡ true → is_pair a b p q ≡ false
pair_apart org ws a b p q other is = false_from_ne_true (is_pair a b p q) (λ e.
    let none : ⊥ = cc (sym (subst (λ (x : List ℕ). is_pair org ws x b ≡ true) (pair_first a b p q e) (subst (λ (y : List ℕ). is_pair org ws p y ≡ true) (pair_second a b p q e) is)) ∙ other) in none)

-- the order of names ties at equal names alone
pub tied : (q k : List ℕ) → eq_by_cmp name_cmp q k ≡ bytes_eq k q
tied q k = (eq_by_cmp_equiv names_total).symm q k ∙ is_eq-slice_cmp k q
