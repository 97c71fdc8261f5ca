-- Rows still belong to others after a change of either.
use Rattle.tables.proofs.Outside.{◌≡◌, ℕ, Bool, true, false, not, ◌||◌, cond, List, [], ◌∷◌, ◌++◌, refl, sym, ap, subst, ◌∙◌, AllByRecursion, list_any, false_from_ne_true, update_where, delete_where, all_weaker, all_both, all-filter, all-append, apart_update, apart_delete, Kept, Owned, OrgRow, is_of, is_org, with_it, AreNamedApart, AreOfOrgs, AreAmong, all_updated, apart_pushed, all_deleted}
use Rattle.tables.proofs.Lists.{any_updated}
use Rattle.tables.proofs.Names.{is_pair, pair_is, pair_first, pair_second, pair_apart}

module _ {X : Type 0} where
  any_left : (q p : X → Bool) → ((x : X) → p x ≡ true → q x ≡ false) → (xs : List X) → list_any q (delete_where p xs) ≡ list_any q xs
  any_left q p apart [] = refl
  any_left q p apart (x ∷ xs) = go (p x) refl (any_left q p apart xs)
    where
      go : (b : Bool) → p x ≡ b → list_any q (delete_where p xs) ≡ list_any q xs → list_any q (cond (not b) (x ∷ delete_where p xs) (delete_where p xs)) ≡ (q x || list_any q xs)
      go true e more = more ∙ sym (ap (λ (b : Bool). b || list_any q xs) (apart x e))
      go false e more = ap (λ (b : Bool). q x || b) more

  pub any_pushed : (q : X → Bool) (xs : List X) (x : X) → list_any q xs ≡ true → list_any q (xs ++ x ∷ []) ≡ true
  any_pushed q [] x e = absurd (let none : ⊥ = cc in none)
  any_pushed q (y ∷ ys) x e = go (q y) e (any_pushed q ys x)
    where
      go : (b : Bool) → (b || list_any q ys) ≡ true → (list_any q ys ≡ true → list_any q (ys ++ x ∷ []) ≡ true) → (b || list_any q (ys ++ x ∷ [])) ≡ true
      go true e more = refl
      go false e more = more e

  last_found : (p : X → Bool) (xs : List X) (x : X) → p x ≡ true → list_any p (xs ++ x ∷ []) ≡ true
  last_found p [] x e = ap (λ (b : Bool). b || false) e
  last_found p (y ∷ ys) x e = go (p y) (last_found p ys x e)
    where
      go : (b : Bool) → list_any p (ys ++ x ∷ []) ≡ true → (b || list_any p (ys ++ x ∷ [])) ≡ true
      go true more = refl
      go false more = more

pub pair_turned : (a b p q : List ℕ) → is_pair a b p q ≡ false → is_pair p q a b ≡ false
pair_turned a b p q e = false_from_ne_true (is_pair p q a b) (λ same.
    let none : ⊥ = cc (sym (subst (λ (x : List ℕ). is_pair a b x q ≡ true) (pair_first p q a b same) (subst (λ (y : List ℕ). is_pair a b a y ≡ true) (pair_second p q a b same) (pair_is a b))) ∙ e) in none)

-- ---- rows of one table

module _ {T : Type 0} (xs : List (Kept (Owned T))) where
  -- the other columns of rows change, but not their names
  pub apart_changed : (p : Kept (Owned T) → Bool) (f : T → T) → AreNamedApart xs → AreNamedApart (update_where p (with_it f) xs)
  apart_changed p f = apart_update (λ a b. is_of a.1.org a.1.name b) p (with_it f) (λ a b. refl) (λ a b. refl) xs

  pub apart_gone : (p : Kept (Owned T) → Bool) → AreNamedApart xs → AreNamedApart (delete_where p xs)
  apart_gone p = apart_delete (λ a b. is_of a.1.org a.1.name b) p xs

  -- one more row, whose name no other has
  pub apart_more : (x : Kept (Owned T)) → AllByRecursion (λ y. is_of x.1.org x.1.name y ≡ false) xs → AreNamedApart xs → AreNamedApart (xs ++ x ∷ [])
  apart_more x none apart = apart_pushed (λ a b. is_of a.1.org a.1.name b) xs x apart
      (all_weaker (λ y. is_of x.1.org x.1.name y ≡ false) (λ y. is_of y.1.org y.1.name x ≡ false) (λ y e. pair_turned x.1.org x.1.name y.1.org y.1.name e) xs none)

  module _ (orgs : List (Kept OrgRow)) where
    pub of_orgs_changed : (p : Kept (Owned T) → Bool) (f : T → T) → AreOfOrgs orgs xs → AreOfOrgs orgs (update_where p (with_it f) xs)
    of_orgs_changed p f = all_updated (λ x. list_any (is_org x.1.org) orgs ≡ true) p (with_it f) (λ x h. h) xs

    pub of_orgs_gone : (p : Kept (Owned T) → Bool) → AreOfOrgs orgs xs → AreOfOrgs orgs (delete_where p xs)
    of_orgs_gone p = all-filter (λ x. list_any (is_org x.1.org) orgs ≡ true) (λ x. not (p x)) xs

    pub of_orgs_more : (x : Kept (Owned T)) → list_any (is_org x.1.org) orgs ≡ true → AreOfOrgs orgs xs → AreOfOrgs orgs (xs ++ x ∷ [])
    of_orgs_more x there owned = all-append (λ y. list_any (is_org y.1.org) orgs ≡ true) xs (x ∷ []) owned (there, tt)

    -- other organizations, which include those of before
    pub of_other_orgs : (others : List (Kept OrgRow)) → ((org : List ℕ) → list_any (is_org org) orgs ≡ true → list_any (is_org org) others ≡ true) → AreOfOrgs orgs xs → AreOfOrgs others xs
    of_other_orgs others still = all_weaker (λ x. list_any (is_org x.1.org) orgs ≡ true) (λ x. list_any (is_org x.1.org) others ≡ true) (λ x. still x.1.org) xs

-- ---- rows of two tables

module _ {S T : Type 0} (others : List (Kept (Owned S))) (xs : List (Kept (Owned T))) where
  pub among_changed : (p : Kept (Owned S) → Bool) (f : S → S) → AreAmong others xs → AreAmong (update_where p (with_it f) others) xs
  among_changed p f = all_weaker (λ x. list_any (is_of x.1.org x.1.name) others ≡ true) (λ x. list_any (is_of x.1.org x.1.name) (update_where p (with_it f) others) ≡ true)
      (λ x h. any_updated (is_of x.1.org x.1.name) p (with_it f) (λ y. refl) others ∙ h) xs

  pub changed_among : (p : Kept (Owned T) → Bool) (f : T → T) → AreAmong others xs → AreAmong others (update_where p (with_it f) xs)
  changed_among p f = all_updated (λ x. list_any (is_of x.1.org x.1.name) others ≡ true) p (with_it f) (λ x h. h) xs

  pub among_more : (y : Kept (Owned S)) → AreAmong others xs → AreAmong (others ++ y ∷ []) xs
  among_more y = all_weaker (λ x. list_any (is_of x.1.org x.1.name) others ≡ true) (λ x. list_any (is_of x.1.org x.1.name) (others ++ y ∷ []) ≡ true) (λ x h. any_pushed (is_of x.1.org x.1.name) others y h) xs

  pub more_among : (x : Kept (Owned T)) → list_any (is_of x.1.org x.1.name) others ≡ true → AreAmong others xs → AreAmong others (xs ++ x ∷ [])
  more_among x there among = all-append (λ y. list_any (is_of y.1.org y.1.name) others ≡ true) xs (x ∷ []) among (there, tt)

  -- the rows of one name are removed from the others, if no row belongs to them
  pub among_left : (org name : List ℕ) → AllByRecursion (λ x. is_of org name x ≡ false) xs → AreAmong others xs → AreAmong (delete_where (is_of org name) others) xs
  among_left org name none among = all_both (λ x. list_any (is_of x.1.org x.1.name) others ≡ true) (λ x. is_of org name x ≡ false) (λ x. list_any (is_of x.1.org x.1.name) (delete_where (is_of org name) others) ≡ true)
      (λ x h e. any_left (is_of x.1.org x.1.name) (is_of org name) (λ y f. pair_apart org name x.1.org x.1.name y.1.org y.1.name e f) others ∙ h) xs among none

-- one more row, and one more that belongs to it
pub both_more : {S T : Type 0} (others : List (Kept (Owned S))) (xs : List (Kept (Owned T))) (y : Kept (Owned S)) (x : Kept (Owned T)) → is_of x.1.org x.1.name y ≡ true → AreAmong others xs → AreAmong (others ++ y ∷ []) (xs ++ x ∷ [])
both_more others xs y x is among = more_among (others ++ y ∷ []) xs x (last_found (is_of x.1.org x.1.name) others y is) (among_more others xs y among)

-- the rows of one name are removed from both
pub both_left : {S T : Type 0} (others : List (Kept (Owned S))) (xs : List (Kept (Owned T))) (org name : List ℕ) → AreAmong others xs → AreAmong (delete_where (is_of org name) others) (delete_where (is_of org name) xs)
both_left others xs org name among =
    among_left others (delete_where (is_of org name) xs) org name (all_deleted (is_of org name) xs) (all-filter (λ x. list_any (is_of x.1.org x.1.name) others ≡ true) (λ x. not (is_of org name x)) xs among)
