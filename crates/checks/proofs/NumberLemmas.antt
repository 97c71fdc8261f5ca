-- Numbers that are sorted.
use Rattle.checks.proofs.Outside.{◌≡◌, ℕ, suc, List, [], ◌∷◌, refl, sym, ap, ◌∙◌, arith, Ordering, Less, Equal, Greater, is_gt, is_eq, nat_cmp, IsPermutation, IsSorted, add-one, AllByRecursion, nat_cmp_total, unsigned_tied, eqb-true, ordering_reverse, upto, sort_by, insert_sorted, all_weaker, along_permutation, AtMost, sorted_as_is, put_in_turn}
use Rattle.sqlite_trees.specs.Tree.{IsAscending}
use Rattle.statements.proofs.Prefixes.{not_gt_back}

below_all : (x : ℕ) (ys : List ℕ) → IsSorted nat_cmp (x ∷ ys) → IsAscending (AtMost nat_cmp) ys → AllByRecursion (AtMost nat_cmp x) ys
below_all x [] sorted up = tt
below_all x (y ∷ ys) sorted up =
    let first : AtMost nat_cmp x y = ap is_gt (nat_cmp_total.antisymm x y) ∙ not_gt_back _ (sorted 0 x (omega arith) (omega arith)) in
    (first, all_weaker _ (AtMost nat_cmp x) (λ z. upto nat_cmp_total x y z first) ys up.0)

ascending : (xs : List ℕ) → IsSorted nat_cmp xs → IsAscending (AtMost nat_cmp) xs
ascending [] sorted = tt
ascending (x ∷ xs) sorted =
    let tail : IsSorted nat_cmp xs = λ k d p q. rw add-one (rw add-one at (sorted (suc k) d (omega arith) (omega arith))) in
    let up = ascending xs tail in
    (below_all x xs sorted up, up)

-- numbers are put in in any order
put_either : (x y : ℕ) (l : List ℕ) → insert_sorted nat_cmp x (insert_sorted nat_cmp y l) ≡ insert_sorted nat_cmp y (insert_sorted nat_cmp x l)
put_either x y l = go (nat_cmp x y) refl
  where
    go : (o : Ordering) → nat_cmp x y ≡ o → insert_sorted nat_cmp x (insert_sorted nat_cmp y l) ≡ insert_sorted nat_cmp y (insert_sorted nat_cmp x l)
    go Less f = put_in_turn nat_cmp nat_cmp_total y x (nat_cmp_total.antisymm y x ∙ ap ordering_reverse f) l
    go Equal f = let same : x ≡ y = eqb-true x y (sym (unsigned_tied x y) ∙ ap is_eq f) in ap (λ z. insert_sorted nat_cmp x (insert_sorted nat_cmp z l)) (sym same) ∙ ap (λ z. insert_sorted nat_cmp z (insert_sorted nat_cmp x l)) same
    go Greater f = sym (put_in_turn nat_cmp nat_cmp_total x y f l)

pub sorted_along : (ns ms : List ℕ) → IsPermutation ns ms → sort_by nat_cmp ns ≡ sort_by nat_cmp ms
sorted_along = along_permutation (λ ns ms. sort_by nat_cmp ns ≡ sort_by nat_cmp ms) (λ xs. refl)
    (λ x xs ys more. ap (insert_sorted nat_cmp x) more)
    (λ x y xs. put_either x y (sort_by nat_cmp xs))
    (λ xs ys zs one two. one ∙ two)

-- a sorted list of the same numbers is that which insertion makes
pub sorted_is : (ns ms : List ℕ) → IsPermutation ns ms → IsSorted nat_cmp ms → ms ≡ sort_by nat_cmp ns
sorted_is ns ms same up = sym (sorted_as_is nat_cmp ms (ascending ms up)) ∙ sym (sorted_along ns ms same)
