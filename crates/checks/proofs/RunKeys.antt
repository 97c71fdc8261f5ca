-- The keys of runs that a set has seen.
use Rattle.checks.proofs.Outside.{◌≡◌, ℕ, Bool, true, false, not, cond, ◌&&◌, ◌||◌, List, [], ◌∷◌, refl, sym, ap, ◌∙◌, Option, Some, None, IfSome, IsTrue, IsPermutation, ◌↔◌, and_assoc, AllByRecursion, list_all, bytes_eq, and_from, not-true, nat_list_eq_equiv, along_permutation, KeysDiffer}
use Rattle.basis.specs.declared.rows.RunRow.{RunRow as Run}
use Rattle.checks.specs.Runs.{is_other, is_that, have_others, keys_differ, is_new}
use Rattle.checks.proofs.TestLemmas.{both, all_tests}

pub either : (a b : Bool) → cond a true b ≡ (a || b)
either true b = refl
either false b = refl

abbrev pub is_unseen : (List ℕ → Bool) → Run → Bool
is_unseen seen r = is_new seen r.key

-- where no key was seen, all are new
pub all_unseen : (seen : List ℕ → Bool) → ((q : List ℕ) → seen q ≡ false) → (rs : List Run) → list_all (is_unseen seen) rs ≡ true
all_unseen seen none [] = refl
all_unseen seen none (r ∷ rs) = and_from (is_unseen seen r) (list_all (is_unseen seen) rs) (go r.key) (all_unseen seen none rs)
  where
    go : (k : Option (List ℕ)) → is_new seen k ≡ true
    go None = refl
    go (Some k) = ap not (none k)

same_new : (seen now : List ℕ → Bool) → ((q : List ℕ) → now q ≡ seen q) → (k : Option (List ℕ)) → is_new now k ≡ is_new seen k
same_new seen now same None = refl
same_new seen now same (Some k) = ap not (same k)

-- four tests in another order
mixed : (a b c d : Bool) → ((a && b) && (c && d)) ≡ ((a && c) && (b && d))
mixed true true c d = refl
mixed true false true d = refl
mixed true false false d = refl
mixed false b c d = refl

neither : (a b : Bool) → not (a || b) ≡ (not b && not a)
neither true true = refl
neither true false = refl
neither false true = refl
neither false false = refl

module _ (seen now : List ℕ → Bool) (key : List ℕ) (added : (q : List ℕ) → now q ≡ (bytes_eq key q || seen q)) where
  still_new : (k : Option (List ℕ)) → is_new now k ≡ (is_new seen k && is_other key k)
  still_new None = refl
  still_new (Some k) = ap not (added k) ∙ neither (bytes_eq key k) (seen k)

  still_unseen : (rs : List Run) → list_all (is_unseen now) rs ≡ (list_all (is_unseen seen) rs && have_others (Some key) rs)
  still_unseen [] = refl
  still_unseen (r ∷ rs) = (λ i. still_new r.key i && still_unseen rs i) ∙ mixed (is_new seen r.key) (is_other key r.key) (list_all (is_unseen seen) rs) (have_others (Some key) rs)

-- one run more was looked at: the keys that are left are compared with one more
pub one_more : (r : Run) (rs : List Run) (seen now : List ℕ → Bool) → ((q : List ℕ) → now q ≡ (is_that q r.key || seen q)) → is_new seen r.key ≡ true
    → (list_all (is_unseen now) rs && keys_differ rs) ≡ (list_all (is_unseen seen) (r ∷ rs) && keys_differ (r ∷ rs))
one_more r rs seen now = go r.key
  where
    go : (k : Option (List ℕ)) → ((q : List ℕ) → now q ≡ (is_that q k || seen q)) → is_new seen k ≡ true
        → (list_all (is_unseen now) rs && keys_differ rs) ≡ ((is_new seen k && list_all (is_unseen seen) rs) && (have_others k rs && keys_differ rs))
    go None added fresh = λ i. list_all (λ (s : Run). same_new seen now added s.key i) rs && keys_differ rs
    go (Some key) added fresh =
        ap (λ b. b && keys_differ rs) (still_unseen seen now key added rs)
        ∙ and_assoc (list_all (is_unseen seen) rs) (have_others (Some key) rs) (keys_differ rs)
        ∙ ap (λ b. (b && list_all (is_unseen seen) rs) && (have_others (Some key) rs && keys_differ rs)) (sym fresh)

-- ---- the law

others_tests : (key : Option (List ℕ)) (rs : List Run) → IsTrue (have_others key rs) ↔ IfSome key (λ k. AllByRecursion (λ (s : Run). IfSome s.key (λ other. bytes_eq k other ≡ false)) rs)
others_tests None rs = (λ e. tt, λ h. refl)
others_tests (Some key) rs = all_tests (λ (s : Run). is_other key s.key) (λ (s : Run). IfSome s.key (λ other. bytes_eq key other ≡ false)) (λ s. other s.key) rs
  where
    other : (k : Option (List ℕ)) → IsTrue (is_other key k) ↔ IfSome k (λ o. bytes_eq key o ≡ false)
    other None = (λ e. tt, λ h. refl)
    other (Some o) = (not-true (bytes_eq key o), ap not)

pub keys_tests : (rs : List Run) → IsTrue (keys_differ rs) ↔ KeysDiffer rs
keys_tests [] = (λ e. tt, λ law. refl)
keys_tests (r ∷ rs) = both (others_tests r.key rs) (keys_tests rs)

-- keys that differ do so in any order
swapped : (a b : Run) (rs : List Run) → keys_differ (a ∷ b ∷ rs) ≡ keys_differ (b ∷ a ∷ rs)
swapped a b rs = go a.key b.key
  where
    go : (k l : Option (List ℕ)) → (have_others k (record b { key = l } ∷ rs) && (have_others l rs && keys_differ rs)) ≡ (have_others l (record a { key = k } ∷ rs) && (have_others k rs && keys_differ rs))
    go None None = refl
    go None (Some l) = refl
    go (Some k) None = refl
    go (Some k) (Some l) =
        turned (bytes_eq k l) (bytes_eq l k) (have_others (Some k) rs) (have_others (Some l) rs) (keys_differ rs) (nat_list_eq_equiv.symm k l)
      where
        turned : (d e m n o : Bool) → d ≡ e → ((not d && m) && (n && o)) ≡ ((not e && n) && (m && o))
        turned d e m n o same = ap (λ x. (not x && m) && (n && o)) same ∙ by e m n
          where
            by : (e m n : Bool) → ((not e && m) && (n && o)) ≡ ((not e && n) && (m && o))
            by true m n = refl
            by false true true = refl
            by false true false = refl
            by false false true = refl
            by false false false = refl

others_more : (key : Option (List ℕ)) (r : Run) (xs ys : List Run) → have_others key xs ≡ have_others key ys → have_others key (r ∷ xs) ≡ have_others key (r ∷ ys)
others_more None r xs ys more = refl
others_more (Some key) r xs ys more = ap (λ b. is_other key r.key && b) more

others_swapped : (key : Option (List ℕ)) (a b : Run) (xs : List Run) → have_others key (a ∷ b ∷ xs) ≡ have_others key (b ∷ a ∷ xs)
others_swapped None a b xs = refl
others_swapped (Some key) a b xs = turned (is_other key a.key) (is_other key b.key) (have_others (Some key) xs)
  where
    turned : (a b c : Bool) → (a && (b && c)) ≡ (b && (a && c))
    turned true b c = refl
    turned false true c = refl
    turned false false c = refl

record Agrees (xs ys : List Run) : Type 0 where
  others : (key : Option (List ℕ)) → have_others key xs ≡ have_others key ys
  keys : keys_differ xs ≡ keys_differ ys

permuted : (xs ys : List Run) → IsPermutation xs ys → Agrees xs ys
permuted = along_permutation Agrees (λ xs. record { others = λ key. refl; keys = refl })
    (λ r xs ys more. record { others = λ key. others_more key r xs ys (more.others key); keys = (λ i. more.others r.key i && more.keys i) })
    (λ a b xs. record { others = λ key. others_swapped key a b xs; keys = swapped a b xs })
    (λ xs ys zs one two. record { others = λ key. one.others key ∙ two.others key; keys = one.keys ∙ two.keys })

pub permuted_keys : (xs ys : List Run) → IsPermutation xs ys → keys_differ xs ≡ keys_differ ys
permuted_keys xs ys same = (permuted xs ys same).keys
