-- Laws of the rows of a list, as the rows come one by one.
use Rattle.checks.proofs.Outside.{◌≡◌, ℕ, ◌+◌, ◌<◌, Bool, true, false, not, List, [], ◌∷◌, ◌++◌, take, get_or, length, refl, sym, ap, ◌∙◌, subst, true≢false, ◌⊎◌, inl, inr, AllByRecursion, list_any, take_more, not-true, or_left, or_right, or_cases, AreApart, none_from_any, any_from_none, apart_pushed}
use Rattle.std.proofs.SliceLists.{all_by_recursion_push}
use Rattle.definitions.proofs.Naming.{all_less}
use Rattle.checks.specs.declared.found.Found.{Found}
use Rattle.checks.specs.declared.found.Fault.{Fault}
use Rattle.checks.specs.Judging.{Breaks, OfSome, OfClash, Judges}
use Rattle.checks.proofs.JudgingLemmas.{judges_both, judges_as, judges_says}

pub any_same : {X : Type 0} (p q : X → Bool) → ((x : X) → p x ≡ q x) → (xs : List X) → list_any p xs ≡ list_any q xs
any_same p q same xs = λ i. list_any (λ x. same x i) xs

-- ---- faults of the rows so far

module _ {X : Type 0} (Says : X → Fault → Type 0) where
  pub some_split : (xs : List X) (x : X) (f : Fault) → OfSome Says (xs ++ x ∷ []) f → OfSome Says xs f ⊎ Says x f
  some_split [] x f (inl here) = inr here
  some_split [] x f (inr none) = absurd none
  some_split (a ∷ xs) x f (inl first) = inl (inl first)
  some_split (a ∷ xs) x f (inr rest) = go (some_split xs x f rest)
    where
      go : OfSome Says xs f ⊎ Says x f → OfSome Says (a ∷ xs) f ⊎ Says x f
      go (inl s) = inl (inr s)
      go (inr s) = inr s

  pub some_back : (xs : List X) (x : X) (f : Fault) → OfSome Says xs f ⊎ Says x f → OfSome Says (xs ++ x ∷ []) f
  some_back [] x f (inl none) = absurd none
  some_back [] x f (inr here) = inl here
  some_back (a ∷ xs) x f (inl (inl first)) = inl first
  some_back (a ∷ xs) x f (inl (inr rest)) = inr (some_back xs x f (inl rest))
  some_back (a ∷ xs) x f (inr here) = inr (some_back xs x f (inr here))

pub some_weaker : {X : Type 0} (P Q : X → Fault → Type 0) → ((x : X) (f : Fault) → P x f → Q x f) → (xs : List X) (f : Fault) → OfSome P xs f → OfSome Q xs f
some_weaker P Q to [] f none = none
some_weaker P Q to (x ∷ xs) f (inl here) = inl (to x f here)
some_weaker P Q to (x ∷ xs) f (inr rest) = inr (some_weaker P Q to xs f rest)

module _ {X : Type 0} (clash : X → X → Bool) (fault : X → Fault) where
  abbrev Clashing : X → X → Fault → Type 0
  Clashing a y g = (clash a y ≡ true) × (g ≡ fault y)

  abbrev Here : List X → X → Fault → Type 0
  Here xs x f = (list_any (λ a. clash a x) xs ≡ true) × (f ≡ fault x)

  clash_split : (xs : List X) (x : X) (f : Fault) → OfClash clash fault (xs ++ x ∷ []) f → OfClash clash fault xs f ⊎ Here xs x f
  clash_split [] x f (inl none) = absurd none
  clash_split [] x f (inr none) = absurd none
  clash_split (a ∷ xs) x f (inl first) = go (some_split (Clashing a) xs x f first)
    where
      go : OfSome (Clashing a) xs f ⊎ Clashing a x f → OfClash clash fault (a ∷ xs) f ⊎ Here (a ∷ xs) x f
      go (inl s) = inl (inl s)
      go (inr s) = inr (or_left (clash a x) (list_any (λ b. clash b x) xs) s.0, s.1)
  clash_split (a ∷ xs) x f (inr rest) = go (clash_split xs x f rest)
    where
      go : OfClash clash fault xs f ⊎ Here xs x f → OfClash clash fault (a ∷ xs) f ⊎ Here (a ∷ xs) x f
      go (inl s) = inl (inr s)
      go (inr s) = inr (or_right (clash a x) (list_any (λ b. clash b x) xs) s.0, s.1)

  clash_back : (xs : List X) (x : X) (f : Fault) → OfClash clash fault xs f ⊎ Here xs x f → OfClash clash fault (xs ++ x ∷ []) f
  clash_back [] x f (inl none) = absurd none
  clash_back [] x f (inr here) = absurd (true≢false (sym here.0))
  clash_back (a ∷ xs) x f (inl (inl first)) = inl (some_back (Clashing a) xs x f (inl first))
  clash_back (a ∷ xs) x f (inl (inr rest)) = inr (clash_back xs x f (inl rest))
  clash_back (a ∷ xs) x f (inr here) = go (λ there. clash_back xs x f (inr there)) (or_cases (clash a x) (list_any (λ b. clash b x) xs) here.0)
    where
      go : (Here xs x f → OfClash clash fault (xs ++ x ∷ []) f) → (clash a x ≡ true) ⊎ (list_any (λ b. clash b x) xs ≡ true) → OfClash clash fault ((a ∷ xs) ++ x ∷ []) f
      go rest (inl e) = inl (some_back (Clashing a) xs x f (inr (e, here.1)))
      go rest (inr e) = inr (rest (e, here.1))

stale : (fresh any : Bool) → fresh ≡ not any → ¬ (fresh ≡ true) → any ≡ true
stale fresh true e n = refl
stale fresh false e n = absurd (n e)

not_fresh : (fresh any : Bool) → fresh ≡ not any → any ≡ true → ¬ (fresh ≡ true)
not_fresh fresh any e is = λ t. true≢false (sym t ∙ e ∙ ap not is)

module _ {X : Type 0} where
  apart_less : (clash : X → X → Bool) (xs : List X) (x : X) → AreApart clash (xs ++ x ∷ []) → AreApart clash xs × AllByRecursion (λ a. clash a x ≡ false) xs
  apart_less clash [] x h = (tt, tt)
  apart_less clash (a ∷ xs) x h =
      let first = all_less (λ b. clash a b ≡ false) xs x h.0 in
      let rest = apart_less clash xs x h.1 in
      ((first.0, rest.0), (first.1, rest.1))

  pub next_row : (xs : List X) (i : ℕ) (x : X) → i < length xs → x ≡ get_or xs i x → take (i + 1) xs ≡ take i xs ++ x ∷ []
  next_row xs i x inside is = take_more xs i x inside ∙ ap (λ y. take i xs ++ y ∷ []) (sym is)

  -- Each of the first rows was looked at, and now the next one.
  pub all_judged : (Says : X → Fault → Type 0) (P : X → Type 0) (xs : List X) (i : ℕ) (x : X) (start old new : Found) → i < length xs → x ≡ get_or xs i x
      → Judges (OfSome Says (take i xs)) (AllByRecursion P (take i xs)) start old → Judges (Says x) (P x) old new
      → Judges (OfSome Says (take (i + 1) xs)) (AllByRecursion P (take (i + 1) xs)) start new
  all_judged Says P xs i x start old new inside is before here =
      subst (λ (l : List X). Judges (OfSome Says l) (AllByRecursion P l) start new) (sym (next_row xs i x inside is))
      (judges_says start new (some_back Says (take i xs) x) (some_split Says (take i xs) x)
      (judges_as start new (λ both. all_by_recursion_push P (take i xs) x both.0 both.1) (all_less P (take i xs) x) (judges_both start old new before here)))

  -- The first rows are apart, and the next one is apart from them where its key is new.
  pub apart_judged : (clash : X → X → Bool) (fault : X → Fault) → ((a b : X) → clash a b ≡ clash b a) → (xs : List X) (i : ℕ) (x : X) (fresh : Bool) (start old new : Found) → i < length xs → x ≡ get_or xs i x
      → fresh ≡ not (list_any (clash x) (take i xs)) → Judges (OfClash clash fault (take i xs)) (AreApart clash (take i xs)) start old → Judges (Breaks (fresh ≡ true) (fault x)) (fresh ≡ true) old new
      → Judges (OfClash clash fault (take (i + 1) xs)) (AreApart clash (take (i + 1) xs)) start new
  apart_judged clash fault turn xs i x fresh start old new inside is reported before here =
      let same : list_any (λ a. clash a x) (take i xs) ≡ list_any (clash x) (take i xs) = any_same (λ a. clash a x) (clash x) (λ a. turn a x) (take i xs) in
      subst (λ (l : List X). Judges (OfClash clash fault l) (AreApart clash l) start new) (sym (next_row xs i x inside is))
      (judges_says start new (λ f says. clash_back clash fault (take i xs) x f (to f says)) (λ f says. from f (clash_split clash fault (take i xs) x f says))
      (judges_as start new
      (λ both. apart_pushed clash (take i xs) x both.0 (none_from_any (λ a. clash a x) (take i xs) (same ∙ not-true _ (sym reported ∙ both.1))))
      (λ law. let parts = apart_less clash (take i xs) x law in (parts.0, reported ∙ ap not (sym same ∙ any_from_none (λ a. clash a x) (take i xs) parts.1)))
      (judges_both start old new before here)))
    where
      turned : list_any (λ a. clash a x) (take i xs) ≡ list_any (clash x) (take i xs)
      turned = any_same (λ a. clash a x) (clash x) (λ a. turn a x) (take i xs)

      to : (f : Fault) → OfClash clash fault (take i xs) f ⊎ Breaks (fresh ≡ true) (fault x) f → OfClash clash fault (take i xs) f ⊎ Here clash fault (take i xs) x f
      to f (inl s) = inl s
      to f (inr s) = inr (turned ∙ stale fresh (list_any (clash x) (take i xs)) reported s.0, s.1)

      from : (f : Fault) → OfClash clash fault (take i xs) f ⊎ Here clash fault (take i xs) x f → OfClash clash fault (take i xs) f ⊎ Breaks (fresh ≡ true) (fault x) f
      from f (inl s) = inl s
      from f (inr s) = inr (not_fresh fresh (list_any (clash x) (take i xs)) reported (sym turned ∙ s.0), s.1)
