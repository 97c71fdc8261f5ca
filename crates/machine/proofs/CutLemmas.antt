-- The oldest versions that go where the last ones stay: those up to a number are the first ones.
use Rattle.machine.proofs.Outside.{◌≡◌, ℕ, zero, suc, ◌+◌, ◌-◌, ◌<◌, ◌≤◌, ◌==◌, nat_lt, Bool, true, cond, List, [], ◌∷◌, ◌++◌, length, map, take, drop, slice_get, Option, Some, None, option_map, is_some, refl, sym, ap, ◌∙◌, arith, length-drop, option_or}
use Rattle.std.proofs.lemmas.Bool.{lt-ltb, le-ltb, eq-eqb, ne_eqb}
use Rattle.machine.specs.Laws.{Rises}
use Rattle.machine.specs.Changes.{left_above}
use Rattle.machine.specs.Units.{version_of}
use Rattle.machine.specs.Workspaces.{newest, last_of, outgoing}
use Rattle.machine.specs.declared.records.Version.{Version}
use Rattle.machine.proofs.PageLemmas.{behind_number}

-- one more, with the next number, behind numbers that rise
pub rises_more : (low next : ℕ) (vs : List Version) (v : Version) → low < next → v.number ≡ next → Rises low (map (λ (u : Version). u.number) vs) next
    → Rises low (map (λ (u : Version). u.number) (vs ++ v ∷ [])) (next + 1)
rises_more low next [] v under e rise = (omega (arith, under, e), omega (arith, e), tt)
rises_more low next (u ∷ vs) v under e rise = (rise.0, omega (arith, rise.1), rises_more u.number next vs v rise.1 e rise.2)

-- the last of the first n + 1 is the n-th
pub last_taken : (n : ℕ) (vs : List Version) → n < length vs → newest (take (suc n) vs) ≡ slice_get vs n
last_taken n [] h = absurd (omega arith)
last_taken zero (v ∷ vs) h = refl
last_taken (suc n) (v ∷ []) h = absurd (omega arith)
last_taken (suc n) (v ∷ w ∷ vs) h = last_taken n (w ∷ vs) (omega arith)

first_stays : (n : ℕ) (vs : List Version) (v : Version) → n < length vs → slice_get (vs ++ v ∷ []) n ≡ slice_get vs n
first_stays n [] v h = absurd (omega arith)
first_stays zero (u ∷ vs) v h = refl
first_stays (suc n) (u ∷ vs) v h = first_stays n vs v (omega arith)

pub there_is : (n : ℕ) (vs : List Version) → n < length vs → (u : Version) × (slice_get vs n ≡ Some u)
there_is n [] h = absurd (omega arith)
there_is zero (u ∷ vs) h = (u, refl)
there_is (suc n) (u ∷ vs) h = there_is n vs (omega arith)

cut : (k next : ℕ) (vs : List Version) → k ≤ length vs → Rises 0 (map (λ (u : Version). u.number) vs) next
    → left_above (option_map (λ (u : Version). u.number) (newest (take k vs))) vs ≡ drop k vs
cut zero next vs h rise = refl
cut (suc n) next vs h rise =
    let found : (u : Version) × (slice_get vs n ≡ Some u) = there_is n vs (omega arith) in
    ap (λ (o : Option Version). left_above (option_map (λ (u : Version). u.number) o) vs) (last_taken n vs (omega arith) ∙ found.1)
    ∙ behind_number (λ (u : Version). u.number) 0 next vs found.0 n rise found.1

-- where the last ones stay
pub left_is_last : (staying next : ℕ) (vs : List Version) → Rises 0 (map (λ (u : Version). u.number) vs) next → left_above (outgoing staying vs) vs ≡ last_of staying vs
left_is_last staying next vs rise = cut (length vs - staying) next vs (omega arith) rise

cut_before : (k next : ℕ) (vs : List Version) (v : Version) → k ≤ length vs → 0 < next → v.number ≡ next → Rises 0 (map (λ (u : Version). u.number) vs) next
    → left_above (option_map (λ (u : Version). u.number) (newest (take k vs))) (vs ++ v ∷ []) ≡ drop k (vs ++ v ∷ [])
cut_before zero next vs v h some e rise = refl
cut_before (suc n) next vs v h some e rise =
    let found : (u : Version) × (slice_get vs n ≡ Some u) = there_is n vs (omega arith) in
    ap (λ (o : Option Version). left_above (option_map (λ (u : Version). u.number) o) (vs ++ v ∷ [])) (last_taken n vs (omega arith) ∙ found.1)
    ∙ behind_number (λ (u : Version). u.number) 0 (next + 1) (vs ++ v ∷ []) found.0 n (rises_more 0 next vs v some e rise) (first_stays n vs v (omega arith) ∙ found.1)

pub drop_before : (k : ℕ) (vs : List Version) (v : Version) → k ≤ length vs → drop k (vs ++ v ∷ []) ≡ drop k vs ++ v ∷ []
drop_before zero vs v h = refl
drop_before (suc k) [] v h = absurd (omega arith)
drop_before (suc k) (u ∷ vs) v h = drop_before k vs v (omega arith)

-- where the last ones stay, and one more comes behind them
pub left_before : (staying next : ℕ) (vs : List Version) (v : Version) → 0 < next → v.number ≡ next → Rises 0 (map (λ (u : Version). u.number) vs) next
    → left_above (outgoing staying vs) (vs ++ v ∷ []) ≡ last_of staying vs ++ v ∷ []
left_before staying next vs v some e rise =
    cut_before (length vs - staying) next vs v (omega arith) some e rise ∙ drop_before (length vs - staying) vs v (omega arith)

-- how many are left, and that all are where no more stand there
pub last_length : (staying : ℕ) (vs : List Version) → length (last_of staying vs) ≤ staying
last_length staying vs = rw length-drop (omega arith)

pub all_last : (staying : ℕ) (vs : List Version) → length vs ≤ staying → last_of staying vs ≡ vs
all_last staying vs le = ap (λ (k : ℕ). drop k vs) (let none : length vs - staying ≡ 0 = omega (arith, le) in none)

-- one goes where more stand there
pub some_go : (staying : ℕ) (vs : List Version) → is_some (outgoing staying vs) ≡ nat_lt staying (length vs)
some_go staying vs = by_count (length vs - staying) refl
  where
    by_count : (k : ℕ) → length vs - staying ≡ k → is_some (option_map (λ (u : Version). u.number) (newest (take k vs))) ≡ nat_lt staying (length vs)
    by_count zero e = sym (le-ltb staying (length vs) (omega (arith, e)))
    by_count (suc n) e =
        let found : (u : Version) × (slice_get vs n ≡ Some u) = there_is n vs (omega (arith, e)) in
        ap (λ (o : Option Version). is_some (option_map (λ (u : Version). u.number) o)) (last_taken n vs (omega (arith, e)) ∙ found.1) ∙ sym (lt-ltb staying (length vs) (omega (arith, e)))

-- ---- which go, where numbers follow one another without a gap

-- no version has a number that all of them are above
pub none_up_to : (low next n : ℕ) (vs : List Version) → Rises low (map (λ (u : Version). u.number) vs) next → n ≤ low → version_of n vs ≡ None
none_up_to low next n [] rise h = refl
none_up_to low next n (v ∷ vs) rise h =
    let apart : (v.number ≡ n) → ⊥ = λ e. omega (arith, rise.0) in
    ap (λ (o : Option Version). option_or o (cond (v.number == n) (Some v) None)) (none_up_to v.number next n vs rise.2 (omega (arith, rise.0)))
    ∙ ap (λ (b : Bool). option_or None (cond b (Some v) None)) (ne_eqb v.number n apart)

some_or : {X : Type 0} (o p : Option X) → is_some o ≡ true → is_some (option_or o p) ≡ true
some_or None p e = absurd (let none : ⊥ = cc in none)
some_or (Some x) p e = refl

or_some : {X : Type 0} (o : Option X) (x : X) → is_some (option_or o (Some x)) ≡ true
or_some None x = refl
or_some (Some y) x = refl

-- what stands in the list is found by its number
pub found_by_number : (i : ℕ) (vs : List Version) (u : Version) → slice_get vs i ≡ Some u → is_some (version_of u.number vs) ≡ true
found_by_number zero [] u e = absurd (let none : ⊥ = cc in none)
found_by_number (suc i) [] u e = absurd (let none : ⊥ = cc in none)
found_by_number zero (v ∷ vs) u e =
    let same : v ≡ u = cc in
    ap (λ (b : Bool). is_some (option_or (version_of u.number vs) (cond b (Some v) None))) (eq-eqb v.number u.number (ap (λ (w : Version). w.number) same)) ∙ or_some (version_of u.number vs) v
found_by_number (suc i) (v ∷ vs) u e = some_or (version_of u.number vs) (cond (v.number == u.number) (Some v) None) (found_by_number i vs u e)

-- the newest stays
newest_left : (k : ℕ) (vs : List Version) → k < length vs → newest (drop k vs) ≡ newest vs
newest_left k [] h = absurd (omega arith)
newest_left zero (v ∷ vs) h = refl
newest_left (suc k) (v ∷ []) h = absurd (omega arith)
newest_left (suc k) (v ∷ w ∷ vs) h = newest_left k (w ∷ vs) (omega arith)

pub newest_stays : (staying : ℕ) (vs : List Version) → 1 ≤ staying → newest (last_of staying vs) ≡ newest vs
newest_stays staying [] some = ap newest (all_last staying [] (omega arith))
newest_stays staying (v ∷ vs) some = newest_left (length (v ∷ vs) - staying) (v ∷ vs) (omega (arith, some))
