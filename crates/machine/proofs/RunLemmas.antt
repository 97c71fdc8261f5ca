-- Lists of runs: what is found by a number or a key, which run waits first, and how many are open.
use Rattle.machine.proofs.Outside.{◌≡◌, ℕ, ◌+◌, ◌<◌, ◌≤◌, ◌==◌, Bool, true, false, cond, List, [], ◌∷◌, ◌++◌, length, map, filter, Option, Some, None, option_map, IfSome, IsSomeAnd, refl, sym, ap, subst, ◌∙◌, arith, eq-eqb, eqb-true, is_some, eqb-false, find, option_or, AllByRecursion, bytes_eq, bytes_eq-Decides, is_open}
use Rattle.machine.specs.Workspaces.{run_of, has_key, keyed_run, open_runs}
use Rattle.machine.specs.Laws.{Rises, KeysDiffer}
use Rattle.machine.specs.Settling.{is_waiting, first_waiting, begun, started_if}
use Rattle.machine.specs.Inner.Decisions.{begun_by}
use Rattle.basis.specs.declared.rows.RunRow.{RunRow as Run}
use Rattle.machine.specs.declared.records.Workspace.{Workspace}

-- ---- by a number

-- the run that is found has the number
pub run_of-number : (n : ℕ) (runs : List Run) (r : Run) → run_of n runs ≡ Some r → r.number ≡ n
run_of-number n [] r e = absurd (let none : ⊥ = cc in none)
run_of-number n (x ∷ runs) r e = passed (x.number == n) refl e (λ rest. run_of-number n runs r rest)
  where
    passed : (b : Bool) → (x.number == n) ≡ b → cond b (Some x) (run_of n runs) ≡ Some r → (run_of n runs ≡ Some r → r.number ≡ n) → r.number ≡ n
    passed true t is more = let same_one : x ≡ r = cc in ap (λ (y : Run). y.number) (sym same_one) ∙ eqb-true x.number n t
    passed false t is more = more is

-- above all numbers there is none
pub none_numbered : (low : ℕ) (runs : List Run) (next : ℕ) → Rises low (map (λ (r : Run). r.number) runs) next → run_of next runs ≡ None
none_numbered low [] next rise = refl
none_numbered low (x ∷ runs) next rise = passed (x.number == next) refl (none_numbered x.number runs next rise.2)
  where
    passed : (b : Bool) → (x.number == next) ≡ b → run_of next runs ≡ None → cond b (Some x) (run_of next runs) ≡ None
    passed true t rest = absurd (omega (arith, eqb-true x.number next t, rise.1))
    passed false t rest = rest

-- numbers that rise from n on are others
others_above : (n low : ℕ) (r : Run) (runs : List Run) (next : ℕ) → n ≤ low → Rises low (map (λ (x : Run). x.number) runs) next → AllByRecursion (λ (x : Run). x.number ≡ n → x ≡ r) runs
others_above n low r [] next le rise = tt
others_above n low r (x ∷ runs) next le rise = ((λ e. absurd (omega (arith, e, le, rise.0))), others_above n x.number r runs next (omega (arith, le, rise.0)) rise.2)

found_above : (n low : ℕ) (runs : List Run) (next : ℕ) (r : Run) → Rises low (map (λ (x : Run). x.number) runs) next → run_of n runs ≡ Some r → low < n
found_above n low [] next r rise e = absurd (let none : ⊥ = cc in none)
found_above n low (x ∷ runs) next r rise e = passed (x.number == n) refl e (λ rest. found_above n x.number runs next r rise.2 rest)
  where
    passed : (b : Bool) → (x.number == n) ≡ b → cond b (Some x) (run_of n runs) ≡ Some r → (run_of n runs ≡ Some r → x.number < n) → low < n
    passed true t is more = omega (arith, eqb-true x.number n t, rise.0)
    passed false t is more = omega (arith, more is, rise.0)

-- where numbers rise, no two runs have one
pub only_one_numbered : (n low : ℕ) (runs : List Run) (next : ℕ) (r : Run) → Rises low (map (λ (x : Run). x.number) runs) next → run_of n runs ≡ Some r
    → AllByRecursion (λ (x : Run). x.number ≡ n → x ≡ r) runs
only_one_numbered n low [] next r rise e = tt
only_one_numbered n low (x ∷ runs) next r rise e = passed (x.number == n) refl e (λ rest. only_one_numbered n x.number runs next r rise.2 rest)
  where
    passed : (b : Bool) → (x.number == n) ≡ b → cond b (Some x) (run_of n runs) ≡ Some r → (run_of n runs ≡ Some r → AllByRecursion (λ (y : Run). y.number ≡ n → y ≡ r) runs)
        → AllByRecursion (λ (y : Run). y.number ≡ n → y ≡ r) (x ∷ runs)
    passed true t is more =
        let same_one : x ≡ r = cc in
        ((λ _. same_one), others_above n x.number r runs next (omega (arith, eqb-true x.number n t)) rise.2)
    passed false t is more = ((λ at. absurd (eqb-false x.number n t at)), more is)

-- what is done to each run, and leaves its number, is done to the one that is found
pub run_of-map : (f : Run → Run) (same : (x : Run) → (f x).number ≡ x.number) (n : ℕ) (runs : List Run) → run_of n (map f runs) ≡ option_map f (run_of n runs)
run_of-map f same n [] = refl
run_of-map f same n (x ∷ runs) = ap (λ (k : ℕ). cond (k == n) (Some (f x)) (run_of n (map f runs))) (same x) ∙ chosen (x.number == n) (run_of-map f same n runs)
  where
    chosen : (b : Bool) → run_of n (map f runs) ≡ option_map f (run_of n runs) → cond b (Some (f x)) (run_of n (map f runs)) ≡ option_map f (cond b (Some x) (run_of n runs))
    chosen true more = refl
    chosen false more = more

begun_none : (o : Option Run) → o ≡ option_map (begun_by None) o
begun_none None = refl
begun_none (Some r) = refl

pub run_of-started : (start : Option ℕ) (n : ℕ) (w : Workspace) → run_of n (started_if start w).runs ≡ option_map (begun_by start) (run_of n w.runs)
run_of-started None n w = begun_none (run_of n w.runs)
run_of-started (Some m) n w = run_of-map (begun m) (λ x. refl) n w.runs

-- one more run: it is found, and the others are found as before
pub run_of-push : (n : ℕ) (runs : List Run) (r : Run) → run_of n runs ≡ None → r.number ≡ n → run_of n (runs ++ r ∷ []) ≡ Some r
run_of-push n [] r none is = rw (eq-eqb r.number n is) refl
run_of-push n (x ∷ runs) r none is = passed (x.number == n) none (λ rest. run_of-push n runs r rest is)
  where
    passed : (b : Bool) → cond b (Some x) (run_of n runs) ≡ None → (run_of n runs ≡ None → run_of n (runs ++ r ∷ []) ≡ Some r) → cond b (Some x) (run_of n (runs ++ r ∷ [])) ≡ Some r
    passed true none more = absurd (let no : ⊥ = cc in no)
    passed false none more = more none

pub some_run-push : (n : ℕ) (runs : List Run) (r : Run) → r.number ≡ n → (x : Run) × (run_of n (runs ++ r ∷ []) ≡ Some x)
some_run-push n [] r is = (r, rw (eq-eqb r.number n is) refl)
some_run-push n (y ∷ runs) r is = chosen (y.number == n) (some_run-push n runs r is)
  where
    chosen : (b : Bool) → ((x : Run) × (run_of n (runs ++ r ∷ []) ≡ Some x)) → (x : Run) × (cond b (Some y) (run_of n (runs ++ r ∷ [])) ≡ Some x)
    chosen true more = (y, refl)
    chosen false more = more

pub some_numbered-push : (P : Run → Type 0) (n : ℕ) (runs : List Run) (r : Run) → IsSomeAnd (run_of n runs) P → IsSomeAnd (run_of n (runs ++ r ∷ [])) P
some_numbered-push P n [] r h = absurd (let none : ⊥ = h in none)
some_numbered-push P n (x ∷ runs) r h = passed (x.number == n) h (λ rest. some_numbered-push P n runs r rest)
  where
    passed : (b : Bool) → IsSomeAnd (cond b (Some x) (run_of n runs)) P → (IsSomeAnd (run_of n runs) P → IsSomeAnd (run_of n (runs ++ r ∷ [])) P)
        → IsSomeAnd (cond b (Some x) (run_of n (runs ++ r ∷ []))) P
    passed true h more = h
    passed false h more = more h

-- ---- by a key

-- no run has the key that none was found by
pub none_keyed : (key : List ℕ) (runs : List Run) → keyed_run (Some key) runs ≡ None → AllByRecursion (λ (x : Run). has_key key x.key ≡ false) runs
none_keyed key [] e = tt
none_keyed key (x ∷ runs) e = passed (has_key key x.key) refl e (λ rest. none_keyed key runs rest)
  where
    passed : (b : Bool) → has_key key x.key ≡ b → cond b (Some x) (keyed_run (Some key) runs) ≡ None
        → (keyed_run (Some key) runs ≡ None → AllByRecursion (λ (y : Run). has_key key y.key ≡ false) runs) → AllByRecursion (λ (y : Run). has_key key y.key ≡ false) (x ∷ runs)
    passed true t is more = absurd (let none : ⊥ = cc in none)
    passed false t is more = (t, more is)

abbrev OthersDiffer : List ℕ → List Run → Type 0
OthersDiffer key runs = AllByRecursion (λ (s : Run). IfSome s.key (λ other. bytes_eq key other ≡ false)) runs

-- what is done to each run, and leaves its key, keeps keys apart
others_differ-map : (f : Run → Run) (same : (x : Run) → (f x).key ≡ x.key) (key : List ℕ) (runs : List Run) → OthersDiffer key runs → OthersDiffer key (map f runs)
others_differ-map f same key [] all = tt
others_differ-map f same key (x ∷ runs) all =
    (subst (λ (k : Option (List ℕ)). IfSome k (λ other. bytes_eq key other ≡ false)) (sym (same x)) all.0, others_differ-map f same key runs all.1)

key_differs-map : (f : Run → Run) (same : (x : Run) → (f x).key ≡ x.key) (k : Option (List ℕ)) (runs : List Run)
    → IfSome k (λ key. OthersDiffer key runs) → IfSome k (λ key. OthersDiffer key (map f runs))
key_differs-map f same None runs h = tt
key_differs-map f same (Some key) runs h = others_differ-map f same key runs h

pub keys_differ-map : (f : Run → Run) (same : (x : Run) → (f x).key ≡ x.key) (runs : List Run) → KeysDiffer runs → KeysDiffer (map f runs)
keys_differ-map f same [] keys = tt
keys_differ-map f same (x ∷ runs) keys =
    (subst (λ (k : Option (List ℕ)). IfSome k (λ key. OthersDiffer key (map f runs))) (sym (same x)) (key_differs-map f same x.key runs keys.0), keys_differ-map f same runs keys.1)

-- one more run, whose key none has
others_differ-push : (key : List ℕ) (runs : List Run) (r : Run) → OthersDiffer key runs → IfSome r.key (λ other. bytes_eq key other ≡ false) → OthersDiffer key (runs ++ r ∷ [])
others_differ-push key [] r all h = (h, tt)
others_differ-push key (x ∷ runs) r all h = (all.0, others_differ-push key runs r all.1 h)

pub keys_differ-push : (runs : List Run) (r : Run) → KeysDiffer runs → keyed_run r.key runs ≡ None → KeysDiffer (runs ++ r ∷ [])
keys_differ-push runs r keys none = by_key r.key refl runs keys none
  where
    unkeyed : r.key ≡ None → (k : Option (List ℕ)) (l : List Run) → IfSome k (λ key. OthersDiffer key l) → IfSome k (λ key. OthersDiffer key (l ++ r ∷ []))
    unkeyed e None l h = tt
    unkeyed e (Some key) l h = others_differ-push key l r h (subst (λ (x : Option (List ℕ)). IfSome x (λ other. bytes_eq key other ≡ false)) (sym e) tt)

    keyed : (own : List ℕ) → r.key ≡ Some own → (k : Option (List ℕ)) (l : List Run) → has_key own k ≡ false → IfSome k (λ key. OthersDiffer key l)
        → IfSome k (λ key. OthersDiffer key (l ++ r ∷ []))
    keyed own e None l apart h = tt
    keyed own e (Some key) l apart h = others_differ-push key l r h (subst (λ (x : Option (List ℕ)). IfSome x (λ other. bytes_eq key other ≡ false)) (sym e) apart)

    all_unkeyed : r.key ≡ None → (l : List Run) → KeysDiffer l → KeysDiffer (l ++ r ∷ [])
    all_unkeyed e [] keys = (subst (λ (x : Option (List ℕ)). IfSome x (λ key. OthersDiffer key [])) (sym e) tt, tt)
    all_unkeyed e (x ∷ l) keys = (unkeyed e x.key l keys.0, all_unkeyed e l keys.1)

    all_keyed : (own : List ℕ) → r.key ≡ Some own → (l : List Run) → KeysDiffer l → AllByRecursion (λ (x : Run). has_key own x.key ≡ false) l → KeysDiffer (l ++ r ∷ [])
    all_keyed own e [] keys apart = (subst (λ (x : Option (List ℕ)). IfSome x (λ key. OthersDiffer key [])) (sym e) tt, tt)
    all_keyed own e (x ∷ l) keys apart = (keyed own e x.key l apart.0 keys.0, all_keyed own e l keys.1 apart.1)

    by_key : (k : Option (List ℕ)) → r.key ≡ k → (l : List Run) → KeysDiffer l → keyed_run k l ≡ None → KeysDiffer (l ++ r ∷ [])
    by_key None e l keys none = all_unkeyed e l keys
    by_key (Some own) e l keys none = all_keyed own e l keys (none_keyed own l none)

-- a run with the key is found, once it is there
pub keyed-push : (key : List ℕ) (runs : List Run) (r : Run) → r.key ≡ Some key → is_some (keyed_run (Some key) (runs ++ r ∷ [])) ≡ true
keyed-push key [] r e = rw (e, (bytes_eq-Decides key key).1 refl) refl
keyed-push key (x ∷ runs) r e = chosen (has_key key x.key) (keyed-push key runs r e)
  where
    chosen : (b : Bool) → is_some (keyed_run (Some key) (runs ++ r ∷ [])) ≡ true → is_some (cond b (Some x) (keyed_run (Some key) (runs ++ r ∷ []))) ≡ true
    chosen true more = refl
    chosen false more = more

pub keyed-map : (f : Run → Run) (same : (x : Run) → (f x).key ≡ x.key) (key : List ℕ) (runs : List Run) → keyed_run (Some key) (map f runs) ≡ option_map f (keyed_run (Some key) runs)
keyed-map f same key [] = refl
keyed-map f same key (x ∷ runs) = ap (λ (k : Option (List ℕ)). cond (has_key key k) (Some (f x)) (keyed_run (Some key) (map f runs))) (same x) ∙ chosen (has_key key x.key) (keyed-map f same key runs)
  where
    chosen : (b : Bool) → keyed_run (Some key) (map f runs) ≡ option_map f (keyed_run (Some key) runs)
        → cond b (Some (f x)) (keyed_run (Some key) (map f runs)) ≡ option_map f (cond b (Some x) (keyed_run (Some key) runs))
    chosen true more = refl
    chosen false more = more

pub keyed-started : (start : Option ℕ) (key : List ℕ) (w : Workspace) → keyed_run (Some key) (started_if start w).runs ≡ option_map (begun_by start) (keyed_run (Some key) w.runs)
keyed-started None key w = begun_none (keyed_run (Some key) w.runs)
keyed-started (Some m) key w = keyed-map (begun m) (λ x. refl) key w.runs

-- ---- who waits, and who is open

pub first_waiting-push : (runs : List Run) (r : Run) → first_waiting (runs ++ r ∷ []) ≡ option_or (first_waiting runs) (cond (is_waiting r) (Some r.number) None)
first_waiting-push [] r = chosen (is_waiting r)
  where
    chosen : (b : Bool) → option_map (λ (x : Run). x.number) (cond b (Some r) None) ≡ cond b (Some r.number) None
    chosen true = refl
    chosen false = refl
first_waiting-push (x ∷ runs) r = chosen (is_waiting x) (first_waiting-push runs r)
  where
    chosen : (b : Bool) → first_waiting (runs ++ r ∷ []) ≡ option_or (first_waiting runs) (cond (is_waiting r) (Some r.number) None)
        → option_map (λ (y : Run). y.number) (cond b (Some x) (find is_waiting (runs ++ r ∷ [])))
        ≡ option_or (option_map (λ (y : Run). y.number) (cond b (Some x) (find is_waiting runs))) (cond (is_waiting r) (Some r.number) None)
    chosen true more = refl
    chosen false more = more

-- what leaves it to each run whether it waits, and its number, leaves who waits first
pub first_waiting-map : (f : Run → Run) (same : (x : Run) → (f x).number ≡ x.number) (runs : List Run) → AllByRecursion (λ (x : Run). is_waiting (f x) ≡ is_waiting x) runs
    → first_waiting (map f runs) ≡ first_waiting runs
first_waiting-map f same [] all = refl
first_waiting-map f same (x ∷ runs) all =
    ap (λ (b : Bool). option_map (λ (y : Run). y.number) (cond b (Some (f x)) (find is_waiting (map f runs)))) all.0 ∙ chosen (is_waiting x) (first_waiting-map f same runs all.1)
  where
    chosen : (b : Bool) → first_waiting (map f runs) ≡ first_waiting runs
        → option_map (λ (y : Run). y.number) (cond b (Some (f x)) (find is_waiting (map f runs))) ≡ option_map (λ (y : Run). y.number) (cond b (Some x) (find is_waiting runs))
    chosen true more = ap Some (same x)
    chosen false more = more

pub open_runs-push : (runs : List Run) (r : Run) → open_runs (runs ++ r ∷ []) ≤ open_runs runs + 1
open_runs-push [] r = chosen (is_open r.status)
  where
    chosen : (b : Bool) → length (cond b (r ∷ []) []) ≤ 1
    chosen true = omega arith
    chosen false = omega arith
open_runs-push (x ∷ runs) r = chosen (is_open x.status) (open_runs-push runs r)
  where
    chosen : (b : Bool) → open_runs (runs ++ r ∷ []) ≤ open_runs runs + 1
        → length (cond b (x ∷ filter (λ (y : Run). is_open y.status) (runs ++ r ∷ [])) (filter (λ (y : Run). is_open y.status) (runs ++ r ∷ [])))
        ≤ length (cond b (x ∷ filter (λ (y : Run). is_open y.status) runs) (filter (λ (y : Run). is_open y.status) runs)) + 1
    chosen true more = omega (arith, more)
    chosen false more = omega (arith, more)

-- what opens no run leaves no more open
pub open_runs-map : (f : Run → Run) (runs : List Run) → AllByRecursion (λ (x : Run). is_open (f x).status ≡ true → is_open x.status ≡ true) runs → open_runs (map f runs) ≤ open_runs runs
open_runs-map f [] all = omega arith
open_runs-map f (x ∷ runs) all = chosen (is_open (f x).status) (is_open x.status) all.0 (open_runs-map f runs all.1)
  where
    chosen : (b c : Bool) → (b ≡ true → c ≡ true) → open_runs (map f runs) ≤ open_runs runs
        → length (cond b (f x ∷ filter (λ (y : Run). is_open y.status) (map f runs)) (filter (λ (y : Run). is_open y.status) (map f runs)))
        ≤ length (cond c (x ∷ filter (λ (y : Run). is_open y.status) runs) (filter (λ (y : Run). is_open y.status) runs))
    chosen true true opens more = omega (arith, more)
    chosen true false opens more = absurd (let none : ⊥ = cc (opens refl) in none)
    chosen false true opens more = omega (arith, more)
    chosen false false opens more = more

-- ---- of all runs

pub all-map : (P Q : Run → Type 0) (f : Run → Run) → ((x : Run) → P x → Q (f x)) → (runs : List Run) → AllByRecursion P runs → AllByRecursion Q (map f runs)
all-map P Q f go [] all = tt
all-map P Q f go (x ∷ runs) all = (go x all.0, all-map P Q f go runs all.1)

pub all-both : (P Q R : Run → Type 0) → ((x : Run) → P x → Q x → R x) → (runs : List Run) → AllByRecursion P runs → AllByRecursion Q runs → AllByRecursion R runs
all-both P Q R go [] all also = tt
all-both P Q R go (x ∷ runs) all also = (go x all.0 also.0, all-both P Q R go runs all.1 also.1)

pub all_found : (P : Run → Type 0) (n : ℕ) (runs : List Run) (r : Run) → AllByRecursion P runs → run_of n runs ≡ Some r → P r
all_found P n [] r all e = absurd (let none : ⊥ = cc in none)
all_found P n (x ∷ runs) r all e = passed (x.number == n) e (λ rest. all_found P n runs r all.1 rest)
  where
    passed : (b : Bool) → cond b (Some x) (run_of n runs) ≡ Some r → (run_of n runs ≡ Some r → P r) → P r
    passed true is more = let same_one : x ≡ r = cc in subst P same_one all.0
    passed false is more = more is

pub numbers-map : (f : Run → Run) (same : (x : Run) → (f x).number ≡ x.number) (runs : List Run) → map (λ (r : Run). r.number) (map f runs) ≡ map (λ (r : Run). r.number) runs
numbers-map f same [] = refl
numbers-map f same (x ∷ runs) = ap (λ (k : ℕ). k ∷ map (λ (r : Run). r.number) (map f runs)) (same x) ∙ ap (λ (ns : List ℕ). x.number ∷ ns) (numbers-map f same runs)

pub Rises-more : (low : ℕ) (runs : List Run) (r : Run) → low < r.number → Rises low (map (λ (x : Run). x.number) runs) r.number
    → Rises low (map (λ (x : Run). x.number) (runs ++ r ∷ [])) (r.number + 1)
Rises-more low [] r above h = (above, omega arith, tt)
Rises-more low (x ∷ runs) r above h = (h.0, omega (arith, h.1), Rises-more x.number runs r h.1 h.2)
