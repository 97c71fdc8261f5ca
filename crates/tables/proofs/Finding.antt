-- What the queries find is the part of the record that it stands for.
use Rattle.tables.proofs.Outside.{◌≡◌, ℕ, suc, ◌+◌, ◌-◌, ◌≤◌, ◌<◌, nat_le, Bool, true, false, not, ◌&&◌, ◌==◌, cond, List, [], ◌∷◌, map, filter, find, length, reverse, slice_get, min, is_some, Option, Some, None, option_map, IfSome, pos, Ordering, Equal, Greater, int_cmp, nat_cmp, is_gt, refl, sym, ap, subst, ap₂, ◌∙◌, arith, bytes_eq, unwrap_or, option_or, AllByRecursion, list_any, from_entries, entries, get, get-from_entries, len-insert, len-entries, len-empty, len, eqb-true, eq-eqb, leb-false, take_all, length-map, length-reverse, get_or-reverse, ordering_then, IsAscending, sort_by, filter_both, filter-sort_by, all_sorted, turned_round, slice_get-map, slice_get-get_or, same_Some, and_assoc, last_taken, none_up_to, AreApart, filter_same, filter_none, all_weaker, all_both, all-filter, slice_get-filter, find-slice, filter-slice, any_is_found, is_some-map, RunStatus, Pending, Planning, Planned, Applying, Applied, PlannedAndFinished, Errored, Discarded, Canceled, name_cmp, Rises, KeysDiffer, is_pending, first_waiting, is_waiting, newest, outgoing, is_numbered, run_of, has_key, is_keyed, keyed_run, holder_status, open_runs, find_last, version_of, has_version, version_text, is_text, if_needed, asked_run, newest_unit, outgoing_by, unit_by, unit_of, needs, Act, Version, Workspace, Organization, names_total, apart_from, Holder, equal_bytes, Kept, id_of, OrgRow, WsRow, VersionRow, RunRow, Tables, is_org, is_version_of, is_version, is_run_of, is_run_row, is_ws, is_ws_of, version_cmp, run_cmp, back_by_number, newest_of, size_of, first_waiting_of, status_at_number, workspace_of, workspaces_of, cap_of, found_passes, found_holds, none_found, pages_for, text_of, are_pieces, IsWhole, whole_size, same_is}
use Rattle.std.specs.Cmp.{IsTotalOrder, ranked, tied_itself, nat_cmp_total, int_cmp_total, on_total, then_total, back_total as turned_total}
use Rattle.std.proofs.lemmas.Int.{ints}
use Rattle.basis.specs.Runs.{is_open}
use Rattle.machine.specs.Records.{count_of, workspace_in as seen_workspace}
use Rattle.machine.specs.declared.acts.Staying.{Staying}
use Rattle.machine.specs.declared.acts.Staying.TheVariants.{StayAll, MakeRoom, StayAtMost}
use Rattle.machine.specs.declared.acts.Unit.TheVariants.{Absent, Present}
use Rattle.basis.specs.declared.rows.RunRow.{RunRow as Run}
use Rattle.machine.proofs.QueryLemmas.{version_of-newest}
use Rattle.basis.specs.declared.rows.VersionRow.{VersionRow as Head}
use Rattle.basis.specs.declared.rows.Holder.TheVariants.{Nobody, Lock, Run as HoldingRun}
use Rattle.statements.specs.declared.rows.Workspace.{Workspace as WorkspaceCells}
use Rattle.statements.specs.Finds as finds
use Rattle.tables.specs.Records.{version_at, settings_of_cells, versions_at, runs_at, workspace_at, workspace_by, workspaces_at, organization_at, record_of}
use Rattle.tables.specs.Sound.{HasNoGap, HasText, IsSound}
use Rattle.tables.proofs.TextLists.{all_passing}
use Rattle.tables.proofs.Sorted.{greater_is, sorted_anew, put_in_turn, found_sorted, count_sorted}
use Rattle.tables.proofs.Ordered.{by_version, by_run, by_version_total, by_run_total, runs_total, versions_in, runs_in, versions_sorted, runs_sorted}
use Rattle.tables.proofs.TextRows.{AreTexts, version_row_parts}
use Rattle.tables.proofs.NoGaps.{outgoing_by_number}
use Rattle.tables.proofs.Names.{apart_name, pair_first, pair_second}
use Rattle.tables.proofs.Parts.{none_mapped}
use Rattle.tables.proofs.Sets.{entry_found, got_workspace, workspace_there}
use Rattle.tables.proofs.Lawful.{limit_there}
use Rattle.tables.specs.Inner.Units.{holder_status_in, text_in, has_text, newest_by, newest_in, retention_in, has_version_in, number_before, number_behind, outgoing_in, keyed_run_in, asked_run_in, unit_at, unit_in}

-- ---- lists

pub find_same : {X : Type 0} (p q : X → Bool) → ((x : X) → p x ≡ q x) → (xs : List X) → find p xs ≡ find q xs
find_same p q same [] = refl
find_same p q same (x ∷ xs) = λ i. cond (same x i) (Some x) (find_same p q same xs i)

mapped : {A B C : Type 0} (f : A → B) (g : B → C) (o : Option A) → option_map (λ a. g (f a)) o ≡ option_map g (option_map f o)
mapped f g None = refl
mapped f g (Some a) = refl

either_none : {X : Type 0} (o : Option X) → option_or o None ≡ o
either_none None = refl
either_none (Some x) = refl

-- the first of a list the other way round is its last
module _ {X : Type 0} (show : X → Version) where
  newest_back : (xs : List X) → option_map show (slice_get (reverse xs) 0) ≡ newest (map show xs)
  newest_back [] = refl
  newest_back (y ∷ ys) =
      let turned : slice_get (reverse (y ∷ ys)) 0 ≡ slice_get (y ∷ ys) (length (y ∷ ys) - 1 - 0) =
      slice_get-get_or (reverse (y ∷ ys)) 0 y (omega (arith, length-reverse (y ∷ ys))) ∙ ap Some (get_or-reverse (y ∷ ys) 0 y (omega arith)) ∙ sym (slice_get-get_or (y ∷ ys) (length (y ∷ ys) - 1 - 0) y (omega arith)) in
      ap (option_map show) turned
      ∙ sym (slice_get-map show (y ∷ ys) (length (y ∷ ys) - 1 - 0))
      ∙ sym (last_taken (length (y ∷ ys) - 1 - 0) (map show (y ∷ ys)) (omega (arith, length-map (y ∷ ys) show)))
      ∙ ap newest (take_all (suc (length (y ∷ ys) - 1 - 0)) (map show (y ∷ ys)) (omega (arith, length-map (y ∷ ys) show)))

-- texts of two sizes are two
other_size : (xs ys : List ℕ) → (length xs == length ys) ≡ false → bytes_eq xs ys ≡ false
other_size xs ys e = apart_name xs ys (λ same. absurd (let no_one : ⊥ = cc (sym (eq-eqb (length xs) (length ys) (ap length same)) ∙ e) in no_one))

first_holds : {X : Type 0} (P : X → Type 0) (xs : List X) (x : X) → AllByRecursion P xs → slice_get xs 0 ≡ Some x → P x
first_holds P [] x all e = absurd (let none : ⊥ = cc in none)
first_holds P (y ∷ xs) x all e = let same : y ≡ x = cc in subst P same all.0

-- no row belongs to one that isn't there
pub no_orphans : {A B : Type 0} (mine : A → Bool) (parent : A → B → Bool) (ps : List B) → ((x : A) → mine x ≡ true → list_any (parent x) ps ≡ false) → (xs : List A)
    → AllByRecursion (λ x. list_any (parent x) ps ≡ true) xs → filter mine xs ≡ []
no_orphans mine parent ps none [] all = refl
no_orphans mine parent ps none (x ∷ xs) all = go (mine x) refl (no_orphans mine parent ps none xs all.1)
  where
    go : (b : Bool) → mine x ≡ b → filter mine xs ≡ [] → cond b (x ∷ filter mine xs) (filter mine xs) ≡ []
    go true e more = absurd (let no_one : ⊥ = cc (sym all.0 ∙ none x e) in no_one)
    go false e more = more

-- ---- versions

abbrev numbered : ℕ → Version → Bool
numbered n v = v.number == n

abbrev numbers : List Version → List ℕ
numbers vs = map (λ (v : Version). v.number) vs

-- where numbers rise, the first of a number is the last
first_is_last : (low next n : ℕ) (vs : List Version) → Rises low (numbers vs) next → find (numbered n) vs ≡ version_of n vs
first_is_last low next n [] rise = refl
first_is_last low next n (v ∷ vs) rise = go (v.number == n) refl (first_is_last v.number next n vs rise.2)
  where
    go : (b : Bool) → (v.number == n) ≡ b → find (numbered n) vs ≡ find_last (numbered n) vs → cond b (Some v) (find (numbered n) vs) ≡ option_or (find_last (numbered n) vs) (cond b (Some v) None)
    go true e more = sym (ap (λ (o : Option Version). option_or o (Some v)) (none_up_to v.number next n vs rise.2 (omega (arith, eqb-true v.number n e))))
    go false e more = more ∙ sym (either_none (find_last (numbered n) vs))

pending_same : (s : RunStatus) → finds.is_pending_of s ≡ is_pending s
pending_same Pending = refl
pending_same Planning = refl
pending_same Planned = refl
pending_same Applying = refl
pending_same Applied = refl
pending_same PlannedAndFinished = refl
pending_same Errored = refl
pending_same Discarded = refl
pending_same Canceled = refl

key_same : (key : List ℕ) (own : Option (List ℕ)) → finds.is_key_of key own ≡ has_key key own
key_same key None = refl
key_same key (Some own) = refl

-- ---- what is found among what is in order

greater_number : (m n : ℕ) → is_gt (nat_cmp m n) ≡ true → n < m
greater_number m n e = ranked m n Greater (sym (greater_is (nat_cmp m n) e))

back_total : IsTotalOrder back_by_number
back_total = turned_total (then_total (on_total (λ (x : Kept VersionRow). pos x.1.it.number) int_cmp_total) (on_total id_of int_cmp_total))

found_mapped : {A B : Type 0} (f : A → B) (q : B → Bool) (xs : List A) → option_map f (find (λ x. q (f x)) xs) ≡ find q (map f xs)
found_mapped f q [] = refl
found_mapped f q (x ∷ xs) = go (q (f x)) (found_mapped f q xs)
  where
    go : (b : Bool) → option_map f (find (λ y. q (f y)) xs) ≡ find q (map f xs) → option_map f (cond b (Some x) (find (λ y. q (f y)) xs)) ≡ cond b (Some (f x)) (find q (map f xs))
    go true more = refl
    go false more = more

one_number : (n k m : ℕ) → (k == n) ≡ true → (m == n) ≡ true → nat_cmp k m ≡ Equal
one_number n k m e f = ap₂ nat_cmp (eqb-true k n e) (eqb-true m n f) ∙ tied_itself nat_cmp_total n

version_stays : (t : Tables) (org ws : List ℕ) (n : ℕ) → find (numbered n) (versions_at t org ws) ≡ find (numbered n) (versions_in t org ws)
version_stays t org ws n = ap (find (numbered n)) (versions_sorted t org ws) ∙ found_sorted by_version by_version_total (numbered n) (λ v u. one_number n v.number u.number) (versions_in t org ws)

run_stays : (t : Tables) (org ws : List ℕ) (n : ℕ) → run_of n (runs_at t org ws) ≡ run_of n (runs_in t org ws)
run_stays t org ws n = ap (run_of n) (runs_sorted t org ws) ∙ found_sorted by_run by_run_total (is_numbered n) (λ r s. one_number n r.number s.number) (runs_in t org ws)

other_keyed : (key : List ℕ) (k : Option (List ℕ)) (rs : List Run) → has_key key k ≡ true → IfSome k (λ own. AllByRecursion (λ (s : Run). IfSome s.key (λ other. bytes_eq own other ≡ false)) rs) → AllByRecursion (λ s. is_keyed key s ≡ false) rs
other_keyed key None rs e differ = absurd (let none : ⊥ = cc in none)
other_keyed key (Some own) rs e differ = all_weaker (λ (s : Run). IfSome s.key (λ other. bytes_eq own other ≡ false)) (λ s. is_keyed key s ≡ false) (λ s. apart s.key) rs differ
  where
    apart : (k : Option (List ℕ)) → IfSome k (λ other. bytes_eq own other ≡ false) → has_key key k ≡ false
    apart None h = refl
    apart (Some other) h = apart_name other key (λ same. apart_from own other h (equal_bytes own key e ∙ sym same))

one_keyed : (key : List ℕ) (rs : List Run) → KeysDiffer rs → length (filter (is_keyed key) rs) ≤ 1
one_keyed key [] differ = omega arith
one_keyed key (r ∷ rs) differ = go (is_keyed key r) refl (one_keyed key rs differ.1)
  where
    go : (b : Bool) → is_keyed key r ≡ b → length (filter (is_keyed key) rs) ≤ 1 → length (cond b (r ∷ filter (is_keyed key) rs) (filter (is_keyed key) rs)) ≤ 1
    go false e few = few
    go true e few = let none : length (filter (is_keyed key) rs) ≡ 0 = ap length (filter_none (is_keyed key) rs (other_keyed key r.key rs e differ.0)) in omega (arith, none)

-- no two runs have one key, so the order of runs doesn't tell which is found
keyed_stays : (t : Tables) (org ws key : List ℕ) → KeysDiffer (runs_at t org ws) → find (is_keyed key) (runs_at t org ws) ≡ find (is_keyed key) (runs_in t org ws)
keyed_stays t org ws key differ =
    ap (find (is_keyed key)) (runs_sorted t org ws)
    ∙ sym (slice_get-filter (is_keyed key) (sort_by by_run (runs_in t org ws)))
    ∙ ap (λ l. slice_get l 0) (filter-sort_by by_run by_run_total (is_keyed key) (runs_in t org ws) ∙ as_is (filter (is_keyed key) (runs_in t org ws)) few)
    ∙ slice_get-filter (is_keyed key) (runs_in t org ws)
  where
    few : length (filter (is_keyed key) (runs_in t org ws)) ≤ 1
    few = subst (λ m. m ≤ 1) (count_sorted by_run by_run_total (is_keyed key) (runs_in t org ws)) (one_keyed key (sort_by by_run (runs_in t org ws)) (subst KeysDiffer (runs_sorted t org ws) differ))

    as_is : (rs : List Run) → length rs ≤ 1 → sort_by by_run rs ≡ rs
    as_is [] h = refl
    as_is (r ∷ []) h = refl
    as_is (r ∷ s ∷ rs) h = absurd (omega (arith, h))

-- ---- what each query finds

module _ (t : Tables) (org ws : List ℕ) where
  body_found : (n : ℕ) → text_in org ws n t ≡ option_map (λ (v : Version). v.text) (find (numbered n) (versions_at t org ws))
  body_found n =
      by_row (find (is_version org ws n) t.versions) refl
      ∙ ap (λ (o : Option (Kept VersionRow)). option_map (λ (v : Version). v.text) (option_map (λ (x : Kept VersionRow). version_at t org ws x.1.it) o))
      (find_same (is_version org ws n) (λ x. is_version_of org ws x && numbered n (version_at t org ws x.1.it)) (λ x. sym (and_assoc (bytes_eq x.1.org org) (bytes_eq x.1.name ws) (x.1.it.number == n))) t.versions)
      ∙ ap (option_map (λ (v : Version). v.text)) (find-slice (is_version_of org ws) (λ (x : Kept VersionRow). version_at t org ws x.1.it) (numbered n) t.versions ∙ sym (version_stays t org ws n))
    where
      by_row : (r : Option (Kept VersionRow)) → find (is_version org ws n) t.versions ≡ r
          → option_map (λ (size : ℕ). text_of org ws n size t) (option_map (λ (x : Kept VersionRow). x.1.it.size) r) ≡ option_map (λ (v : Version). v.text) (option_map (λ (x : Kept VersionRow). version_at t org ws x.1.it) r)
      by_row None e = refl
      by_row (Some x) e = ap (λ (m : ℕ). Some (text_of org ws m x.1.it.size t)) (sym (version_row_parts org ws n x (found_passes (is_version org ws n) t.versions x e)).1.1)

  abbrev waits : Kept RunRow → Bool
  waits x = is_waiting x.1.it

  abbrev run_rows : List (Kept RunRow)
  run_rows = sort_by run_cmp (filter (is_run_of org ws) t.runs)

  waiting_rows : filter (finds.is_waiting_of org ws) t.runs ≡ filter waits (filter (is_run_of org ws) t.runs)
  waiting_rows =
      filter_same (finds.is_waiting_of org ws) (λ x. is_run_of org ws x && waits x)
      (λ x. sym (and_assoc (bytes_eq x.1.org org) (bytes_eq x.1.name ws) (finds.is_pending_of x.1.it.status && not x.1.it.plan_only))
      ∙ ap (λ (b : Bool). (bytes_eq x.1.org org && bytes_eq x.1.name ws) && (b && not x.1.it.plan_only)) (pending_same x.1.it.status)) t.runs
      ∙ filter_both (is_run_of org ws) waits t.runs

  pub first_waiting_found : first_waiting_of org ws t ≡ first_waiting (runs_at t org ws)
  first_waiting_found =
      ap (λ (l : List (Kept RunRow)). option_map (λ (x : Kept RunRow). x.1.it.number) (slice_get l 0)) (ap (sort_by run_cmp) waiting_rows ∙ sym (filter-sort_by run_cmp runs_total waits (filter (is_run_of org ws) t.runs)))
      ∙ ap (option_map (λ (x : Kept RunRow). x.1.it.number)) (slice_get-filter waits run_rows)
      ∙ mapped (λ (x : Kept RunRow). x.1.it) (λ (r : Run). r.number) (find waits run_rows)
      ∙ ap (option_map (λ (r : Run). r.number)) (found_mapped (λ (x : Kept RunRow). x.1.it) is_waiting run_rows)

  pub status_found : (n : ℕ) → status_at_number org ws n t ≡ option_map (λ (r : Run). r.status) (run_of n (runs_at t org ws))
  status_found n =
      ap (option_map (λ (x : Kept RunRow). x.1.it.status)) (find_same (is_run_row org ws n) (λ x. is_run_of org ws x && x.1.it.number == n) (λ x. sym (and_assoc (bytes_eq x.1.org org) (bytes_eq x.1.name ws) (x.1.it.number == n))) t.runs)
      ∙ mapped (λ (x : Kept RunRow). x.1.it) (λ (r : Run). r.status) (find (λ x. is_run_of org ws x && x.1.it.number == n) t.runs)
      ∙ ap (option_map (λ (r : Run). r.status)) (find-slice (is_run_of org ws) (λ (x : Kept RunRow). x.1.it) (λ (r : Run). r.number == n) t.runs ∙ sym (run_stays t org ws n))

  -- the run of a row that passes a test of its own
  run_found : (p : Kept RunRow → Bool) (q : Run → Bool) → ((x : Kept RunRow) → p x ≡ (is_run_of org ws x && q x.1.it)) → option_map (λ (x : Kept RunRow). x.1.it) (find p t.runs) ≡ find q (runs_in t org ws)
  run_found p q same =
      ap (option_map (λ (x : Kept RunRow). x.1.it)) (find_same p (λ x. is_run_of org ws x && q x.1.it) same t.runs)
      ∙ find-slice (is_run_of org ws) (λ (x : Kept RunRow). x.1.it) q t.runs

  numbered_found : (n : ℕ) → finds.run_at_number org ws n t ≡ run_of n (runs_at t org ws)
  numbered_found n = run_found (is_run_row org ws n) (is_numbered n) (λ x. sym (and_assoc (bytes_eq x.1.org org) (bytes_eq x.1.name ws) (x.1.it.number == n))) ∙ sym (run_stays t org ws n)

  keyed_found : KeysDiffer (runs_at t org ws) → (key : Option (List ℕ)) → keyed_run_in key org ws t ≡ keyed_run key (runs_at t org ws)
  keyed_found differ None = refl
  keyed_found differ (Some key) = run_found (finds.is_run_with_key org ws key) (is_keyed key) (λ x.
      sym (and_assoc (bytes_eq x.1.org org) (bytes_eq x.1.name ws) (finds.is_key_of key x.1.it.key)) ∙ ap (λ (b : Bool). (bytes_eq x.1.org org && bytes_eq x.1.name ws) && b) (key_same key x.1.it.key))
      ∙ sym (keyed_stays t org ws key differ)

  pub asked_run_found : KeysDiffer (runs_at t org ws) → (number : Option ℕ) (key : Option (List ℕ)) → asked_run_in number key org ws t ≡ asked_run number key (runs_at t org ws)
  asked_run_found differ None key = keyed_found differ key
  asked_run_found differ (Some n) key = numbered_found n

  -- the count of open runs is exact, since there are no more than 100
  pub open_runs_found : open_runs (runs_at t org ws) ≤ 100 → finds.open_runs_of org ws t ≡ open_runs (runs_at t org ws)
  open_runs_found most = least (length (filter (finds.is_open_run_of org ws) t.runs)) (open_runs (runs_at t org ws)) same most
    where
      same : open_runs (runs_at t org ws) ≡ length (filter (finds.is_open_run_of org ws) t.runs)
      same =
          ap open_runs (runs_sorted t org ws) ∙ count_sorted by_run by_run_total (λ (r : Run). is_open r.status) (runs_in t org ws)
          ∙ ap length (sym (filter-slice (is_run_of org ws) (λ (x : Kept RunRow). x.1.it) (λ (r : Run). is_open r.status) t.runs))
          ∙ length-map (filter (λ (x : Kept RunRow). is_run_of org ws x && is_open x.1.it.status) t.runs) (λ (x : Kept RunRow). x.1.it)
          ∙ ap length (sym (filter_same (finds.is_open_run_of org ws) (λ (x : Kept RunRow). is_run_of org ws x && is_open x.1.it.status) (λ x. sym (and_assoc (bytes_eq x.1.org org) (bytes_eq x.1.name ws) (is_open x.1.it.status))) t.runs))

      least : (n m : ℕ) → m ≡ n → m ≤ 100 → min n 9_223_372_036_854_775_807 ≡ m
      least n m e h = omega arith

  pub holder_status_found : (holder : Holder) → holder_status_in org ws holder t ≡ holder_status holder (runs_at t org ws)
  holder_status_found Nobody = refl
  holder_status_found (Lock id text) = refl
  holder_status_found (HoldingRun n) = status_found n

  -- the version that is asked of is kept where it has a row
  module _ (next : ℕ) (rise : Rises 0 (numbers (versions_at t org ws)) next) where
    kept_found : (n : ℕ) → is_some (size_of org ws n t) ≡ is_some (version_of n (versions_at t org ws))
    kept_found n =
        is_some-map (λ (x : Kept VersionRow). x.1.it.size) (find (is_version org ws n) t.versions)
        ∙ ap is_some (find_same (is_version org ws n) (λ x. is_version_of org ws x && numbered n (version_at t org ws x.1.it)) (λ x. sym (and_assoc (bytes_eq x.1.org org) (bytes_eq x.1.name ws) (x.1.it.number == n))) t.versions)
        ∙ sym (is_some-map (λ (x : Kept VersionRow). version_at t org ws x.1.it) (find (λ x. is_version_of org ws x && numbered n (version_at t org ws x.1.it)) t.versions))
        ∙ ap is_some (find-slice (is_version_of org ws) (λ (x : Kept VersionRow). version_at t org ws x.1.it) (numbered n) t.versions ∙ sym (version_stays t org ws n))
        ∙ ap is_some (first_is_last 0 next n (versions_at t org ws) rise)

    pub has_version_found : (number : Option ℕ) → has_version_in number org ws t ≡ has_version number (versions_at t org ws)
    has_version_found None = refl
    has_version_found (Some n) = kept_found n

  -- the text of each of its versions is whole
  pub own_whole : AreTexts t → AllByRecursion (λ x. IsWhole org ws x.1.it.number x.1.it.size t) (filter (is_version_of org ws) t.versions)
  own_whole a = all_both (HasText t) (λ x. is_version_of org ws x ≡ true) (λ x. IsWhole org ws x.1.it.number x.1.it.size t) whole
      (filter (is_version_of org ws) t.versions) (all-filter (HasText t) (is_version_of org ws) t.versions a.texts) (all_passing (is_version_of org ws) t.versions)
    where
      whole : (x : Kept VersionRow) → HasText t x → is_version_of org ws x ≡ true → IsWhole org ws x.1.it.number x.1.it.size t
      whole x there e =
          subst (λ (p : List ℕ). IsWhole p ws x.1.it.number x.1.it.size t) (pair_first org ws x.1.org x.1.name e) (subst (λ (q : List ℕ). IsWhole x.1.org q x.1.it.number x.1.it.size t) (pair_second org ws x.1.org x.1.name e) there)

  -- where numbers rise, the rows from the greatest number down are those in the order of numbers, the other way round
  above : (x y : Kept VersionRow) → x.1.it.number < y.1.it.number → back_by_number x y ≡ Greater
  above x y low = ap (λ (o : Ordering). ordering_then o (int_cmp (id_of y) (id_of x))) (let greater : int_cmp (pos y.1.it.number) (pos x.1.it.number) ≡ Greater = grind (arith, ints) in greater)

  all_above : (x : Kept VersionRow) (low next : ℕ) (xs : List (Kept VersionRow)) → x.1.it.number ≤ low → Rises low (numbers (map (λ (y : Kept VersionRow). version_at t org ws y.1.it) xs)) next → AllByRecursion (λ y. back_by_number x y ≡ Greater) xs
  all_above x low next [] h rise = tt
  all_above x low next (y ∷ ys) h rise = (above x y (omega (arith, h, rise.0)), all_above x y.1.it.number next ys (omega (arith, h, rise.0)) rise.2)

  each_above : (low next : ℕ) (xs : List (Kept VersionRow)) → Rises low (numbers (map (λ (y : Kept VersionRow). version_at t org ws y.1.it) xs)) next → IsAscending (λ x y. back_by_number x y ≡ Greater) xs
  each_above low next [] rise = tt
  each_above low next (x ∷ xs) rise = (all_above x x.1.it.number next xs (omega arith) rise.2, each_above x.1.it.number next xs rise.2)

  module _ (next : ℕ) (rise : Rises 0 (numbers (versions_at t org ws)) next) where
    abbrev rows : List (Kept VersionRow)
    rows = sort_by version_cmp (filter (is_version_of org ws) t.versions)

    abbrev rows_back : List (Kept VersionRow)
    rows_back = sort_by back_by_number (filter (is_version_of org ws) t.versions)

    turned : rows_back ≡ reverse rows
    turned =
        sym (sorted_anew version_cmp back_by_number (λ x z e l. sym (put_in_turn back_by_number back_total z x (above z x (greater_number x.1.it.number z.1.it.number e)) l)) (filter (is_version_of org ws) t.versions))
        ∙ turned_round back_by_number rows (each_above 0 next rows rise)

    -- the version with the greatest number
    newest_row : option_map (λ (x : Kept VersionRow). version_at t org ws x.1.it) (slice_get rows_back 0) ≡ newest (versions_at t org ws)
    newest_row = ap (λ (xs : List (Kept VersionRow)). option_map (λ (x : Kept VersionRow). version_at t org ws x.1.it) (slice_get xs 0)) turned ∙ newest_back (λ (x : Kept VersionRow). version_at t org ws x.1.it) rows

    pub newest_number_found : option_map (λ (h : Head). h.number) (newest_of org ws t) ≡ option_map (λ (v : Version). v.number) (newest (versions_at t org ws))
    newest_number_found =
        sym (mapped (λ (x : Kept VersionRow). x.1.it) (λ (h : Head). h.number) (slice_get rows_back 0))
        ∙ mapped (λ (x : Kept VersionRow). version_at t org ws x.1.it) (λ (v : Version). v.number) (slice_get rows_back 0)
        ∙ ap (option_map (λ (v : Version). v.number)) newest_row

    -- and it is the one of its number
    pub newest_numbered : (h : Head) → newest_of org ws t ≡ Some h → version_of h.number (versions_at t org ws) ≡ Some (version_at t org ws h)
    newest_numbered h e = by_row (slice_get rows_back 0) refl e
      where
        by_row : (r : Option (Kept VersionRow)) → slice_get rows_back 0 ≡ r → option_map (λ (x : Kept VersionRow). x.1.it) r ≡ Some h → version_of h.number (versions_at t org ws) ≡ Some (version_at t org ws h)
        by_row None f is = absurd (let none : ⊥ = cc in none)
        by_row (Some x) f is =
            let same : x.1.it ≡ h = cc in
            let last : newest (versions_at t org ws) ≡ Some (version_at t org ws x.1.it) = sym newest_row ∙ ap (option_map (λ (y : Kept VersionRow). version_at t org ws y.1.it)) f in
            subst (λ (k : Head). version_of k.number (versions_at t org ws) ≡ Some (version_at t org ws k)) same (version_of-newest (versions_at t org ws) (version_at t org ws x.1.it) last)

    -- the text of the newest version is compared page by page, and one of another size isn't the asked one
    pub newest_unit_found : AreTexts t → (text : Option (List ℕ)) → newest_in text org ws t ≡ option_map (newest_unit text) (newest (versions_at t org ws))
    newest_unit_found a text = by_row (slice_get rows_back 0) refl ∙ ap (option_map (newest_unit text)) newest_row
      where
        same_text : (x : Kept VersionRow) → IsWhole org ws x.1.it.number x.1.it.size t → (asked : Option (List ℕ)) → has_text asked org ws x.1.it t ≡ is_text asked (text_of org ws x.1.it.number x.1.it.size t)
        same_text x whole None = refl
        same_text x whole (Some asked) = by_size (x.1.it.size == length asked) refl
          where
            by_size : (b : Bool) → (x.1.it.size == length asked) ≡ b → cond b (are_pieces org ws x.1.it.number asked (pages_for (length asked)) t) false ≡ bytes_eq (text_of org ws x.1.it.number x.1.it.size t) asked
            by_size true e =
                let same : x.1.it.size ≡ length asked = eqb-true x.1.it.size (length asked) e in
                same_is org ws x.1.it.number asked t (subst (λ (m : ℕ). IsWhole org ws x.1.it.number m t) same whole) ∙ ap (λ (m : ℕ). bytes_eq (text_of org ws x.1.it.number m t) asked) (sym same)
            by_size false e = sym (other_size (text_of org ws x.1.it.number x.1.it.size t) asked (ap (λ (m : ℕ). m == length asked) (whole_size org ws x.1.it.number t x.1.it.size whole) ∙ e))

        by_row : (r : Option (Kept VersionRow)) → slice_get rows_back 0 ≡ r
            → option_map (newest_by text org ws t) (option_map (λ (x : Kept VersionRow). x.1.it) r) ≡ option_map (newest_unit text) (option_map (λ (x : Kept VersionRow). version_at t org ws x.1.it) r)
        by_row None e = refl
        by_row (Some x) e =
            let whole : IsWhole org ws x.1.it.number x.1.it.size t = first_holds (λ y. IsWhole org ws y.1.it.number y.1.it.size t) rows_back x (all_sorted back_by_number (λ y. IsWhole org ws y.1.it.number y.1.it.size t) (filter (is_version_of org ws) t.versions) (own_whole a)) e in
            ap (λ (same : Bool). Some (record { number = x.1.it.number; serial = x.1.it.serial; lineage = x.1.it.lineage; is_same = same })) (same_text x whole text)

    -- no version has a number that is out of range
    kept_in_range : (last : ℕ) → last ≤ 1_000_000_000 → (b c : Bool) → nat_le 1 last ≡ b → nat_le last 1_000_000_000 ≡ c
        → cond (has_version (cond (b && c) (Some last) None) (versions_at t org ws)) (cond (b && c) (Some last) None) None ≡ cond (is_some (version_of last (versions_at t org ws))) (Some last) None
    kept_in_range last most true true e f = refl
    kept_in_range last most true false e f = absurd (omega (arith, leb-false last 1_000_000_000 f, most))
    kept_in_range last most false c e f =
        sym (ap (λ (o : Option Version). cond (is_some o) (Some last) None) (none_up_to 0 next last (versions_at t org ws) rise (omega (arith, leb-false 1 last e))))

    -- the greatest number of those that go is told by the next one, since none between is missing
    module _ (follow : HasNoGap (numbers (versions_at t org ws)) next) (most : next ≤ 1_000_000_001) where
      behind_found : (staying : ℕ) → number_behind next staying org ws t ≡ outgoing staying (versions_at t org ws)
      behind_found staying =
          ap (λ (b : Bool). cond b (number_before next staying) None) (has_version_found next rise (number_before next staying))
          ∙ kept_in_range (next - 1 - staying) (omega (arith, most)) (nat_le 1 (next - 1 - staying)) (nat_le (next - 1 - staying) 1_000_000_000) refl refl
          ∙ sym (outgoing_by_number staying next (versions_at t org ws) rise follow)

      pub outgoing_found : (staying : Staying) (retention : ℕ) → outgoing_in staying retention next org ws t ≡ outgoing_by staying retention (versions_at t org ws)
      outgoing_found StayAll retention = refl
      outgoing_found MakeRoom retention = behind_found (retention - 1)
      outgoing_found (StayAtMost staying) retention = behind_found staying

-- ---- counts

one_longer : (n : ℕ) (o : Option Workspace) → o ≡ None → cond (is_some o) n (n + 1) ≡ suc n
one_longer n None e = omega arith
one_longer n (Some w) e = absurd (let none : ⊥ = cc in none)

module _ (org : List ℕ) (value : Kept WsRow → Workspace) where
  pub entries_counted : (xs : List (Kept WsRow)) → AreApart (λ a b. is_ws a.1.org a.1.name b) xs → len (from_entries {R = name_cmp} (map (λ (x : Kept WsRow). (x.1.name, value x)) (filter (is_ws_of org) xs))) ≡ length (filter (is_ws_of org) xs)
  entries_counted [] apart = len-empty name_cmp Workspace
  entries_counted (x ∷ xs) apart = go (is_ws_of org x) refl (entries_counted xs apart.1)
    where
      go : (b : Bool) → is_ws_of org x ≡ b → len (from_entries {R = name_cmp} (map (λ (y : Kept WsRow). (y.1.name, value y)) (filter (is_ws_of org) xs))) ≡ length (filter (is_ws_of org) xs)
          → len (from_entries {R = name_cmp} (map (λ (y : Kept WsRow). (y.1.name, value y)) (cond b (x ∷ filter (is_ws_of org) xs) (filter (is_ws_of org) xs)))) ≡ length (cond b (x ∷ filter (is_ws_of org) xs) (filter (is_ws_of org) xs))
      go false e more = more
      go true e more =
          let rest = from_entries {R = name_cmp} (map (λ (y : Kept WsRow). (y.1.name, value y)) (filter (is_ws_of org) xs)) in
          let none : find (λ y. is_ws_of org y && bytes_eq y.1.name x.1.name) xs ≡ None =
          none_found (λ y. is_ws_of org y && bytes_eq y.1.name x.1.name) xs (subst (λ (n : List ℕ). AllByRecursion (λ y. is_ws n x.1.name y ≡ false) xs) (equal_bytes x.1.org org e) apart.0) in
          let missing : get rest x.1.name ≡ None = get-from_entries names_total (map (λ (y : Kept WsRow). (y.1.name, value y)) (filter (is_ws_of org) xs)) x.1.name ∙ entry_found (is_ws_of org) (λ (y : Kept WsRow). y.1.name) value x.1.name xs ∙ ap (option_map value) none in
          len-insert names_total rest x.1.name (value x) ∙ one_longer (len rest) (get rest x.1.name) missing ∙ ap suc more

-- the workspaces of a record are those of its rows
workspaces_there : (t : Tables) (org : List ℕ) (o : Organization) → record_of t org ≡ Some o → o.workspaces ≡ workspaces_at t org
workspaces_there t org o e = by_limit (cap_of org t) e
  where
    by_limit : (cap : Option ℕ) → option_map (organization_at t org) cap ≡ Some o → o.workspaces ≡ workspaces_at t org
    by_limit None e = absurd (let none : ⊥ = cc in none)
    by_limit (Some cap) e = sym (ap (λ (p : Organization). p.workspaces) (same_Some (organization_at t org cap) o e))

module _ (t : Tables) (sound : IsSound t) (org : List ℕ) where
  -- as many rows as workspaces
  pub rows_counted : (o : Organization) → record_of t org ≡ Some o → length (filter (is_ws_of org) t.wss) ≡ count_of o
  rows_counted o e =
      sym (entries_counted org (λ (x : Kept WsRow). workspace_at t org x.1.name x.1.it) t.wss sound.wss_apart)
      ∙ len-entries (workspaces_at t org) ∙ ap (λ m. length (entries m)) (sym (workspaces_there t org o e))

  -- the count of workspaces is exact, since there are no more than the greatest limit
  pub count_found : (o : Organization) → record_of t org ≡ Some o → workspaces_of org t ≡ count_of o
  count_found o e = least (length (filter (is_ws_of org) t.wss)) (count_of o) (rows_counted o e) (sound.counts org o e)
    where
      least : (n m : ℕ) → n ≡ m → m ≤ 100_000 → min n 9_223_372_036_854_775_807 ≡ m
      least n m e h = omega arith

  -- what a decision sees of a workspace is what the point queries find, where the count that is known is right
  known_found : (o : Organization) → record_of t org ≡ Some o → (known : Option ℕ) → IfSome known (λ n. n ≡ count_of o) → unwrap_or known (workspaces_of org t) ≡ count_of o
  known_found o e None is = count_found o e
  known_found o e (Some n) is = is

  pub unit_found : (o : Organization) (ws : List ℕ) (act : Act) (known : Option ℕ) → IfSome known (λ n. n ≡ count_of o) → record_of t org ≡ Some o → unit_in (needs act) known org ws t ≡ unit_of o ws act
  unit_found o ws act known is e = by_row (workspace_of org ws t) refl ∙ ap (unit_by o act) (sym (workspace_there t org ws o e))
    where
      by_row : (r : Option WorkspaceCells) → workspace_of org ws t ≡ r → unit_at (needs act) known org ws t r ≡ unit_by o act (option_map (workspace_at t org ws) r)
      by_row None f = λ i. Absent (cond (needs act).makes (known_found o e known is i) 0) (cond (needs act).makes (unwrap_or (limit_there t org o e i) 0) 0)
      by_row (Some w) f =
          let stands : workspace_by t org ws ≡ Some (workspace_at t org ws w) = ap (option_map (workspace_at t org ws)) f in
          let lawful = (sound.workspaces org ws _ stands).lawful in
          λ i. Present (record {
            settings = settings_of_cells (retention_in (needs act).retention org ws t) w;
            holder = w.holder;
            holder_status = if_needed (needs act).holder_status (holder_status_found t org ws w.holder i);
            released = w.released;
            next_version = w.next_version;
            next_run = w.next_run;
            newest = if_needed (needs act).newest (newest_unit_found t org ws w.next_version lawful.versions.rise sound.contents (needs act).text i);
            outgoing = outgoing_found t org ws w.next_version lawful.versions.rise (sound.workspaces org ws _ stands).gapless lawful.versions.next.1 (needs act).outgoing (retention_in (needs act).retention org ws t) i;
            first_waiting = if_needed (needs act).waiting (first_waiting_found t org ws i);
            has_version = has_version_found t org ws w.next_version lawful.versions.rise (needs act).version i;
            asked_run = asked_run_found t org ws lawful.runs.keys (needs act).run (needs act).key i;
            open_runs = cond (needs act).open_runs (open_runs_found t org ws lawful.runs.open_runs i) 0;
          })

  -- ---- the text of a version

  pub none_there : cap_of org t ≡ None → list_any (is_org org) t.orgs ≡ false
  none_there e = any_is_found (is_org org) t.orgs ∙ ap is_some (none_mapped (λ (x : Kept OrgRow). x.1.cap) (find (is_org org) t.orgs) e)

  -- an organization that isn't there has no workspace
  no_workspace : (ws : List ℕ) → cap_of org t ≡ None → workspace_of org ws t ≡ None
  no_workspace ws e = by_row (find (is_ws org ws) t.wss) refl
    where
      by_row : (r : Option (Kept WsRow)) → find (is_ws org ws) t.wss ≡ r → option_map (λ (x : Kept WsRow). x.1.it) r ≡ None
      by_row None f = refl
      by_row (Some x) f =
          let owned : list_any (is_org x.1.org) t.orgs ≡ true = found_holds (λ (y : Kept WsRow). list_any (is_org y.1.org) t.orgs ≡ true) (is_ws org ws) t.wss x sound.wss_owned f in
          let own : x.1.org ≡ org = pair_first org ws x.1.org x.1.name (found_passes (is_ws org ws) t.wss x f) in
          let there : list_any (is_org org) t.orgs ≡ true = subst (λ (n : List ℕ). list_any (is_org n) t.orgs ≡ true) own owned in
          absurd (let no_one : ⊥ = cc (sym there ∙ none_there e) in no_one)

  -- a workspace that isn't there has no version and no run
  none_is : (ws : List ℕ) → workspace_of org ws t ≡ None → list_any (is_ws org ws) t.wss ≡ false
  none_is ws e = any_is_found (is_ws org ws) t.wss ∙ ap is_some (none_mapped (λ (x : Kept WsRow). x.1.it) (find (is_ws org ws) t.wss) e)

  pub no_version_rows : (ws : List ℕ) → workspace_of org ws t ≡ None → filter (is_version_of org ws) t.versions ≡ []
  no_version_rows ws e = no_orphans (is_version_of org ws) (λ x. is_ws x.1.org x.1.name) t.wss
      (λ x f. ap₂ (λ (a b : List ℕ). list_any (is_ws a b) t.wss) (pair_first org ws x.1.org x.1.name f) (pair_second org ws x.1.org x.1.name f) ∙ none_is ws e) t.versions sound.versions_owned

  pub no_versions : (ws : List ℕ) → workspace_of org ws t ≡ None → versions_at t org ws ≡ []
  no_versions ws e = ap (λ (xs : List (Kept VersionRow)). map (λ (x : Kept VersionRow). version_at t org ws x.1.it) (sort_by version_cmp xs)) (no_version_rows ws e)

  pub no_run_rows : (ws : List ℕ) → workspace_of org ws t ≡ None → filter (is_run_of org ws) t.runs ≡ []
  no_run_rows ws e = no_orphans (is_run_of org ws) (λ x. is_ws x.1.org x.1.name) t.wss
      (λ x f. ap₂ (λ (a b : List ℕ). list_any (is_ws a b) t.wss) (pair_first org ws x.1.org x.1.name f) (pair_second org ws x.1.org x.1.name f) ∙ none_is ws e) t.runs sound.runs_owned

  pub no_runs : (ws : List ℕ) → workspace_of org ws t ≡ None → runs_at t org ws ≡ []
  no_runs ws e = ap (λ (xs : List (Kept RunRow)). map (λ (x : Kept RunRow). x.1.it) (sort_by run_cmp xs)) (no_run_rows ws e)

  pub seen_in_rows : (ws : List ℕ) → seen_workspace (record_of t org) ws ≡ workspace_by t org ws
  seen_in_rows ws = by_limit (cap_of org t) refl
    where
      by_limit : (cap : Option ℕ) → cap_of org t ≡ cap → seen_workspace (option_map (organization_at t org) cap) ws ≡ workspace_by t org ws
      by_limit None e = sym (ap (option_map (workspace_at t org ws)) (no_workspace ws e))
      by_limit (Some cap) e = got_workspace t org ws

  pub text_found : (ws : List ℕ) (n : ℕ) → text_in org ws n t ≡ version_text n (seen_workspace (record_of t org) ws)
  text_found ws n = body_found t org ws n ∙ by_row (workspace_of org ws t) refl ∙ ap (version_text n) (sym (seen_in_rows ws))
    where
      by_row : (r : Option WorkspaceCells) → workspace_of org ws t ≡ r → option_map (λ (v : Version). v.text) (find (numbered n) (versions_at t org ws)) ≡ version_text n (option_map (workspace_at t org ws) r)
      by_row None e = ap (λ (vs : List Version). option_map (λ (v : Version). v.text) (find (numbered n) vs)) (no_versions ws e)
      by_row (Some w) e =
          let stands : workspace_by t org ws ≡ Some (workspace_at t org ws w) = ap (option_map (workspace_at t org ws)) e in
          ap (option_map (λ (v : Version). v.text)) (first_is_last 0 w.next_version n (versions_at t org ws) (sound.workspaces org ws _ stands).lawful.versions.rise)
