-- Rows of versions and of runs in another order: sound tables stay sound, and denote the same records.
use Rattle.tables.proofs.Outside.{◌≡◌, ℕ, Bool, true, false, cond, ◌&&◌, ◌==◌, List, [], ◌∷◌, map, filter, find, Option, Some, option_map, IsSomeAnd, refl, sym, ap, subst, ◌∙◌, ◌<◌, Ordering, Less, Equal, Greater, is_eq, nat_cmp, bytes_eq, AllByRecursion, list_any, IsTotalOrder, tied_itself, nat_cmp_total, unsigned_tied, ordering_reverse, from_entries, eqb-true, and_assoc, IsAscending, sort_by, insert_sorted, all_weaker, ascending_weaker, along_permutation, IsPermutation-filter, name_cmp, Kept, WsRow, VersionRow, RunRow, VpageRow, Tables, is_ws, is_ws_of, is_version_of, is_version, is_run_of, version_cmp, run_cmp, cap_of, workspace_of, size_of, pages_for, carried_whole, carried_text, carried_sound}
use Rattle.std.specs.List.Sorted.{IsPermutation}
use Rattle.sqlite_trees.proofs.ListLemmas.{all-permutation}
use Rattle.statements.specs.declared.rows.Workspace.{Workspace as WorkspaceCells}
use Rattle.tables.specs.Laws.{RowsStandInAnyOrder}
use Rattle.tables.specs.Records.{version_of_cells, workspace_of_cells, retention_at, versions_at, runs_at, workspace_by, tokens_at, record_of}
use Rattle.tables.specs.Sound.{IsPlaced, HasText, IsSound}
use Rattle.tables.proofs.Finding.{find_same}
use Rattle.tables.proofs.Listed.{versions_apart, runs_apart}
use Rattle.tables.proofs.Ordered.{versions_total, runs_total}
use Rattle.tables.proofs.Sorted.{put_in_turn, found_sorted}

-- ---- lists in another order

module _ {A : Type 0} (cmp : A → A → Ordering) (total : IsTotalOrder cmp) where
  abbrev Untied : A → A → Type 0
  Untied a b = is_eq (cmp a b) ≡ false

  untied_back : (x y : A) → Untied x y → Untied y x
  untied_back x y e = ap is_eq (total.antisymm y x) ∙ turned (cmp x y) e
    where
      turned : (o : Ordering) → is_eq o ≡ false → is_eq (ordering_reverse o) ≡ false
      turned Less f = refl
      turned Equal f = f
      turned Greater f = refl

  put_either : (x y : A) → Untied x y → (l : List A) → insert_sorted cmp x (insert_sorted cmp y l) ≡ insert_sorted cmp y (insert_sorted cmp x l)
  put_either x y e l = go (cmp x y) refl
    where
      go : (o : Ordering) → cmp x y ≡ o → insert_sorted cmp x (insert_sorted cmp y l) ≡ insert_sorted cmp y (insert_sorted cmp x l)
      go Less f = put_in_turn cmp total y x (total.antisymm y x ∙ ap ordering_reverse f) l
      go Equal f = absurd (let none : ⊥ = cc (sym (ap is_eq f) ∙ e) in none)
      go Greater f = sym (put_in_turn cmp total x y f l)

  -- what is untied in one order is so in each, and sorted the same
  record Agrees (xs ys : List A) : Type 0 where
    all : (x : A) → AllByRecursion (Untied x) xs → AllByRecursion (Untied x) ys
    apart : IsAscending Untied ys
    sorted : sort_by cmp xs ≡ sort_by cmp ys

  abbrev Agree : List A → List A → Type 0
  Agree xs ys = IsAscending Untied xs → Agrees xs ys

  permuted : (xs ys : List A) → IsPermutation xs ys → Agree xs ys
  permuted = along_permutation Agree (λ xs up. record { all = λ x h. h; apart = up; sorted = refl })
      (λ x xs ys more up. let rest = more up.1 in record { all = λ z h. (h.0, rest.all z h.1); apart = (rest.all x up.0, rest.apart); sorted = ap (insert_sorted cmp x) rest.sorted })
      (λ x y xs up. record {
        all = λ z h. (h.1.0, (h.0, h.1.1));
        apart = ((untied_back x y up.0.0, up.1.0), (up.0.1, up.1.1));
        sorted = put_either x y up.0.0 (sort_by cmp xs);
      })
      (λ xs ys zs one two up.
      let first = one up in
      let second = two first.apart in
      record { all = λ z h. second.all z (first.all z h); apart = second.apart; sorted = first.sorted ∙ second.sorted })

  pub sorted_the_same : (xs ys : List A) → IsPermutation xs ys → IsAscending Untied xs → sort_by cmp ys ≡ sort_by cmp xs
  sorted_the_same xs ys same up = sym (permuted xs ys same up).sorted

-- ---- tables in another order

module _ (t : Tables) (versions : List (Kept VersionRow)) (runs : List (Kept RunRow)) (sound : IsSound t) (same_versions : IsPermutation t.versions versions) (same_runs : IsPermutation t.runs runs) where
  abbrev u : Tables
  u = record t { versions = versions; runs = runs }

  version_rows : (o w : List ℕ) → sort_by version_cmp (filter (is_version_of o w) versions) ≡ sort_by version_cmp (filter (is_version_of o w) t.versions)
  version_rows o w =
      sorted_the_same version_cmp versions_total (filter (is_version_of o w) t.versions) (filter (is_version_of o w) versions) (IsPermutation-filter (is_version_of o w) t.versions versions same_versions)
      (ascending_weaker (λ x y. (x.1.it.number == y.1.it.number) ≡ false) (λ x y. is_eq (version_cmp x y) ≡ false) (λ x y e. unsigned_tied x.1.it.number y.1.it.number ∙ e) (filter (is_version_of o w) t.versions) (versions_apart t o w sound))

  run_rows : (o w : List ℕ) → sort_by run_cmp (filter (is_run_of o w) runs) ≡ sort_by run_cmp (filter (is_run_of o w) t.runs)
  run_rows o w =
      sorted_the_same run_cmp runs_total (filter (is_run_of o w) t.runs) (filter (is_run_of o w) runs) (IsPermutation-filter (is_run_of o w) t.runs runs same_runs)
      (ascending_weaker (λ x y. (x.1.it.number == y.1.it.number) ≡ false) (λ x y. is_eq (run_cmp x y) ≡ false) (λ x y e. unsigned_tied x.1.it.number y.1.it.number ∙ e) (filter (is_run_of o w) t.runs) (runs_apart t o w sound))

  versions_same : (o w : List ℕ) → versions_at u o w ≡ versions_at t o w
  versions_same o w = λ i. map (λ (x : Kept VersionRow). version_of_cells (carried_text t u refl refl o w x.1.it.number x.1.it.size i) x.1.it) (version_rows o w i)

  runs_same : (o w : List ℕ) → runs_at u o w ≡ runs_at t o w
  runs_same o w = ap (map (λ (x : Kept RunRow). x.1.it)) (run_rows o w)

  workspace_same : (o w : List ℕ) → workspace_by u o w ≡ workspace_by t o w
  workspace_same o w = λ i. option_map (λ (c : WorkspaceCells). workspace_of_cells (retention_at t o w) c (versions_same o w i) (runs_same o w i)) (workspace_of o w t)

  record_same : (o : List ℕ) → record_of u o ≡ record_of t o
  record_same o = λ i. option_map (λ (cap : ℕ). record {
    limit = cap;
    tokens = tokens_at t o;
    workspaces = from_entries {R = name_cmp} (map (λ (x : Kept WsRow). (x.1.name, workspace_of_cells (retention_at t o x.1.name) x.1.it (versions_same o x.1.name i) (runs_same o x.1.name i))) (filter (is_ws_of o) t.wss));
  }) (cap_of o t)

  -- the row of a version, found in the order of numbers
  found_in_order : (o w : List ℕ) (n : ℕ) (xs : List (Kept VersionRow)) → option_map (λ (x : Kept VersionRow). x.1.it.size) (find (is_version o w n) xs)
      ≡ option_map (λ (x : Kept VersionRow). x.1.it.size) (find (λ x. x.1.it.number == n) (sort_by version_cmp (filter (is_version_of o w) xs)))
  found_in_order o w n xs =
      ap (option_map (λ (x : Kept VersionRow). x.1.it.size)) (find_same (is_version o w n) (λ x. is_version_of o w x && x.1.it.number == n) (λ x. sym (and_assoc (bytes_eq x.1.org o) (bytes_eq x.1.name w) (x.1.it.number == n))) xs ∙ found_within xs
      ∙ sym (found_sorted version_cmp versions_total (λ x. x.1.it.number == n) tied (filter (is_version_of o w) xs)))
    where
      tied : (x y : Kept VersionRow) → (x.1.it.number == n) ≡ true → (y.1.it.number == n) ≡ true → version_cmp x y ≡ Equal
      tied x y e f = ap (λ k. nat_cmp k y.1.it.number) (eqb-true x.1.it.number n e) ∙ ap (nat_cmp n) (eqb-true y.1.it.number n f) ∙ tied_itself nat_cmp_total n

      found_within : (ys : List (Kept VersionRow)) → find (λ x. is_version_of o w x && x.1.it.number == n) ys ≡ find (λ x. x.1.it.number == n) (filter (is_version_of o w) ys)
      found_within [] = refl
      found_within (y ∷ ys) = go (is_version_of o w y) (y.1.it.number == n) refl (found_within ys)
        where
          go : (a b : Bool) → (y.1.it.number == n) ≡ b → find (λ x. is_version_of o w x && x.1.it.number == n) ys ≡ find (λ x. x.1.it.number == n) (filter (is_version_of o w) ys)
              → cond (a && b) (Some y) (find (λ x. is_version_of o w x && x.1.it.number == n) ys) ≡ find (λ x. x.1.it.number == n) (cond a (y ∷ filter (is_version_of o w) ys) (filter (is_version_of o w) ys))
          go true true e more = rw e refl
          go true false e more = rw e more
          go false b e more = more

  size_same : (o w : List ℕ) (n : ℕ) → size_of o w n u ≡ size_of o w n t
  size_same o w n =
      found_in_order o w n versions ∙ ap (λ (xs : List (Kept VersionRow)). option_map (λ (x : Kept VersionRow). x.1.it.size) (find (λ x. x.1.it.number == n) xs)) (version_rows o w) ∙ sym (found_in_order o w n t.versions)

  stays_sound : IsSound u
  stays_sound = record {
    reported = sound.reported;
    accounts = sound.accounts;
    owned = record {
      wss_apart = sound.wss_apart;
      retentions_apart = sound.retentions_apart;
      wss_kept = sound.wss_kept;
      wss_owned = sound.wss_owned;
      retentions_owned = sound.retentions_owned;
      versions_owned = all-permutation (λ (x : Kept VersionRow). list_any (is_ws x.1.org x.1.name) t.wss ≡ true) t.versions versions same_versions sound.versions_owned;
      runs_owned = all-permutation (λ (x : Kept RunRow). list_any (is_ws x.1.org x.1.name) t.wss ≡ true) t.runs runs same_runs sound.runs_owned;
    };
    contents = record {
      places = carried_sound t u refl refl sound.places;
      placed = all_weaker (IsPlaced t) (IsPlaced u) (λ (z : Kept VpageRow). subst (λ (s : Option ℕ). IsSomeAnd s (λ size. z.1.place < pages_for size)) (sym (size_same z.1.org z.1.ws z.1.number))) t.vpages sound.placed;
      texts = all_weaker (HasText t) (HasText u) (λ (x : Kept VersionRow). carried_whole t u refl refl x.1.org x.1.name x.1.it.number x.1.it.size) versions (all-permutation (HasText t) t.versions versions same_versions sound.texts);
    };
    counts = λ org o e. sound.counts org o (sym (record_same org) ∙ e);
    workspaces = λ org name w e. sound.workspaces org name w (sym (workspace_same org name) ∙ e);
  }

pub rows_stand_in_any_order : RowsStandInAnyOrder
rows_stand_in_any_order t versions runs sound same_versions same_runs =
    record { sound = stays_sound t versions runs sound same_versions same_runs; records = record_same t versions runs sound same_versions same_runs }
