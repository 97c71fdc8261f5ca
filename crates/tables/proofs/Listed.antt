-- What the lists of a workspace's versions and runs, and of an organization's workspaces, show of the record.
use Rattle.tables.proofs.Outside.{map-id, ◌≡◌, ℕ, ◌+◌, ◌==◌, ◌<◌, ◌≤◌, nat_lt, Bool, true, false, cond, ◌&&◌, List, [], ◌∷◌, map, filter, find, take, Option, Some, None, option_map, IsTrue, refl, sym, ap, subst, ◌∙◌, arith, Equal, nat_cmp, is_eq, bytes_eq, unwrap_or, AllByRecursion, from_entries, entries, get, entries_sorted, get-entries, get-from_entries, take-map, ne_eqb, eqb-true, eq-eqb, and_assoc, and_comm, nat_cmp_total, tied_itself, unsigned_tied, AreApart, sort_by, all_weaker, ascending_weaker, sort_by-map, find-slice, is_ws_name, admits, listing_of, Rises, name_cmp, Version, Workspace, names_total, newest, Kept, WsRow, VersionRow, RunRow, Tables, is_ws_of, is_version_of, is_version, is_run_of, version_cmp, run_cmp, is_version_before, version_before, cap_of, workspace_of, all_sorted, IsWhole, whole_size}
use Rattle.std.specs.FinMap.Entries.{find as find_entry}
use Rattle.machine.specs.Records.{workspace_in as seen_workspace}
use Rattle.machine.specs.Showing as showing
use Rattle.basis.specs.declared.rows.RunRow.{RunRow as Run}
use Rattle.basis.specs.declared.rows.VersionRow.{VersionRow as Head}
use Rattle.statements.specs.declared.rows.Workspace.{Workspace as WorkspaceCells}
use Rattle.statements.specs.Listings.{is_behind, workspaces_by_name, named_row as named_at, WorkspacesApart, VersionsApart, RunsApart}
use Rattle.statements.proofs.Conditions.{one_less_is}
use Rattle.tables.specs.Records.{settings_of_cells, retention_at, version_at, versions_at, runs_at, workspace_at, workspaces_at, organization_at, record_of}
use Rattle.tables.specs.Sound.{IsSoundWorkspace, IsSound}
use Rattle.tables.proofs.TextRows.{AreTexts}
use Rattle.tables.specs.Inner.Lists.{versions_listed_in, runs_listed_in, newest_number_in, newest_by, ws_row_in, workspaces_listed_in}
use Rattle.tables.proofs.Sets.{entry_found}
use Rattle.tables.proofs.Names.{pair_is}
use Rattle.tables.proofs.Sorted.{found_sorted, rise_apart}
use Rattle.tables.proofs.Ordered.{rise_below}
use Rattle.tables.proofs.Managed.{no_workspaces}
use Rattle.tables.proofs.Finding.{find_same, newest_number_found, own_whole, no_version_rows, no_versions, no_run_rows, no_runs, seen_in_rows}
use Rattle.tables.proofs.Ranks.{last_in, newest_reported, none_after, first_rows_report, shown_rows, same_names, no_entries, all_found, entries_shown}

-- the list of the first rows is the list of all
listed_all : {A B : Type 0} (f : A → B) (xs : List A) → listing_of (map f (take 51 xs)) ≡ listing_of (map f xs)
listed_all f xs = ap listing_of (sym (take-map f 51 xs)) ∙ first_rows_report (map f xs)

-- ---- versions and runs

abbrev version_numbers : List Version → List ℕ
version_numbers vs = map (λ (v : Version). v.number) vs

-- numbers that rise in their order are apart
numbers_apart : {X : Type 0} (num : X → ℕ) (next : ℕ) (xs : List X) → Rises 0 (map num (sort_by (λ x y. nat_cmp (num x) (num y)) xs)) next → AreApart (λ x y. num x == num y) xs
numbers_apart {X} num next xs rise =
    let order = λ (x y : X). nat_cmp (num x) (num y) in
    ascending_weaker (λ x y. is_eq (order x y) ≡ false) (λ x y. (num x == num y) ≡ false) (λ x y e. sym (unsigned_tied (num x) (num y)) ∙ e) xs
    (rise_apart order xs (rise_below num next (sort_by order xs) rise))

module _ (t : Tables) (org ws : List ℕ) where
  abbrev rows : List (Kept VersionRow)
  rows = sort_by version_cmp (filter (is_version_of org ws) t.versions)

  versions_rows : AreTexts t → (after : ℕ) → versions_listed_in after org ws t ≡ showing.versions_listed after (versions_at t org ws)
  versions_rows a after =
      first_rows_report heads
      ∙ ap listing_of (sym (map-id heads) ∙ shown_rows (λ (x : Kept VersionRow). x.1.it) (λ v. v) (λ (x : Kept VersionRow). version_at t org ws x.1.it) showing.version_row (λ v. nat_lt after v.number) (λ (v : Version). nat_lt after v.number)
      rows (all_weaker (λ x. IsWhole org ws x.1.it.number x.1.it.size t) _ (λ x whole. (shown x whole, refl)) rows (all_sorted version_cmp (λ x. IsWhole org ws x.1.it.number x.1.it.size t) (filter (is_version_of org ws) t.versions) (own_whole t org ws a))))
    where
      heads : List Head
      heads = filter (λ v. nat_lt after v.number) (map (λ (x : Kept VersionRow). x.1.it) rows)

      shown : (x : Kept VersionRow) → IsWhole org ws x.1.it.number x.1.it.size t → x.1.it ≡ showing.version_row (version_at t org ws x.1.it)
      shown x whole = ap (λ (size : ℕ). record { created = x.1.it.created; lineage = x.1.it.lineage; number = x.1.it.number; serial = x.1.it.serial; size = size }) (sym (whole_size org ws x.1.it.number t x.1.it.size whole))

  runs_rows : (after : ℕ) → runs_listed_in after org ws t ≡ showing.runs_listed after (runs_at t org ws)
  runs_rows after = first_rows_report (filter (λ (r : Run). nat_lt after r.number) (runs_at t org ws))

  -- where numbers rise, the newest version is that of the number before the next one, if there is such a version
  module _ (next : ℕ) (most : next ≤ 1_000_000_001) (rise : Rises 0 (version_numbers (versions_at t org ws)) next) where
    before_found : version_before org ws next t ≡ find (λ (n : ℕ). n + 1 == next) (map (λ (x : Kept VersionRow). x.1.it.number) rows)
    before_found =
        ap (option_map (λ (x : Kept VersionRow). x.1.it.number)) (find_same (is_version_before org ws next) (λ x. is_version_of org ws x && (x.1.it.number + 1 == next))
        (λ x. ap (λ (b : Bool). bytes_eq x.1.org org && (bytes_eq x.1.name ws && b)) (one_less_is x.1.it.number next most) ∙ sym (and_assoc (bytes_eq x.1.org org) (bytes_eq x.1.name ws) (x.1.it.number + 1 == next))) t.versions)
        ∙ find-slice (is_version_of org ws) (λ (x : Kept VersionRow). x.1.it.number) (λ (n : ℕ). n + 1 == next) t.versions
        ∙ sym (found_sorted nat_cmp nat_cmp_total (λ (n : ℕ). n + 1 == next) one_before (map (λ (x : Kept VersionRow). x.1.it.number) (filter (is_version_of org ws) t.versions)))
        ∙ ap (find (λ (n : ℕ). n + 1 == next)) (sort_by-map nat_cmp (λ (x : Kept VersionRow). x.1.it.number) (filter (is_version_of org ws) t.versions))
      where
        one_before : (m n : ℕ) → (m + 1 == next) ≡ true → (n + 1 == next) ≡ true → nat_cmp m n ≡ Equal
        one_before m n e f =
            let before : m + 1 ≡ next = eqb-true (m + 1) next e in
            let also : n + 1 ≡ next = eqb-true (n + 1) next f in
            let same : m ≡ n = omega (arith, before, also) in
            ap (λ k. nat_cmp k n) same ∙ tied_itself nat_cmp_total n

    last_shown : (xs : List (Kept VersionRow)) → option_map (λ (v : Version). v.number) (newest (map (λ (x : Kept VersionRow). version_at t org ws x.1.it) xs)) ≡ last_in (map (λ (x : Kept VersionRow). x.1.it.number) xs)
    last_shown [] = refl
    last_shown (x ∷ []) = refl
    last_shown (x ∷ y ∷ xs) = last_shown (y ∷ xs)

    pub newest_is_shown : newest_by (version_before org ws next t) next (newest_number_in org ws t) ≡ newest_number_in org ws t
    newest_is_shown =
        let last = newest_number_found t org ws next rise ∙ last_shown rows in
        let rising = subst (λ (ns : List ℕ). Rises 0 ns next) (same_names (λ (x : Kept VersionRow). version_at t org ws x.1.it) (λ (v : Version). v.number) (λ (x : Kept VersionRow). x.1.it.number) (λ x. refl) rows) rise in
        (λ i. newest_by (before_found i) next (last i)) ∙ newest_reported next (map (λ (x : Kept VersionRow). x.1.it.number) rows) rising ∙ sym last

  module _ (sound : IsSound t) where
    versions_row : (after : ℕ) (r : Option WorkspaceCells) → workspace_of org ws t ≡ r → showing.versions_listed after (versions_at t org ws) ≡ showing.versions_after after (option_map (workspace_at t org ws) r)
    versions_row after None e = ap (showing.versions_listed after) (no_versions t sound org ws e)
    versions_row after (Some w) e = refl

    -- the list of the versions is that of the record
    pub versions_reported : (after : ℕ) → versions_listed_in after org ws t ≡ showing.versions_after after (seen_workspace (record_of t org) ws)
    versions_reported after = versions_rows sound.contents after ∙ versions_row after (workspace_of org ws t) refl ∙ ap (showing.versions_after after) (sym (seen_in_rows t sound org ws))

    runs_row : (after : ℕ) (r : Option WorkspaceCells) → workspace_of org ws t ≡ r → showing.runs_listed after (runs_at t org ws) ≡ showing.runs_after after (option_map (workspace_at t org ws) r)
    runs_row after None e = ap (showing.runs_listed after) (no_runs t sound org ws e)
    runs_row after (Some w) e = refl

    -- the list of the runs is that of the record
    pub runs_reported : (after : ℕ) → runs_listed_in after org ws t ≡ showing.runs_after after (seen_workspace (record_of t org) ws)
    runs_reported after = runs_rows after ∙ runs_row after (workspace_of org ws t) refl ∙ ap (showing.runs_after after) (sym (seen_in_rows t sound org ws))

    -- no two have one number
    pub versions_apart : VersionsApart org ws t
    versions_apart = by_row (workspace_of org ws t) refl
      where
        by_row : (r : Option WorkspaceCells) → workspace_of org ws t ≡ r → VersionsApart org ws t
        by_row None e = subst (λ xs. AreApart (λ (a b : Kept VersionRow). a.1.it.number == b.1.it.number) xs) (sym (no_version_rows t sound org ws e)) tt
        by_row (Some w) e =
            numbers_apart (λ (x : Kept VersionRow). x.1.it.number) w.next_version (filter (is_version_of org ws) t.versions)
            (subst (λ (ns : List ℕ). Rises 0 ns w.next_version) (same_names (λ (x : Kept VersionRow). version_at t org ws x.1.it) (λ (v : Version). v.number) (λ (x : Kept VersionRow). x.1.it.number) (λ x. refl) rows)
            (sound.workspaces org ws (workspace_at t org ws w) (ap (option_map (workspace_at t org ws)) e)).lawful.versions.rise)

    pub runs_apart : RunsApart org ws t
    runs_apart = by_row (workspace_of org ws t) refl
      where
        by_row : (r : Option WorkspaceCells) → workspace_of org ws t ≡ r → RunsApart org ws t
        by_row None e = subst (λ xs. AreApart (λ (a b : Kept RunRow). a.1.it.number == b.1.it.number) xs) (sym (no_run_rows t sound org ws e)) tt
        by_row (Some w) e =
            numbers_apart (λ (x : Kept RunRow). x.1.it.number) w.next_run (filter (is_run_of org ws) t.runs)
            (subst (λ (ns : List ℕ). Rises 0 ns w.next_run) (same_names (λ (x : Kept RunRow). x.1.it) (λ (r : Run). r.number) (λ (x : Kept RunRow). x.1.it.number) (λ x. refl) (sort_by run_cmp (filter (is_run_of org ws) t.runs)))
            (sound.workspaces org ws (workspace_at t org ws w) (ap (option_map (workspace_at t org ws)) e)).lawful.runs.rise)

    -- none comes after the greatest number
    pub no_versions_after : (after : ℕ) → 1_000_000_000 < after → listing_of [] ≡ showing.versions_after after (seen_workspace (record_of t org) ws)
    no_versions_after after beyond = by_row (workspace_of org ws t) refl ∙ ap (showing.versions_after after) (sym (seen_in_rows t sound org ws))
      where
        by_row : (r : Option WorkspaceCells) → workspace_of org ws t ≡ r → listing_of [] ≡ showing.versions_after after (option_map (workspace_at t org ws) r)
        by_row None e = refl
        by_row (Some w) e =
            let lawful = (sound.workspaces org ws (workspace_at t org ws w) (ap (option_map (workspace_at t org ws)) e)).lawful.versions in
            let most : w.next_version ≤ 1_000_000_001 = lawful.next.1 in
            sym (ap (λ (vs : List Version). listing_of (map showing.version_row vs)) (none_after (λ (v : Version). v.number) 0 w.next_version after (versions_at t org ws) lawful.rise (omega (arith, most, beyond))))

    pub no_runs_after : (after : ℕ) → 1_000_000_000 < after → listing_of [] ≡ showing.runs_after after (seen_workspace (record_of t org) ws)
    no_runs_after after beyond = by_row (workspace_of org ws t) refl ∙ ap (showing.runs_after after) (sym (seen_in_rows t sound org ws))
      where
        by_row : (r : Option WorkspaceCells) → workspace_of org ws t ≡ r → listing_of [] ≡ showing.runs_after after (option_map (workspace_at t org ws) r)
        by_row None e = refl
        by_row (Some w) e =
            let lawful = (sound.workspaces org ws (workspace_at t org ws w) (ap (option_map (workspace_at t org ws)) e)).lawful.runs in
            let most : w.next_run ≤ 1_000_000_001 = lawful.next.1 in
            sym (ap listing_of (none_after (λ (r : Run). r.number) 0 w.next_run after (runs_at t org ws) lawful.rise (omega (arith, most, beyond))))

-- ---- workspaces

none_of : (a b : Bool) → (a && (b && false)) ≡ false
none_of true true = refl
none_of true false = refl
none_of false b = refl

-- no row behind one is of its version, where none of its workspace has its number
numbered_apart : (x : Kept VersionRow) (ys : List (Kept VersionRow)) → AllByRecursion (λ y. (x.1.it.number == y.1.it.number) ≡ false) (filter (is_version_of x.1.org x.1.name) ys)
    → AllByRecursion (λ y. is_version x.1.org x.1.name x.1.it.number y ≡ false) ys
numbered_apart x [] all = tt
numbered_apart x (y ∷ ys) all = go (is_version_of x.1.org x.1.name y) refl (numbered_apart x ys) all
  where
    turned : (m n : ℕ) → (m == n) ≡ false → (n == m) ≡ false
    turned m n e = ne_eqb n m (λ same. let none : ⊥ = cc (sym (eq-eqb m n (sym same)) ∙ e) in none)

    go : (b : Bool) → is_version_of x.1.org x.1.name y ≡ b
        → (AllByRecursion (λ z. (x.1.it.number == z.1.it.number) ≡ false) (filter (is_version_of x.1.org x.1.name) ys) → AllByRecursion (λ z. is_version x.1.org x.1.name x.1.it.number z ≡ false) ys)
        → AllByRecursion (λ z. (x.1.it.number == z.1.it.number) ≡ false) (cond b (y ∷ filter (is_version_of x.1.org x.1.name) ys) (filter (is_version_of x.1.org x.1.name) ys))
        → (is_version x.1.org x.1.name x.1.it.number y ≡ false) × AllByRecursion (λ z. is_version x.1.org x.1.name x.1.it.number z ≡ false) ys
    go true e later apart = (
      ap (λ (c : Bool). bytes_eq y.1.org x.1.org && (bytes_eq y.1.name x.1.name && c)) (turned x.1.it.number y.1.it.number apart.0) ∙ none_of (bytes_eq y.1.org x.1.org) (bytes_eq y.1.name x.1.name),
      later apart.1,
    )
    go false e later apart = (sym (and_assoc (bytes_eq y.1.org x.1.org) (bytes_eq y.1.name x.1.name) (y.1.it.number == x.1.it.number)) ∙ ap (λ (c : Bool). c && y.1.it.number == x.1.it.number) e, later apart)

-- rows of versions are apart where in each workspace their numbers are
rows_apart : (xs : List (Kept VersionRow)) → ((org ws : List ℕ) → AreApart (λ (a b : Kept VersionRow). a.1.it.number == b.1.it.number) (filter (is_version_of org ws) xs)) → AreApart (λ a b. is_version a.1.org a.1.name a.1.it.number b) xs
rows_apart [] apart = tt
rows_apart (x ∷ xs) apart = (numbered_apart x xs own.0, rows_apart xs (λ org ws. later (is_version_of org ws x) (filter (is_version_of org ws) xs) (apart org ws)))
  where
    later : (b : Bool) (ys : List (Kept VersionRow)) → AreApart (λ (a c : Kept VersionRow). a.1.it.number == c.1.it.number) (cond b (x ∷ ys) ys) → AreApart (λ (a c : Kept VersionRow). a.1.it.number == c.1.it.number) ys
    later true ys h = h.1
    later false ys h = h

    own : AreApart (λ (a b : Kept VersionRow). a.1.it.number == b.1.it.number) (x ∷ filter (is_version_of x.1.org x.1.name) xs)
    own = subst (λ (b : Bool). AreApart (λ (a c : Kept VersionRow). a.1.it.number == c.1.it.number) (cond b (x ∷ filter (is_version_of x.1.org x.1.name) xs) (filter (is_version_of x.1.org x.1.name) xs))) (pair_is x.1.org x.1.name) (apart x.1.org x.1.name)

pub workspaces_apart : (t : Tables) → IsSound t → WorkspacesApart t
workspaces_apart t sound = record { wss = sound.wss_apart; retentions = sound.retentions_apart; versions = rows_apart t.versions (λ org ws. versions_apart t org ws sound) }

comes_after_all : (name : List ℕ) → IsTrue (is_ws_name name) → is_behind [] name ≡ true
comes_after_all [] named = absurd (let none : ⊥ = cc in none)
comes_after_all (c ∷ cs) named = refl

module _ (t : Tables) (org : List ℕ) where
  abbrev by_name : List (List ℕ × WorkspaceCells)
  by_name = entries (workspaces_by_name org t)

  pub record_entries : entries (workspaces_at t org) ≡ map (λ (e : List ℕ × WorkspaceCells). (e.0, workspace_at t org e.0 e.1)) (entries (workspaces_by_name org t))
  record_entries = entries_shown (λ (n : List ℕ) (w : WorkspaceCells). workspace_at t org n w) (λ (x : Kept WsRow). x.1.name) (λ (x : Kept WsRow). x.1.it) (filter (is_ws_of org) t.wss)

  row_of_name : (q : List ℕ) → get (workspaces_by_name org t) q ≡ workspace_of org q t
  row_of_name q =
      get-from_entries names_total (map (λ (x : Kept WsRow). (x.1.name, x.1.it)) (filter (is_ws_of org) t.wss)) q
      ∙ entry_found (is_ws_of org) (λ (x : Kept WsRow). x.1.name) (λ (x : Kept WsRow). x.1.it) q t.wss

  module _ (sound : IsSound t) where
    -- each is lawful, and its name is one
    are_lawful : AllByRecursion (λ (e : List ℕ × WorkspaceCells). IsSoundWorkspace e.0 (workspace_at t org e.0 e.1)) (entries (workspaces_by_name org t))
    are_lawful = all_weaker (λ (e : List ℕ × WorkspaceCells). find_entry name_cmp e.0 (entries (workspaces_by_name org t)) ≡ Some e.1) (λ (e : List ℕ × WorkspaceCells). IsSoundWorkspace e.0 (workspace_at t org e.0 e.1))
        (λ e found. sound.workspaces org e.0 (workspace_at t org e.0 e.1) (ap (option_map (workspace_at t org e.0)) (sym (row_of_name e.0) ∙ get-entries (workspaces_by_name org t) e.0 ∙ found)))
        (entries (workspaces_by_name org t)) (all_found (entries (workspaces_by_name org t)) (entries_sorted (workspaces_by_name org t)))

    -- a row as it is shown is the workspace as it is shown
    row_shown : (e : List ℕ × WorkspaceCells) → IsSoundWorkspace e.0 (workspace_at t org e.0 e.1) → ws_row_in org t (named_at org t e) ≡ showing.row_of e.0 (showing.shown_of (workspace_at t org e.0 e.1))
    row_shown e named =
        ap (λ (version : Option ℕ). record { settings = settings_of_cells (retention_at t org e.0) e.1; holder = showing.holder_id e.1.holder; name = e.0; version = version })
        (newest_is_shown t org e.0 e.1.next_version named.lawful.versions.next.1 named.lawful.versions.rise ∙ newest_number_found t org e.0 e.1.next_version named.lawful.versions.rise)

    passes : (after : Option (List ℕ)) (prefix : List ℕ) (e : List ℕ × WorkspaceCells) → IsTrue (is_ws_name e.0) → (is_behind (unwrap_or after []) e.0 && admits prefix e.0) ≡ showing.is_listed after prefix e.0
    passes None prefix e named = ap (λ (b : Bool). b && admits prefix e.0) (comes_after_all e.0 named) ∙ and_comm true (admits prefix e.0)
    passes (Some a) prefix e named = and_comm (is_behind a e.0) (admits prefix e.0)

    workspaces_rows : (after : Option (List ℕ)) (prefix : List ℕ) → workspaces_listed_in (unwrap_or after []) prefix org t ≡ showing.workspaces_listed after prefix (entries (workspaces_at t org))
    workspaces_rows after prefix =
        listed_all (ws_row_in org t) (map (named_at org t) (filter (λ e. is_behind (unwrap_or after []) e.0 && admits prefix e.0) (entries (workspaces_by_name org t))))
        ∙ ap listing_of (mapped (filter (λ e. is_behind (unwrap_or after []) e.0 && admits prefix e.0) (entries (workspaces_by_name org t)))
        ∙ ap (map (λ (e : List ℕ × WorkspaceCells). ws_row_in org t (named_at org t e))) (ap (filter (λ (e : List ℕ × WorkspaceCells). is_behind (unwrap_or after []) e.0 && admits prefix e.0)) (sym (itself (entries (workspaces_by_name org t)))))
        ∙ shown_rows (λ (e : List ℕ × WorkspaceCells). e) (λ (e : List ℕ × WorkspaceCells). ws_row_in org t (named_at org t e)) (λ (e : List ℕ × WorkspaceCells). (e.0, workspace_at t org e.0 e.1))
        (λ (e : List ℕ × Workspace). showing.row_of e.0 (showing.shown_of e.1)) (λ (e : List ℕ × WorkspaceCells). is_behind (unwrap_or after []) e.0 && admits prefix e.0) (λ (e : List ℕ × Workspace). showing.is_listed after prefix e.0)
        (entries (workspaces_by_name org t)) (all_weaker (λ (e : List ℕ × WorkspaceCells). IsSoundWorkspace e.0 (workspace_at t org e.0 e.1)) _ (λ e lawful. (row_shown e lawful, passes after prefix e lawful.named)) (entries (workspaces_by_name org t)) are_lawful))
        ∙ ap (showing.workspaces_listed after prefix) (sym record_entries)
      where
        mapped : (es : List (List ℕ × WorkspaceCells)) → map (ws_row_in org t) (map (named_at org t) es) ≡ map (λ (e : List ℕ × WorkspaceCells). ws_row_in org t (named_at org t e)) es
        mapped [] = refl
        mapped (e ∷ es) = ap (λ rows. ws_row_in org t (named_at org t e) ∷ rows) (mapped es)

        itself : (es : List (List ℕ × WorkspaceCells)) → map (λ (e : List ℕ × WorkspaceCells). e) es ≡ es
        itself [] = refl
        itself (e ∷ es) = ap (λ rest. e ∷ rest) (itself es)

    -- the list of the workspaces is that of the record
    pub workspaces_reported : (after : Option (List ℕ)) (prefix : List ℕ) → workspaces_listed_in (unwrap_or after []) prefix org t ≡ showing.workspaces_after after prefix (record_of t org)
    workspaces_reported after prefix = workspaces_rows after prefix ∙ by_limit (cap_of org t) refl
      where
        by_limit : (c : Option ℕ) → cap_of org t ≡ c → showing.workspaces_listed after prefix (entries (workspaces_at t org)) ≡ showing.workspaces_after after prefix (option_map (organization_at t org) c)
        by_limit None e =
            ap (showing.workspaces_listed after prefix) (ap (λ (xs : List (Kept WsRow)). entries (from_entries {R = name_cmp} (map (λ (x : Kept WsRow). (x.1.name, workspace_at t org x.1.name x.1.it)) xs))) (no_workspaces t sound org e) ∙ no_entries)
        by_limit (Some cap) e = refl
