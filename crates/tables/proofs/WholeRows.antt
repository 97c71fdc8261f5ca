-- A workspace is read whole: no more versions and runs are asked for than it may have, and so the limits of the lists cut nothing.
use Rattle.tables.proofs.Outside.{◌≡◌, ℕ, ◌+◌, ◌<◌, ◌≤◌, nat_lt, Bool, cond, List, [], ◌∷◌, map, filter, take, length, Option, Some, option_map, Ok, refl, sym, ap, subst, ◌∙◌, arith, unwrap_or, lt-ltb, length-map, take_all, sort_by, map-map, Ghosts, Held, FIRST_KEPT, Rises, IsLawful, Version, Kept, VersionRow, Tables, Equals, EqualsWhere, Queries, Sees, is_version_of, version_cmp, workspace_of, retention_of, version_rows_after, run_rows_after, VersionsApart, RunsApart, sees_by, sees_as}
use Rattle.basis.specs.declared.rows.RunRow.{RunRow as Run}
use Rattle.basis.specs.declared.rows.VersionRow.{VersionRow as Head}
use Rattle.statements.specs.declared.rows.Workspace.{Workspace as WorkspaceCells}
use Rattle.tables.specs.Records.{retention_at, version_at, versions_at, runs_at, workspace_of_cells, workspace_at}
use Rattle.tables.specs.Sound.{IsSound}
use Rattle.tables.specs.Inner.Copies.{IsWhole}
use Rattle.tables.specs.declared.loading.LoadedWorkspace.{LoadedWorkspace}
use Rattle.tables.proofs.KeepFound.{seen_both}
use Rattle.tables.proofs.Listed.{versions_apart, runs_apart}
use Rattle.tables.proofs.Ranks.{same_names}

-- ---- numbers that rise

-- there are fewer of them than what they stay below
rise_few : (low next : ℕ) (ns : List ℕ) → Rises low ns next → low < next → length ns + low < next
rise_few low next [] rise below = omega (arith, below)
rise_few low next (n ∷ ns) rise below = let more = rise_few n next ns rise.2 rise.1 in omega (arith, rise.0, more)

module _ {X : Type 0} (number : X → ℕ) where
  -- all of them are above what they rise above
  all_above : (low least next : ℕ) (xs : List X) → Rises least (map number xs) next → low ≤ least → filter (λ x. nat_lt low (number x)) xs ≡ xs
  all_above low least next [] rise h = refl
  all_above low least next (x ∷ xs) rise h =
      let above : low < number x = omega (arith, rise.0, h) in
      ap (λ (b : Bool). cond b (x ∷ filter (λ y. nat_lt low (number y)) xs) (filter (λ y. nat_lt low (number y)) xs)) (lt-ltb low (number x) above)
      ∙ ap (λ (rest : List X). x ∷ rest) (all_above low (number x) next xs rise.2 (omega (arith, above)))

  -- the first rows are all, where there are no more than that
  first_are_all : (most next : ℕ) (xs : List X) → Rises 0 (map number xs) next → length xs ≤ most → take most (filter (λ x. nat_lt 0 (number x)) xs) ≡ xs
  first_are_all most next xs rise few = ap (take most) (all_above 0 0 next xs rise (omega arith)) ∙ take_all most xs few

-- ---- a workspace that is there

module _ (org ws : List ℕ) (t : Tables) (sound : IsSound t) (it : WorkspaceCells) (there : workspace_of org ws t ≡ Some it) where
  abbrev version_rows : List (Kept VersionRow)
  version_rows = sort_by version_cmp (filter (is_version_of org ws) t.versions)

  lawful : IsLawful (workspace_at t org ws it)
  lawful = (sound.workspaces org ws (workspace_at t org ws it) (ap (option_map (workspace_at t org ws)) there)).lawful

  versions_read : version_rows_after org ws 0 1_000 t ≡ map (λ (x : Kept VersionRow). x.1.it) version_rows
  versions_read =
      let kept = lawful.versions.kept in
      let retention = lawful.versions.retention in
      let as_heads : length (map (λ (x : Kept VersionRow). x.1.it) version_rows) ≡ length version_rows = length-map version_rows (λ x. x.1.it) in
      let as_versions : length (versions_at t org ws) ≡ length version_rows = length-map version_rows (λ x. version_at t org ws x.1.it) in
      first_are_all (λ (head : Head). head.number) 1_000 it.next_version (map (λ (x : Kept VersionRow). x.1.it) version_rows)
      (subst (λ (ns : List ℕ). Rises 0 ns it.next_version)
      (same_names (λ (x : Kept VersionRow). version_at t org ws x.1.it) (λ (v : Version). v.number) (λ (x : Kept VersionRow). x.1.it.number) (λ x. refl) version_rows
      ∙ sym (same_names (λ (x : Kept VersionRow). x.1.it) (λ (head : Head). head.number) (λ (x : Kept VersionRow). x.1.it.number) (λ x. refl) version_rows))
      lawful.versions.rise)
      (omega (arith, kept, retention.1, as_heads, as_versions))

  runs_read : run_rows_after org ws 0 1_000_000_000 t ≡ runs_at t org ws
  runs_read =
      let next = lawful.runs.next in
      let few = rise_few 0 it.next_run (map (λ (r : Run). r.number) (runs_at t org ws)) lawful.runs.rise (omega (arith, next.0)) in
      let as_runs : length (map (λ (r : Run). r.number) (runs_at t org ws)) ≡ length (runs_at t org ws) = length-map (runs_at t org ws) (λ (r : Run). r.number) in
      first_are_all (λ (r : Run). r.number) 1_000_000_000 it.next_run (runs_at t org ws) lawful.runs.rise (omega (arith, few, next.1, as_runs))

  -- what four queries read of it is the workspace
  whole_read : (retention : ℕ) (versions : List Head) (runs : List Run) → retention_of org ws t ≡ Some retention → versions ≡ version_rows_after org ws 0 1_000 t → runs ≡ run_rows_after org ws 0 1_000_000_000 t → IsWhole org ws t it retention versions runs
  whole_read retention versions runs kept heads rows = record { is = ap (option_map (workspace_at t org ws)) there ∙ (λ i. Some (workspace_of_cells (keeps i) it (versions_are i) (runs_are i))) }
    where
      keeps : retention_at t org ws ≡ retention
      keeps = ap (λ (o : Option ℕ). unwrap_or o FIRST_KEPT) kept

      versions_are : versions_at t org ws ≡ map (version_at t org ws) versions
      versions_are = sym (map-map (version_at t org ws) (λ (x : Kept VersionRow). x.1.it) version_rows) ∙ ap (map (version_at t org ws)) (sym (heads ∙ versions_read))

      runs_are : runs_at t org ws ≡ runs
      runs_are = sym (rows ∙ runs_read)

-- ---- the queries, one after the other

module _ {S : Type 0} (g : Ghosts S) (E : Type 0) (org ws : List ℕ) where
  abbrev row_is : Option WorkspaceCells → Tables → Type 0
  row_is = Equals (workspace_of org ws)

  abbrev retention_is : Option ℕ → Tables → Type 0
  retention_is = Equals (retention_of org ws)

  abbrev versions_are : List Head → Tables → Type 0
  versions_are = EqualsWhere (VersionsApart org ws) (version_rows_after org ws 0 1_000)

  abbrev runs_are : List Run → Tables → Type 0
  runs_are = EqualsWhere (RunsApart org ws) (run_rows_after org ws 0 1_000_000_000)

  pub whole_seen : (row : Option WorkspaceCells) (kept : Option ℕ) (it : WorkspaceCells) (retention : ℕ) (versions : List Head) (runs : List Run) (a b c d e : Held S) → row ≡ Some it → kept ≡ Some retention
      → Queries {E = E} g row_is a b (Ok row) → Queries {E = E} g retention_is b c (Ok kept) → Queries {E = E} g versions_are c d (Ok versions) → Queries {E = E} g runs_are d e (Ok runs)
      → Sees {E = E} g (λ (whole : LoadedWorkspace) f. IsSound f → IsWhole org ws f whole.it whole.retention whole.versions whole.runs) a e (Ok (record { it = it; retention = retention; versions = versions; runs = runs }))
  whole_seen row kept it retention versions runs a b c d e is keeps one two three four =
      let first = seen_both g row_is retention_is a b c row kept (sees_by g row_is a b (Ok row) one) (sees_by g retention_is b c (Ok kept) two) in
      let second = seen_both g (λ k t. row_is row t × retention_is k t) versions_are a c d kept versions first (sees_by g versions_are c d (Ok versions) three) in
      let third = seen_both g (λ vs t. (row_is row t × retention_is kept t) × versions_are vs t) runs_are a d e versions runs second (sees_by g runs_are d e (Ok runs) four) in
      sees_as g (λ rs t. ((row_is row t × retention_is kept t) × versions_are versions t) × runs_are rs t) (λ (whole : LoadedWorkspace) f. IsSound f → IsWhole org ws f whole.it whole.retention whole.versions whole.runs) a e runs (record { it = it; retention = retention; versions = versions; runs = runs })
      (λ t reported sound. whole_read org ws t sound it (sym reported.0.0.0 ∙ is) retention versions runs (sym reported.0.0.1 ∙ keeps) (reported.0.1 (versions_apart t org ws sound)) (reported.1 (runs_apart t org ws sound))) third
