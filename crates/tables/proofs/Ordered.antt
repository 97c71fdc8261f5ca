-- A workspace as its rows stand, and in the order of numbers.
use Rattle.tables.proofs.Outside.{◌≡◌, ℕ, ◌+◌, nat_lt, cond, List, [], ◌∷◌, ◌++◌, map, filter, Option, Some, None, option_map, IfSome, refl, sym, ap, subst, ◌∙◌, ◌<◌, Ordering, Less, nat_cmp, IsTotalOrder, nat_cmp_total, on_total, nat_cmp_is, IsAscending, sort_by, map-map, ascending_weaker, ascending_from_map, sort_by-map, Rises, IsLawful, IsLawfulIfThere, left_above, edited, changed_by, begun, started_if, new_run, reported, Edit, Make, Configure, Remove, AddVersion, Purge, Hold, Release, AddRun, Report, Change, Version, Workspace, Kept, VersionRow, RunRow, Tables, is_version_of, is_run_of, version_cmp, run_cmp, workspace_of, sorted_already, filter-sort_by}
use Rattle.basis.specs.declared.rows.RunRow.{RunRow as Run}
use Rattle.basis.specs.declared.rows.Holder.TheVariants.{Nobody, Run as HoldingRun}
use Rattle.statements.specs.declared.rows.Workspace.{Workspace as WorkspaceCells}
use Rattle.tables.specs.Records.{version_at, workspace_of_cells, retention_at, versions_at, runs_at, workspace_by}
use Rattle.tables.proofs.Ranks.{rising}
use Rattle.tables.proofs.Sorted.{sorted_with, map-sorted}
pub use Rattle.tables.specs.Inner.Standing.{versions_in, runs_in, workspace_of_rows}

-- ---- versions and runs by their numbers

abbrev pub by_version : Version → Version → Ordering
by_version v u = nat_cmp v.number u.number

abbrev pub by_run : Run → Run → Ordering
by_run r s = nat_cmp r.number s.number

pub by_version_total : IsTotalOrder by_version
by_version_total = on_total (λ (v : Version). v.number) nat_cmp_total

pub by_run_total : IsTotalOrder by_run
by_run_total = on_total (λ (r : Run). r.number) nat_cmp_total

pub versions_total : IsTotalOrder version_cmp
versions_total = on_total (λ (x : Kept VersionRow). x.1.it.number) nat_cmp_total

pub runs_total : IsTotalOrder run_cmp
runs_total = on_total (λ (x : Kept RunRow). x.1.it.number) nat_cmp_total

-- what rises is in order
pub rise_below : {X : Type 0} (num : X → ℕ) (next : ℕ) (xs : List X) → Rises 0 (map num xs) next → IsAscending (λ x y. nat_cmp (num x) (num y) ≡ Less) xs
rise_below num next xs rise =
    ascending_weaker (λ x y. num x < num y) (λ x y. nat_cmp (num x) (num y) ≡ Less) (λ x y low. sym (nat_cmp_is (num x) (num y) Less low)) xs (ascending_from_map (λ m n. m < n) num xs (rising 0 next (map num xs) rise))

pub versions_sorted : (t : Tables) (org ws : List ℕ) → versions_at t org ws ≡ sort_by by_version (versions_in t org ws)
versions_sorted t org ws = sym (sort_by-map by_version (λ (x : Kept VersionRow). version_at t org ws x.1.it) (filter (is_version_of org ws) t.versions))

pub runs_sorted : (t : Tables) (org ws : List ℕ) → runs_at t org ws ≡ sort_by by_run (runs_in t org ws)
runs_sorted t org ws = sym (sort_by-map by_run (λ (x : Kept RunRow). x.1.it) (filter (is_run_of org ws) t.runs))

abbrev pub ordered : Workspace → Workspace
ordered w = record w { versions = sort_by by_version w.versions; runs = sort_by by_run w.runs }

pub workspace_ordered : (t : Tables) (org ws : List ℕ) → workspace_by t org ws ≡ option_map ordered (workspace_of_rows t org ws)
workspace_ordered t org ws = by_row (workspace_of org ws t)
  where
    by_row : (r : Option WorkspaceCells) → option_map (λ (c : WorkspaceCells). workspace_of_cells (retention_at t org ws) c (versions_at t org ws) (runs_at t org ws)) r
        ≡ option_map ordered (option_map (λ (c : WorkspaceCells). workspace_of_cells (retention_at t org ws) c (versions_in t org ws) (runs_in t org ws)) r)
    by_row None = refl
    by_row (Some c) = λ i. Some (workspace_of_cells (retention_at t org ws) c (versions_sorted t org ws i) (runs_sorted t org ws i))

-- a lawful workspace is in order
pub lawful_ordered : (w : Workspace) → IsLawful w → ordered w ≡ w
lawful_ordered w lawful = λ i. record w {
  versions = sorted_already by_version w.versions (rise_below (λ (v : Version). v.number) w.next_version w.versions lawful.versions.rise) i;
  runs = sorted_already by_run w.runs (rise_below (λ (r : Run). r.number) w.next_run w.runs lawful.runs.rise) i;
}

-- ---- a change of what is in order

abbrev same_numbers : (f : Run → Run) → Type 0
same_numbers f = (r : Run) → (f r).number ≡ r.number

runs_mapped : (f : Run → Run) → same_numbers f → (rs : List Run) → sort_by by_run (map f rs) ≡ map f (sort_by by_run rs)
runs_mapped f same = map-sorted by_run f (λ r s i. nat_cmp (same r i) (same s i))

left_sorted : (outgoing : Option ℕ) (vs : List Version) → sort_by by_version (left_above outgoing vs) ≡ left_above outgoing (sort_by by_version vs)
left_sorted None vs = refl
left_sorted (Some last) vs = sym (filter-sort_by by_version by_version_total (λ (v : Version). nat_lt last v.number) vs)

-- what comes behind versions that are in order, and with them is in order, comes behind them
pub versions_pushed : (outgoing : Option ℕ) (vs us : List Version) (next : ℕ) → Rises 0 (map (λ (v : Version). v.number) (left_above outgoing (sort_by by_version vs ++ us))) next
    → sort_by by_version (left_above outgoing (vs ++ us)) ≡ left_above outgoing (sort_by by_version vs ++ us)
versions_pushed outgoing vs us next rise =
    left_sorted outgoing (vs ++ us) ∙ ap (left_above outgoing) (sym (sorted_with by_version by_version_total vs us)) ∙ sym (left_sorted outgoing (sort_by by_version vs ++ us))
    ∙ sorted_already by_version (left_above outgoing (sort_by by_version vs ++ us)) (rise_below (λ (v : Version). v.number) next (left_above outgoing (sort_by by_version vs ++ us)) rise)

pub runs_pushed : (rs ss : List Run) (next : ℕ) → Rises 0 (map (λ (r : Run). r.number) (sort_by by_run rs ++ ss)) next → sort_by by_run (rs ++ ss) ≡ sort_by by_run rs ++ ss
runs_pushed rs ss next rise =
    sym (sorted_with by_run by_run_total rs ss) ∙ sorted_already by_run (sort_by by_run rs ++ ss) (rise_below (λ (r : Run). r.number) next (sort_by by_run rs ++ ss) rise)

-- the numbers of versions and of runs rise
record HasRise (w : Workspace) : Type 0 where
  versions : Rises 0 (map (λ (v : Version). v.number) w.versions) w.next_version
  runs : Rises 0 (map (λ (r : Run). r.number) w.runs) w.next_run

rise_before : (start : Option ℕ) (w : Workspace) → IsLawful (started_if start w) → HasRise w
rise_before None w lawful = record { versions = lawful.versions.rise; runs = lawful.runs.rise }
rise_before (Some n) w lawful = record { versions = lawful.versions.rise; runs = subst (λ ns. Rises 0 ns w.next_run) (map-map (λ (r : Run). r.number) (begun n) w.runs) lawful.runs.rise }

edited_ordered : (edit : Edit) (w : Option Workspace) → IfSome (edited edit (option_map ordered w)) HasRise → option_map ordered (edited edit w) ≡ edited edit (option_map ordered w)
edited_ordered (Make settings) w rise = refl
edited_ordered (Configure settings outgoing) None rise = refl
edited_ordered (Configure settings outgoing) (Some w) rise = λ i. Some (record w { settings = settings; versions = left_sorted outgoing w.versions i; runs = sort_by by_run w.runs })
edited_ordered Remove w rise = refl
edited_ordered (AddVersion v outgoing) None rise = refl
edited_ordered (AddVersion v outgoing) (Some w) rise = λ i. Some (record w { next_version = v.number + 1; versions = versions_pushed outgoing w.versions (v ∷ []) (v.number + 1) rise.versions i; runs = sort_by by_run w.runs })
edited_ordered Purge None rise = refl
edited_ordered Purge (Some w) rise = refl
edited_ordered (Hold id text) None rise = refl
edited_ordered (Hold id text) (Some w) rise = refl
edited_ordered (Release id) None rise = refl
edited_ordered (Release id) (Some w) rise = refl
edited_ordered (AddRun number ask created) None rise = refl
edited_ordered (AddRun number ask created) (Some w) rise =
    λ i. Some (record w { next_run = number + 1; versions = sort_by by_version w.versions; runs = runs_pushed w.runs (new_run number ask created ∷ []) (number + 1) rise.runs i })
edited_ordered (Report number action status frees) None rise = refl
edited_ordered (Report number action status frees) (Some w) rise =
    λ i. Some (record w { holder = cond frees Nobody w.holder; versions = sort_by by_version w.versions; runs = runs_mapped (reported number action status) (λ r. refl) w.runs i })

started_ordered : (start : Option ℕ) (w : Option Workspace) → option_map ordered (option_map (started_if start) w) ≡ option_map (started_if start) (option_map ordered w)
started_ordered start None = refl
started_ordered None (Some w) = refl
started_ordered (Some n) (Some w) = λ i. Some (record w { holder = HoldingRun n; versions = sort_by by_version w.versions; runs = runs_mapped (begun n) (λ r. refl) w.runs i })

-- a change of the rows as they stand is that of the workspace in the order of numbers, where that is lawful afterwards
pub changed_ordered : (change : Change) (w : Option Workspace) → IsLawfulIfThere (changed_by change (option_map ordered w)) → option_map ordered (changed_by change w) ≡ changed_by change (option_map ordered w)
changed_ordered change w lawful =
    started_ordered change.start (edited change.edit w) ∙ ap (option_map (started_if change.start)) (edited_ordered change.edit w (before (edited change.edit (option_map ordered w)) lawful))
  where
    before : (v : Option Workspace) → IfSome (option_map (started_if change.start) v) IsLawful → IfSome v HasRise
    before None h = tt
    before (Some v) h = rise_before change.start v h
