-- A workspace comes into sound tables row by row: what its rows stand for so far, and that tables are sound in the end.
use Rattle.std.proofs.Common.{◌≡◌, ◌≢◌, ◌≤◌, ℕ, true, List, [], ◌∷◌, ◌++◌, append-nil, append_assoc, Option, Some, None, option_map, IsTrue, refl, sym, ap, subst, ◌∙◌}
use Rattle.tables.proofs.Outside.{list_any, is_ws_name, Holder, RunSettings, Settings, IsLawful, count_of, placed, new_workspace, Version, Workspace, Organization, Tables, is_ws, with_next_version, with_next_run, held_by, released_from, ws_changed, ws_added, run_added, workspace_of, size_of}
use Rattle.basis.specs.declared.rows.Holder.TheVariants.{Nobody, Lock, Run as HeldByRun}
use Rattle.basis.specs.declared.rows.RunRow.{RunRow as Run}
use Rattle.statements.specs.declared.rows.Workspace.{Workspace as WorkspaceCells}
use Rattle.tables.specs.Records.{workspace_of_cells, retention_at, record_of}
use Rattle.tables.specs.Sound.{IsGapless, IsSound}
use Rattle.tables.specs.Inner.Edits.{made_rows, added_rows, FitsTwins}
use Rattle.tables.specs.Inner.Copies.{released_rows, held_rows, head_rows, Carries, with_versions, with_runs, Begins}
use Rattle.tables.specs.Inner.Standing.{AreTexts, AreOwned, versions_in, runs_in, workspace_of_rows, StandsSoFar}
use Rattle.tables.proofs.Edits.{Stands, row_puts, becomes_puts, run_comes, made_puts}
use Rattle.tables.proofs.Kept.{placed_keeps}
use Rattle.tables.proofs.Ordered.{ordered, workspace_ordered, lawful_ordered}
use Rattle.tables.proofs.Owned.{row_there, owned_row, owned_becomes, owned_run, owned_made}
use Rattle.tables.proofs.Sets.{Puts, put_own, put_other}
use Rattle.tables.proofs.TextRows.{Becomes, texts_carried, comes}

-- ---- one part after the other

module _ (org ws : List ℕ) where
  pub carries_then : (f g : Workspace → Workspace) (t u z : Tables) → Carries org ws f t u → Carries org ws g u z → Carries org ws (λ w. g (f w)) t z
  carries_then f g t u z one two first w stands = two first (f w) (one first w stands)

  pub begins_then : (w : Workspace) (f : Workspace → Workspace) (t u z : Tables) → Begins org ws w t u → Carries org ws f u z → Begins org ws (f w) t z
  begins_then w f t u z begins carries sound there = carries t w (begins sound there)

  pub no_versions_carry : (t : Tables) → Carries org ws (with_versions []) t t
  no_versions_carry t first w stands = subst (λ (vs : List Version). StandsSoFar org ws (record w { versions = vs }) first t) (sym (append-nil w.versions)) stands

  pub versions_carry_on : (vs us : List Version) (t u z : Tables) → Carries org ws (with_versions vs) t u → Carries org ws (with_versions us) u z → Carries org ws (with_versions (vs ++ us)) t z
  versions_carry_on vs us t u z one two first w stands =
      subst (λ (all : List Version). StandsSoFar org ws (record w { versions = all }) first z) (append_assoc w.versions vs us) (two first (with_versions vs w) (one first w stands))

  pub no_runs_carry : (t : Tables) → Carries org ws (with_runs []) t t
  no_runs_carry t first w stands = subst (λ (rs : List Run). StandsSoFar org ws (record w { runs = rs }) first t) (sym (append-nil w.runs)) stands

  pub runs_carry_on : (rs ss : List Run) (t u z : Tables) → Carries org ws (with_runs rs) t u → Carries org ws (with_runs ss) u z → Carries org ws (with_runs (rs ++ ss)) t z
  runs_carry_on rs ss t u z one two first w stands =
      subst (λ (all : List Run). StandsSoFar org ws (record w { runs = all }) first z) (append_assoc w.runs rs ss) (two first (with_runs rs w) (one first w stands))

  -- ---- a part

  -- what is done to the rows is done to the workspace that they stand for
  goes_on : (first t u : Tables) (w : Workspace) (f : Workspace → Workspace) → StandsSoFar org ws w first t → Stands org ws (option_map f (workspace_of_rows t org ws)) t u → u.metas ≡ t.metas → u.editions ≡ t.editions
      → AreTexts u → AreOwned u → StandsSoFar org ws (f w) first u
  goes_on first t u w f stands puts metas editions texts owned = record {
    metas = metas ∙ stands.metas;
    editions = editions ∙ stands.editions;
    orgs = puts.orgs ∙ stands.orgs;
    tokens = puts.tokens ∙ stands.tokens;
    bounds = puts.bounds ∙ stands.bounds;
    own = puts.own ∙ ap (option_map f) stands.own;
    others = λ a b other. puts.others a b other ∙ stands.others a b other;
    texts = texts;
    owned = owned;
  }

  row_carries : (g : WorkspaceCells → WorkspaceCells) (f : Workspace → Workspace) → ((c : WorkspaceCells) (k : ℕ) (vs : List Version) (rs : List Run) → workspace_of_cells k (g c) vs rs ≡ f (workspace_of_cells k c vs rs)) → (t : Tables)
      → Carries org ws f t (ws_changed g org ws t)
  row_carries g f same t first w stands = goes_on first t (ws_changed g org ws t) w f stands (row_puts org ws t g f same) refl refl (texts_carried t (ws_changed g org ws t) refl refl refl stands.texts) (owned_row org ws t stands.owned g)

  -- a workspace whose rows stand for one has a row
  stands_there : (first t : Tables) (w : Workspace) → StandsSoFar org ws w first t → list_any (is_ws org ws) t.wss ≡ true
  stands_there first t w stands = by_row (workspace_of org ws t) refl stands.own
    where
      by_row : (r : Option WorkspaceCells) → workspace_of org ws t ≡ r → option_map (λ (c : WorkspaceCells). workspace_of_cells (retention_at t org ws) c (versions_in t org ws) (runs_in t org ws)) r ≡ Some w → list_any (is_ws org ws) t.wss ≡ true
      by_row None e f = absurd (let none : ⊥ = cc in none)
      by_row (Some c) e f = row_there org ws t c e

  -- a run comes
  pub run_carries : (r : Run) (t : Tables) → Carries org ws (with_runs (r ∷ [])) t (run_added org ws r t)
  run_carries r t first w stands =
      let u : Tables = run_added org ws r t in
      goes_on first t u w (with_runs (r ∷ [])) stands (run_comes org ws t r) refl refl (texts_carried t u refl refl refl stands.texts) (owned_run org ws t stands.owned r (stands_there first t w stands))

  -- ---- the row

  made_begins : (settings : Settings) (t : Tables) → workspace_of org ws t ≡ None → Begins org ws (new_workspace settings) t (made_rows org ws settings t)
  made_begins settings t none sound there =
      let puts = made_puts org ws t sound settings none in
      record {
        metas = refl;
        editions = refl;
        orgs = puts.orgs;
        tokens = puts.tokens;
        bounds = puts.bounds;
        own = puts.own;
        others = puts.others;
        texts = texts_carried t (made_rows org ws settings t) refl refl refl sound.contents;
        owned = owned_made org ws t sound settings none there;
      }

  abbrev counted : ℕ → ℕ → Workspace → Workspace
  counted version run w = record w { next_version = version; next_run = run }

  abbrev released_after : Option (List ℕ) → Workspace → Workspace
  released_after None w = w
  released_after (Some id) w = record w { holder = Nobody; released = Some id }

  abbrev held_after : Holder → Workspace → Workspace
  held_after Nobody w = w
  held_after (Lock id text) w = record w { holder = Lock id text }
  held_after (HeldByRun n) w = record w { holder = HeldByRun n }

  counts_carry : (version run : ℕ) (t : Tables) → Carries org ws (counted version run) t (ws_changed (with_next_run run) org ws (ws_changed (with_next_version version) org ws t))
  counts_carry version run t =
      let u : Tables = ws_changed (with_next_version version) org ws t in
      carries_then (λ w. record w { next_version = version }) (λ w. record w { next_run = run }) t u (ws_changed (with_next_run run) org ws u)
      (row_carries (with_next_version version) (λ w. record w { next_version = version }) (λ c k vs rs. refl) t) (row_carries (with_next_run run) (λ w. record w { next_run = run }) (λ c k vs rs. refl) u)

  release_carries : (released : Option (List ℕ)) (t : Tables) → Carries org ws (released_after released) t (released_rows org ws released t)
  release_carries None t = λ first w stands. stands
  release_carries (Some id) t = row_carries (released_from id) (released_after (Some id)) (λ c k vs rs. refl) t

  hold_carries : (holder : Holder) (t : Tables) → Carries org ws (held_after holder) t (held_rows org ws holder t)
  hold_carries Nobody t = λ first w stands. stands
  hold_carries (Lock id text) t = row_carries (held_by (Lock id text)) (held_after (Lock id text)) (λ c k vs rs. refl) t
  hold_carries (HeldByRun n) t = row_carries (held_by (HeldByRun n)) (held_after (HeldByRun n)) (λ c k vs rs. refl) t

  head_is : (holder : Holder) (released : Option (List ℕ)) (of_runs : RunSettings) (version run retention : ℕ)
      → held_after holder (released_after released (counted version run (new_workspace (record { runs = of_runs; retention = retention }))))
      ≡ workspace_of_cells retention (record { runs = of_runs; holder = holder; released = released; next_version = version; next_run = run }) [] []
  head_is Nobody None of_runs version run retention = refl
  head_is Nobody (Some id) of_runs version run retention = refl
  head_is (Lock id text) None of_runs version run retention = refl
  head_is (Lock id text) (Some last) of_runs version run retention = refl
  head_is (HeldByRun n) None of_runs version run retention = refl
  head_is (HeldByRun n) (Some last) of_runs version run retention = refl

  -- a workspace comes without its versions and runs
  pub head_begins : (c : WorkspaceCells) (retention : ℕ) (t : Tables) → workspace_of org ws t ≡ None → Begins org ws (workspace_of_cells retention c [] []) t (head_rows org ws c retention t)
  head_begins c retention t none =
      let settings : Settings = record { runs = c.runs; retention = retention } in
      let made : Tables = ws_added org ws c.runs retention t in
      let numbered : Tables = ws_changed (with_next_run c.next_run) org ws (ws_changed (with_next_version c.next_version) org ws made) in
      let freed : Tables = released_rows org ws c.released numbered in
      let start : Workspace = new_workspace settings in
      subst (λ (w : Workspace). Begins org ws w t (head_rows org ws c retention t)) (head_is c.holder c.released c.runs c.next_version c.next_run retention)
      (begins_then (released_after c.released (counted c.next_version c.next_run start)) (held_after c.holder) t freed (head_rows org ws c retention t)
      (begins_then (counted c.next_version c.next_run start) (released_after c.released) t numbered freed
      (begins_then start (counted c.next_version c.next_run) t made numbered (made_begins settings t none) (counts_carry c.next_version c.next_run made)) (release_carries c.released numbered)) (hold_carries c.holder freed))

-- a version comes with its text
pub version_carries : (keys : ℕ → List ℕ) (org ws : List ℕ) (v : Version) (t : Tables) → size_of org ws v.number t ≡ None → FitsTwins keys org ws v t → Carries org ws (with_versions (v ∷ [])) t (added_rows keys org ws v t)
version_carries keys org ws v t fresh fits first w stands =
    let u : Tables = added_rows keys org ws v t in
    let made : Becomes (λ vs. vs ++ v ∷ []) org ws t u = comes keys org ws v t stands.texts fresh fits (stands_there org ws first t w stands) in
    goes_on org ws first t u w (with_versions (v ∷ [])) stands (becomes_puts org ws t (λ vs. vs ++ v ∷ []) u made) made.rest.metas made.rest.editions made.texts (owned_becomes org ws t stands.owned (λ vs. vs ++ v ∷ []) org ws u made)

-- ---- in the end

module _ (org ws : List ℕ) (w : Workspace) (t u : Tables) (lawful : IsLawful w) (stands : StandsSoFar org ws w t u) where
  stands_puts : Puts org ws (Some w) t u
  stands_puts = record {
    orgs = stands.orgs;
    tokens = stands.tokens;
    bounds = stands.bounds;
    own = workspace_ordered u org ws ∙ ap (option_map ordered) stands.own ∙ ap Some (lawful_ordered w lawful);
    others = λ a b other. workspace_ordered u a b ∙ ap (option_map ordered) (stands.others a b other) ∙ sym (workspace_ordered t a b);
  }

  -- the record of the organization has the workspace in its place
  pub stands_own : (o : Organization) → record_of t org ≡ Some o → record_of u org ≡ Some (placed o ws (Some w))
  stands_own = put_own org ws (Some w) t u stands_puts

  -- the records of all others are as before
  pub stands_others : (q : List ℕ) → q ≢ org → record_of u q ≡ record_of t q
  stands_others = put_other org ws (Some w) t u stands_puts

-- tables are sound with it
pub stands_sound : (org ws : List ℕ) (w : Workspace) (t u : Tables) → IsSound t → IsTrue (is_ws_name ws) → IsLawful w → IsGapless w → (o : Organization) → record_of t org ≡ Some o → count_of (placed o ws (Some w)) ≤ 100_000 → StandsSoFar org ws w t u → IsSound u
stands_sound org ws w t u sound named lawful gapless o there few stands =
    placed_keeps org ws (Some w) t u sound named lawful gapless o there few (stands.editions ∙ sound.reported.0, stands.metas ∙ sound.reported.1) stands.texts stands.owned (stands_puts org ws w t u lawful stands)
