-- The texts of versions, as rows of versions come and go: what sound tables say of texts stays, and so does each other text.
use Rattle.tables.proofs.Outside.{◌≡◌, ◌≤◌, ◌<◌, ℕ, zero, suc, ◌-◌, nat_lt, Bool, true, false, not, ◌&&◌, ◌==◌, cond, List, [], ◌∷◌, ◌++◌, map, filter, find, length, Option, Some, None, option_map, IsSomeAnd, refl, sym, ap, ap₂, subst, ◌∙◌, arith, Equal, nat_cmp, unwrap_or, bytes_eq, AllByRecursion, list_any, tied_itself, nat_cmp_total, false_from_ne_true, and_from, and_parts, eqb-true, eq-eqb, delete_where, sort_by, next_key, all_weaker, all_both, all-filter, all-append, filter_same, slice-push_mine, slice-push_other, slice-delete_mine, slice-delete_other, length-map, Bounds, equal_bytes, Version, Kept, id_of, TokenRow, BoundRow, WsRow, VersionRow, RunRow, VpageRow, from_entries, name_cmp, Tables, is_bound, is_ws, is_ws_of, is_run_of, is_version_of, is_version, is_version_below, new_version, version_removed, version_cmp, run_cmp, bound_in, oldest_below, size_of, find_pushed, find_left, none_passes, none_found, all_deleted, is_place_of, pages_for, text_removed, text_of, IsWhole, HasNoPlaces, HasSoundPlaces, text_added_keeps, text_added_whole, text_added_text, text_added_others_whole, text_added_others_text, text_added_places, text_added_metas, text_added_orgs, text_added_tokens, text_added_wss, text_added_versions, text_added_runs, text_added_bounds, text_added_editions, text_added_retentions, text_removed_keeps, text_removed_others_whole, text_removed_others_text, text_removed_places, text_removed_none, text_removed_metas, text_removed_orgs, text_removed_tokens, text_removed_wss, text_removed_versions, text_removed_runs, text_removed_bounds, text_removed_editions, text_removed_retentions, carried_whole, carried_text, carried_sound}
use Rattle.tables.proofs.Parts.{none_mapped, first_two}
use Rattle.statements.specs.declared.rows.Workspace.{Workspace as WorkspaceCells}
use Rattle.statements.proofs.Grown.{find_front}
use Rattle.texts.proofs.PlaceLaws.{IsOtherVersion, version_parts, version_from}
use Rattle.tables.specs.Records.{version_of_cells, no_bounds, token_of_cells, workspace_of_cells, retention_at, version_at, versions_at, workspace_by, is_token_of, tokens_at, workspaces_at, organization_at}
use Rattle.tables.specs.Sound.{IsPlaced, HasText}
use Rattle.tables.specs.Inner.Edits.{first_gone, so_many_gone, gone_below, row_added, added_rows, FitsTwins}
use Rattle.tables.proofs.Ordered.{versions_total, versions_in}
use Rattle.tables.proofs.Names.{name_is, is_pair, pair_is, pair_apart}
use Rattle.tables.proofs.TextLists.{none_goes, filter_fewer, absorbed, fewer_left, least, none_least, least_holds, least_passes, least_within}
pub use Rattle.tables.specs.Inner.Standing.{AreTexts}

-- the text of a row is as it was
abbrev pub SameText : Tables → Tables → Kept VersionRow → Type 0
SameText t u y = text_of y.1.org y.1.name y.1.it.number y.1.it.size u ≡ text_of y.1.org y.1.name y.1.it.number y.1.it.size t

-- the tables besides versions, pages and places stay
pub record KeepsRest (t u : Tables) : Type 0 where
  pub metas : u.metas ≡ t.metas
  pub orgs : u.orgs ≡ t.orgs
  pub tokens : u.tokens ≡ t.tokens
  pub wss : u.wss ≡ t.wss
  pub runs : u.runs ≡ t.runs
  pub bounds : u.bounds ≡ t.bounds
  pub editions : u.editions ≡ t.editions
  pub retentions : u.retentions ≡ t.retentions

pub rest_stays : (t : Tables) → KeepsRest t t
rest_stays t = record { metas = refl; orgs = refl; tokens = refl; wss = refl; runs = refl; bounds = refl; editions = refl; retentions = refl }

pub rest_then : (t u z : Tables) → KeepsRest t u → KeepsRest u z → KeepsRest t z
rest_then t u z one two = record {
  metas = two.metas ∙ one.metas;
  orgs = two.orgs ∙ one.orgs;
  tokens = two.tokens ∙ one.tokens;
  wss = two.wss ∙ one.wss;
  runs = two.runs ∙ one.runs;
  bounds = two.bounds ∙ one.bounds;
  editions = two.editions ∙ one.editions;
  retentions = two.retentions ∙ one.retentions;
}

-- ---- rows of a version

pub version_row_parts : (org ws : List ℕ) (n : ℕ) (y : Kept VersionRow) → is_version org ws n y ≡ true → (y.1.org ≡ org) × ((y.1.name ≡ ws) × (y.1.it.number ≡ n))
version_row_parts org ws n y e =
    let a = and_parts (bytes_eq y.1.org org) (bytes_eq y.1.name ws && y.1.it.number == n) e in
    let b = and_parts (bytes_eq y.1.name ws) (y.1.it.number == n) a.1 in
    (equal_bytes y.1.org org a.0, (equal_bytes y.1.name ws b.0, eqb-true y.1.it.number n b.1))

pub version_row_from : (org ws : List ℕ) (n : ℕ) (y : Kept VersionRow) → y.1.org ≡ org → y.1.name ≡ ws → y.1.it.number ≡ n → is_version org ws n y ≡ true
version_row_from org ws n y e f g =
    and_from (bytes_eq y.1.org org) (bytes_eq y.1.name ws && y.1.it.number == n) (subst (λ (x : List ℕ). bytes_eq y.1.org x ≡ true) e (name_is y.1.org))
    (and_from (bytes_eq y.1.name ws) (y.1.it.number == n) (subst (λ (x : List ℕ). bytes_eq y.1.name x ≡ true) f (name_is y.1.name)) (eq-eqb y.1.it.number n g))

pub below_parts : (org ws : List ℕ) (below : ℕ) (y : Kept VersionRow) → is_version_below org ws below y ≡ true → (y.1.org ≡ org) × ((y.1.name ≡ ws) × (nat_lt y.1.it.number below ≡ true))
below_parts org ws below y e =
    let a = and_parts (bytes_eq y.1.org org) (bytes_eq y.1.name ws && nat_lt y.1.it.number below) e in
    let b = and_parts (bytes_eq y.1.name ws) (nat_lt y.1.it.number below) a.1 in
    (equal_bytes y.1.org org a.0, (equal_bytes y.1.name ws b.0, b.1))

below_from : (org ws : List ℕ) (below : ℕ) (y : Kept VersionRow) → y.1.org ≡ org → y.1.name ≡ ws → nat_lt y.1.it.number below ≡ true → is_version_below org ws below y ≡ true
below_from org ws below y e f g =
    and_from (bytes_eq y.1.org org) (bytes_eq y.1.name ws && nat_lt y.1.it.number below) (subst (λ (x : List ℕ). bytes_eq y.1.org x ≡ true) e (name_is y.1.org))
    (and_from (bytes_eq y.1.name ws) (nat_lt y.1.it.number below) (subst (λ (x : List ℕ). bytes_eq y.1.name x ≡ true) f (name_is y.1.name)) g)

-- a row that isn't one of the version is one of another
other_row : (org ws : List ℕ) (n : ℕ) (y : Kept VersionRow) → is_version org ws n y ≡ false → IsOtherVersion y.1.org y.1.name y.1.it.number org ws n
other_row org ws n y e same = let none : ⊥ = cc (sym (version_row_from org ws n y same.0 same.1.0 same.1.1) ∙ e) in none

-- ---- what rows denote

-- where the texts of rows are as they were, so is what they denote
pub shown_same : (t u : Tables) (o w : List ℕ) (xs : List (Kept VersionRow)) → AllByRecursion (SameText t u) xs
    → map (λ (x : Kept VersionRow). version_at u o w x.1.it) (filter (is_version_of o w) xs) ≡ map (λ (x : Kept VersionRow). version_at t o w x.1.it) (filter (is_version_of o w) xs)
shown_same t u o w [] all = refl
shown_same t u o w (x ∷ xs) all = go (is_version_of o w x) refl (shown_same t u o w xs all.1)
  where
    here : is_version_of o w x ≡ true → version_at u o w x.1.it ≡ version_at t o w x.1.it
    here e =
        let a = and_parts (bytes_eq x.1.org o) (bytes_eq x.1.name w) e in
        let moved : text_of o w x.1.it.number x.1.it.size u ≡ text_of o w x.1.it.number x.1.it.size t =
        subst (λ (p : List ℕ). text_of p w x.1.it.number x.1.it.size u ≡ text_of p w x.1.it.number x.1.it.size t) (equal_bytes x.1.org o a.0)
        (subst (λ (q : List ℕ). text_of x.1.org q x.1.it.number x.1.it.size u ≡ text_of x.1.org q x.1.it.number x.1.it.size t) (equal_bytes x.1.name w a.1) all.0) in
        ap (λ (text : List ℕ). version_of_cells text x.1.it) moved

    go : (b : Bool) → is_version_of o w x ≡ b
        → map (λ (y : Kept VersionRow). version_at u o w y.1.it) (filter (is_version_of o w) xs) ≡ map (λ (y : Kept VersionRow). version_at t o w y.1.it) (filter (is_version_of o w) xs)
        → map (λ (y : Kept VersionRow). version_at u o w y.1.it) (cond b (x ∷ filter (is_version_of o w) xs) (filter (is_version_of o w) xs)) ≡ map (λ (y : Kept VersionRow). version_at t o w y.1.it) (cond b (x ∷ filter (is_version_of o w) xs) (filter (is_version_of o w) xs))
    go true e more = λ i. here e i ∷ more i
    go false e more = more

-- tables with the same rows of versions, pages and places
module _ (t u : Tables) (versions : u.versions ≡ t.versions) (pages : u.pages ≡ t.pages) (vpages : u.vpages ≡ t.vpages) where
  pub versions_carried : (o w : List ℕ) → versions_in u o w ≡ versions_in t o w
  versions_carried o w = λ i. map (λ (x : Kept VersionRow). version_of_cells (carried_text t u pages vpages o w x.1.it.number x.1.it.size i) x.1.it) (filter (is_version_of o w) (versions i))

  pub in_order_carried : (o w : List ℕ) → versions_at u o w ≡ versions_at t o w
  in_order_carried o w = λ i. map (λ (x : Kept VersionRow). version_of_cells (carried_text t u pages vpages o w x.1.it.number x.1.it.size i) x.1.it) (sort_by version_cmp (filter (is_version_of o w) (versions i)))

  size_carried : (o w : List ℕ) (n : ℕ) → size_of o w n u ≡ size_of o w n t
  size_carried o w n = ap (λ (vs : List (Kept VersionRow)). option_map (λ (y : Kept VersionRow). y.1.it.size) (find (is_version o w n) vs)) versions

  pub texts_carried : AreTexts t → AreTexts u
  texts_carried a = record {
    places = carried_sound t u pages vpages a.places;
    placed = all_weaker (IsPlaced t) (IsPlaced u) (λ z. subst (λ (s : Option ℕ). IsSomeAnd s (λ size. z.1.place < pages_for size)) (sym (size_carried z.1.org z.1.ws z.1.number))) u.vpages (subst (AllByRecursion (IsPlaced t)) (sym vpages) a.placed);
    texts = all_weaker (HasText t) (HasText u) (λ y. carried_whole t u pages vpages y.1.org y.1.name y.1.it.number y.1.it.size) u.versions (subst (AllByRecursion (HasText t)) (sym versions) a.texts);
  }

-- tokens, and how far each reaches
abbrev reach_of : List (Kept BoundRow) → TokenRow → Bounds
reach_of bounds r = unwrap_or (option_map bound_in (find (is_bound r.org r.name) bounds)) no_bounds

pub tokens_carried : (t u : Tables) → u.tokens ≡ t.tokens → u.bounds ≡ t.bounds → (o : List ℕ) → tokens_at u o ≡ tokens_at t o
tokens_carried t u tokens bounds o = λ i. from_entries {R = name_cmp} (map (λ (x : Kept TokenRow). (x.1.name, token_of_cells (reach_of (bounds i) x.1) x.1.it)) (filter (is_token_of o) (tokens i)))

-- tables of which no other but those of organizations and tokens differ, and in which each workspace keeps as many versions
pub record KeepsWorkspaces (t u : Tables) : Type 0 where
  pub wss : u.wss ≡ t.wss
  pub versions : u.versions ≡ t.versions
  pub runs : u.runs ≡ t.runs
  pub pages : u.pages ≡ t.pages
  pub vpages : u.vpages ≡ t.vpages
  pub kept : (o w : List ℕ) → retention_at u o w ≡ retention_at t o w

module _ (t u : Tables) (keeps : KeepsWorkspaces t u) where
  pub workspace_carried : (o w : List ℕ) → workspace_by u o w ≡ workspace_by t o w
  workspace_carried o w = λ i. option_map (λ (c : WorkspaceCells). workspace_of_cells (keeps.kept o w i) c (in_order_carried t u keeps.versions keeps.pages keeps.vpages o w i) (map (λ (x : Kept RunRow). x.1.it) (sort_by run_cmp (filter (is_run_of o w) (keeps.runs i)))))
      (option_map (λ (x : Kept WsRow). x.1.it) (find (is_ws o w) (keeps.wss i)))

  pub workspaces_carried : (o : List ℕ) → workspaces_at u o ≡ workspaces_at t o
  workspaces_carried o = λ i. from_entries {R = name_cmp} (map (λ (x : Kept WsRow). (x.1.name, workspace_of_cells (keeps.kept o x.1.name i) x.1.it (in_order_carried t u keeps.versions keeps.pages keeps.vpages o x.1.name i) (map (λ (y : Kept RunRow). y.1.it) (sort_by run_cmp (filter (is_run_of o x.1.name) (keeps.runs i))))))
      (filter (is_ws_of o) (keeps.wss i)))

  pub organization_carried : u.tokens ≡ t.tokens → u.bounds ≡ t.bounds → (o : List ℕ) (cap : Option ℕ) → option_map (organization_at u o) cap ≡ option_map (organization_at t o) cap
  organization_carried tokens bounds o cap = λ i. option_map (λ (c : ℕ). record { limit = c; tokens = tokens_carried t u tokens bounds o i; workspaces = workspaces_carried o i }) cap

-- ---- a version that goes

module _ (org ws : List ℕ) (below : ℕ) (t : Tables) (a : AreTexts t) (x : Kept VersionRow) (found : least version_cmp (is_version_below org ws below) t.versions ≡ Some x) where
  abbrev n : ℕ
  n = x.1.it.number

  abbrev size : ℕ
  size = x.1.it.size

  abbrev without : Tables
  without = version_removed org ws n t

  abbrev left : Tables
  left = text_removed org ws n size without

  of_row : (x.1.org ≡ org) × ((x.1.name ≡ ws) × (nat_lt n below ≡ true))
  of_row = below_parts org ws below x (least_passes version_cmp (is_version_below org ws below) t.versions x found)

  is_own : is_version org ws n x ≡ true
  is_own = version_row_from org ws n x of_row.0 of_row.1.0 refl

  -- each row of the version is one of those that go
  pub goes_with : (y : Kept VersionRow) → is_version org ws n y ≡ true → is_version_below org ws below y ≡ true
  goes_with y e =
      let p = version_row_parts org ws n y e in
      below_from org ws below y p.0 p.1.0 (subst (λ (m : ℕ). nat_lt m below ≡ true) (sym p.1.1) of_row.1.1)

  own_found : find (is_version org ws n) t.versions ≡ Some x
  own_found = least_within version_cmp (is_version_below org ws below) versions_total (is_version org ws n) goes_with one_number t.versions x found is_own
    where
      one_number : (y z : Kept VersionRow) → is_version org ws n y ≡ true → is_version org ws n z ≡ true → version_cmp y z ≡ Equal
      one_number y z e f =
          let p = version_row_parts org ws n y e in
          let q = version_row_parts org ws n z f in
          ap₂ nat_cmp p.1.1 q.1.1 ∙ tied_itself nat_cmp_total n

  own_size : size_of org ws n t ≡ Some size
  own_size = ap (option_map (λ (y : Kept VersionRow). y.1.it.size)) own_found

  was_whole : IsWhole org ws n size without
  was_whole =
      let there : IsWhole x.1.org x.1.name n size t = least_holds version_cmp (is_version_below org ws below) (HasText t) t.versions x a.texts found in
      carried_whole t without refl refl org ws n size (subst (λ (p : List ℕ). IsWhole p ws n size t) of_row.0 (subst (λ (q : List ℕ). IsWhole x.1.org q n size t) of_row.1.0 there))

  were_sound : HasSoundPlaces without
  were_sound = carried_sound t without refl refl a.places

  pub gone_rest : KeepsRest t left
  gone_rest = record {
    metas = text_removed_metas org ws n size without;
    orgs = text_removed_orgs org ws n size without;
    tokens = text_removed_tokens org ws n size without;
    bounds = text_removed_bounds org ws n size without;
    editions = text_removed_editions org ws n size without;
    retentions = text_removed_retentions org ws n size without;
    wss = text_removed_wss org ws n size without;
    runs = text_removed_runs org ws n size without;
  }

  pub gone_versions : left.versions ≡ delete_where (is_version org ws n) t.versions
  gone_versions = text_removed_versions org ws n size without

  -- the places of the version are gone with it
  none_left : HasNoPlaces org ws n left
  none_left = text_removed_none org ws n size without were_sound (all_weaker (IsPlaced t) (λ z. z.1.org ≡ org → z.1.ws ≡ ws → z.1.number ≡ n → z.1.place < pages_for size) within t.vpages a.placed) was_whole
    where
      by_size : (place : ℕ) (o : Option ℕ) → o ≡ Some size → IsSomeAnd o (λ s. place < pages_for s) → place < pages_for size
      by_size place None e h = absurd (let none : ⊥ = cc in none)
      by_size place (Some s) e h = let same : s ≡ size = cc in subst (λ (m : ℕ). place < pages_for m) same h

      within : (z : Kept VpageRow) → IsPlaced t z → z.1.org ≡ org → z.1.ws ≡ ws → z.1.number ≡ n → z.1.place < pages_for size
      within z placed e f g =
          let here : size_of z.1.org z.1.ws z.1.number t ≡ Some size = (λ i. size_of (e i) (f i) (g i) t) ∙ own_size in
          by_size z.1.place (size_of z.1.org z.1.ws z.1.number t) here placed

  gone_texts : AreTexts left
  gone_texts = record {
    places = text_removed_keeps org ws n size without were_sound was_whole;
    placed = all_both (IsPlaced t) (λ z. is_place_of org ws n z ≡ false) (IsPlaced left) still_placed left.vpages (text_removed_places org ws n size without (IsPlaced t) a.placed) (none_passes (is_place_of org ws n) left.vpages none_left);
    texts = subst (AllByRecursion (HasText left)) (sym gone_versions)
        (all_both (HasText t) (λ y. is_version org ws n y ≡ false) (HasText left) still_whole (delete_where (is_version org ws n) t.versions) (all-filter (HasText t) (λ y. not (is_version org ws n y)) t.versions a.texts) (all_deleted (is_version org ws n) t.versions));
  }
    where
      size_left : (z : Kept VpageRow) → is_place_of org ws n z ≡ false → size_of z.1.org z.1.ws z.1.number left ≡ size_of z.1.org z.1.ws z.1.number t
      size_left z e =
          ap (λ (vs : List (Kept VersionRow)). option_map (λ (y : Kept VersionRow). y.1.it.size) (find (is_version z.1.org z.1.ws z.1.number) vs)) gone_versions
          ∙ ap (option_map (λ (y : Kept VersionRow). y.1.it.size)) (find_left (is_version z.1.org z.1.ws z.1.number) (is_version org ws n) apart t.versions)
        where
          apart : (y : Kept VersionRow) → is_version org ws n y ≡ true → is_version z.1.org z.1.ws z.1.number y ≡ false
          apart y f = false_from_ne_true (is_version z.1.org z.1.ws z.1.number y) (λ g.
              let p = version_row_parts org ws n y f in
              let q = version_row_parts z.1.org z.1.ws z.1.number y g in
              let none : ⊥ = cc (sym (version_from org ws n z (sym q.0 ∙ p.0) (sym q.1.0 ∙ p.1.0) (sym q.1.1 ∙ p.1.1)) ∙ e) in none)

      still_placed : (z : Kept VpageRow) → IsPlaced t z → is_place_of org ws n z ≡ false → IsPlaced left z
      still_placed z placed e = subst (λ (s : Option ℕ). IsSomeAnd s (λ m. z.1.place < pages_for m)) (sym (size_left z e)) placed

      still_whole : (y : Kept VersionRow) → HasText t y → is_version org ws n y ≡ false → HasText left y
      still_whole y whole e =
          text_removed_others_whole org ws n size without were_sound was_whole y.1.org y.1.name y.1.it.number (other_row org ws n y e) y.1.it.size (carried_whole t without refl refl y.1.org y.1.name y.1.it.number y.1.it.size whole)

  gone_same : AllByRecursion (SameText t left) left.versions
  gone_same = subst (AllByRecursion (SameText t left)) (sym gone_versions)
      (all_weaker (λ y. is_version org ws n y ≡ false) (SameText t left) same (delete_where (is_version org ws n) t.versions) (all_deleted (is_version org ws n) t.versions))
    where
      same : (y : Kept VersionRow) → is_version org ws n y ≡ false → SameText t left y
      same y e =
          text_removed_others_text org ws n size without were_sound was_whole y.1.org y.1.name y.1.it.number (other_row org ws n y e) y.1.it.size ∙ carried_text t without refl refl y.1.org y.1.name y.1.it.number y.1.it.size

-- ---- versions that go

-- the workspace of a version has a row
abbrev pub HasWs : Tables → Kept VersionRow → Type 0
HasWs t x = list_any (is_ws x.1.org x.1.name) t.wss ≡ true

-- so many of the versions that go are gone
record GoesTo (org ws : List ℕ) (below many : ℕ) (t u : Tables) : Type 0 where
  rest : KeepsRest t u
  left : delete_where (is_version_below org ws below) u.versions ≡ delete_where (is_version_below org ws below) t.versions
  fewer : length (filter (is_version_below org ws below) u.versions) ≤ length (filter (is_version_below org ws below) t.versions) - many
  owned : AllByRecursion (HasWs t) t.versions → AllByRecursion (HasWs t) u.versions
  same : AllByRecursion (SameText t u) u.versions
  texts : AreTexts u

module _ (org ws : List ℕ) (below : ℕ) (t : Tables) (a : AreTexts t) where
  none_yet : GoesTo org ws below 0 t t
  none_yet = record { rest = rest_stays t; left = refl; fewer = omega arith; owned = λ all. all; same = every t.versions; texts = a }
    where
      every : (xs : List (Kept VersionRow)) → AllByRecursion (SameText t t) xs
      every [] = tt
      every (x ∷ xs) = (refl, every xs)

  one_more : (many : ℕ) (u : Tables) → GoesTo org ws below many t u → GoesTo org ws below (suc many) t (first_gone org ws (oldest_below org ws below u) u)
  one_more many u so_far = go (least version_cmp (is_version_below org ws below) u.versions) refl
    where
      go : (r : Option (Kept VersionRow)) → least version_cmp (is_version_below org ws below) u.versions ≡ r → GoesTo org ws below (suc many) t (first_gone org ws (option_map (λ (x : Kept VersionRow). x.1.it) r) u)
      go None e = record {
        rest = so_far.rest;
        left = so_far.left;
        fewer = let empty : length (filter (is_version_below org ws below) u.versions) ≡ 0 = none_least version_cmp (is_version_below org ws below) versions_total u.versions e in omega (arith, empty);
        owned = so_far.owned;
        same = so_far.same;
        texts = so_far.texts;
      }
      go (Some x) e =
          let z : Tables = text_removed org ws x.1.it.number x.1.it.size (version_removed org ws x.1.it.number u) in
          let versions : z.versions ≡ delete_where (is_version org ws x.1.it.number) u.versions = gone_versions org ws below u so_far.texts x e in
          record {
            rest = rest_then t u z so_far.rest (gone_rest org ws below u so_far.texts x e);
            left = ap (delete_where (is_version_below org ws below)) versions
                ∙ absorbed (is_version org ws x.1.it.number) (is_version_below org ws below) (goes_with org ws below u so_far.texts x e) u.versions ∙ so_far.left;
            fewer =
                let less : suc (length (filter (is_version_below org ws below) (delete_where (is_version org ws x.1.it.number) u.versions))) ≤ length (filter (is_version_below org ws below) u.versions) =
                fewer_left (is_version org ws x.1.it.number) (is_version_below org ws below) (goes_with org ws below u so_far.texts x e) u.versions x (own_found org ws below u so_far.texts x e) in
                let before = so_far.fewer in
                subst (λ (vs : List (Kept VersionRow)). length (filter (is_version_below org ws below) vs) ≤ length (filter (is_version_below org ws below) t.versions) - suc many) (sym versions) (omega (arith, less, before));
            owned = λ all. subst (AllByRecursion (HasWs t)) (sym versions) (all-filter (HasWs t) (λ y. not (is_version org ws x.1.it.number y)) u.versions (so_far.owned all));
            same = all_both (SameText t u) (SameText u z) (SameText t z) (λ y one two. two ∙ one) z.versions
                (subst (AllByRecursion (SameText t u)) (sym versions) (all-filter (SameText t u) (λ y. not (is_version org ws x.1.it.number y)) u.versions so_far.same)) (gone_same org ws below u so_far.texts x e);
            texts = gone_texts org ws below u so_far.texts x e;
          }

  so_many : (many : ℕ) → GoesTo org ws below many t (so_many_gone many org ws below t)
  unfolding so_many_gone
  so_many zero = none_yet
  so_many (suc many) = one_more many (so_many_gone many org ws below t) (so_many many)

and_three : (p q r : Bool) → not (p && (q && r)) ≡ not ((p && q) && r)
and_three true q r = refl
and_three false q r = refl

-- What becomes of the versions of one workspace; those of all others stay, and so do the other tables.
pub record Becomes (f : List Version → List Version) (org ws : List ℕ) (t u : Tables) : Type 0 where
  pub rest : KeepsRest t u
  pub own : versions_in u org ws ≡ f (versions_in t org ws)
  pub others : (o w : List ℕ) → is_pair org ws o w ≡ false → versions_in u o w ≡ versions_in t o w
  pub texts : AreTexts u
  pub owned : AllByRecursion (HasWs t) t.versions → AllByRecursion (HasWs t) u.versions

-- as many rows as versions
pub versions_counted : (t : Tables) (org ws : List ℕ) → length (filter (is_version_of org ws) t.versions) ≡ length (versions_in t org ws)
versions_counted t org ws = sym (length-map (filter (is_version_of org ws) t.versions) (λ (x : Kept VersionRow). version_at t org ws x.1.it))

module _ (org ws : List ℕ) (below : ℕ) (t : Tables) (a : AreTexts t) (few : length (versions_in t org ws) ≤ 1_001) where
  abbrev gone : Tables
  gone = gone_below org ws below t

  all_go : GoesTo org ws below 1_001 t gone
  unfolding gone_below
  all_go = so_many org ws below t a 1_001

  few_go : length (filter (is_version_below org ws below) t.versions) ≤ 1_001
  few_go =
      let fewer = filter_fewer (is_version_below org ws below) (is_version_of org ws) (λ x e. first_two (bytes_eq x.1.org org) (bytes_eq x.1.name ws) (nat_lt x.1.it.number below) e) t.versions in
      let counted = versions_counted t org ws in
      omega (arith, fewer, counted, few)

  versions_left : gone.versions ≡ delete_where (is_version_below org ws below) t.versions
  versions_left =
      let fewer = all_go.fewer in
      let most = few_go in
      let none : length (filter (is_version_below org ws below) gone.versions) ≤ 0 = omega (arith, fewer, most) in
      sym (none_goes (is_version_below org ws below) gone.versions none) ∙ all_go.left

  denoted : (o w : List ℕ) → versions_in gone o w ≡ map (λ (x : Kept VersionRow). version_at t o w x.1.it) (filter (is_version_of o w) (delete_where (is_version_below org ws below) t.versions))
  denoted o w = shown_same t gone o w gone.versions all_go.same ∙ ap (λ (vs : List (Kept VersionRow)). map (λ (x : Kept VersionRow). version_at t o w x.1.it) (filter (is_version_of o w) vs)) versions_left

  -- the versions of a workspace with numbers below one go
  pub go_below : Becomes (delete_where (λ (v : Version). nat_lt v.number below)) org ws t gone
  go_below = record {
    rest = all_go.rest;
    own = denoted org ws
        ∙ ap (λ xs. map (λ (x : Kept VersionRow). version_at t org ws x.1.it) (filter (is_version_of org ws) xs))
        (filter_same (λ x. not (is_version_below org ws below x)) (λ x. not (is_version_of org ws x && nat_lt x.1.it.number below)) (λ x. and_three (bytes_eq x.1.org org) (bytes_eq x.1.name ws) (nat_lt x.1.it.number below)) t.versions)
        ∙ slice-delete_mine (is_version_of org ws) (λ (x : Kept VersionRow). version_at t org ws x.1.it) (λ (v : Version). nat_lt v.number below) t.versions;
    others = λ o w other. denoted o w ∙ slice-delete_other (is_version_of o w) (λ (x : Kept VersionRow). version_at t o w x.1.it) (is_version_below org ws below)
        (λ x e. pair_apart org ws o w x.1.org x.1.name other (first_two (bytes_eq x.1.org org) (bytes_eq x.1.name ws) (nat_lt x.1.it.number below) e)) t.versions;
    texts = all_go.texts;
    owned = all_go.owned;
  }

-- ---- a version that comes

module _ (keys : ℕ → List ℕ) (org ws : List ℕ) (v : Version) (t : Tables) (a : AreTexts t) (fresh : size_of org ws v.number t ≡ None) (fits : FitsTwins keys org ws v t) where
  abbrev new : Kept VersionRow
  new = (next_key id_of t.versions, record { org = org; name = ws; it = new_version v.number v.serial v.lineage v.created (length v.text) })

  abbrev mid : Tables
  mid = row_added org ws v t

  abbrev come : Tables
  come = added_rows keys org ws v t

  not_there : find (is_version org ws v.number) t.versions ≡ None
  not_there = none_mapped (λ (x : Kept VersionRow). x.1.it.size) (find (is_version org ws v.number) t.versions) fresh

  -- no place belongs to a version that isn't there
  no_places : HasNoPlaces org ws v.number mid
  no_places = none_found (is_place_of org ws v.number) t.vpages (all_weaker (IsPlaced t) (λ z. is_place_of org ws v.number z ≡ false) placed_elsewhere t.vpages a.placed)
    where
      by_size : (place : ℕ) (o : Option ℕ) → o ≡ None → IsSomeAnd o (λ s. place < pages_for s) → ⊥
      by_size place None e h = h
      by_size place (Some s) e h = let none : ⊥ = cc in none

      placed_elsewhere : (z : Kept VpageRow) → IsPlaced t z → is_place_of org ws v.number z ≡ false
      placed_elsewhere z placed = false_from_ne_true (is_place_of org ws v.number z) (λ e.
          let p = version_parts org ws v.number z e in
          by_size z.1.place (size_of z.1.org z.1.ws z.1.number t) ((λ i. size_of (p.0 i) (p.1.0 i) (p.1.1 i) t) ∙ fresh) placed)

  mid_sound : HasSoundPlaces mid
  mid_sound = carried_sound t mid refl refl a.places

  come_versions : come.versions ≡ t.versions ++ new ∷ []
  come_versions = text_added_versions keys org ws v.number v.text mid

  sizes : (o w : List ℕ) (m s : ℕ) → size_of o w m t ≡ Some s → size_of o w m come ≡ Some s
  sizes o w m s e = by_row (find (is_version o w m) t.versions) refl e
    where
      by_row : (r : Option (Kept VersionRow)) → find (is_version o w m) t.versions ≡ r → option_map (λ (x : Kept VersionRow). x.1.it.size) r ≡ Some s → size_of o w m come ≡ Some s
      by_row None f h = absurd (let none : ⊥ = cc in none)
      by_row (Some x) f h =
          ap (λ (vs : List (Kept VersionRow)). option_map (λ (y : Kept VersionRow). y.1.it.size) (find (is_version o w m) vs)) come_versions
          ∙ ap (option_map (λ (y : Kept VersionRow). y.1.it.size)) (find_front (is_version o w m) t.versions (new ∷ []) x f) ∙ h

  new_size : size_of org ws v.number come ≡ Some (length v.text)
  new_size =
      ap (λ (vs : List (Kept VersionRow)). option_map (λ (y : Kept VersionRow). y.1.it.size) (find (is_version org ws v.number) vs)) come_versions
      ∙ ap (option_map (λ (y : Kept VersionRow). y.1.it.size)) (find_pushed (is_version org ws v.number) t.versions new not_there (version_row_from org ws v.number new refl refl refl))

  come_same : AllByRecursion (SameText t come) t.versions
  come_same = all_weaker (λ y. is_version org ws v.number y ≡ false) (SameText t come)
      (λ y e. text_added_others_text keys org ws v.number v.text mid mid_sound no_places fits y.1.org y.1.name y.1.it.number (other_row org ws v.number y e) y.1.it.size
      ∙ carried_text t mid refl refl y.1.org y.1.name y.1.it.number y.1.it.size) t.versions (none_passes (is_version org ws v.number) t.versions not_there)

  come_texts : AreTexts come
  come_texts = record {
    places = text_added_keeps keys org ws v.number v.text mid mid_sound no_places fits;
    placed = text_added_places keys org ws v.number v.text mid (IsPlaced come) (all_weaker (IsPlaced t) (IsPlaced come) still_placed t.vpages a.placed) newly_placed;
    texts = subst (AllByRecursion (HasText come)) (sym come_versions)
        (all-append (HasText come) t.versions (new ∷ [])
        (all_both (HasText t) (λ y. is_version org ws v.number y ≡ false) (HasText come) still_whole t.versions a.texts (none_passes (is_version org ws v.number) t.versions not_there))
        (text_added_whole keys org ws v.number v.text mid mid_sound no_places fits, tt));
  }
    where
      still_placed : (z : Kept VpageRow) → IsPlaced t z → IsPlaced come z
      still_placed z placed = by_size (size_of z.1.org z.1.ws z.1.number t) refl placed
        where
          by_size : (o : Option ℕ) → size_of z.1.org z.1.ws z.1.number t ≡ o → IsSomeAnd o (λ s. z.1.place < pages_for s) → IsPlaced come z
          by_size None e h = absurd h
          by_size (Some s) e h = subst (λ (o : Option ℕ). IsSomeAnd o (λ m. z.1.place < pages_for m)) (sym (sizes z.1.org z.1.ws z.1.number s e)) h

      newly_placed : (z : Kept VpageRow) → z.1.org ≡ org → z.1.ws ≡ ws → z.1.number ≡ v.number → z.1.place < pages_for (length v.text) → IsPlaced come z
      newly_placed z e f g below = subst (λ (o : Option ℕ). IsSomeAnd o (λ m. z.1.place < pages_for m)) (sym ((λ i. size_of (e i) (f i) (g i) come) ∙ new_size)) below

      still_whole : (y : Kept VersionRow) → HasText t y → is_version org ws v.number y ≡ false → HasText come y
      still_whole y whole e =
          text_added_others_whole keys org ws v.number v.text mid mid_sound no_places fits y.1.org y.1.name y.1.it.number (other_row org ws v.number y e) y.1.it.size (carried_whole t mid refl refl y.1.org y.1.name y.1.it.number y.1.it.size whole)

  denoted_new : version_at come org ws new.1.it ≡ v
  denoted_new = ap (λ (text : List ℕ). version_of_cells text new.1.it) (text_added_text keys org ws v.number v.text mid mid_sound no_places fits)

  denoted_all : (o w : List ℕ) → versions_in come o w ≡ map (λ (x : Kept VersionRow). version_at come o w x.1.it) (filter (is_version_of o w) (t.versions ++ new ∷ []))
  denoted_all o w = ap (λ (vs : List (Kept VersionRow)). map (λ (x : Kept VersionRow). version_at come o w x.1.it) (filter (is_version_of o w) vs)) come_versions

  -- a version comes behind the others of its workspace
  pub comes : list_any (is_ws org ws) t.wss ≡ true → Becomes (λ vs. vs ++ v ∷ []) org ws t come
  comes there = record {
    rest = record {
      metas = text_added_metas keys org ws v.number v.text mid;
      orgs = text_added_orgs keys org ws v.number v.text mid;
      tokens = text_added_tokens keys org ws v.number v.text mid;
      bounds = text_added_bounds keys org ws v.number v.text mid;
      editions = text_added_editions keys org ws v.number v.text mid;
      retentions = text_added_retentions keys org ws v.number v.text mid;
      wss = text_added_wss keys org ws v.number v.text mid;
      runs = text_added_runs keys org ws v.number v.text mid;
    };
    own = denoted_all org ws
        ∙ slice-push_mine (is_version_of org ws) (λ (x : Kept VersionRow). version_at come org ws x.1.it) t.versions new (pair_is org ws)
        ∙ (λ i. shown_same t come org ws t.versions come_same i ++ denoted_new i ∷ []);
    others = λ o w other. denoted_all o w
        ∙ slice-push_other (is_version_of o w) (λ (x : Kept VersionRow). version_at come o w x.1.it) t.versions new (pair_apart org ws o w org ws other (pair_is org ws))
        ∙ shown_same t come o w t.versions come_same;
    texts = come_texts;
    owned = λ all. subst (AllByRecursion (HasWs t)) (sym come_versions) (all-append (HasWs t) t.versions (new ∷ []) all (there, tt));
  }
