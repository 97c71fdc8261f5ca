-- What edits do to the versions of a workspace, and to their texts.
use Rattle.tables.proofs.Outside.{◌≡◌, ◌≤◌, ℕ, ◌+◌, nat_lt, Bool, true, not, cond, List, [], ◌∷◌, ◌++◌, map, filter, find, length, Option, Some, None, option_map, refl, sym, ap, subst, ◌∙◌, arith, AllByRecursion, list_any, lt-ltb, length-append, delete_where, Settings, Rises, left_above, Version, Tables, is_ws, with_next_version, workspace_of, Kept, WsRow, any_is_found, is_some-map}
use Rattle.statements.specs.declared.rows.Workspace.{Workspace as WorkspaceCells}
use Rattle.tables.specs.Records.{versions_at, workspace_at}
use Rattle.tables.proofs.Sorted.{length_sorted, count_sorted}
use Rattle.tables.proofs.Ordered.{by_version, by_version_total, versions_in, versions_sorted}
use Rattle.tables.specs.Sound.{IsSound}
use Rattle.tables.specs.Inner.Edits.{all_gone, settings_rows, configured_rows, numbered_rows, added_rows, left_rows, versioned_rows, TakesVersion}
use Rattle.tables.proofs.Lists.{below_gone, any_updated}
use Rattle.tables.proofs.TextRows.{AreTexts, texts_carried, versions_carried, rest_stays, rest_then, Becomes, go_below, comes}
use Rattle.tables.proofs.Finding.{no_versions}

pub becomes_then : (f g : List Version → List Version) (org ws : List ℕ) (t u z : Tables) → Becomes f org ws t u → Becomes g org ws u z → Becomes (λ vs. g (f vs)) org ws t z
becomes_then f g org ws t u z one two = record {
  rest = rest_then t u z one.rest two.rest;
  own = two.own ∙ ap g one.own;
  others = λ o w other. two.others o w other ∙ one.others o w other;
  texts = two.texts;
  owned = λ all. subst (λ wss. AllByRecursion (λ x. list_any (is_ws x.1.org x.1.name) wss ≡ true) z.versions) one.rest.wss
      (two.owned (subst (λ wss. AllByRecursion (λ x. list_any (is_ws x.1.org x.1.name) wss ≡ true) u.versions) (sym one.rest.wss) (one.owned all)));
}

pub becomes_as : (f g : List Version → List Version) (org ws : List ℕ) (t u : Tables) → f (versions_in t org ws) ≡ g (versions_in t org ws) → Becomes f org ws t u → Becomes g org ws t u
becomes_as f g org ws t u same one = record { rest = one.rest; own = one.own ∙ same; others = one.others; texts = one.texts; owned = one.owned }

-- numbers that rise up to the greatest are all below what comes after it
none_above : (low next : ℕ) (vs : List Version) → Rises low (map (λ (v : Version). v.number) vs) next → next ≤ 1_000_000_001 → delete_where (λ (v : Version). nat_lt v.number 1_000_000_001) vs ≡ []
none_above low next [] rise most = refl
none_above low next (v ∷ vs) rise most =
    ap (λ (b : Bool). cond (not b) (v ∷ delete_where (λ (u : Version). nat_lt u.number 1_000_000_001) vs) (delete_where (λ (u : Version). nat_lt u.number 1_000_000_001) vs)) (lt-ltb v.number 1_000_000_001 (let below = rise.1 in omega (arith, below, most)))
    ∙ none_above v.number next vs rise.2 most

module _ (org ws : List ℕ) (t : Tables) (sound : IsSound t) where
  as_many : length (versions_at t org ws) ≡ length (versions_in t org ws)
  as_many = ap length (versions_sorted t org ws) ∙ length_sorted by_version by_version_total (versions_in t org ws)

  few_versions : length (versions_in t org ws) ≤ 1_000
  few_versions = by_row (workspace_of org ws t) refl
    where
      by_row : (r : Option WorkspaceCells) → workspace_of org ws t ≡ r → length (versions_in t org ws) ≤ 1_000
      by_row None e = let none : length (versions_in t org ws) ≡ 0 = sym as_many ∙ ap length (no_versions t sound org ws e) in omega (arith, none)
      by_row (Some w) e =
          let lawful = (sound.workspaces org ws (workspace_at t org ws w) (ap (option_map (workspace_at t org ws)) e)).lawful.versions in
          let kept = lawful.kept in
          let retention = lawful.retention in
          let same = as_many in
          omega (arith, kept, retention.1, same)

  all_below : delete_where (λ (v : Version). nat_lt v.number 1_000_000_001) (versions_in t org ws) ≡ []
  all_below =
      no_length (delete_where (λ (v : Version). nat_lt v.number 1_000_000_001) (versions_in t org ws))
      (sym (ap (λ vs. length (delete_where (λ (v : Version). nat_lt v.number 1_000_000_001) vs)) (versions_sorted t org ws) ∙ count_sorted by_version by_version_total (λ (v : Version). not (nat_lt v.number 1_000_000_001)) (versions_in t org ws))
      ∙ ap length (by_row (workspace_of org ws t) refl))
    where
      no_length : (vs : List Version) → length vs ≡ 0 → vs ≡ []
      no_length [] e = refl
      no_length (v ∷ vs) e = absurd (omega (arith, e))

      by_row : (r : Option WorkspaceCells) → workspace_of org ws t ≡ r → delete_where (λ (v : Version). nat_lt v.number 1_000_000_001) (versions_at t org ws) ≡ []
      by_row None e = ap (delete_where (λ (v : Version). nat_lt v.number 1_000_000_001)) (no_versions t sound org ws e)
      by_row (Some w) e =
          let lawful = (sound.workspaces org ws (workspace_at t org ws w) (ap (option_map (workspace_at t org ws)) e)).lawful.versions in
          none_above 0 w.next_version (versions_at t org ws) lawful.rise lawful.next.1

  -- all versions go
  pub all_go : Becomes (λ vs. []) org ws t (all_gone org ws t)
  all_go =
      let few = few_versions in
      becomes_as (delete_where (λ (v : Version). nat_lt v.number 1_000_000_001)) (λ vs. []) org ws t (all_gone org ws t) all_below
      (go_below org ws 1_000_000_001 t sound.contents (omega (arith, few)))

  -- settings are set, and versions up to a number go
  module _ (settings : Settings) where
    abbrev set : Tables
    set = settings_rows org ws settings t

    set_texts : AreTexts set
    set_texts = texts_carried t set refl refl refl sound.contents

    set_few : length (versions_in set org ws) ≤ 1_001
    set_few =
        let few = few_versions in
        let same : length (versions_in set org ws) ≡ length (versions_in t org ws) = ap length (versions_carried t set refl refl refl org ws) in
        omega (arith, few, same)

    pub settings_leave : (outgoing : Option ℕ) → Becomes (left_above outgoing) org ws set (configured_rows org ws settings outgoing t)
    settings_leave None = record { rest = rest_stays set; own = refl; others = λ o w other. refl; texts = set_texts; owned = λ all. all }
    settings_leave (Some last) =
        becomes_as (delete_where (λ (u : Version). nat_lt u.number (last + 1))) (left_above (Some last)) org ws set (left_rows (Some last) org ws set) (below_gone last (versions_in set org ws))
        (go_below org ws (last + 1) set set_texts set_few)

  -- a version comes, and those up to a number go
  module _ (keys : ℕ → List ℕ) (v : Version) (takes : TakesVersion keys org ws v t) where
    abbrev numbered : Tables
    numbered = numbered_rows org ws v t

    abbrev added : Tables
    added = added_rows keys org ws v numbered

    pub ws_there : list_any (is_ws org ws) t.wss ≡ true
    ws_there = any_is_found (is_ws org ws) t.wss ∙ sym (is_some-map (λ (x : Kept WsRow). x.1.it) (find (is_ws org ws) t.wss)) ∙ takes.there

    come : Becomes (λ vs. vs ++ v ∷ []) org ws numbered added
    come = comes keys org ws v numbered (texts_carried t numbered refl refl refl sound.contents) takes.fresh takes.fits
        (any_updated (is_ws org ws) (is_ws org ws) (λ x. (x.0, record x.1 { it = with_next_version (v.number + 1) x.1.it })) (λ x. refl) t.wss ∙ ws_there)

    still_few : length (versions_in added org ws) ≤ 1_001
    still_few =
        let few = few_versions in
        let one : length (versions_in added org ws) ≡ length (versions_in numbered org ws ++ v ∷ []) = ap length come.own in
        let more : length (versions_in numbered org ws ++ v ∷ []) ≡ length (versions_in numbered org ws) + 1 = length-append (versions_in numbered org ws) (v ∷ []) in
        let same : length (versions_in numbered org ws) ≡ length (versions_in t org ws) = ap length (versions_carried t numbered refl refl refl org ws) in
        omega (arith, few, one, more, same)

    pub versions_come : (outgoing : Option ℕ) → Becomes (λ vs. left_above outgoing (vs ++ v ∷ [])) org ws numbered (versioned_rows keys org ws v outgoing t)
    versions_come None = come
    versions_come (Some last) =
        becomes_then (λ vs. vs ++ v ∷ []) (λ vs. filter (λ (u : Version). nat_lt last u.number) vs) org ws numbered added (left_rows (Some last) org ws added) come
        (becomes_as (delete_where (λ (u : Version). nat_lt u.number (last + 1))) (λ vs. filter (λ (u : Version). nat_lt last u.number) vs) org ws added (left_rows (Some last) org ws added) (below_gone last (versions_in added org ws))
        (go_below org ws (last + 1) added come.texts still_few))
