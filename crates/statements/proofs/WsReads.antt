-- What the queries on the table ws read of its rows.
use Rattle.statements.proofs.Outside.{AllZip, ◌≡◌, ◌≢◌, ◌∙◌, sym, ap, Bool, true, false, ◌&&◌, ℕ, ℤ, List, [], ◌∷◌, find, Option, Some, None, option_map, codes, refl, ◌==◌, eq-eqb, Text, Int, Row, column, Join, left, end, Env, overlay, or_null, ascending_weaker, State, Shown, at_texts, then_term, last_term, Lt, Gt, Ge, admits, equal_bytes, bytes_eq}
use Rattle.statements.specs.Place.{tree_of}
use Rattle.statements.specs.Schema.{ws_table, retention_table, version_table}
use Rattle.statements.specs.Rows.{Kept, WsRow, VersionRow, RetentionRow, stored, ws_cells, version_cells, retention_cells, number}
use Rattle.statements.specs.Tables.{Tables, Holds, ws_layout, version_layout, retention_layout}
use Rattle.statements.specs.Changes.{is_ws, is_ws_of, is_retention, is_version}
use Rattle.statements.specs.Finds.{workspace_of, workspaces_of, retention_of, is_one_less, is_version_before, version_before}
use Rattle.statements.specs.Calls.{FirstRow, FirstRows, LimitsTo, Pins, IsWorkspace, IsNamedRow, IsName}
use Rattle.statements.specs.declared.rows.NamedWorkspace.{NamedWorkspace}
use Rattle.statements.specs.Listings.{named_row, is_behind, workspace_rows_after, workspace_names_of, later_of, end_of, WorkspacesApart, NamesApart}
use Rattle.statements.specs.declared.workspaces.TheConstants.{LIST_WS, LIST_WS_WITHIN, FIND_WS, COUNT_WS, LIST_NAMES}
use Rattle.statements.proofs.Held.{IsHeld, wss_held, versions_held, retentions_held}
use Rattle.statements.proofs.NameLists.{by_text, wss_apart, names_within, own_names}
use Rattle.statements.proofs.Listed.{Ends, limit_enough}
use Rattle.statements.proofs.Lefts.{row_or, left_is, one_named}
use Rattle.statements.proofs.Own.{stored_tree}
use Rattle.statements.proofs.Prefixes.{within, all_admitted}
use Rattle.statements.proofs.PointReads.{first_own, count_own}
use Rattle.statements.proofs.ReadBack.{text_read, workspace_reported, workspace_back, named_workspace_read}
use Rattle.statements.proofs.Conditions.{one_text, two_texts, same_text, text_after, one_number, two_texts_one_less}
use Rattle.statements.proofs.WsListParts.{of_workspace, of_version_before, with_both, list_ws_rest, list_ws_names, list_ws_within_rest}
use Rattle.statements.proofs.WsListTexts.{list_ws_means, list_ws_within_means}
use Rattle.statements.proofs.WsTexts.{find_ws_names, find_ws_asks, find_ws_rest, count_ws_asks, count_ws_rest, list_names_asks, list_names_rest}

three_true : (a b c : Bool) → (a && (b && c)) ≡ true → (a ≡ true) × (b ≡ true) × (c ≡ true)
three_true true true c h = (refl, refl, h)
three_true true false c h = absurd (cc)
three_true false b c h = absurd (cc)

-- two rows for one version of a workspace clash
one_version : (org ws : List ℕ) (next : ℕ) (a b : Kept VersionRow) → is_version a.1.org a.1.name a.1.it.number b ≡ false → is_version_before org ws next a ≡ true → is_version_before org ws next b ≡ false
one_version org ws next a b apart mine = go (is_one_less b.1.it.number next) refl
  where
    there : (bytes_eq a.1.org org ≡ true) × (bytes_eq a.1.name ws ≡ true) × (is_one_less a.1.it.number next ≡ true)
    there = three_true (bytes_eq a.1.org org) (bytes_eq a.1.name ws) (is_one_less a.1.it.number next) mine

    none : (c d : Bool) → (c && (d && false)) ≡ false
    none true true = refl
    none true false = refl
    none false d = refl

    same : (m : ℕ) → a.1.it.number ≡ m → (bytes_eq b.1.org org && (bytes_eq b.1.name ws && m == a.1.it.number)) ≡ (bytes_eq b.1.org org && (bytes_eq b.1.name ws && true))
    same m is = ap (λ (e : Bool). bytes_eq b.1.org org && (bytes_eq b.1.name ws && e)) (eq-eqb m a.1.it.number (sym is))

    go : (c : Bool) → is_one_less b.1.it.number next ≡ c → is_version_before org ws next b ≡ false
    go true yours =
        let number_is : a.1.it.number ≡ b.1.it.number = one_number _ a.1.it.number b.1.it.number there.2 yours in
        let one = equal_bytes a.1.org org there.0 in
        let two = equal_bytes a.1.name ws there.1 in
        ap (λ (e : Bool). bytes_eq b.1.org org && (bytes_eq b.1.name ws && e)) yours ∙ sym (same b.1.it.number number_is) ∙ sym (λ i. is_version (one i) (two i) a.1.it.number b) ∙ apart
    go false yours = ap (λ (e : Bool). bytes_eq b.1.org org && (bytes_eq b.1.name ws && e)) yours ∙ none (bytes_eq b.1.org org) (bytes_eq b.1.name ws)

module _ (old new : State) (t : Tables) (h : Holds old.now t) where
  abbrev held : IsHeld ws_layout old.now t.wss
  held = wss_held old.now t h

  pub find_ws_shows : (org name : List ℕ) (row : Option Row) → FirstRow FIND_WS.now (Text org ∷ Text name ∷ []) old new row → Pins IsWorkspace row (workspace_of org name t)
  find_ws_shows org name row first =
      first_own ws_cells ws_table old new held.own t.wss held.rows held.keyed FIND_WS.now (Text org ∷ Text name ∷ []) row first find_ws_rest find_ws_names
      (is_ws org name) (λ x. two_texts x.1.org org x.1.name name) IsWorkspace (λ x. x.1.it) (λ x y reported. workspace_reported 0 7 _ y reported ∙ workspace_back x.1.it) (find_ws_asks.meaning old.now.schema _ _ held.own.place) (λ l. refl)

  pub count_ws_shows : (org : List ℕ) (row : Option Row) → FirstRow COUNT_WS.now (Text org ∷ []) old new row → row ≡ Some (number (workspaces_of org t) ∷ [])
  count_ws_shows org row first =
      count_own ws_cells ws_table old new held.own t.wss held.rows held.keyed COUNT_WS.now (Text org ∷ []) row first count_ws_rest (codes "count(*)" ∷ [])
      (is_ws_of org) (λ x. one_text x.1.org org) (count_ws_asks.meaning old.now.schema _ _ held.own.place) (λ l. refl)

  abbrev kept : IsHeld retention_layout old.now t.retentions
  kept = retentions_held old.now t h

  -- the row of keeping that LEFT JOIN finds for a workspace, or none
  abbrev kept_row : List ℕ → Kept WsRow → Row
  kept_row org x = row_or (stored retention_cells) (find (is_retention org x.1.name) t.retentions)

  kept_cell : (org : List ℕ) (x : Kept WsRow) → column (kept_row org x) 3 ≡ or_null number (retention_of org x.1.name t)
  kept_cell org x = by_row (find (is_retention org x.1.name) t.retentions)
    where
      by_row : (o : Option (Kept RetentionRow)) → column (row_or (stored retention_cells) o) 3 ≡ or_null number (option_map (λ (y : Kept RetentionRow). y.1.it) o)
      by_row None = refl
      by_row (Some y) = refl

  abbrev made : IsHeld version_layout old.now t.versions
  made = versions_held old.now t h

  -- the row of version that LEFT JOIN finds for it, or none
  abbrev before_row : List ℕ → Kept WsRow → Row
  before_row org x = row_or (stored version_cells) (find (is_version_before org x.1.name x.1.it.next_version) t.versions)

  before_cell : (org : List ℕ) (x : Kept WsRow) → column (before_row org x) 3 ≡ or_null number (version_before org x.1.name x.1.it.next_version t)
  before_cell org x = by_row (find (is_version_before org x.1.name x.1.it.next_version) t.versions)
    where
      by_row : (o : Option (Kept VersionRow)) → column (row_or (stored version_cells) o) 3 ≡ or_null number (option_map (λ (y : Kept VersionRow). y.1.it.number) o)
      by_row None = refl
      by_row (Some y) = refl

  -- the steps of FROM behind ws
  abbrev joined : Join
  joined = with_both (tree_of old.now.schema retention_table.name) (tree_of old.now.schema version_table.name)

  abbrev both_rows : List ℕ → Kept WsRow → Env
  both_rows org x = kept_row org x ∷ before_row org x ∷ []

  both_found : (org : List ℕ) (more : Row) → WorkspacesApart t → Ends (overlay old.now.trees []) (λ (x : Kept WsRow). (Text org ∷ more) ∷ stored ws_cells x ∷ []) joined (both_rows org)
  both_found org more apart terms x =
      left_is (stored retention_cells) (is_retention org x.1.name) (overlay old.now.trees []) (tree_of old.now.schema retention_table.name) t.retentions
      (stored_tree old.now.trees (tree_of old.now.schema retention_table.name) kept.own.place.low ∙ kept.rows) (of_workspace 2) ((Text org ∷ more) ∷ stored ws_cells x ∷ [])
      (λ y. two_texts y.1.org org y.1.name x.1.name) (ascending_weaker _ _ (λ a b. one_named org x.1.name a b) t.retentions apart.retentions) terms (left (tree_of old.now.schema version_table.name) (of_version_before 3) end)
      ∙ left_is (stored version_cells) (is_version_before org x.1.name x.1.it.next_version) (overlay old.now.trees []) (tree_of old.now.schema version_table.name) t.versions
      (stored_tree old.now.trees (tree_of old.now.schema version_table.name) made.own.place.low ∙ made.rows) (of_version_before 3) ((Text org ∷ more) ∷ stored ws_cells x ∷ kept_row org x ∷ [])
      (λ y. two_texts_one_less y.1.org org y.1.name x.1.name y.1.it.number x.1.it.next_version) (ascending_weaker _ _ (λ a b. one_version org x.1.name x.1.it.next_version a b) t.versions apart.versions) terms end

  pub list_ws_shows : (org after : List ℕ) (most : ℕ) (limit : ℤ) → LimitsTo most limit → (rows : List Row) (wss : List NamedWorkspace) → WorkspacesApart t → FirstRows most LIST_WS.now (Text org ∷ Text after ∷ Int limit ∷ []) old new rows → AllZip IsNamedRow rows wss
      → wss ≡ workspace_rows_after org after [] most t
  list_ws_shows org after most limit limits rows wss apart first read =
      names_within ws_cells ws_table old new held.own t.wss held.rows LIST_WS.now (Text org ∷ Text after ∷ Int limit ∷ []) list_ws_rest 2 list_ws_names joined (both_rows org) (both_found org (Text after ∷ Int limit ∷ []) apart)
      IsNamedRow (λ x. x.1.name) (λ x. x.1.it) (named_row org t) (λ x y reported. named_workspace_read x.1.name x.1.it _ _ (retention_of org x.1.name t) (version_before org x.1.name x.1.it.next_version t) (kept_cell org x) (before_cell org x) y reported)
      (λ x y. by_text x.1.name y.1.name) (list_ws_means old.now.schema _ _ held.own.place _ _ kept.own.place _ _ made.own.place) most (λ l. limit_enough most limit limits l) (is_ws_of org) (λ n. is_behind after n && admits [] n)
      (λ x. text_after x.1.org org x.1.name after ∙ ap (λ b. bytes_eq x.1.org org && b) (all_admitted (is_behind after x.1.name) x.1.name)) (wss_apart org t.wss apart.wss) rows wss first read

  pub list_ws_within_shows : (org after prefix : List ℕ) → prefix ≢ [] → (most : ℕ) (limit : ℤ) → LimitsTo most limit → (rows : List Row) (wss : List NamedWorkspace) → WorkspacesApart t
      → FirstRows most LIST_WS_WITHIN.now (Text org ∷ Text after ∷ Text (later_of after prefix) ∷ Text (end_of prefix) ∷ Int limit ∷ []) old new rows → AllZip IsNamedRow rows wss
      → wss ≡ workspace_rows_after org after prefix most t
  list_ws_within_shows org after prefix some most limit limits rows wss apart first read =
      names_within ws_cells ws_table old new held.own t.wss held.rows LIST_WS_WITHIN.now (Text org ∷ Text after ∷ Text (later_of after prefix) ∷ Text (end_of prefix) ∷ Int limit ∷ []) list_ws_within_rest 2 list_ws_names joined (both_rows org) (both_found org (Text after ∷ Text (later_of after prefix) ∷ Text (end_of prefix) ∷ Int limit ∷ []) apart)
      IsNamedRow (λ x. x.1.name) (λ x. x.1.it) (named_row org t) (λ x y reported. named_workspace_read x.1.name x.1.it _ _ (retention_of org x.1.name t) (version_before org x.1.name x.1.it.next_version t) (kept_cell org x) (before_cell org x) y reported)
      (λ x y. by_text x.1.name y.1.name) (list_ws_within_means old.now.schema _ _ held.own.place _ _ kept.own.place _ _ made.own.place) most (λ l. limit_enough most limit limits l) (is_ws_of org) (λ n. is_behind after n && admits prefix n)
      (λ x. then_term (same_text x.1.org org) (then_term (at_texts _ Gt x.1.name after) (then_term (at_texts _ Ge x.1.name (later_of after prefix)) (last_term (at_texts _ Lt x.1.name (end_of prefix)))))
      ∙ ap (λ b. bytes_eq x.1.org org && b) (within after prefix x.1.name some)) (wss_apart org t.wss apart.wss) rows wss first read

  pub list_names_shows : (org : List ℕ) (rows : List Row) (names : List (List ℕ)) → NamesApart t → Shown LIST_NAMES.now (Text org ∷ []) old new rows → AllZip IsName rows names → names ≡ workspace_names_of org t
  list_names_shows org rows names apart shown read =
      own_names ws_cells ws_table old new held.own t.wss held.rows LIST_NAMES.now (Text org ∷ []) list_names_rest 2 (codes "name" ∷ []) end (λ _. []) (λ terms x. refl)
      IsName (λ x. x.1.name) (λ x. x.1.it) (λ e. e.0) (λ x y reported. text_read x.1.name y reported)
      (λ x y. by_text x.1.name y.1.name) (list_names_asks.meaning old.now.schema _ _ held.own.place) (λ l. refl) (is_ws_of org) (λ x. one_text x.1.org org) (wss_apart org t.wss apart) rows names shown read
