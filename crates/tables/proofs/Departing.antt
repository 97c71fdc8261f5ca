-- An organization goes with all that it has: tables stay sound, it isn't there in the end, and every other one is as before.
use Rattle.tables.proofs.Outside.{◌≡◌, ◌≢◌, ℕ, ◌≤◌, nat_lt, T, Bool, true, false, not, ◌&&◌, ◌||◌, cond, List, [], ◌∷◌, map, find, is_some, Option, Some, None, option_map, IsTrue, refl, sym, ap, subst, ◌∙◌, same_Some, bytes_eq, AllByRecursion, list_any, FinMap, entries, entries_sorted, get, remove, get-entries, len-entries, all_weaker, all_both, all-filter, apart_delete, any_is_found, is_ws_name, equal_bytes, effect, IsLawful, name_cmp, count_of, with_workspace, placed, is_locked, is_in_use, has_use, org_removed, without_token, open_runs, Change, Remove, Done, Absent, InUse, Token, Workspace, Organization, removed_own, removed_other, both_first, both_second, apart_from, Kept, OrgRow, TokenRow, WsRow, NamedToken, Tables, is_org, is_token, is_ws, is_ws_of, org_row_removed, token_removed, cap_of, workspace_of, open_runs_of, find_deleted, find_left}
use Rattle.std.specs.FinMap.Entries.{find as find_entry, is_sorted}
use Rattle.statements.specs.declared.rows.Workspace.{Workspace as WorkspaceCells}
use Rattle.tables.specs.Records.{is_token_of, token_at, tokens_at, workspace_at, workspace_by, workspaces_at, organization_at, record_of}
use Rattle.tables.specs.Sound.{IsOrgRow, IsSoundWorkspace, IsSound}
use Rattle.tables.specs.Inner.Imports.{token_entry}
use Rattle.tables.specs.Inner.Removals.{is_used_by, is_used_in, is_kept_back, workspaces_gone, tokens_gone, all_gone_of, AreAllOf, Departs}
use Rattle.tables.specs.Inner.Edits.{removed_rows}
use Rattle.tables.proofs.Names.{name_is, apart_name, tied}
use Rattle.tables.proofs.Parts.{none_mapped}
use Rattle.tables.proofs.Sets.{Puts, workspace_there, put_own, put_other}
use Rattle.tables.proofs.Counting.{len_with}
use Rattle.tables.proofs.Edits.{changed_puts}
use Rattle.tables.proofs.Finding.{open_runs_found}
use Rattle.tables.proofs.Kept.{org_there, placed_keeps}
use Rattle.tables.proofs.KeyedRows.{organization_keyed}
use Rattle.tables.proofs.KeptTexts.{changed_texts}
use Rattle.tables.proofs.Lawful.{limit_there, token_there}
use Rattle.tables.proofs.Managed.{record_there, record_missing}
use Rattle.tables.proofs.Owned.{accounts_in, owned_in, changed_are_owned}
use Rattle.tables.proofs.Revoking.{revoke_keeps, revoke_own, revoke_other}
use Rattle.tables.proofs.Reporting.{reported_changed}
use Rattle.tables.proofs.TextRows.{AreTexts, texts_carried, KeepsWorkspaces, workspace_carried, organization_carried}
use Rattle.tables.proofs.Brought.{Leads, none_below, workspaces_are, token_entries, workspace_names}

-- ---- names taken out of a map, one after the other

-- behind the first entry, the others are left
less_one : {X : Type 0} (m : FinMap name_cmp X) (e : List ℕ × X) (es : List (List ℕ × X)) → T (is_sorted name_cmp (e ∷ es)) → ((q : List ℕ) → get m q ≡ find_entry name_cmp q (e ∷ es)) → (q : List ℕ) → get (remove m e.0) q ≡ find_entry name_cmp q es
less_one {X} m e es sorted is q = go (bytes_eq e.0 q) refl
  where
    go : (b : Bool) → bytes_eq e.0 q ≡ b → get (remove m e.0) q ≡ find_entry name_cmp q es
    go true same = subst (λ (n : List ℕ). get (remove m e.0) n ≡ find_entry name_cmp n es) (equal_bytes e.0 q same) (removed_own m e.0 ∙ sym (none_below e.0 es (both_first _ _ sorted)))
    go false other = removed_other m e.0 q (λ same. apart_from e.0 q other (sym same)) ∙ is q ∙ ap (λ (c : Bool). cond c (Some e.1) (find_entry name_cmp q es)) (tied q e.0 ∙ other)

-- no row is mine where none is found by any name
none_mine : {X : Type 0} (mine : X → Bool) (key : X → List ℕ) (xs : List X) → ((q : List ℕ) → find (λ x. mine x && bytes_eq (key x) q) xs ≡ None) → AllByRecursion (λ x. mine x ≡ false) xs
none_mine mine key [] none = tt
none_mine {X} mine key (x ∷ xs) none = (go (mine x) refl, none_mine mine key xs (λ q. rest q (mine x && bytes_eq (key x) q) (none q)))
  where
    rest : (q : List ℕ) (b : Bool) → cond b (Some x) (find (λ y. mine y && bytes_eq (key y) q) xs) ≡ None → find (λ y. mine y && bytes_eq (key y) q) xs ≡ None
    rest q true e = absurd (let no_one : ⊥ = cc in no_one)
    rest q false e = e

    go : (b : Bool) → mine x ≡ b → mine x ≡ false
    go false e = e
    go true e =
        let found : Some x ≡ None = ap (λ (b : Bool). cond b (Some x) (find (λ y. mine y && bytes_eq (key y) (key x)) xs)) (sym (ap (λ (b : Bool). b && bytes_eq (key x) (key x)) e ∙ name_is (key x))) ∙ none (key x) in
        absurd (let no_one : ⊥ = cc in no_one)

-- ---- one workspace goes

-- no text comes
abbrev no_keys : ℕ → List ℕ
no_keys place = []

abbrev removal : Change
removal = record { edit = Remove; start = None }

module _ (org ws : List ℕ) (t : Tables) (sound : IsSound t) where
  removal_puts : Puts org ws None t (removed_rows org ws t)
  removal_puts = changed_puts no_keys org ws t sound removal tt tt

  module _ (o : Organization) (there : record_of t org ≡ Some o) where
    fewer : count_of (placed o ws None) ≤ 100_000
    fewer = subst (λ (n : ℕ). n ≤ 100_000) (len-entries (with_workspace o.workspaces ws None))
        (len_with o.workspaces ws None 100_000 (subst (λ (n : ℕ). n ≤ 100_000) (sym (len-entries o.workspaces)) (sound.counts org o there)) (λ none some. absurd (let no_one : ⊥ = cc in no_one)))

    removal_keeps : IsTrue (is_ws_name ws) → IsSound (removed_rows org ws t)
    removal_keeps named = placed_keeps org ws None t (removed_rows org ws t) sound named tt tt o there fewer (reported_changed no_keys org ws t sound removal tt) (changed_texts no_keys org ws t sound removal tt)
        (changed_are_owned org ws no_keys t sound (org_there t org o.limit (limit_there t org o there)) removal tt) removal_puts

module _ (org : List ℕ) (first : Tables) where
  workspace_goes : (ws : List ℕ) (o : Organization) (t : Tables) → IsTrue (is_ws_name ws) → Leads org first o t → Leads org first (placed o ws None) (removed_rows org ws t)
  workspace_goes ws o t named so = record {
    sound = removal_keeps org ws t so.sound o so.own named;
    own = put_own org ws None t (removed_rows org ws t) (removal_puts org ws t so.sound) o so.own;
    others = λ q apart. put_other org ws None t (removed_rows org ws t) (removal_puts org ws t so.sound) q apart ∙ so.others q apart;
  }

  token_goes : (name : List ℕ) (o : Organization) (t : Tables) → Leads org first o t → Leads org first (without_token o name) (token_removed org name t)
  token_goes name o t so = record {
    sound = revoke_keeps org name t so.sound;
    own = revoke_own org name t o so.own;
    others = λ q apart. revoke_other org name t q apart ∙ so.others q apart;
  }

  -- ---- all of them

  -- an organization without workspaces, or without tokens, with the rest of what it had
  record HasNoWorkspaces (o : Organization) (t : Tables) : Type 0 where
    left : Organization
    leads : Leads org first left t
    none : (q : List ℕ) → get left.workspaces q ≡ None
    tokens : left.tokens ≡ o.tokens

  record HasNothing (t : Tables) : Type 0 where
    left : Organization
    leads : Leads org first left t
    none : (q : List ℕ) → get left.workspaces q ≡ None
    no_token : (q : List ℕ) → get left.tokens q ≡ None

  workspaces_go : (es : List (List ℕ × Workspace)) → T (is_sorted name_cmp es) → AllByRecursion (λ (e : List ℕ × Workspace). IsTrue (is_ws_name e.0)) es → (o : Organization) → ((q : List ℕ) → get o.workspaces q ≡ find_entry name_cmp q es)
      → (t : Tables) → Leads org first o t → HasNoWorkspaces o (workspaces_gone org (map (λ (e : List ℕ × Workspace). e.0) es) t)
  workspaces_go [] sorted named o is t so = record { left = o; leads = so; none = is; tokens = refl }
  workspaces_go (e ∷ es) sorted named o is t so =
      let more = workspaces_go es (both_second _ _ sorted) named.1 (placed o e.0 None) (less_one o.workspaces e es sorted is) (removed_rows org e.0 t) (workspace_goes e.0 o t named.0 so) in
      record { left = more.left; leads = more.leads; none = more.none; tokens = more.tokens }

  tokens_go : (f : Tables) (list : List NamedToken) → T (is_sorted name_cmp (map (token_entry f org) list)) → (o : Organization) → ((q : List ℕ) → get o.workspaces q ≡ None) → ((q : List ℕ) → get o.tokens q ≡ find_entry name_cmp q (map (token_entry f org) list))
      → (t : Tables) → Leads org first o t → HasNothing (tokens_gone org list t)
  tokens_go f [] sorted o none is t so = record { left = o; leads = so; none = none; no_token = is }
  tokens_go f (x ∷ list) sorted o none is t so =
      tokens_go f list (both_second _ _ sorted) (without_token o x.name) none (less_one o.tokens (token_entry f org x) (map (token_entry f org) list) sorted is) (token_removed org x.name t) (token_goes x.name o t so)

-- ---- the row goes, where nothing is left

module _ (org : List ℕ) (t : Tables) where
  abbrev left : Tables
  left = org_row_removed org t

  same_rows : KeepsWorkspaces t left
  same_rows = record { wss = refl; versions = refl; runs = refl; pages = refl; vpages = refl; kept = λ o w. refl }

  other_row : (q : List ℕ) → q ≢ org → find (is_org q) left.orgs ≡ find (is_org q) t.orgs
  other_row q apart = find_left (is_org q) (is_org org) (λ x is. subst (λ (n : List ℕ). bytes_eq n q ≡ false) (sym (equal_bytes x.1.name org is)) (apart_name org q (λ same. apart (sym same)))) t.orgs

  still_there : (q : List ℕ) → bytes_eq q org ≡ false → list_any (is_org q) t.orgs ≡ true → list_any (is_org q) left.orgs ≡ true
  still_there q other is = any_is_found (is_org q) left.orgs ∙ ap is_some (other_row q (apart_from q org other)) ∙ sym (any_is_found (is_org q) t.orgs) ∙ is

  row_other : (q : List ℕ) → q ≢ org → record_of left q ≡ record_of t q
  row_other q apart = ap (λ (o : Option (Kept OrgRow)). option_map (organization_at left q) (option_map (λ (x : Kept OrgRow). x.1.cap) o)) (other_row q apart) ∙ organization_carried t left same_rows refl refl q (cap_of q t)

  row_own : record_of left org ≡ None
  row_own = ap (λ (o : Option (Kept OrgRow)). option_map (organization_at left org) (option_map (λ (x : Kept OrgRow). x.1.cap) o)) (find_deleted (is_org org) t.orgs)

  module _ (sound : IsSound t) (o : Organization) (there : record_of t org ≡ Some o) (none : (q : List ℕ) → get o.workspaces q ≡ None) (no_token : (q : List ℕ) → get o.tokens q ≡ None) where
    no_ws_rows : AllByRecursion (λ x. is_ws_of org x ≡ false) t.wss
    no_ws_rows = none_mine (is_ws_of org) (λ (x : Kept WsRow). x.1.name) t.wss (λ q. none_mapped (λ (x : Kept WsRow). x.1.it) (find (is_ws org q) t.wss) (none_mapped (workspace_at t org q) (workspace_of org q t) (sym (workspace_there t org q o there) ∙ none q)))

    no_token_rows : AllByRecursion (λ x. is_token_of org x ≡ false) t.tokens
    no_token_rows = none_mine (is_token_of org) (λ (x : Kept TokenRow). x.1.name) t.tokens (λ q. none_mapped (λ (x : Kept TokenRow). token_at t x.1) (find (is_token org q) t.tokens) (sym (token_there t org q o there) ∙ no_token q))

    texts : AreTexts left
    texts = texts_carried t left refl refl refl sound.contents

    within : (q : List ℕ) (p : Organization) → record_of left q ≡ Some p → (c : Bool) → bytes_eq q org ≡ c → count_of p ≤ 100_000
    within q p e true same = absurd (let no_one : ⊥ = cc (sym (subst (λ (n : List ℕ). record_of left n ≡ Some p) (equal_bytes q org same) e) ∙ row_own) in no_one)
    within q p e false other = sound.counts q p (sym (row_other q (apart_from q org other)) ∙ e)

    row_keeps : IsSound left
    row_keeps = record {
      reported = sound.reported;
      accounts = accounts_in t left.orgs sound (apart_delete (λ a b. is_org a.1.name b) (is_org org) t.orgs sound.orgs_apart) (all-filter IsOrgRow (λ x. not (is_org org x)) t.orgs sound.org_rows)
          (all_both (λ x. list_any (is_org x.1.org) t.orgs ≡ true) (λ x. is_token_of org x ≡ false) (λ x. list_any (is_org x.1.org) left.orgs ≡ true) (λ x is other. still_there x.1.org other is) t.tokens sound.tokens_owned no_token_rows);
      owned = owned_in t left.orgs sound (all_both (λ x. list_any (is_org x.1.org) t.orgs ≡ true) (λ x. is_ws_of org x ≡ false) (λ x. list_any (is_org x.1.org) left.orgs ≡ true) (λ x is other. still_there x.1.org other is) t.wss sound.wss_owned no_ws_rows);
      contents = texts;
      counts = λ q p e. within q p e (bytes_eq q org) refl;
      workspaces = λ a w v e. sound.workspaces a w v (sym (workspace_carried t left same_rows a w) ∙ e);
    }

-- ---- the organization

module _ (org : List ℕ) (is_forced : Bool) (t : Tables) where
  -- it isn't there
  pub departs_absent : cap_of org t ≡ None → IsSound t → Departs Absent is_forced org t t
  departs_absent none sound = record {
    sound = sound;
    own = subst (λ (r : Option Organization). effect Absent r ≡ org_removed is_forced r) (sym (record_missing t org none)) refl;
    others = λ q apart. refl;
    keyed = λ key_of keyed. keyed;
  }

  module _ (sound : IsSound t) (names : List (List ℕ)) (list : List NamedToken) (are : AreAllOf org names list t) (cap : ℕ) (found : cap_of org t ≡ Some cap) where
    abbrev source : Organization
    source = organization_at t org cap

    here : record_of t org ≡ Some source
    here = record_there t org cap found

    names_are : names ≡ map (λ (e : List ℕ × Workspace). e.0) (entries (workspaces_at t org))
    names_are = are.0 sound.wss_apart ∙ workspace_names t org

    entries_are : map (token_entry t org) list ≡ entries (tokens_at t org)
    entries_are = ap (map (token_entry t org)) (are.1 sound.tokens_apart) ∙ token_entries t org

    -- ---- what is in use

    used_is : (ws : List ℕ) (w : Workspace) → workspace_by t org ws ≡ Some w → IsLawful w → is_used_in org ws t ≡ is_in_use w
    used_is ws w is lawful = by_row (workspace_of org ws t) refl is
      where
        by_row : (r : Option WorkspaceCells) → workspace_of org ws t ≡ r → option_map (workspace_at t org ws) r ≡ Some w → is_used_in org ws t ≡ is_in_use w
        by_row None f e = absurd (let no_one : ⊥ = cc in no_one)
        by_row (Some c) f e =
            let same : workspace_at t org ws c ≡ w = same_Some (workspace_at t org ws c) w e in
            ap (λ (r : Option WorkspaceCells). is_used_by r (open_runs_of org ws t)) f
            ∙ ap (λ (n : ℕ). is_locked c.holder || nat_lt 0 n) (open_runs_found t org ws (subst (λ (v : Workspace). open_runs v.runs ≤ 100) (sym same) lawful.runs.open_runs))
            ∙ ap is_in_use same

    any_used : (es : List (List ℕ × Workspace)) → AllByRecursion (λ (e : List ℕ × Workspace). (workspace_by t org e.0 ≡ Some e.1) × IsSoundWorkspace e.0 e.1) es
        → list_any (λ ws. is_used_in org ws t) (map (λ (e : List ℕ × Workspace). e.0) es) ≡ list_any (λ (e : List ℕ × Workspace). is_in_use e.1) es
    any_used [] all = refl
    any_used (e ∷ es) all = (λ i. used_is e.0 e.1 all.0.0 all.0.1.lawful i || any_used es all.1 i)

    kept_is : is_kept_back org is_forced names t ≡ (not is_forced && has_use source)
    kept_is = ap (λ (ns : List (List ℕ)). not is_forced && list_any (λ ws. is_used_in org ws t) ns) names_are ∙ ap (λ (b : Bool). not is_forced && b) (any_used (entries (workspaces_at t org)) (workspaces_are t org sound cap found))

    ruled : (b : Bool) → b ≡ is_kept_back org is_forced names t → org_removed is_forced (record_of t org) ≡ cond b (effect InUse (Some source)) (effect Done None)
    ruled b is = ap (org_removed is_forced) here ∙ ap (λ (c : Bool). cond c (effect InUse (Some source)) (effect Done None)) (sym (is ∙ kept_is))

    -- it is in use
    pub departs_kept : true ≡ is_kept_back org is_forced names t → Departs InUse is_forced org t t
    departs_kept is = record { sound = sound; own = ap (effect InUse) here ∙ sym (ruled true is); others = λ q apart. refl; keyed = λ key_of keyed. keyed }

    -- ---- it goes

    emptied : HasNoWorkspaces org t source (workspaces_gone org (map (λ (e : List ℕ × Workspace). e.0) (entries (workspaces_at t org))) t)
    emptied = workspaces_go org t (entries (workspaces_at t org)) (entries_sorted (workspaces_at t org))
        (all_weaker (λ (e : List ℕ × Workspace). (workspace_by t org e.0 ≡ Some e.1) × IsSoundWorkspace e.0 e.1) (λ (e : List ℕ × Workspace). IsTrue (is_ws_name e.0)) (λ e is. is.1.named) (entries (workspaces_at t org)) (workspaces_are t org sound cap found))
        source (get-entries (workspaces_at t org)) t (record { sound = sound; own = here; others = λ q apart. refl })

    bare : HasNothing org t (tokens_gone org list (workspaces_gone org (map (λ (e : List ℕ × Workspace). e.0) (entries (workspaces_at t org))) t))
    bare = tokens_go org t t list (subst (λ (es : List (List ℕ × Token)). T (is_sorted name_cmp es)) (sym entries_are) (entries_sorted (tokens_at t org))) emptied.left emptied.none
        (λ q. ap (λ (m : FinMap name_cmp Token). get m q) emptied.tokens ∙ get-entries (tokens_at t org) q ∙ sym (ap (find_entry name_cmp q) entries_are))
        (workspaces_gone org (map (λ (e : List ℕ × Workspace). e.0) (entries (workspaces_at t org))) t) emptied.leads

    gone : Departs Done is_forced org t (all_gone_of org (map (λ (e : List ℕ × Workspace). e.0) (entries (workspaces_at t org))) list t) → Departs Done is_forced org t (all_gone_of org names list t)
    gone = subst (λ (ns : List (List ℕ)). Departs Done is_forced org t (all_gone_of org ns list t)) (sym names_are)

    pub departs_done : false ≡ is_kept_back org is_forced names t → Departs Done is_forced org t (all_gone_of org names list t)
    departs_done is =
        let before : Tables = tokens_gone org list (workspaces_gone org (map (λ (e : List ℕ × Workspace). e.0) (entries (workspaces_at t org))) t) in
        gone (record {
          sound = row_keeps org before bare.leads.sound bare.left bare.leads.own bare.none bare.no_token;
          own = ap (effect Done) (row_own org before) ∙ sym (ruled false is);
          others = λ q apart. row_other org before q apart ∙ bare.leads.others q apart;
          keyed = λ key_of. organization_keyed key_of org (map (λ (e : List ℕ × Workspace). e.0) (entries (workspaces_at t org))) list t;
        })
