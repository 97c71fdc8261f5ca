-- An organization that comes row by row into sound tables: they stay sound, and its record is in the end the one that it came from.
use Rattle.tables.proofs.Outside.{⊤, ◌≡◌, ◌≢◌, ℕ, ◌+◌, ◌≤◌, T, Bool, true, false, cond, List, [], ◌∷◌, map, filter, find, length, is_some, Option, Some, None, option_map, IsTrue, Result, Ok, refl, sym, ap, ap₂, subst, ◌∙◌, arith, same_Some, bytes_eq, AllByRecursion, eq_by_cmp, FinMap, from_entries, entries, entries_sorted, empty, get, insert, get-empty, get-entries, same_map, len, len-entries, len-empty, len-insert, all_weaker, none_from_any, any_is_found, Ghosts, Held, Transaction, is_org_name, Bounds, equal_bytes, IsToken, IsLawfulOrganization, name_cmp, count_of, placed, new_organization, with_token, Token, Workspace, Organization, names_total, names_same, get_own, get_other, not_tied, below_apart, both_first, both_second, apart_from, NamedToken, Tables, is_org, is_token, is_digest_of, org_row_added, cap_of, role_of_name, role_of_digest, AnyRows, EqualsWhere, Writes, Sees, TokensApart, NamesApart, tokens_by_name, digest_token_row, digest_tokens_of, workspaces_by_name, workspace_names_of, found_passes, found_holds, apart_one}
use Rattle.std.specs.FinMap.Entries.{find as find_entry, is_sorted, below_all}
use Rattle.statements.specs.Rows.{Kept, OrgRow, TokenRow, Token as TokenCells}
use Rattle.statements.specs.declared.rows.Workspace.{Workspace as WorkspaceCells}
use Rattle.tables.specs.Records.{token_of_cells, bounds_at, token_at, is_token_of, tokens_at, workspace_at, workspace_by, workspaces_at, organization_at, record_of}
use Rattle.tables.specs.Sound.{IsOrgRow, IsSoundWorkspace, IsSound}
use Rattle.tables.specs.Inner.Imports.{TakesFrom, token_entry, token_come, tokens_come, TokensCome, WorkspacesCome, Brings}
use Rattle.tables.specs.Inner.Standing.{StandsSoFar}
use Rattle.tables.specs.Inner.Copies.{RelatedSteps, Begins}
use Rattle.tables.proofs.Copying.{seen_none}
use Rattle.tables.proofs.Arriving.{takes_by, takes_then, takes_behind}
use Rattle.tables.proofs.Names.{pair_is, pair_first, pair_second, tied}
use Rattle.tables.proofs.Parts.{none_mapped}
use Rattle.tables.proofs.Sets.{got_workspace}
use Rattle.tables.proofs.Ranks.{all_found, entries_shown}
use Rattle.tables.proofs.Managed.{record_there, record_missing, org_own, org_other, token_own, token_other}
use Rattle.tables.proofs.Kept.{org_there, org_added_keeps, token_added_keeps}
use Rattle.tables.proofs.Lawful.{limit_there, limit_is, token_there, sound_is_lawful}
use Rattle.tables.proofs.Listed.{record_entries}
use Rattle.tables.proofs.Standing.{stands_sound, stands_own, stands_others}

-- ---- entries put into a map, one after the other

module _ {X : Type 0} where
  abbrev put_all : FinMap name_cmp X → List (List ℕ × X) → FinMap name_cmp X
  put_all m [] = m
  put_all m (e ∷ es) = put_all (insert m e.0 e.1) es

  abbrev either : Option X → Option X → Option X
  either None other = other
  either (Some x) other = Some x

  -- none of the names behind a name is that one
  pub none_below : (q : List ℕ) (es : List (List ℕ × X)) → T (below_all name_cmp q es) → find_entry name_cmp q es ≡ None
  none_below q [] below = refl
  none_below q (e ∷ es) below =
      let other : eq_by_cmp name_cmp q e.0 ≡ false = not_tied q e.0 (λ same. below_apart q e.0 (both_first _ _ below) (sym same)) in
      ap (λ (b : Bool). cond b (Some e.1) (find_entry name_cmp q es)) other ∙ none_below q es (both_second _ _ below)

  put_found : (es : List (List ℕ × X)) → T (is_sorted name_cmp es) → (m : FinMap name_cmp X) (q : List ℕ) → get (put_all m es) q ≡ either (find_entry name_cmp q es) (get m q)
  put_found [] sorted m q = refl
  put_found (e ∷ es) sorted m q = put_found es (both_second _ _ sorted) (insert m e.0 e.1) q ∙ go (bytes_eq e.0 q) refl
    where
      go : (b : Bool) → bytes_eq e.0 q ≡ b → either (find_entry name_cmp q es) (get (insert m e.0 e.1) q) ≡ either (cond (eq_by_cmp name_cmp q e.0) (Some e.1) (find_entry name_cmp q es)) (get m q)
      go true is =
          let same : e.0 ≡ q = equal_bytes e.0 q is in
          ap (λ (o : Option X). either o (get (insert m e.0 e.1) q)) (subst (λ (n : List ℕ). find_entry name_cmp n es ≡ None) same (none_below e.0 es (both_first _ _ sorted)))
          ∙ subst (λ (n : List ℕ). get (insert m e.0 e.1) n ≡ Some e.1) same (get_own m e.0 e.1)
          ∙ sym (ap (λ (c : Bool). either (cond c (Some e.1) (find_entry name_cmp q es)) (get m q)) (tied q e.0 ∙ is))
      go false is =
          ap (either (find_entry name_cmp q es)) (get_other m e.0 e.1 q (λ same. apart_from e.0 q is (sym same)))
          ∙ sym (ap (λ (c : Bool). either (cond c (Some e.1) (find_entry name_cmp q es)) (get m q)) (tied q e.0 ∙ is))

  nothing_else : (o : Option X) → either o None ≡ o
  nothing_else None = refl
  nothing_else (Some x) = refl

  -- all entries of a map make it again
  pub put_again : (m : FinMap name_cmp X) → put_all empty (entries m) ≡ m
  put_again m = same_map names_total names_same (put_all empty (entries m)) m (λ q. put_found (entries m) (entries_sorted m) empty q ∙ ap (either (find_entry name_cmp q (entries m))) (get-empty name_cmp q) ∙ nothing_else (find_entry name_cmp q (entries m)) ∙ sym (get-entries m q))

-- ---- sound tables on the way

-- Sound tables, in which the organization is this one, and every other one is as in the tables at first.
pub record Leads (org : List ℕ) (first : Tables) (o : Organization) (t : Tables) : Type 0 where
  pub sound : IsSound t
  pub own : record_of t org ≡ Some o
  pub others : (q : List ℕ) → q ≢ org → record_of t q ≡ record_of first q

none_some : {X : Type 0} (o : Option X) (x : X) → o ≡ None → o ≡ Some x → ⊥
none_some o x e f = cc

module _ (org : List ℕ) (first : Tables) where
  -- ---- tokens

  module _ (o : Organization) (t : Tables) (so : Leads org first o t) where
    there : cap_of org t ≡ Some o.limit
    there = limit_there t org o so.own

    same_record : organization_at t org o.limit ≡ o
    same_record = same_Some (organization_at t org o.limit) o (sym (record_there t org o.limit there) ∙ so.own)

    module _ (e : List ℕ × Token) where
      -- no token has the name
      unnamed : get o.tokens e.0 ≡ None → role_of_name org e.0 t ≡ None
      unnamed none = ap (option_map (λ (x : Kept TokenRow). x.1.it.role)) (none_mapped (λ (x : Kept TokenRow). token_at t x.1) (find (is_token org e.0) t.tokens) (sym (token_there t org e.0 o so.own) ∙ none))

      -- a row with a digest is one of its name
      row_named : (x : Kept TokenRow) → find (is_digest_of org e.1.digest) t.tokens ≡ Some x → get o.tokens x.1.name ≡ Some (token_at t x.1)
      row_named x found = token_there t org x.1.name o so.own ∙ ap (option_map (λ (y : Kept TokenRow). token_at t y.1)) (by_name (find (is_token org x.1.name) t.tokens) refl)
        where
          own : x.1.org ≡ org
          own = pair_first org e.1.digest x.1.org x.1.it.digest (found_passes (is_digest_of org e.1.digest) t.tokens x found)

          named : is_token org x.1.name x ≡ true
          named = subst (λ (n : List ℕ). is_token n x.1.name x ≡ true) own (pair_is x.1.org x.1.name)

          by_name : (r : Option (Kept TokenRow)) → find (is_token org x.1.name) t.tokens ≡ r → r ≡ Some x
          by_name None none = absurd (let no_one : ⊥ = cc (sym named ∙ found_holds (λ (y : Kept TokenRow). is_token org x.1.name y ≡ false) (is_digest_of org e.1.digest) t.tokens x (none_from_any (is_token org x.1.name) t.tokens (any_is_found (is_token org x.1.name) t.tokens ∙ ap is_some none)) found) in no_one)
          by_name (Some y) is =
              let passes : is_token org x.1.name y ≡ true = found_passes (is_token org x.1.name) t.tokens y is in
              let mine : y.1.org ≡ org = pair_first org x.1.name y.1.org y.1.name passes in
              let alike : y.1.name ≡ x.1.name = pair_second org x.1.name y.1.org y.1.name passes in
              ap Some (apart_one (λ a b. is_token a.1.org a.1.name b) (is_token org x.1.name) (is_digest_of org e.1.digest) t.tokens y x so.sound.tokens_apart is found
              (subst (λ (n : List ℕ). is_token n y.1.name x ≡ true) (sym mine) (subst (λ (n : List ℕ). is_token org n x ≡ true) (sym alike) named))
              (subst (λ (n : List ℕ). is_token n x.1.name y ≡ true) (sym own) passes))

      -- no token has the digest
      unknown : ((n : List ℕ) (v : Token) → get o.tokens n ≡ Some v → v.digest ≢ e.1.digest) → role_of_digest org e.1.digest t ≡ None
      unknown other = by_row (find (is_digest_of org e.1.digest) t.tokens) refl
        where
          by_row : (r : Option (Kept TokenRow)) → find (is_digest_of org e.1.digest) t.tokens ≡ r → option_map (λ (x : Kept TokenRow). x.1.it.role) r ≡ None
          by_row None found = refl
          by_row (Some x) found = absurd (other x.1.name (token_at t x.1) (row_named x found) (pair_second org e.1.digest x.1.org x.1.it.digest (found_passes (is_digest_of org e.1.digest) t.tokens x found)))

      -- one more
      token_leads : IsToken e.0 e.1 → get o.tokens e.0 ≡ None → ((n : List ℕ) (v : Token) → get o.tokens n ≡ Some v → v.digest ≢ e.1.digest) → Leads org first (with_token o e.0 e.1) (token_come org e t)
      token_leads is none other =
          let reach : Bounds = record { until = e.1.caller.until; prefix = e.1.caller.prefix } in
          record {
            sound = token_added_keeps org e.0 e.1.digest e.1.caller.role reach t so.sound is.named is.digest is.until is.prefix o.limit there (unnamed none) (unknown other);
            own = token_own t so.sound org e.0 e.1.digest e.1.caller.role reach o.limit there (unnamed none) ∙ ap (λ (p : Organization). Some (with_token p e.0 e.1)) same_record;
            others = λ q apart. token_other t so.sound org e.0 e.1.digest e.1.caller.role reach q apart ∙ so.others q apart;
          }

  module _ (all : FinMap name_cmp Token) (lawful : (n : List ℕ) (v : Token) → get all n ≡ Some v → IsToken n v)
      (apart : (n m : List ℕ) (v w : Token) → get all n ≡ Some v → get all m ≡ Some w → v.digest ≡ w.digest → n ≡ m) where
    -- one that was put in is one of all
    among : (tokens : FinMap name_cmp Token) (e : List ℕ × Token) → get all e.0 ≡ Some e.1 → ((n : List ℕ) (v : Token) → get tokens n ≡ Some v → get all n ≡ Some v)
        → (n : List ℕ) (v : Token) → get (insert tokens e.0 e.1) n ≡ Some v → get all n ≡ Some v
    among tokens e is some n v put = go (bytes_eq n e.0) refl
      where
        go : (b : Bool) → bytes_eq n e.0 ≡ b → get all n ≡ Some v
        go true same = subst (λ (m : List ℕ). get all m ≡ Some v) (sym (equal_bytes n e.0 same)) (is ∙ sym (get_own tokens e.0 e.1) ∙ subst (λ (m : List ℕ). get (insert tokens e.0 e.1) m ≡ Some v) (equal_bytes n e.0 same) put)
        go false other = some n v (sym (get_other tokens e.0 e.1 n (apart_from n e.0 other)) ∙ put)

    -- those behind a name are still to come
    still_absent : (tokens : FinMap name_cmp Token) (e : List ℕ × Token) (es : List (List ℕ × Token)) → T (below_all name_cmp e.0 es) → AllByRecursion (λ (d : List ℕ × Token). get tokens d.0 ≡ None) es
        → AllByRecursion (λ (d : List ℕ × Token). get (insert tokens e.0 e.1) d.0 ≡ None) es
    still_absent tokens e [] below absent = tt
    still_absent tokens e (d ∷ es) below absent =
        (get_other tokens e.0 e.1 d.0 (below_apart e.0 d.0 (both_first _ _ below)) ∙ absent.0, still_absent tokens e es (both_second _ _ below) absent.1)

    tokens_lead : (es : List (List ℕ × Token)) → T (is_sorted name_cmp es) → AllByRecursion (λ (e : List ℕ × Token). get all e.0 ≡ Some e.1) es → (o : Organization) → ((n : List ℕ) (v : Token) → get o.tokens n ≡ Some v → get all n ≡ Some v)
        → AllByRecursion (λ (e : List ℕ × Token). get o.tokens e.0 ≡ None) es → (t : Tables) → Leads org first o t → Leads org first (record o { tokens = put_all o.tokens es }) (tokens_come org es t)
    tokens_lead [] sorted are o some absent t so = so
    tokens_lead (e ∷ es) sorted are o some absent t so =
        let next : Leads org first (with_token o e.0 e.1) (token_come org e t) = token_leads o t so e (lawful e.0 e.1 are.0) absent.0 (λ n v is same. none_some (get o.tokens e.0) v absent.0 (subst (λ (m : List ℕ). get o.tokens m ≡ Some v) (apart n e.0 v e.1 (some n v is) are.0 same) is)) in
        tokens_lead es (both_second _ _ sorted) are.1 (with_token o e.0 e.1) (among o.tokens e are.0 some) (still_absent o.tokens e es (both_first _ _ sorted) absent.1) (token_come org e t) next

  -- ---- workspaces

  -- one more makes the count no greater than by one
  count_more : (o : Organization) (name : List ℕ) (w : Workspace) (most n : ℕ) → count_of o + (n + 1) ≤ most → count_of (placed o name (Some w)) + n ≤ most
  count_more o name w most n few =
      let is : count_of (placed o name (Some w)) ≡ cond (is_some (get o.workspaces name)) (len o.workspaces) (len o.workspaces + 1) = sym (len-entries (insert o.workspaces name w)) ∙ len-insert names_total o.workspaces name w in
      let was : count_of o ≡ len o.workspaces = sym (len-entries o.workspaces) in
      subst (λ (m : ℕ). m + n ≤ most) (sym is) (go (is_some (get o.workspaces name)) was)
    where
      go : (b : Bool) → count_of o ≡ len o.workspaces → cond b (len o.workspaces) (len o.workspaces + 1) + n ≤ most
      go true was = omega (arith, few, was)
      go false was = omega (arith, few, was)

  workspace_leads : (o : Organization) (t u : Tables) (name : List ℕ) (w : Workspace) → Leads org first o t → IsSoundWorkspace name w → count_of (placed o name (Some w)) ≤ 100_000 → Begins org name w t u → Leads org first (placed o name (Some w)) u
  workspace_leads o t u name w so is few begins =
      let stands : StandsSoFar org name w t u = begins so.sound (org_there t org o.limit (there o t so)) in
      record {
        sound = stands_sound org name w t u so.sound is.named is.lawful is.gapless o so.own few stands;
        own = stands_own org name w t u is.lawful stands o so.own;
        others = λ q apart. stands_others org name w t u is.lawful stands q apart ∙ so.others q apart;
      }

  workspaces_lead : (f : Tables) (es : List (List ℕ × Workspace)) → AllByRecursion (λ (e : List ℕ × Workspace). (workspace_by f org e.0 ≡ Some e.1) × IsSoundWorkspace e.0 e.1) es → (o : Organization) → count_of o + length es ≤ 100_000
      → (t u : Tables) → Leads org first o t → WorkspacesCome org (map (λ (e : List ℕ × Workspace). e.0) es) f t u → Leads org first (record o { workspaces = put_all o.workspaces es }) u
  workspaces_lead f [] are o few t u so come = subst (λ (z : Tables). Leads org first o z) (sym come) so
  workspaces_lead f (e ∷ es) are o few t u so come =
      let fewer : count_of (placed o e.0 (Some e.1)) + length es ≤ 100_000 = count_more o e.0 e.1 100_000 (length es) (omega (arith, few)) in
      let next : Leads org first (placed o e.0 (Some e.1)) come.0 = workspace_leads o t come.0 e.0 e.1 so are.0.1 (omega (arith, fewer)) (come.1 e.1 are.0.0) in
      workspaces_lead f es are.1 (placed o e.0 (Some e.1)) fewer come.0 u next come.2

-- ---- what was read

module _ (f : Tables) (org : List ℕ) where
  abbrev of_row : List ℕ × TokenCells → List ℕ × Token
  of_row e = (e.0, token_of_cells (bounds_at f org e.0) e.1)

  abbrev own_rows : List (Kept TokenRow)
  own_rows = filter (is_token_of org) f.tokens

  abbrev by_itself : Kept TokenRow → List ℕ × Token
  by_itself x = (x.1.name, token_at f x.1)

  abbrev by_name : Kept TokenRow → List ℕ × Token
  by_name x = (x.1.name, token_of_cells (bounds_at f org x.1.name) x.1.it)

  same_tokens : (xs : List (Kept TokenRow)) → map by_itself (filter (is_token_of org) xs) ≡ map by_name (filter (is_token_of org) xs)
  same_tokens [] = refl
  same_tokens (x ∷ xs) = go (is_token_of org x) refl (same_tokens xs)
    where
      go : (b : Bool) → is_token_of org x ≡ b → map by_itself (filter (is_token_of org) xs) ≡ map by_name (filter (is_token_of org) xs)
          → map by_itself (cond b (x ∷ filter (is_token_of org) xs) (filter (is_token_of org) xs)) ≡ map by_name (cond b (x ∷ filter (is_token_of org) xs) (filter (is_token_of org) xs))
      go true e more = ap₂ (λ (a : List ℕ) (rest : List (List ℕ × Token)). (x.1.name, token_of_cells (bounds_at f a x.1.name) x.1.it) ∷ rest) (equal_bytes x.1.org org e) more
      go false e more = more

  -- the entries of the record's tokens, by the list of rows
  pub token_entries : map (token_entry f org) (digest_tokens_of org f) ≡ entries (tokens_at f org)
  token_entries =
      mapped (entries (tokens_by_name org f))
      ∙ sym (entries_shown (λ (n : List ℕ) (cells : TokenCells). token_of_cells (bounds_at f org n) cells) (λ (x : Kept TokenRow). x.1.name) (λ (x : Kept TokenRow). x.1.it) own_rows)
      ∙ sym (ap (λ (ps : List (List ℕ × Token)). entries (from_entries {R = name_cmp} ps)) (same_tokens f.tokens))
    where
      mapped : (es : List (List ℕ × TokenCells)) → map (token_entry f org) (map digest_token_row es) ≡ map of_row es
      mapped [] = refl
      mapped (e ∷ es) = ap (λ rest. of_row e ∷ rest) (mapped es)

  -- and the names of its workspaces
  pub workspace_names : workspace_names_of org f ≡ map (λ (e : List ℕ × Workspace). e.0) (entries (workspaces_at f org))
  workspace_names = mapped (entries (workspaces_by_name org f)) ∙ sym (ap (map (λ (e : List ℕ × Workspace). e.0)) (record_entries f org))
    where
      mapped : (es : List (List ℕ × WorkspaceCells)) → map (λ (e : List ℕ × WorkspaceCells). e.0) es ≡ map (λ (e : List ℕ × Workspace). e.0) (map (λ (e : List ℕ × WorkspaceCells). (e.0, workspace_at f org e.0 e.1)) es)
      mapped [] = refl
      mapped (e ∷ es) = ap (λ rest. e.0 ∷ rest) (mapped es)

  module _ (sound : IsSound f) (cap : ℕ) (found : cap_of org f ≡ Some cap) where
    abbrev source : Organization
    source = organization_at f org cap

    here : record_of f org ≡ Some source
    here = record_there f org cap found

    lawful : IsLawfulOrganization source
    lawful = sound_is_lawful f sound org source here

    named : IsTrue (is_org_name org)
    named = by_row (find (is_org org) f.orgs) refl found
      where
        by_row : (r : Option (Kept OrgRow)) → find (is_org org) f.orgs ≡ r → option_map (λ (x : Kept OrgRow). x.1.cap) r ≡ Some cap → IsTrue (is_org_name org)
        by_row None e is = absurd (let no_one : ⊥ = cc in no_one)
        by_row (Some x) e is = subst (λ (n : List ℕ). IsTrue (is_org_name n)) (equal_bytes x.1.name org (found_passes (is_org org) f.orgs x e)) (found_holds IsOrgRow (is_org org) f.orgs x sound.org_rows e).named

    tokens_are : AllByRecursion (λ (e : List ℕ × Token). get (tokens_at f org) e.0 ≡ Some e.1) (entries (tokens_at f org))
    tokens_are = all_weaker (λ (e : List ℕ × Token). find_entry name_cmp e.0 (entries (tokens_at f org)) ≡ Some e.1) (λ (e : List ℕ × Token). get (tokens_at f org) e.0 ≡ Some e.1) (λ e is. get-entries (tokens_at f org) e.0 ∙ is)
        (entries (tokens_at f org)) (all_found (entries (tokens_at f org)) (entries_sorted (tokens_at f org)))

    pub workspaces_are : AllByRecursion (λ (e : List ℕ × Workspace). (workspace_by f org e.0 ≡ Some e.1) × IsSoundWorkspace e.0 e.1) (entries (workspaces_at f org))
    workspaces_are = all_weaker (λ (e : List ℕ × Workspace). find_entry name_cmp e.0 (entries (workspaces_at f org)) ≡ Some e.1) (λ (e : List ℕ × Workspace). (workspace_by f org e.0 ≡ Some e.1) × IsSoundWorkspace e.0 e.1)
        (λ e is. let got : get (workspaces_at f org) e.0 ≡ Some e.1 = get-entries (workspaces_at f org) e.0 ∙ is in let here : workspace_by f org e.0 ≡ Some e.1 = sym (got_workspace f org e.0) ∙ got in (here, sound.workspaces org e.0 e.1 here))
        (entries (workspaces_at f org)) (all_found (entries (workspaces_at f org)) (entries_sorted (workspaces_at f org)))

    none_yet : (es : List (List ℕ × Token)) → AllByRecursion (λ (e : List ℕ × Token). get (empty {X = Token} {R = name_cmp}) e.0 ≡ None) es
    none_yet [] = tt
    none_yet (e ∷ es) = (get-empty name_cmp e.0, none_yet es)

    module _ (t : Tables) (sound_too : IsSound t) (none : cap_of org t ≡ None) where
      abbrev begun : Tables
      begun = org_row_added org cap t

      row_leads : Leads org t (new_organization cap) begun
      row_leads = record {
        sound = org_added_keeps org cap t sound_too named (limit_is f sound org source here) none;
        own = org_own t sound_too org cap none;
        others = org_other t sound_too org cap;
      }

      all_tokens_lead : Leads org t (record (new_organization cap) { tokens = tokens_at f org }) (tokens_come org (entries (tokens_at f org)) begun)
      all_tokens_lead = subst (λ (m : FinMap name_cmp Token). Leads org t (record (new_organization cap) { tokens = m }) (tokens_come org (entries (tokens_at f org)) begun)) (put_again (tokens_at f org))
          (tokens_lead org t (tokens_at f org) lawful.tokens lawful.digests (entries (tokens_at f org)) (entries_sorted (tokens_at f org)) tokens_are (new_organization cap)
          (λ n v is. absurd (none_some (get (empty {X = Token} {R = name_cmp}) n) v (get-empty name_cmp n) is)) (none_yet (entries (tokens_at f org))) begun row_leads)

      -- the count of no workspace, and that of all
      all_fit : count_of (record (new_organization cap) { tokens = tokens_at f org }) + length (entries (workspaces_at f org)) ≤ 100_000
      all_fit =
          let zero_of : count_of (record (new_organization cap) { tokens = tokens_at f org }) ≡ 0 = sym (len-entries (empty {X = Workspace} {R = name_cmp})) ∙ len-empty name_cmp Workspace in
          let most : length (entries (workspaces_at f org)) ≤ 100_000 = sound.counts org source here in
          omega (arith, zero_of, most)

      all_lead : (u : Tables) → WorkspacesCome org (map (λ (e : List ℕ × Workspace). e.0) (entries (workspaces_at f org))) f (tokens_come org (entries (tokens_at f org)) begun) u → Leads org t source u
      all_lead u come = subst (λ (m : FinMap name_cmp Workspace). Leads org t (record { limit = cap; tokens = tokens_at f org; workspaces = m }) u) (put_again (workspaces_at f org))
          (workspaces_lead org t f (entries (workspaces_at f org)) workspaces_are (record (new_organization cap) { tokens = tokens_at f org }) all_fit (tokens_come org (entries (tokens_at f org)) begun) u all_tokens_lead come)

-- its row, then its tokens, then its workspaces
pub is_brought : (org : List ℕ) (cap : ℕ) (list : List NamedToken) (names : List (List ℕ)) (f t m u : Tables) → IsSound f → list ≡ digest_tokens_of org f → names ≡ workspace_names_of org f → TokensCome org list f (org_row_added org cap t) m
    → WorkspacesCome org names f m u → Brings org cap f t u
is_brought org cap list names f t m u sound tokens workspaces first last found sound_too none = record {
  sound = leads.sound;
  own = (ap is_some (record_there f org cap found), record_missing t org none, leads.own ∙ sym (record_there f org cap found));
  others = leads.others;
}
  where
    tokens_came : m ≡ tokens_come org (entries (tokens_at f org)) (org_row_added org cap t)
    tokens_came = first ∙ ap (λ (es : List (List ℕ × Token)). tokens_come org es (org_row_added org cap t)) (ap (map (token_entry f org)) tokens ∙ token_entries f org)

    workspaces_came : WorkspacesCome org (map (λ (e : List ℕ × Workspace). e.0) (entries (workspaces_at f org))) f (tokens_come org (entries (tokens_at f org)) (org_row_added org cap t)) u
    workspaces_came = subst (λ (z : Tables). WorkspacesCome org (map (λ (e : List ℕ × Workspace). e.0) (entries (workspaces_at f org))) f z u) tokens_came (subst (λ (ns : List (List ℕ)). WorkspacesCome org ns f m u) (workspaces ∙ workspace_names f org) last)

    leads : Leads org t (organization_at f org cap) u
    leads = all_lead f org sound cap found t sound_too none u workspaces_came

-- ---- the steps that bring it

module _ {S T : Type 0} (g : Ghosts S) (h : Ghosts T) (org : List ℕ) (cap : ℕ) (list : List NamedToken) (names : List (List ℕ)) where
  abbrev RowComes : Tables → Tables → Tables → Type 0
  RowComes f t u = u ≡ org_row_added org cap t

  abbrev RowAndTokensCome : Tables → Tables → Tables → Type 0
  RowAndTokensCome f t u = TokensCome org list f (org_row_added org cap t) u

  abbrev AllCome : Tables → Tables → Tables → Type 0
  AllCome f t u = (m : Tables) × RowAndTokensCome f t m × WorkspacesCome org names f m u

  abbrev AreListed : List (List ℕ) → Tables → Type 0
  AreListed ns f = EqualsWhere TokensApart (digest_tokens_of org) list f × EqualsWhere NamesApart (workspace_names_of org) ns f

  -- behind the lists of its tokens and of the names of its workspaces
  pub organization_taken : {X Y Z B C D E F : Type 0} (a b c d : Transaction S) (p q r s : Held T) (x : X) (y : Y) (result : Result Z F)
      → Sees {E = B} h AreListed p q (Ok names) → Writes {E = C} g AnyRows (org_row_added org cap) a b (Ok x)
      → Sees {E = D} h (λ _ _. ⊤) q r (Ok y) → RelatedSteps {E = E} g (TakesFrom h (TokensCome org list) q r) b c (Ok y)
      → Sees h (λ _ _. ⊤) r s result → RelatedSteps g (TakesFrom h (WorkspacesCome org names) r s) c d result → RelatedSteps g (TakesFrom h (Brings org cap) p s) a d result
  organization_taken {C = C} {D = D} {E = E} a b c d p q r s x y result reported added looked tokens unchanged workspaces =
      let row : RelatedSteps {E = C} g (TakesFrom h RowComes q q) a b (Ok x) = takes_by g h (org_row_added org cap) RowComes a b q q (Ok x) (λ clean f holds t. refl) added in
      let some : RelatedSteps {E = E} g (TakesFrom h RowAndTokensCome q r) a c (Ok y) = takes_then g h (λ _ _. ⊤) RowComes (TokensCome org list) RowAndTokensCome a b c q q r y x (Ok y)
      (λ f t u z one last. subst (λ (m : Tables). TokensCome org list f m z) one last) (seen_none h {E = D} q y) looked.so_far row tokens in
      let all : RelatedSteps g (TakesFrom h AllCome q s) a d result = takes_then g h (λ _ _. ⊤) RowAndTokensCome (WorkspacesCome org names) AllCome a c d q r s y y result (λ f t u z one last. (u, one, last)) looked unchanged.so_far some workspaces in
      takes_behind g h AreListed AllCome (Brings org cap) a d p q s names result
      (λ f t u sound lists come. is_brought org cap list names f t come.0 u sound (lists.0 sound.tokens_apart) (lists.1 sound.wss_apart) come.1 come.2) reported (λ clean. looked.so_far (unchanged.so_far clean)) all
