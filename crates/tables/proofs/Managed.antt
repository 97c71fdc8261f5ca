-- The records after an operator's command, and the tokens of an organization by their digests.
use Rattle.tables.proofs.Outside.{◌≡◌, ◌≢◌, ℕ, Bool, true, false, ◌&&◌, ◌||◌, cond, List, [], ◌∷◌, map, filter, find, is_some, Option, Some, None, option_map, refl, sym, ap, ap₂, subst, ◌∙◌, arith, length, unwrap_or, bytes_eq, AllByRecursion, list_any, FinMap, from_entries, entries, get, insert, empty, entries-insert, get-entries, get-from_entries, same_map, len-entries, len-empty, next_key, AreApart, any_is_found, is_some-map, Role, Bounds, equal_bytes, name_cmp, effect, Done, Exists, Absent, Token, Organization, names_total, names_same, get_own, get_other, apart_from, Kept, id_of, OrgRow, TokenRow, BoundRow, WsRow, Tables, is_org, is_token, is_digest_of, is_bound, is_ws_of, cap_of, role_of_digest, role_of_name, named_role, bound_in, found_passes, find_pushed, find_pushed_other, found_holds, none_found}
use Rattle.std.specs.Ordering.{is_eq}
use Rattle.std.specs.declared.cmp.Ordering.{Ordering}
use Rattle.std.specs.declared.cmp.Ordering.TheVariants.{Less, Equal, Greater}
use Rattle.std.specs.FinMap.Entries.{find as find_entry, put, by_order}
use Rattle.machine.specs.Tokens.{token_with, token_row, row_with, asker_of, new_organization, org_added, token_of, with_token, token_added}
use Rattle.machine.specs.declared.keeps.TokenRow.{TokenRow as AnyRow}
use Rattle.statements.specs.Changes as rows
use Rattle.tables.specs.Records.{no_bounds, bounds_at, token_of_cells, token_at, is_token_of, tokens_at, workspace_at, organization_at, record_of}
use Rattle.tables.specs.Inner.Lists.{token_row_in, asker_in}
use Rattle.tables.specs.Sound.{IsSound}
use Rattle.tables.proofs.TextRows.{KeepsWorkspaces, workspaces_carried, organization_carried}
use Rattle.tables.proofs.Names.{name_is, apart_name, pair_first, pair_second, pair_is}
use Rattle.tables.proofs.Parts.{none_mapped}
use Rattle.tables.proofs.Sets.{entry_found, got_token, other_ws}
use Rattle.tables.proofs.TokenRows.{ChangesToken, other_token, other_tokens}
use Rattle.tables.proofs.Finding.{no_orphans, none_there}
use Rattle.tables.proofs.Belonging.{pair_turned}

-- ---- the first entry with a digest, of a map

module _ (digest : List ℕ) where
  abbrev with_it : List (List ℕ × Token) → Option (List ℕ × Token)
  with_it [] = None
  with_it (e ∷ es) = cond (bytes_eq e.1.digest digest) (Some e) (with_it es)

  -- its token, and its row
  its_token : (es : List (List ℕ × Token)) → token_with digest es ≡ option_map (λ (e : List ℕ × Token). e.1) (with_it es)
  its_token [] = refl
  its_token (e ∷ es) = go (bytes_eq e.1.digest digest) (its_token es)
    where
      go : (b : Bool) → token_with digest es ≡ option_map (λ (x : List ℕ × Token). x.1) (with_it es)
          → cond b (Some e.1) (token_with digest es) ≡ option_map (λ (x : List ℕ × Token). x.1) (cond b (Some e) (with_it es))
      go true more = refl
      go false more = more

  its_row : (es : List (List ℕ × Token)) → row_with digest es ≡ option_map (λ (e : List ℕ × Token). token_row e.0 e.1) (with_it es)
  its_row [] = refl
  its_row (e ∷ es) = go (bytes_eq e.1.digest digest) (its_row es)
    where
      go : (b : Bool) → row_with digest es ≡ option_map (λ (x : List ℕ × Token). token_row x.0 x.1) (with_it es)
          → cond b (Some (token_row e.0 e.1)) (row_with digest es) ≡ option_map (λ (x : List ℕ × Token). token_row x.0 x.1) (cond b (Some e) (with_it es))
      go true more = refl
      go false more = more

  put_away : (k : List ℕ) (v : Token) → bytes_eq v.digest digest ≡ false → (es : List (List ℕ × Token)) → find_entry name_cmp k es ≡ None → with_it (put name_cmp k v es) ≡ with_it es
  put_away k v apart [] none = rw apart refl
  put_away k v apart (e ∷ es) none = go (name_cmp k e.0) none (λ rest. put_away k v apart es rest)
    where
      go : (o : Ordering) → cond (is_eq o) (Some e.1) (find_entry name_cmp k es) ≡ None → (find_entry name_cmp k es ≡ None → with_it (put name_cmp k v es) ≡ with_it es)
          → with_it (by_order o ((k, v) ∷ e ∷ es) ((e.0, v) ∷ es) (e ∷ put name_cmp k v es)) ≡ with_it (e ∷ es)
      go Less none more = rw apart refl
      go Equal none more = absurd (let no_one : ⊥ = cc in no_one)
      go Greater none more = ap (cond (bytes_eq e.1.digest digest) (Some e)) (more none)

  put_there : (k : List ℕ) (v : Token) → bytes_eq v.digest digest ≡ true → (es : List (List ℕ × Token)) → find_entry name_cmp k es ≡ None → with_it es ≡ None → with_it (put name_cmp k v es) ≡ Some (k, v)
  put_there k v is [] none other = rw is refl
  put_there k v is (e ∷ es) none other = go (name_cmp k e.0) (bytes_eq e.1.digest digest) refl none other (λ rest last. put_there k v is es rest last)
    where
      go : (o : Ordering) (b : Bool) → bytes_eq e.1.digest digest ≡ b → cond (is_eq o) (Some e.1) (find_entry name_cmp k es) ≡ None → cond b (Some e) (with_it es) ≡ None
          → (find_entry name_cmp k es ≡ None → with_it es ≡ None → with_it (put name_cmp k v es) ≡ Some (k, v))
          → with_it (by_order o ((k, v) ∷ e ∷ es) ((e.0, v) ∷ es) (e ∷ put name_cmp k v es)) ≡ Some (k, v)
      go o true d none other more = absurd (let no_one : ⊥ = cc in no_one)
      go Less false d none other more = rw is refl
      go Equal false d none other more = absurd (let no_one : ⊥ = cc in no_one)
      go Greater false d none other more = rw d (more none other)

  module _ (t : Tables) (org : List ℕ) where
    abbrev entry_at : Kept TokenRow → List ℕ × Token
    entry_at x = (x.1.name, token_at t x.1)

    abbrev made : List (Kept TokenRow) → FinMap name_cmp Token
    made xs = from_entries (map entry_at (filter (is_token_of org) xs))

    digest_found : (xs : List (Kept TokenRow)) → AreApart (λ a b. is_token a.1.org a.1.name b) xs → AreApart (λ a b. is_digest_of a.1.org a.1.it.digest b) xs
        → with_it (entries (made xs)) ≡ option_map entry_at (find (is_digest_of org digest) xs)
    digest_found [] names digests = ap with_it no_entries
      where
        no_length : (es : List (List ℕ × Token)) → 0 ≡ length es → es ≡ []
        no_length [] e = refl
        no_length (x ∷ es) e = absurd (omega arith)

        no_entries : entries (empty {X = Token} {R = name_cmp}) ≡ []
        no_entries = no_length _ (sym (len-empty name_cmp Token) ∙ len-entries (empty {X = Token} {R = name_cmp}))
    digest_found (x ∷ xs) names digests = go (is_token_of org x) (bytes_eq x.1.it.digest digest) refl refl (digest_found xs names.1 digests.1)
      where
        go : (a b : Bool) → is_token_of org x ≡ a → bytes_eq x.1.it.digest digest ≡ b
            → with_it (entries (made xs)) ≡ option_map entry_at (find (is_digest_of org digest) xs)
            → with_it (entries (from_entries {R = name_cmp} (map entry_at (cond a (x ∷ filter (is_token_of org) xs) (filter (is_token_of org) xs)))))
            ≡ option_map entry_at (cond (a && b) (Some x) (find (is_digest_of org digest) xs))
        go false b d e more = more
        go true b d e more = inside b e
          where
            name_free : find_entry name_cmp x.1.name (entries (made xs)) ≡ None
            name_free =
                sym (get-entries (made xs) x.1.name)
                ∙ get-from_entries names_total (map entry_at (filter (is_token_of org) xs)) x.1.name
                ∙ entry_found (is_token_of org) (λ (y : Kept TokenRow). y.1.name) (λ (y : Kept TokenRow). token_at t y.1) x.1.name xs
                ∙ ap (option_map (λ (y : Kept TokenRow). token_at t y.1)) (none_found (is_token org x.1.name) xs (subst (λ (n : List ℕ). AllByRecursion (λ y. is_token n x.1.name y ≡ false) xs) (equal_bytes x.1.org org d) names.0))

            inside : (c : Bool) → bytes_eq x.1.it.digest digest ≡ c → with_it (entries (insert (made xs) x.1.name (token_at t x.1))) ≡ option_map entry_at (cond c (Some x) (find (is_digest_of org digest) xs))
            inside true f =
                let alone : find (is_digest_of org digest) xs ≡ None =
                none_found (is_digest_of org digest) xs (subst (λ (n : List ℕ). AllByRecursion (λ y. is_digest_of org n y ≡ false) xs) (equal_bytes x.1.it.digest digest f) (subst (λ (n : List ℕ). AllByRecursion (λ y. is_digest_of n x.1.it.digest y ≡ false) xs) (equal_bytes x.1.org org d) digests.0)) in
                ap with_it (entries-insert names_total (made xs) x.1.name (token_at t x.1))
                ∙ put_there x.1.name (token_at t x.1) f (entries (made xs)) name_free (more ∙ ap (option_map entry_at) alone)
            inside false f =
                ap with_it (entries-insert names_total (made xs) x.1.name (token_at t x.1))
                ∙ put_away x.1.name (token_at t x.1) f (entries (made xs)) name_free ∙ more

-- ---- callers

module _ (t : Tables) (sound : IsSound t) (org : List ℕ) where
  no_tokens : cap_of org t ≡ None → filter (is_token_of org) t.tokens ≡ []
  no_tokens e = no_orphans (is_token_of org) (λ x. is_org x.1.org) t.orgs
      (λ x f. ap (λ (n : List ℕ). list_any (is_org n) t.orgs) (equal_bytes x.1.org org f) ∙ none_there t sound org e) t.tokens sound.tokens_owned

  pub no_workspaces : cap_of org t ≡ None → filter (is_ws_of org) t.wss ≡ []
  no_workspaces e = no_orphans (is_ws_of org) (λ x. is_org x.1.org) t.orgs
      (λ x f. ap (λ (n : List ℕ). list_any (is_org n) t.orgs) (equal_bytes x.1.org org f) ∙ none_there t sound org e) t.wss sound.wss_owned

  abbrev asker_at : Kept TokenRow → AnyRow
  asker_at x = token_row x.1.name (token_at t x.1)

  asker_is : (digest : List ℕ) → option_map asker_at (find (is_digest_of org digest) t.tokens) ≡ asker_of (record_of t org) digest
  asker_is digest = by_limit (cap_of org t) refl
    where
      none_found_there : (o : Option (Kept TokenRow)) → find (is_digest_of org digest) t.tokens ≡ o → cap_of org t ≡ None → option_map asker_at o ≡ None
      none_found_there None f e = refl
      none_found_there (Some x) f e =
          let own : x.1.org ≡ org = pair_first org digest x.1.org x.1.it.digest (found_passes (is_digest_of org digest) t.tokens x f) in
          let owned : list_any (is_org x.1.org) t.orgs ≡ true = found_holds (λ (y : Kept TokenRow). list_any (is_org y.1.org) t.orgs ≡ true) (is_digest_of org digest) t.tokens x sound.tokens_owned f in
          let there : list_any (is_org org) t.orgs ≡ true = subst (λ (n : List ℕ). list_any (is_org n) t.orgs ≡ true) own owned in
          absurd (let no_one : ⊥ = cc (sym there ∙ none_there t sound org e) in no_one)

      by_entry : (o : Option (Kept TokenRow)) → option_map asker_at o ≡ option_map (λ (e : List ℕ × Token). token_row e.0 e.1) (option_map (entry_at digest t org) o)
      by_entry None = refl
      by_entry (Some x) = refl

      by_limit : (cap : Option ℕ) → cap_of org t ≡ cap → option_map asker_at (find (is_digest_of org digest) t.tokens) ≡ asker_of (option_map (organization_at t org) cap) digest
      by_limit None e = none_found_there (find (is_digest_of org digest) t.tokens) refl e
      by_limit (Some cap) e =
          by_entry (find (is_digest_of org digest) t.tokens)
          ∙ ap (option_map (λ (e : List ℕ × Token). token_row e.0 e.1)) (sym (digest_found digest t org t.tokens sound.tokens_apart sound.digests_apart))
          ∙ sym (its_row digest (entries (tokens_at t org)))

  -- who asks is told by the row with the digest, and by that of how far it reaches
  pub asker_found : (digest : List ℕ) → asker_in org digest t ≡ asker_of (record_of t org) digest
  asker_found digest = mapped (find (is_digest_of org digest) t.tokens) refl ∙ asker_is digest
    where
      mapped : (o : Option (Kept TokenRow)) → find (is_digest_of org digest) t.tokens ≡ o → option_map (token_row_in org t) (option_map named_role o) ≡ option_map asker_at o
      mapped None e = refl
      mapped (Some x) e = ap (λ (a : List ℕ). Some (token_row_in a t (named_role x))) (sym (pair_first org digest x.1.org x.1.it.digest (found_passes (is_digest_of org digest) t.tokens x e)))

-- ---- an organization more

pub record_there : (t : Tables) (org : List ℕ) (cap : ℕ) → cap_of org t ≡ Some cap → record_of t org ≡ Some (organization_at t org cap)
record_there t org cap e = ap (option_map (organization_at t org)) e

pub record_missing : (t : Tables) (org : List ℕ) → cap_of org t ≡ None → record_of t org ≡ None
record_missing t org e = ap (option_map (organization_at t org)) e

module _ (t : Tables) (sound : IsSound t) (org : List ℕ) (limit : ℕ) where
  pub org_exists : (cap : ℕ) → cap_of org t ≡ Some cap → effect Exists (record_of t org) ≡ org_added limit (record_of t org)
  org_exists cap e = subst (λ (r : Option Organization). effect Exists r ≡ org_added limit r) (sym (record_there t org cap e)) refl

  pub org_own : cap_of org t ≡ None → record_of (rows.org_row_added org limit t) org ≡ Some (new_organization limit)
  org_own e =
      ap (λ (o : Option (Kept OrgRow)). option_map (organization_at (rows.org_row_added org limit t) org) (option_map (λ (x : Kept OrgRow). x.1.cap) o))
      (find_pushed (is_org org) t.orgs (next_key id_of t.orgs, record { name = org; cap = limit }) (none_mapped (λ (x : Kept OrgRow). x.1.cap) _ e) (name_is org))
      ∙ organization_carried t (rows.org_row_added org limit t) (record { wss = refl; versions = refl; runs = refl; pages = refl; vpages = refl; kept = λ o w. refl }) refl refl org (Some limit)
      ∙ (λ i. Some (record {
        limit = limit;
        tokens = from_entries {R = name_cmp} (map (λ (x : Kept TokenRow). (x.1.name, token_at t x.1)) (no_tokens t sound org e i));
        workspaces = from_entries {R = name_cmp} (map (λ (x : Kept WsRow). (x.1.name, workspace_at t org x.1.name x.1.it)) (no_workspaces t sound org e i));
      }))

  -- where no organization has the name, the new one is there
  pub org_done : cap_of org t ≡ None → effect Done (record_of (rows.org_row_added org limit t) org) ≡ org_added limit (record_of t org)
  org_done e = ap (effect Done) (org_own e) ∙ sym (ap (org_added limit) (record_missing t org e))

  pub org_other : (q : List ℕ) → q ≢ org → record_of (rows.org_row_added org limit t) q ≡ record_of t q
  org_other q apart =
      ap (λ (o : Option (Kept OrgRow)). option_map (organization_at (rows.org_row_added org limit t) q) (option_map (λ (x : Kept OrgRow). x.1.cap) o))
      (find_pushed_other (is_org q) t.orgs (next_key id_of t.orgs, record { name = org; cap = limit }) (apart_name org q (λ same. apart (sym same))))
      ∙ organization_carried t (rows.org_row_added org limit t) (record { wss = refl; versions = refl; runs = refl; pages = refl; vpages = refl; kept = λ o w. refl }) refl refl q (cap_of q t)

-- ---- a token more

-- no token, no row of how far it reaches
pub none_bound : (t : Tables) → IsSound t → (org name : List ℕ) → find (is_token org name) t.tokens ≡ None → find (is_bound org name) t.bounds ≡ None
none_bound t sound org name none = by_row (find (is_bound org name) t.bounds) refl
  where
    by_row : (o : Option (Kept BoundRow)) → find (is_bound org name) t.bounds ≡ o → o ≡ None
    by_row None e = refl
    by_row (Some x) e =
        let p = found_passes (is_bound org name) t.bounds x e in
        let owned : list_any (is_token x.1.org x.1.name) t.tokens ≡ true = found_holds (λ (y : Kept BoundRow). list_any (is_token y.1.org y.1.name) t.tokens ≡ true) (is_bound org name) t.bounds x sound.bounds_owned e in
        let there : list_any (is_token org name) t.tokens ≡ true =
        subst (λ (a : List ℕ). list_any (is_token a name) t.tokens ≡ true) (pair_first org name x.1.org x.1.name p) (subst (λ (q : List ℕ). list_any (is_token x.1.org q) t.tokens ≡ true) (pair_second org name x.1.org x.1.name p) owned) in
        absurd (let no_one : ⊥ = cc (sym there ∙ any_is_found (is_token org name) t.tokens ∙ ap is_some none) in no_one)

-- a name is one of a token's where it has a row
pub named_in_rows : (t : Tables) (org name : List ℕ) → is_some (get (tokens_at t org) name) ≡ is_some (role_of_name org name t)
named_in_rows t org name = ap is_some (got_token t org name) ∙ is_some-map (λ (x : Kept TokenRow). token_at t x.1) (find (is_token org name) t.tokens) ∙ sym (is_some-map (λ (x : Kept TokenRow). x.1.it.role) (find (is_token org name) t.tokens))

module _ (t : Tables) (sound : IsSound t) (org name digest : List ℕ) (role : Role) (bounds : Bounds) where
  abbrev new_token : Token
  new_token = token_of digest role bounds

  abbrev added : Tables
  added = rows.token_added org name digest role bounds.until bounds.prefix t

  same_rows : KeepsWorkspaces t added
  same_rows = record { wss = refl; versions = refl; runs = refl; pages = refl; vpages = refl; kept = λ o w. refl }

  abbrev new_row : Kept TokenRow
  new_row = (next_key id_of t.tokens, record { org = org; name = name; it = record { digest = digest; role = role } })

  abbrev new_bound : Kept BoundRow
  new_bound = (next_key id_of t.bounds, record { org = org; name = name; it = record { until = bounds.until; prefix = bounds.prefix } })

  changes : ChangesToken org name t added
  changes = record {
    rows = λ a q other. find_pushed_other (is_token a q) t.tokens new_row (pair_turned org name a q other);
    bounds = λ a q other. ap (option_map bound_in) (find_pushed_other (is_bound a q) t.bounds new_bound (pair_turned org name a q other));
  }

  pub token_absent : cap_of org t ≡ None → effect Absent (record_of t org) ≡ token_added name new_token (record_of t org)
  token_absent e = subst (λ (r : Option Organization). effect Absent r ≡ token_added name new_token r) (sym (record_missing t org e)) refl

  module _ (cap : ℕ) (there : cap_of org t ≡ Some cap) where
    abbrev before : Organization
    before = organization_at t org cap

    digest_is : is_some (token_with digest (entries (tokens_at t org))) ≡ is_some (role_of_digest org digest t)
    digest_is =
        ap is_some (its_token digest (entries (tokens_at t org)))
        ∙ is_some-map (λ (e : List ℕ × Token). e.1) (with_it digest (entries (tokens_at t org)))
        ∙ ap is_some (digest_found digest t org t.tokens sound.tokens_apart sound.digests_apart)
        ∙ is_some-map (entry_at digest t org) (find (is_digest_of org digest) t.tokens) ∙ sym (is_some-map (λ (x : Kept TokenRow). x.1.it.role) (find (is_digest_of org digest) t.tokens))

    by_tests : (a b : Bool) → is_some (role_of_name org name t) ≡ a → is_some (role_of_digest org digest t) ≡ b
        → token_added name new_token (record_of t org) ≡ cond (a || b) (effect Exists (Some before)) (effect Done (Some (with_token before name new_token)))
    by_tests a b e f =
        ap (token_added name new_token) (record_there t org cap there)
        ∙ ap₂ (λ (x y : Bool). cond (x || y) (effect Exists (Some before)) (effect Done (Some (with_token before name new_token)))) (named_in_rows t org name ∙ e) (digest_is ∙ f)

    -- the name is taken
    pub token_named : (r : Role) → role_of_name org name t ≡ Some r → effect Exists (record_of t org) ≡ token_added name new_token (record_of t org)
    token_named r e = ap (effect Exists) (record_there t org cap there) ∙ sym (by_tests true (is_some (role_of_digest org digest t)) (ap is_some e) refl)

    -- the digest is that of another token
    pub token_known : (r : Role) → role_of_digest org digest t ≡ Some r → effect Exists (record_of t org) ≡ token_added name new_token (record_of t org)
    token_known r e = ap (effect Exists) (record_there t org cap there) ∙ sym (by_tests (is_some (role_of_name org name t)) true refl (ap is_some e) ∙ either (is_some (role_of_name org name t)))
      where
        either : (a : Bool) → cond (a || true) (effect Exists (Some before)) (effect Done (Some (with_token before name new_token))) ≡ effect Exists (Some before)
        either true = refl
        either false = refl

    module _ (unnamed : role_of_name org name t ≡ None) where
      -- where there is no token of the name, there is no row of how far it reaches
      unbound : find (is_bound org name) t.bounds ≡ None
      unbound = none_bound t sound org name (none_mapped (λ (x : Kept TokenRow). x.1.it.role) _ unnamed)

      reach : bounds_at added org name ≡ record { until = bounds.until; prefix = bounds.prefix }
      reach = ap (λ (o : Option (Kept BoundRow)). unwrap_or (option_map bound_in o) no_bounds) (find_pushed (is_bound org name) t.bounds new_bound unbound (pair_is org name))

      put_tokens : tokens_at added org ≡ insert (tokens_at t org) name new_token
      put_tokens = same_map names_total names_same _ _ (λ q. by_name q (bytes_eq q name) refl)
        where
          by_name : (q : List ℕ) (b : Bool) → bytes_eq q name ≡ b → get (tokens_at added org) q ≡ get (insert (tokens_at t org) name new_token) q
          by_name q true e = subst (λ (n : List ℕ). get (tokens_at added org) n ≡ get (insert (tokens_at t org) name new_token) n) (sym (equal_bytes q name e))
              (got_token added org name
              ∙ ap (option_map (λ (x : Kept TokenRow). token_at added x.1)) (find_pushed (is_token org name) t.tokens new_row (none_mapped (λ (x : Kept TokenRow). x.1.it.role) _ unnamed) (pair_is org name))
              ∙ ap (λ (b : Bounds). Some (token_of_cells b (record { digest = digest; role = role }))) reach
              ∙ sym (get_own (tokens_at t org) name new_token))
          by_name q false e = other_token org name t added changes org q (other_ws org name q e) ∙ sym (get_other (tokens_at t org) name new_token q (apart_from q name e))

      pub token_own : record_of added org ≡ Some (with_token before name new_token)
      token_own = ap (option_map (organization_at added org)) there ∙ (λ i. Some (record { limit = cap; tokens = put_tokens i; workspaces = workspaces_carried t added same_rows org i }))

      -- where neither its name nor its digest is there, the new one is
      pub token_done : role_of_digest org digest t ≡ None → effect Done (record_of added org) ≡ token_added name new_token (record_of t org)
      token_done unknown = ap (effect Done) token_own ∙ sym (by_tests false false (ap is_some unnamed) (ap is_some unknown))

  pub token_other : (q : List ℕ) → q ≢ org → record_of added q ≡ record_of t q
  token_other q apart = by_limit (cap_of q t)
    where
      by_limit : (c : Option ℕ) → option_map (organization_at added q) c ≡ option_map (organization_at t q) c
      by_limit None = refl
      by_limit (Some c) = λ i. Some (record { limit = c; tokens = other_tokens org name t added changes q apart i; workspaces = workspaces_carried t added same_rows q i })
