-- Sound tables stay sound.
use Rattle.tables.proofs.Outside.{◌≡◌, ℕ, ◌≤◌, Bool, true, false, List, [], ◌∷◌, ◌++◌, find, length, is_some, Option, Some, None, IfSome, IsTrue, option_map, refl, sym, ap, subst, ◌∙◌, arith, same_Some, bytes_eq, AllByRecursion, list_any, get, empty, len-entries, len-empty, next_key, all_weaker, all-append, none_from_any, any_is_found, is_some-map, is_org_name, is_ws_name, is_prefix, Role, Bounds, equal_bytes, IsMoment, name_cmp, IsLawful, IsLawfulIfThere, seen_in, count_of, placed, changed_by, IsDue, new_organization, Change, Workspace, Organization, apart_from, Kept, id_of, OrgRow, TokenRow, BoundRow, SCHEMA_VERSION, Tables, no_rows, is_org, is_token, is_digest_of, is_bound, org_row_added, token_added, cap_of, role_of_name, role_of_digest, apart_pushed, carried_sound, no_rows_sound}
use Rattle.tables.specs.Records.{workspace_by, tokens_at, organization_at, record_of}
use Rattle.tables.specs.Sound.{StoresVersion, IsOrgRow, IsTokenRow, IsBoundRow, IsGapless, IsSoundWorkspace, IsSound, AreAccountsIn}
use Rattle.tables.specs.Inner.Edits.{changed_rows, TakesEdit}
use Rattle.tables.proofs.TextRows.{AreTexts, texts_carried, KeepsWorkspaces, workspace_carried, workspaces_carried}
use Rattle.tables.proofs.KeptTexts.{changed_texts}
use Rattle.tables.proofs.Names.{is_pair, pair_is, pair_first, pair_second, turned_apart}
use Rattle.tables.proofs.Reporting.{reported_changed}
use Rattle.tables.proofs.Parts.{none_mapped}
use Rattle.tables.proofs.Sets.{Puts, workspace_there, put_own, put_other}
use Rattle.tables.proofs.Edits.{changed_puts}
use Rattle.tables.proofs.Changes.{lawful_after, gapless_after}
use Rattle.tables.proofs.Lawful.{limit_there, limit_is}
use Rattle.tables.proofs.Counting.{count_within}
use Rattle.tables.proofs.Belonging.{any_pushed, pair_turned, apart_more, of_orgs_more, of_other_orgs, both_more}
use Rattle.tables.proofs.Owned.{AreOwned, accounts_in, owned_in, changed_are_owned}
use Rattle.tables.proofs.Managed.{org_own, org_other, none_bound}

if_there : (P : Workspace → Type 0) (o : Option Workspace) (w : Workspace) → IfSome o P → o ≡ Some w → P w
if_there P None w h e = absurd (let none : ⊥ = cc in none)
if_there P (Some v) w h e = subst P (same_Some v w e) h

pub org_there : (t : Tables) (org : List ℕ) (cap : ℕ) → cap_of org t ≡ Some cap → list_any (is_org org) t.orgs ≡ true
org_there t org cap e = any_is_found (is_org org) t.orgs ∙ sym (is_some-map (λ (x : Kept OrgRow). x.1.cap) (find (is_org org) t.orgs)) ∙ ap is_some e

-- ---- a change of a workspace

-- a lawful workspace that is put in its place, or goes from it, leaves sound tables sound, where what they say of texts and of owners holds
module _ (org ws : List ℕ) (after : Option Workspace) (t u : Tables) (sound : IsSound t) (named : IsTrue (is_ws_name ws)) (lawful : IsLawfulIfThere after) (gapless : IfSome after IsGapless) (o : Organization) (there : record_of t org ≡ Some o)
    (few : count_of (placed o ws after) ≤ 100_000) (reported : StoresVersion SCHEMA_VERSION u) (texts : AreTexts u) (owned : AreOwned u) (puts : Puts org ws after t u) where
  accounts : AreAccountsIn SCHEMA_VERSION u.orgs u.tokens u.bounds
  accounts =
      subst (λ os. AreAccountsIn SCHEMA_VERSION os u.tokens u.bounds) (sym puts.orgs) (subst (λ ts. AreAccountsIn SCHEMA_VERSION t.orgs ts u.bounds) (sym puts.tokens) (subst (AreAccountsIn SCHEMA_VERSION t.orgs t.tokens) (sym puts.bounds) sound.accounts))

  put_is : (a b : List ℕ) (w : Workspace) → workspace_by u a b ≡ Some w → is_pair org ws a b ≡ true → after ≡ Some w
  put_is a b w e same = sym puts.own ∙ subst (λ (x : List ℕ). workspace_by u x ws ≡ Some w) (pair_first org ws a b same) (subst (λ (y : List ℕ). workspace_by u a y ≡ Some w) (pair_second org ws a b same) e)

  named_there : (a b : List ℕ) (w : Workspace) → workspace_by u a b ≡ Some w → (c : Bool) → is_pair org ws a b ≡ c → IsSoundWorkspace b w
  named_there a b w e true same = record {
    named = subst (λ (n : List ℕ). IsTrue (is_ws_name n)) (sym (pair_second org ws a b same)) named;
    lawful = if_there IsLawful after w lawful (put_is a b w e same);
    gapless = if_there IsGapless after w gapless (put_is a b w e same);
  }
  named_there a b w e false other = sound.workspaces a b w (sym (puts.others a b other) ∙ e)

  put_within : (q : List ℕ) (p : Organization) → record_of u q ≡ Some p → (c : Bool) → bytes_eq q org ≡ c → count_of p ≤ 100_000
  put_within q p e true same =
      let here : record_of u org ≡ Some p = subst (λ (x : List ℕ). record_of u x ≡ Some p) (equal_bytes q org same) e in
      subst (λ (r : Organization). count_of r ≤ 100_000) (same_Some (placed o ws after) p (sym (put_own org ws after t u puts o there) ∙ here)) few
  put_within q p e false other = sound.counts q p (sym (put_other org ws after t u puts q (apart_from q org other)) ∙ e)

  pub placed_keeps : IsSound u
  placed_keeps = record {
    reported = reported;
    accounts = accounts;
    owned = owned;
    contents = texts;
    counts = λ q p e. put_within q p e (bytes_eq q org) refl;
    workspaces = λ a b w e. named_there a b w e (is_pair org ws a b) refl;
  }

-- a due change of a workspace of sound tables leaves them sound
pub changed_keeps : (keys : ℕ → List ℕ) (org ws : List ℕ) (t : Tables) → IsSound t → (change : Change) → TakesEdit keys org ws change.edit t → (o : Organization) → IsTrue (is_ws_name ws) → record_of t org ≡ Some o
    → IsDue (seen_in o ws) change → IsSound (changed_rows keys org ws change t)
changed_keeps keys org ws t sound change takes o named there due =
    let lawful : IsLawfulIfThere (changed_by change (workspace_by t org ws)) = lawful_after org ws t sound change o there due in
    let counted : count_of (placed o ws (changed_by change (get o.workspaces ws))) ≤ 100_000 = count_within o ws change due 100_000 (limit_is t sound org o there) (sound.counts org o there) in
    placed_keeps org ws (changed_by change (workspace_by t org ws)) t (changed_rows keys org ws change t) sound named lawful (gapless_after org ws t sound change o there due) o there
    (subst (λ (w : Option Workspace). count_of (placed o ws (changed_by change w)) ≤ 100_000) (workspace_there t org ws o there) counted) (reported_changed keys org ws t sound change takes)
    (changed_texts keys org ws t sound change takes) (changed_are_owned org ws keys t sound (org_there t org o.limit (limit_there t org o there)) change takes) (changed_puts keys org ws t sound change takes lawful)

-- ---- an operator's command

no_row : (t : Tables) (org : List ℕ) → cap_of org t ≡ None → AllByRecursion (λ x. is_org org x ≡ false) t.orgs
no_row t org e = none_from_any (is_org org) t.orgs (any_is_found (is_org org) t.orgs ∙ ap is_some (none_mapped (λ (x : Kept OrgRow). x.1.cap) (find (is_org org) t.orgs) e))

-- an organization more leaves sound tables sound
pub org_added_keeps : (org : List ℕ) (limit : ℕ) (t : Tables) → IsSound t → IsTrue (is_org_name org) → limit ≤ 100_000 → cap_of org t ≡ None → IsSound (org_row_added org limit t)
org_added_keeps org limit t sound named most none = record {
  reported = sound.reported;
  accounts = accounts_in t (t.orgs ++ new ∷ []) sound
      (apart_pushed (λ a b. is_org a.1.name b) t.orgs new sound.orgs_apart (all_weaker (λ x. is_org org x ≡ false) (λ x. is_org x.1.name new ≡ false) (λ x e. turned_apart x.1.name org e) t.orgs (no_row t org none)))
      (all-append IsOrgRow t.orgs (new ∷ []) sound.org_rows (record { named = named; limit = most }, tt)) (of_other_orgs t.tokens t.orgs (t.orgs ++ new ∷ []) still sound.tokens_owned);
  owned = owned_in t (t.orgs ++ new ∷ []) sound (of_other_orgs t.wss t.orgs (t.orgs ++ new ∷ []) still sound.wss_owned);
  contents = texts;
  counts = λ q o e. within q o e (bytes_eq q org) refl;
  workspaces = λ a w v e. sound.workspaces a w v (sym (workspace_carried t (org_row_added org limit t) (record { wss = refl; versions = refl; runs = refl; pages = refl; vpages = refl; kept = λ o w. refl }) a w) ∙ e);
}
  where
    new : Kept OrgRow
    new = (next_key id_of t.orgs, record { name = org; cap = limit })

    still : (q : List ℕ) → list_any (is_org q) t.orgs ≡ true → list_any (is_org q) (t.orgs ++ new ∷ []) ≡ true
    still q = any_pushed (is_org q) t.orgs new

    texts : AreTexts (org_row_added org limit t)
    texts = texts_carried t (org_row_added org limit t) refl refl refl sound.contents

    none_yet : count_of (new_organization limit) ≡ 0
    none_yet = sym (len-entries (empty {X = Workspace} {R = name_cmp})) ∙ len-empty name_cmp Workspace

    within : (q : List ℕ) (o : Organization) → record_of (org_row_added org limit t) q ≡ Some o → (c : Bool) → bytes_eq q org ≡ c → count_of o ≤ 100_000
    within q o e true same =
        let here : record_of (org_row_added org limit t) org ≡ Some o = subst (λ (x : List ℕ). record_of (org_row_added org limit t) x ≡ Some o) (equal_bytes q org same) e in
        subst (λ (r : Organization). count_of r ≤ 100_000) (same_Some (new_organization limit) o (sym (org_own t sound org limit none) ∙ here)) (subst (λ (n : ℕ). n ≤ 100_000) (sym none_yet) (omega arith))
    within q o e false other = sound.counts q o (sym (org_other t sound org limit q (apart_from q org other)) ∙ e)

-- a token more leaves sound tables sound
pub token_added_keeps : (org name digest : List ℕ) (role : Role) (bounds : Bounds) (t : Tables) → IsSound t → IsTrue (is_org_name name) → length digest ≡ 32 → IfSome bounds.until IsMoment → IsTrue (is_prefix bounds.prefix) → (cap : ℕ) → cap_of org t ≡ Some cap
    → role_of_name org name t ≡ None → role_of_digest org digest t ≡ None → IsSound (token_added org name digest role bounds.until bounds.prefix t)
token_added_keeps org name digest role bounds t sound named long ends begins cap there unnamed unknown = record {
  reported = sound.reported;
  accounts = record {
    orgs_apart = sound.orgs_apart;
    tokens_apart = apart_more t.tokens new (none_from_any (is_token org name) t.tokens (any_is_found (is_token org name) t.tokens ∙ ap is_some no_such)) sound.tokens_apart;
    digests_apart = apart_pushed (λ a b. is_digest_of a.1.org a.1.it.digest b) t.tokens new sound.digests_apart
        (all_weaker (λ x. is_digest_of org digest x ≡ false) (λ x. is_digest_of x.1.org x.1.it.digest new ≡ false) (λ x e. pair_turned org digest x.1.org x.1.it.digest e) t.tokens
        (none_from_any (is_digest_of org digest) t.tokens (any_is_found (is_digest_of org digest) t.tokens ∙ ap is_some (none_mapped (λ (x : Kept TokenRow). x.1.it.role) (find (is_digest_of org digest) t.tokens) unknown))));
    bounds_apart = apart_more t.bounds new_bound (none_from_any (is_bound org name) t.bounds (any_is_found (is_bound org name) t.bounds ∙ ap is_some (none_bound t sound org name no_such))) sound.bounds_apart;
    tokens_bound = both_more t.bounds t.tokens new_bound new (pair_is org name) sound.tokens_bound;
    tokens_owned = of_orgs_more t.tokens t.orgs new (org_there t org cap there) sound.tokens_owned;
    bounds_owned = both_more t.tokens t.bounds new new_bound (pair_is org name) sound.bounds_owned;
    org_rows = sound.org_rows;
    token_rows = all-append IsTokenRow t.tokens (new ∷ []) sound.token_rows (record { named = named; digest = long }, tt);
    bound_rows = all-append IsBoundRow t.bounds (new_bound ∷ []) sound.bound_rows (record { until = ends; prefix = begins }, tt);
  };
  owned = sound.owned;
  contents = texts;
  counts = λ q o e. within q o (cap_of q t) refl e;
  workspaces = λ a w v e. sound.workspaces a w v (sym (workspace_carried t (token_added org name digest role bounds.until bounds.prefix t) same_rows a w) ∙ e);
}
  where
    new : Kept TokenRow
    new = (next_key id_of t.tokens, record { org = org; name = name; it = record { digest = digest; role = role } })

    new_bound : Kept BoundRow
    new_bound = (next_key id_of t.bounds, record { org = org; name = name; it = record { until = bounds.until; prefix = bounds.prefix } })

    no_such : find (is_token org name) t.tokens ≡ None
    no_such = none_mapped (λ (x : Kept TokenRow). x.1.it.role) (find (is_token org name) t.tokens) unnamed

    same_rows : KeepsWorkspaces t (token_added org name digest role bounds.until bounds.prefix t)
    same_rows = record { wss = refl; versions = refl; runs = refl; pages = refl; vpages = refl; kept = λ o w. refl }

    texts : AreTexts (token_added org name digest role bounds.until bounds.prefix t)
    texts = texts_carried t (token_added org name digest role bounds.until bounds.prefix t) refl refl refl sound.contents

    within : (q : List ℕ) (o : Organization) (c : Option ℕ) → cap_of q t ≡ c → option_map (organization_at (token_added org name digest role bounds.until bounds.prefix t) q) c ≡ Some o → count_of o ≤ 100_000
    within q o None f e = absurd (let none : ⊥ = cc in none)
    within q o (Some c) f e =
        subst (λ (r : Organization). count_of r ≤ 100_000) (same_Some (organization_at (token_added org name digest role bounds.until bounds.prefix t) q c) o e)
        (subst (λ ws. count_of (record { limit = c; tokens = tokens_at (token_added org name digest role bounds.until bounds.prefix t) q; workspaces = ws }) ≤ 100_000) (sym (workspaces_carried t (token_added org name digest role bounds.until bounds.prefix t) same_rows q)) (sound.counts q (organization_at t q c) (ap (option_map (organization_at t q)) f)))

-- ---- tables with no row

pub no_record : (editions : List (Kept ℕ)) (org : List ℕ) → record_of (record no_rows { editions = editions }) org ≡ None
no_record editions org = refl

pub no_rows_are_sound : (editions : List (Kept ℕ)) → StoresVersion SCHEMA_VERSION (record no_rows { editions = editions }) → IsSound (record no_rows { editions = editions })
no_rows_are_sound editions reported = record {
  reported = reported;
  accounts = record {
    orgs_apart = tt;
    tokens_apart = tt;
    digests_apart = tt;
    bounds_apart = tt;
    tokens_bound = tt;
    tokens_owned = tt;
    bounds_owned = tt;
    org_rows = tt;
    token_rows = tt;
    bound_rows = tt;
  };
  owned = record {
    wss_apart = tt;
    retentions_apart = tt;
    wss_kept = tt;
    wss_owned = tt;
    retentions_owned = tt;
    versions_owned = tt;
    runs_owned = tt;
  };
  contents = record {
    places = carried_sound no_rows (record no_rows { editions = editions }) refl refl no_rows_sound;
    placed = tt;
    texts = tt;
  };
  counts = λ org o e. absurd (let none : ⊥ = cc in none);
  workspaces = λ org name w e. absurd (let none : ⊥ = cc in none);
}
