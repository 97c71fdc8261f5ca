-- An organization without one of its tokens.
use Rattle.tables.proofs.Outside.{◌≡◌, ◌≢◌, ℕ, ◌≤◌, Bool, true, false, not, cond, List, find, is_some, Option, Some, None, option_map, refl, sym, ap, subst, ◌∙◌, same_Some, bytes_eq, list_any, get, remove, same_map, all-filter, apart_delete, Role, equal_bytes, effect, count_of, without_token, token_revoked, Done, Absent, Organization, names_total, names_same, removed_own, removed_other, apart_from, Kept, TokenRow, Tables, is_org, is_token, is_digest_of, is_bound, token_removed, cap_of, role_of_name, bound_in, found_passes, find_deleted, find_left, found_holds}
use Rattle.tables.specs.Records.{token_at, tokens_at, organization_at, record_of}
use Rattle.tables.specs.Sound.{IsTokenRow, IsBoundRow, IsSound}
use Rattle.tables.proofs.Belonging.{apart_gone, of_orgs_gone, both_left}
use Rattle.tables.proofs.TextRows.{AreTexts, texts_carried, KeepsWorkspaces, workspace_carried, workspaces_carried}
use Rattle.tables.proofs.Names.{pair_first, pair_apart}
use Rattle.tables.proofs.TokenRows.{ChangesToken, other_token, other_tokens}
use Rattle.tables.proofs.Sets.{got_token, other_ws}
use Rattle.tables.proofs.Finding.{none_there}
use Rattle.tables.proofs.Managed.{record_there, record_missing, named_in_rows}

module _ (org name : List ℕ) (t : Tables) where
  abbrev left : Tables
  left = token_removed org name t

  same_rows : KeepsWorkspaces t left
  same_rows = record { wss = refl; versions = refl; runs = refl; pages = refl; vpages = refl; kept = λ o w. refl }

  pub revoke_changes : ChangesToken org name t left
  revoke_changes = record {
    rows = λ a q other. find_left (is_token a q) (is_token org name) (λ x e. pair_apart org name a q x.1.org x.1.name other e) t.tokens;
    bounds = λ a q other. ap (option_map bound_in) (find_left (is_bound a q) (is_bound org name) (λ x e. pair_apart org name a q x.1.org x.1.name other e) t.bounds);
  }

  got_removed : get (tokens_at left org) name ≡ None
  got_removed = got_token left org name ∙ ap (option_map (λ (x : Kept TokenRow). token_at left x.1)) (find_deleted (is_token org name) t.tokens)

  tokens_left : tokens_at left org ≡ remove (tokens_at t org) name
  tokens_left = same_map names_total names_same _ _ (λ q. by_name q (bytes_eq q name) refl)
    where
      by_name : (q : List ℕ) (b : Bool) → bytes_eq q name ≡ b → get (tokens_at left org) q ≡ get (remove (tokens_at t org) name) q
      by_name q true e = subst (λ (n : List ℕ). get (tokens_at left org) n ≡ get (remove (tokens_at t org) name) n) (sym (equal_bytes q name e)) (got_removed ∙ sym (removed_own (tokens_at t org) name))
      by_name q false e = other_token org name t left revoke_changes org q (other_ws org name q e) ∙ sym (removed_other (tokens_at t org) name q (apart_from q name e))

  -- its record is without the token
  pub revoke_own : (o : Organization) → record_of t org ≡ Some o → record_of left org ≡ Some (without_token o name)
  revoke_own o e = by_limit (cap_of org t) e
    where
      by_limit : (c : Option ℕ) → option_map (organization_at t org) c ≡ Some o → option_map (organization_at left org) c ≡ Some (without_token o name)
      by_limit None f = absurd (let none : ⊥ = cc in none)
      by_limit (Some cap) f = subst (λ (p : Organization). Some (organization_at left org cap) ≡ Some (without_token p name)) (same_Some (organization_at t org cap) o f)
          (λ i. Some (record { limit = cap; tokens = tokens_left i; workspaces = workspaces_carried t left same_rows org i }))

  -- the answer, by whether the organization and the token are there
  revoked_there : (cap : ℕ) (b : Bool) → cap_of org t ≡ Some cap → is_some (role_of_name org name t) ≡ b
      → token_revoked name (record_of t org) ≡ cond b (effect Done (Some (without_token (organization_at t org cap) name))) (effect Absent (Some (organization_at t org cap)))
  revoked_there cap b there is =
      ap (token_revoked name) (record_there t org cap there)
      ∙ ap (λ (x : Bool). cond x (effect Done (Some (without_token (organization_at t org cap) name))) (effect Absent (Some (organization_at t org cap)))) (named_in_rows t org name ∙ is)

  pub revoke_absent : role_of_name org name t ≡ None → effect Absent (record_of t org) ≡ token_revoked name (record_of t org)
  revoke_absent none = by_limit (cap_of org t) refl
    where
      by_limit : (c : Option ℕ) → cap_of org t ≡ c → effect Absent (record_of t org) ≡ token_revoked name (record_of t org)
      by_limit None e = subst (λ (r : Option Organization). effect Absent r ≡ token_revoked name r) (sym (record_missing t org e)) refl
      by_limit (Some cap) e = ap (effect Absent) (record_there t org cap e) ∙ sym (revoked_there cap false e (ap is_some none))

  -- a token belongs to an organization that is there
  no_token : IsSound t → cap_of org t ≡ None → (role : Role) → role_of_name org name t ≡ Some role → ⊥
  no_token sound e role f = by_row (find (is_token org name) t.tokens) refl f
    where
      by_row : (o : Option (Kept TokenRow)) → find (is_token org name) t.tokens ≡ o → option_map (λ (x : Kept TokenRow). x.1.it.role) o ≡ Some role → ⊥
      by_row None g f = let none : ⊥ = cc in none
      by_row (Some x) g f =
          let own : x.1.org ≡ org = pair_first org name x.1.org x.1.name (found_passes (is_token org name) t.tokens x g) in
          let owned : list_any (is_org x.1.org) t.orgs ≡ true = found_holds (λ (y : Kept TokenRow). list_any (is_org y.1.org) t.orgs ≡ true) (is_token org name) t.tokens x sound.tokens_owned g in
          let there : list_any (is_org org) t.orgs ≡ true = subst (λ (n : List ℕ). list_any (is_org n) t.orgs ≡ true) own owned in
          let no_one : ⊥ = cc (sym there ∙ none_there t sound org e) in no_one

  pub revoke_done : IsSound t → (role : Role) → role_of_name org name t ≡ Some role → effect Done (record_of left org) ≡ token_revoked name (record_of t org)
  revoke_done sound role f = by_limit (cap_of org t) refl
    where
      by_limit : (c : Option ℕ) → cap_of org t ≡ c → effect Done (record_of left org) ≡ token_revoked name (record_of t org)
      by_limit None e = absurd (no_token sound e role f)
      by_limit (Some cap) e =
          ap (λ (c : Option ℕ). effect Done (option_map (organization_at left org) c)) e
          ∙ (λ i. effect Done (Some (record { limit = cap; tokens = tokens_left i; workspaces = workspaces_carried t left same_rows org i })))
          ∙ sym (revoked_there cap true e (ap is_some f))

  pub revoke_other : (q : List ℕ) → q ≢ org → record_of left q ≡ record_of t q
  revoke_other q apart = by_limit (cap_of q t)
    where
      by_limit : (c : Option ℕ) → option_map (organization_at left q) c ≡ option_map (organization_at t q) c
      by_limit None = refl
      by_limit (Some c) = λ i. Some (record { limit = c; tokens = other_tokens org name t left revoke_changes q apart i; workspaces = workspaces_carried t left same_rows q i })

  -- it leaves sound tables sound
  pub revoke_keeps : IsSound t → IsSound left
  revoke_keeps sound = record {
    reported = sound.reported;
    accounts = record {
      orgs_apart = sound.orgs_apart;
      tokens_apart = apart_gone t.tokens (is_token org name) sound.tokens_apart;
      digests_apart = apart_delete (λ a b. is_digest_of a.1.org a.1.it.digest b) (is_token org name) t.tokens sound.digests_apart;
      bounds_apart = apart_gone t.bounds (is_bound org name) sound.bounds_apart;
      tokens_bound = both_left t.bounds t.tokens org name sound.tokens_bound;
      tokens_owned = of_orgs_gone t.tokens t.orgs (is_token org name) sound.tokens_owned;
      bounds_owned = both_left t.tokens t.bounds org name sound.bounds_owned;
      org_rows = sound.org_rows;
      token_rows = all-filter IsTokenRow (λ x. not (is_token org name x)) t.tokens sound.token_rows;
      bound_rows = all-filter IsBoundRow (λ x. not (is_bound org name x)) t.bounds sound.bound_rows;
    };
    owned = sound.owned;
    contents = texts;
    counts = λ q o e. within q o (cap_of q t) refl e;
    workspaces = λ o w v e. sound.workspaces o w v (sym (workspace_carried t left same_rows o w) ∙ e);
  }
    where
      texts : AreTexts left
      texts = texts_carried t left refl refl refl sound.contents

      within : (q : List ℕ) (o : Organization) (c : Option ℕ) → cap_of q t ≡ c → option_map (organization_at left q) c ≡ Some o → count_of o ≤ 100_000
      within q o None f e = absurd (let none : ⊥ = cc in none)
      within q o (Some c) f e =
          subst (λ (r : Organization). count_of r ≤ 100_000) (same_Some (organization_at left q c) o e)
          (subst (λ ws. count_of (record { limit = c; tokens = tokens_at left q; workspaces = ws }) ≤ 100_000) (sym (workspaces_carried t left same_rows q)) (sound.counts q (organization_at t q c) (ap (option_map (organization_at t q)) f)))
