-- An organization with another limit.
use Rattle.tables.proofs.Outside.{◌≡◌, ◌≢◌, ℕ, ◌≤◌, Bool, true, false, List, find, Option, Some, None, option_map, refl, sym, ap, subst, ◌∙◌, same_Some, bytes_eq, list_any, update_where, apart_update, equal_bytes, effect, count_of, with_limit, org_limited, Done, Absent, Organization, apart_from, Kept, OrgRow, Tables, is_org, org_capped, cap_of, find_changed, find_unchanged, all_updated}
use Rattle.tables.specs.Records.{organization_at, record_of}
use Rattle.tables.specs.Sound.{IsOrgRow, IsSound}
use Rattle.tables.proofs.Belonging.{of_other_orgs}
use Rattle.tables.proofs.Owned.{accounts_in, owned_in}
use Rattle.tables.proofs.TextRows.{AreTexts, texts_carried, KeepsWorkspaces, workspace_carried, organization_carried}
use Rattle.tables.proofs.Names.{apart_name}
use Rattle.tables.proofs.Lists.{any_updated}
use Rattle.tables.proofs.Managed.{record_there, record_missing}

module _ (org : List ℕ) (limit : ℕ) where
  abbrev recapped : Kept OrgRow → Kept OrgRow
  recapped x = (x.0, record x.1 { cap = limit })

  limit_of_row : (o : Option (Kept OrgRow)) (cap : ℕ) → option_map (λ (x : Kept OrgRow). x.1.cap) o ≡ Some cap → option_map (λ (x : Kept OrgRow). x.1.cap) (option_map recapped o) ≡ Some limit
  limit_of_row None cap e = absurd (let none : ⊥ = cc in none)
  limit_of_row (Some x) cap e = refl

  module _ (t : Tables) where
    cap_set : (cap : ℕ) → cap_of org t ≡ Some cap → cap_of org (org_capped org limit t) ≡ Some limit
    cap_set cap there = ap (option_map (λ (x : Kept OrgRow). x.1.cap)) (find_changed (is_org org) recapped (λ x. refl) t.orgs) ∙ limit_of_row (find (is_org org) t.orgs) cap there

    cap_stays : (q : List ℕ) → q ≢ org → cap_of q (org_capped org limit t) ≡ cap_of q t
    cap_stays q apart = ap (option_map (λ (x : Kept OrgRow). x.1.cap))
        (find_unchanged (is_org q) (is_org org) (λ x e. apart_name x.1.name q (λ same. apart (sym same ∙ equal_bytes x.1.name org e))) recapped (λ x. refl) t.orgs)

    same_rows : KeepsWorkspaces t (org_capped org limit t)
    same_rows = record { wss = refl; versions = refl; runs = refl; pages = refl; vpages = refl; kept = λ o w. refl }

    pub limit_absent : cap_of org t ≡ None → effect Absent (record_of t org) ≡ org_limited limit (record_of t org)
    limit_absent e = subst (λ (r : Option Organization). effect Absent r ≡ org_limited limit r) (sym (record_missing t org e)) refl

    pub limit_other : (q : List ℕ) → q ≢ org → record_of (org_capped org limit t) q ≡ record_of t q
    limit_other q apart = ap (option_map (organization_at (org_capped org limit t) q)) (cap_stays q apart) ∙ organization_carried t (org_capped org limit t) same_rows refl refl q (cap_of q t)

    module _ (cap : ℕ) (there : cap_of org t ≡ Some cap) where
      limit_own : record_of (org_capped org limit t) org ≡ Some (with_limit (organization_at t org cap) limit)
      limit_own = ap (option_map (organization_at (org_capped org limit t) org)) (cap_set cap there) ∙ organization_carried t (org_capped org limit t) same_rows refl refl org (Some limit)

      -- what the organization has stays, and its limit is the new one
      pub limit_done : effect Done (record_of (org_capped org limit t) org) ≡ org_limited limit (record_of t org)
      limit_done = ap (effect Done) limit_own ∙ sym (ap (org_limited limit) (record_there t org cap there))

      -- it leaves sound tables sound
      pub limit_keeps : IsSound t → limit ≤ 100_000 → IsSound (org_capped org limit t)
      limit_keeps sound most = record {
        reported = sound.reported;
        accounts = accounts_in t (update_where (is_org org) recapped t.orgs) sound (apart_update (λ a b. is_org a.1.name b) (is_org org) recapped (λ a b. refl) (λ a b. refl) t.orgs sound.orgs_apart)
            (all_updated IsOrgRow (is_org org) recapped (λ x is. record { named = is.named; limit = most }) t.orgs sound.org_rows) (of_other_orgs t.tokens t.orgs (update_where (is_org org) recapped t.orgs) still sound.tokens_owned);
        owned = owned_in t (update_where (is_org org) recapped t.orgs) sound (of_other_orgs t.wss t.orgs (update_where (is_org org) recapped t.orgs) still sound.wss_owned);
        contents = texts;
        counts = λ q o e. within q o e (bytes_eq q org) refl;
        workspaces = λ o w v e. sound.workspaces o w v (sym (workspace_carried t (org_capped org limit t) same_rows o w) ∙ e);
      }
        where
          texts : AreTexts (org_capped org limit t)
          texts = texts_carried t (org_capped org limit t) refl refl refl sound.contents

          still : (q : List ℕ) → list_any (is_org q) t.orgs ≡ true → list_any (is_org q) (update_where (is_org org) recapped t.orgs) ≡ true
          still q there = any_updated (is_org q) (is_org org) recapped (λ x. refl) t.orgs ∙ there

          within : (q : List ℕ) (o : Organization) → record_of (org_capped org limit t) q ≡ Some o → (c : Bool) → bytes_eq q org ≡ c → count_of o ≤ 100_000
          within q o e true same =
              let here : record_of (org_capped org limit t) org ≡ Some o = subst (λ (x : List ℕ). record_of (org_capped org limit t) x ≡ Some o) (equal_bytes q org same) e in
              subst (λ (r : Organization). count_of r ≤ 100_000) (same_Some (with_limit (organization_at t org cap) limit) o (sym limit_own ∙ here)) (sound.counts org (organization_at t org cap) (record_there t org cap there))
          within q o e false other = sound.counts q o (sym (limit_other q (apart_from q org other)) ∙ e)
