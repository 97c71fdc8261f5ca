-- Sound tables denote lawful records.
use Rattle.tables.proofs.Outside.{◌≡◌, ℕ, ◌≤◌, true, List, find, length, Option, Some, None, IfSome, option_map, IsTrue, refl, sym, ap, subst, ◌∙◌, bytes_eq, get, and_from, same_Some, unwrap_or, is_org_name, is_prefix, Bounds, IsMoment, Token, Organization, Kept, OrgRow, TokenRow, BoundRow, Tables, is_org, is_token, is_digest_of, is_bound, cap_of, bound_in, found_passes, found_holds, apart_one}
use Rattle.tables.specs.Records.{no_bounds, bounds_at, token_at, organization_at, record_of}
use Rattle.tables.specs.Sound.{IsOrgRow, IsTokenRow, IsBoundRow, IsSound}
use Rattle.tables.specs.Laws.{SoundTablesAreLawful}
use Rattle.tables.proofs.Names.{name_is, pair_first, pair_second}
use Rattle.tables.proofs.Sets.{got_token, workspace_there}

-- the limit of a record is in the organization's row
pub limit_there : (t : Tables) (org : List ℕ) (o : Organization) → record_of t org ≡ Some o → cap_of org t ≡ Some o.limit
limit_there t org o e = by_limit (cap_of org t) e
  where
    by_limit : (cap : Option ℕ) → option_map (organization_at t org) cap ≡ Some o → cap ≡ Some o.limit
    by_limit None e = absurd (let none : ⊥ = cc in none)
    by_limit (Some cap) e = ap (λ (p : Organization). Some p.limit) (same_Some (organization_at t org cap) o e)

pub limit_is : (t : Tables) → IsSound t → (org : List ℕ) (o : Organization) → record_of t org ≡ Some o → o.limit ≤ 100_000
limit_is t sound org o e = by_row (find (is_org org) t.orgs) refl (limit_there t org o e)
  where
    by_row : (row : Option (Kept OrgRow)) → find (is_org org) t.orgs ≡ row → option_map (λ (x : Kept OrgRow). x.1.cap) row ≡ Some o.limit → o.limit ≤ 100_000
    by_row None f e = absurd (let none : ⊥ = cc in none)
    by_row (Some x) f e =
        let same : x.1.cap ≡ o.limit = cc in
        subst (λ (n : ℕ). n ≤ 100_000) same (found_holds IsOrgRow (is_org org) t.orgs x sound.org_rows f).limit

pub token_there : (t : Tables) (org name : List ℕ) (o : Organization) → record_of t org ≡ Some o → get o.tokens name ≡ option_map (λ (x : Kept TokenRow). token_at t x.1) (find (is_token org name) t.tokens)
token_there t org name o e = by_limit (cap_of org t) e
  where
    by_limit : (cap : Option ℕ) → option_map (organization_at t org) cap ≡ Some o → get o.tokens name ≡ option_map (λ (x : Kept TokenRow). token_at t x.1) (find (is_token org name) t.tokens)
    by_limit None e = absurd (let none : ⊥ = cc in none)
    by_limit (Some cap) e = subst (λ (p : Organization). get p.tokens name ≡ option_map (λ (x : Kept TokenRow). token_at t x.1) (find (is_token org name) t.tokens)) (same_Some (organization_at t org cap) o e) (got_token t org name)

-- a token of a record has a row
record Found (t : Tables) (org name : List ℕ) (token : Token) : Type 0 where
  row : Kept TokenRow
  found : find (is_token org name) t.tokens ≡ Some row
  is : token_at t row.1 ≡ token

found_token : (t : Tables) (org name : List ℕ) (token : Token) → option_map (λ (x : Kept TokenRow). token_at t x.1) (find (is_token org name) t.tokens) ≡ Some token → Found t org name token
found_token t org name token e = by_row (find (is_token org name) t.tokens) refl e
  where
    by_row : (row : Option (Kept TokenRow)) → find (is_token org name) t.tokens ≡ row → option_map (λ (x : Kept TokenRow). token_at t x.1) row ≡ Some token → Found t org name token
    by_row None f e = absurd (let none : ⊥ = cc in none)
    by_row (Some x) f e = record { row = x; found = f; is = cc }

-- how far a token reaches is in range, also where no row tells it
record InRange (b : Bounds) : Type 0 where
  until : IfSome b.until IsMoment
  prefix : IsTrue (is_prefix b.prefix)

reach_in_range : (t : Tables) → IsSound t → (org name : List ℕ) → InRange (bounds_at t org name)
reach_in_range t sound org name = by_row (find (is_bound org name) t.bounds) refl
  where
    by_row : (o : Option (Kept BoundRow)) → find (is_bound org name) t.bounds ≡ o → InRange (unwrap_or (option_map bound_in o) no_bounds)
    by_row None e = record { until = tt; prefix = refl }
    by_row (Some x) e = let is = found_holds IsBoundRow (is_bound org name) t.bounds x sound.bound_rows e in record { until = is.until; prefix = is.prefix }

pub sound_is_lawful : SoundTablesAreLawful
sound_is_lawful t sound org o e = record {
  limit = limit_is t sound org o e;
  tokens = λ name token f.
      let x = found_token t org name token (sym (token_there t org name o e) ∙ f) in
      let is = found_holds IsTokenRow (is_token org name) t.tokens x.row sound.token_rows x.found in
      record {
        named = subst (λ (n : List ℕ). IsTrue (is_org_name n)) (pair_second org name x.row.1.org x.row.1.name (found_passes (is_token org name) t.tokens x.row x.found)) is.named;
        digest = ap (λ (u : Token). length u.digest) (sym x.is) ∙ is.digest;
        until = subst (λ (u : Token). IfSome u.caller.until IsMoment) x.is (reach_in_range t sound x.row.1.org x.row.1.name).until;
        prefix = subst (λ (u : Token). IsTrue (is_prefix u.caller.prefix)) x.is (reach_in_range t sound x.row.1.org x.row.1.name).prefix;
      };
  digests = λ name other token_a token_b f g same.
      let x = found_token t org name token_a (sym (token_there t org name o e) ∙ f) in
      let y = found_token t org other token_b (sym (token_there t org other o e) ∙ g) in
      let p = found_passes (is_token org name) t.tokens x.row x.found in
      let q = found_passes (is_token org other) t.tokens y.row y.found in
      let orgs : y.row.1.org ≡ x.row.1.org = pair_first org other y.row.1.org y.row.1.name q ∙ sym (pair_first org name x.row.1.org x.row.1.name p) in
      let digests : y.row.1.it.digest ≡ x.row.1.it.digest = ap (λ (u : Token). u.digest) y.is ∙ sym same ∙ sym (ap (λ (u : Token). u.digest) x.is) in
      let rows : x.row ≡ y.row = apart_one (λ a b. is_digest_of a.1.org a.1.it.digest b) (is_token org name) (is_token org other) t.tokens x.row y.row sound.digests_apart x.found y.found
      (and_from _ _ (subst (λ (n : List ℕ). bytes_eq n x.row.1.org ≡ true) (sym orgs) (name_is x.row.1.org)) (subst (λ (n : List ℕ). bytes_eq n x.row.1.it.digest ≡ true) (sym digests) (name_is x.row.1.it.digest)))
      (and_from _ _ (subst (λ (n : List ℕ). bytes_eq x.row.1.org n ≡ true) (sym orgs) (name_is x.row.1.org)) (subst (λ (n : List ℕ). bytes_eq x.row.1.it.digest n ≡ true) (sym digests) (name_is x.row.1.it.digest))) in
      sym (pair_second org name x.row.1.org x.row.1.name p) ∙ ap (λ (r : Kept TokenRow). r.1.name) rows ∙ pair_second org other y.row.1.org y.row.1.name q;
  workspaces = λ name w f.
      let is = sound.workspaces org name w (sym (workspace_there t org name o e) ∙ f) in
      record { named = is.named; lawful = is.lawful };
}
