-- What is judged of rows of workspaces is what is said of records, where each workspace has one row.
use Rattle.std.proofs.Common.{◌≡◌, ℕ, ◌≤◌, Bool, true, false, cond, List, [], ◌∷◌, find, length, Option, Some, None, is_some, option_map, refl, sym, ap, ◌∙◌, subst, arith, true≢false}
use Rattle.checks.proofs.Outside.{same_Some, AllByRecursion, list_any, bytes_eq, AreApart, all_weaker, all_both, filter_none, any_is_found, MAX_LIMIT, equal_bytes, Kept, OrgRow, WsRow, Tables, is_org, is_ws, is_ws_of, found_passes, found_holds, workspace_at, workspace_by, workspaces_at, organization_at, record_of, IsSoundWorkspace}
use Rattle.std.specs.FinMap.{entries, len-entries}
use Rattle.machine.specs.Records.{count_of}
use Rattle.machine.specs.declared.records.Workspace.{Workspace}
use Rattle.machine.specs.declared.records.Organization.{Organization}
use Rattle.statements.specs.Finds.{cap_of}
use Rattle.tables.proofs.Names.{pair_first, pair_second, pair_is, pair_apart}
use Rattle.tables.proofs.Finding.{entries_counted}
use Rattle.checks.specs.Inner.Workspaces.{AreLawfulWss}
use Rattle.checks.specs.Workspaces.{count_in}
use Rattle.checks.specs.Inner.Counts.{AreFew}

module _ (t : Tables) where
  abbrev AreSingle : Type 0
  AreSingle = AreApart (λ a b. is_ws a.1.org a.1.name b) t.wss

  -- ---- each workspace by its name

  abbrev AreNamed : Type 0
  AreNamed = (org name : List ℕ) (w : Workspace) → workspace_by t org name ≡ Some w → IsSoundWorkspace name w

  -- what rows denote is lawful by each name
  pub named_by_rows : AreLawfulWss t → AreNamed
  named_by_rows all org name w = go (find (is_ws org name) t.wss) refl
    where
      go : (o : Option (Kept WsRow)) → find (is_ws org name) t.wss ≡ o → option_map (workspace_at t org name) (option_map (λ x. x.1.it) o) ≡ Some w → IsSoundWorkspace name w
      go None e is = absurd (let none : ⊥ = cc is in none)
      go (Some x) e is =
          let passes : is_ws org name x ≡ true = found_passes (is_ws org name) t.wss x e in
          let lawful : IsSoundWorkspace x.1.name (workspace_at t x.1.org x.1.name x.1.it) =
          found_holds (λ (y : Kept WsRow). IsSoundWorkspace y.1.name (workspace_at t y.1.org y.1.name y.1.it)) (is_ws org name) t.wss x all e in
          subst (IsSoundWorkspace name) (same_Some (workspace_at t org name x.1.it) w is)
          (subst (λ o. IsSoundWorkspace name (workspace_at t o name x.1.it)) (pair_first org name x.1.org x.1.name passes)
          (subst (λ n. IsSoundWorkspace n (workspace_at t x.1.org n x.1.it)) (pair_second org name x.1.org x.1.name passes) lawful))

  apart_back : (x z : Kept WsRow) → is_ws x.1.org x.1.name z ≡ false → is_ws z.1.org z.1.name x ≡ false
  apart_back x z apart = pair_apart x.1.org x.1.name z.1.org z.1.name x.1.org x.1.name apart (pair_is x.1.org x.1.name)

  -- each row is the one that is found by its name
  found_itself : (xs : List (Kept WsRow)) → AreApart (λ a b. is_ws a.1.org a.1.name b) xs → AllByRecursion (λ x. find (is_ws x.1.org x.1.name) xs ≡ Some x) xs
  found_itself [] apart = tt
  found_itself (x ∷ xs) apart = (
    ap (λ b. cond b (Some x) (find (is_ws x.1.org x.1.name) xs)) (pair_is x.1.org x.1.name),
    all_both (λ z. is_ws x.1.org x.1.name z ≡ false) (λ z. find (is_ws z.1.org z.1.name) xs ≡ Some z) (λ z. find (is_ws z.1.org z.1.name) (x ∷ xs) ≡ Some z)
        (λ z apart found. ap (λ b. cond b (Some x) (find (is_ws z.1.org z.1.name) xs)) (apart_back x z apart) ∙ found) xs apart.0 (found_itself xs apart.1),
  )

  pub rows_by_name : AreSingle → AreNamed → AreLawfulWss t
  rows_by_name apart named =
      all_weaker (λ x. find (is_ws x.1.org x.1.name) t.wss ≡ Some x) (λ x. IsSoundWorkspace x.1.name (workspace_at t x.1.org x.1.name x.1.it))
      (λ x e. named x.1.org x.1.name (workspace_at t x.1.org x.1.name x.1.it) (ap (λ o. option_map (workspace_at t x.1.org x.1.name) (option_map (λ (y : Kept WsRow). y.1.it) o)) e)) t.wss (found_itself t.wss apart)

  -- ---- how many each organization has

  abbrev AreCounted : Type 0
  AreCounted = (org : List ℕ) (o : Organization) → record_of t org ≡ Some o → count_of o ≤ MAX_LIMIT

  counted : AreSingle → (org : List ℕ) → length (entries (workspaces_at t org)) ≡ count_in t.wss org
  counted apart org = sym (len-entries (workspaces_at t org)) ∙ entries_counted org (λ (x : Kept WsRow). workspace_at t org x.1.name x.1.it) t.wss apart

  pub counts_by_rows : AreSingle → AreFew t.wss → AreCounted
  counts_by_rows apart few org o = go (cap_of org t)
    where
      go : (cap : Option ℕ) → option_map (organization_at t org) cap ≡ Some o → count_of o ≤ MAX_LIMIT
      go None is = absurd (let none : ⊥ = cc is in none)
      go (Some cap) is = subst (λ p. count_of p ≤ MAX_LIMIT) (same_Some (organization_at t org cap) o is) (subst (λ n. n ≤ MAX_LIMIT) (sym (counted apart org)) (few org))

  pub rows_by_counts : AreSingle → AllByRecursion (λ x. list_any (is_org x.1.org) t.orgs ≡ true) t.wss → AreCounted → AreFew t.wss
  rows_by_counts apart owned counts org = go (find (is_org org) t.orgs) refl
    where
      lacks : (x : Kept WsRow) → find (is_org org) t.orgs ≡ None → list_any (is_org x.1.org) t.orgs ≡ true → is_ws_of org x ≡ false
      lacks x none owner = by_test (bytes_eq x.1.org org) refl
        where
          by_test : (b : Bool) → bytes_eq x.1.org org ≡ b → bytes_eq x.1.org org ≡ false
          by_test false e = e
          by_test true e =
              absurd (true≢false (sym owner ∙ any_is_found (is_org x.1.org) t.orgs ∙ ap (λ o. is_some (find (is_org o) t.orgs)) (equal_bytes x.1.org org e) ∙ ap is_some none))

      go : (o : Option (Kept OrgRow)) → find (is_org org) t.orgs ≡ o → count_in t.wss org ≤ MAX_LIMIT
      go None e =
          let empty : count_in t.wss org ≡ 0 = ap length (filter_none (is_ws_of org) t.wss (all_weaker (λ (x : Kept WsRow). list_any (is_org x.1.org) t.orgs ≡ true) (λ x. is_ws_of org x ≡ false) (λ x. lacks x e) t.wss owned)) in
          few_of (count_in t.wss org) empty
        where
          few_of : (n : ℕ) → n ≡ 0 → n ≤ MAX_LIMIT
          few_of n none = omega (arith, none)
      go (Some x) e = subst (λ n. n ≤ MAX_LIMIT) (counted apart org) (counts org (organization_at t org x.1.cap) (ap (λ o. option_map (organization_at t org) (option_map (λ (y : Kept OrgRow). y.1.cap) o)) e))
