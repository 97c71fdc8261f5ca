-- From the rows of a workspace to the record of its organization.
use Rattle.tables.proofs.Outside.{◌≡◌, ◌≢◌, ℕ, Bool, true, false, ◌&&◌, cond, List, [], ◌∷◌, map, filter, find, Option, Some, None, option_map, refl, sym, ap, subst, ◌∙◌, same_Some, bytes_eq, get, same_map, get-from_entries, name_cmp, with_workspace, placed, Version, equal_bytes, Workspace, Organization, names_total, names_same, own_workspace, other_workspace, apart_from, Kept, OrgRow, TokenRow, WsRow, Tables, is_org, is_token, is_ws, is_ws_of, cap_of, found_passes}
use Rattle.std.specs.FinMap.Entries.{find as find_entry}
use Rattle.basis.specs.declared.rows.RunRow.{RunRow as Run}
use Rattle.statements.specs.declared.rows.Workspace.{Workspace as WorkspaceCells}
use Rattle.tables.specs.Records.{workspace_of_cells, workspace_at, workspace_by, is_token_of, token_at, tokens_at, workspaces_at, organization_at, record_of}
use Rattle.tables.proofs.TextRows.{tokens_carried}
use Rattle.tables.proofs.Names.{name_is, apart_name, is_pair, pair_second, tied}

-- ---- what a name gives

module _ {X V : Type 0} (mine : X → Bool) (key : X → List ℕ) (value : X → V) (q : List ℕ) where
  pub entry_found : (xs : List X) → find_entry name_cmp q (map (λ x. (key x, value x)) (filter mine xs)) ≡ option_map value (find (λ x. mine x && bytes_eq (key x) q) xs)
  entry_found [] = refl
  entry_found (x ∷ xs) = go (mine x) (bytes_eq (key x) q) refl (entry_found xs)
    where
      go : (a b : Bool) → bytes_eq (key x) q ≡ b → find_entry name_cmp q (map (λ y. (key y, value y)) (filter mine xs)) ≡ option_map value (find (λ y. mine y && bytes_eq (key y) q) xs)
          → find_entry name_cmp q (map (λ y. (key y, value y)) (cond a (x ∷ filter mine xs) (filter mine xs))) ≡ option_map value (cond (a && b) (Some x) (find (λ y. mine y && bytes_eq (key y) q) xs))
      go true true e more = ap (λ (b : Bool). cond b (Some (value x)) (find_entry name_cmp q (map (λ y. (key y, value y)) (filter mine xs)))) (tied q (key x) ∙ e)
      go true false e more = ap (λ (b : Bool). cond b (Some (value x)) (find_entry name_cmp q (map (λ y. (key y, value y)) (filter mine xs)))) (tied q (key x) ∙ e) ∙ more
      go false b e more = more

module _ (t : Tables) (org name : List ℕ) where
  row_is : (o : Option (Kept WsRow)) → find (is_ws org name) t.wss ≡ o
      → option_map (λ (x : Kept WsRow). workspace_at t org x.1.name x.1.it) o ≡ option_map (workspace_at t org name) (option_map (λ (x : Kept WsRow). x.1.it) o)
  row_is None e = refl
  row_is (Some x) e = ap (λ (n : List ℕ). Some (workspace_at t org n x.1.it)) (pair_second org name x.1.org x.1.name (found_passes (is_ws org name) t.wss x e))

  pub got_workspace : get (workspaces_at t org) name ≡ workspace_by t org name
  got_workspace =
      get-from_entries names_total (map (λ (x : Kept WsRow). (x.1.name, workspace_at t org x.1.name x.1.it)) (filter (is_ws_of org) t.wss)) name
      ∙ entry_found (is_ws_of org) (λ (x : Kept WsRow). x.1.name) (λ (x : Kept WsRow). workspace_at t org x.1.name x.1.it) name t.wss
      ∙ row_is (find (is_ws org name) t.wss) refl

  pub got_token : get (tokens_at t org) name ≡ option_map (λ (x : Kept TokenRow). token_at t x.1) (find (is_token org name) t.tokens)
  got_token =
      get-from_entries names_total (map (λ (x : Kept TokenRow). (x.1.name, token_at t x.1)) (filter (is_token_of org) t.tokens)) name
      ∙ entry_found (is_token_of org) (λ (x : Kept TokenRow). x.1.name) (λ (x : Kept TokenRow). token_at t x.1) name t.tokens

-- the workspaces of a record are those that have rows
pub workspace_there : (t : Tables) (org name : List ℕ) (o : Organization) → record_of t org ≡ Some o → get o.workspaces name ≡ workspace_by t org name
workspace_there t org name o e = by_limit (cap_of org t) e
  where
    by_limit : (cap : Option ℕ) → option_map (organization_at t org) cap ≡ Some o → get o.workspaces name ≡ workspace_by t org name
    by_limit None e = absurd (let none : ⊥ = cc in none)
    by_limit (Some cap) e = subst (λ (p : Organization). get p.workspaces name ≡ workspace_by t org name) (same_Some (organization_at t org cap) o e) (got_workspace t org name)

-- ---- a workspace from its parts

abbrev by_parts : Option WorkspaceCells → ℕ → List Version → List Run → Option Workspace
by_parts row retention versions runs = option_map (λ (w : WorkspaceCells). workspace_of_cells retention w versions runs) row

pub same_parts : (row other : Option WorkspaceCells) (k l : ℕ) (vs us : List Version) (rs ss : List Run) → row ≡ other → k ≡ l → vs ≡ us → rs ≡ ss → by_parts row k vs rs ≡ by_parts other l us ss
same_parts row other k l vs us rs ss e h f g = λ i. by_parts (e i) (h i) (f i) (g i)

-- ---- one workspace is put in place

-- The workspace of this name is that one now, or is none, and all else is as before.
pub record Puts (org ws : List ℕ) (w : Option Workspace) (t u : Tables) : Type 0 where
  pub orgs : u.orgs ≡ t.orgs
  pub tokens : u.tokens ≡ t.tokens
  pub bounds : u.bounds ≡ t.bounds
  pub own : workspace_by u org ws ≡ w
  pub others : (a b : List ℕ) → is_pair org ws a b ≡ false → workspace_by u a b ≡ workspace_by t a b

pub other_org : (org ws a b : List ℕ) → a ≢ org → is_pair org ws a b ≡ false
other_org org ws a b apart = ap (λ (x : Bool). x && bytes_eq b ws) (apart_name a org apart)

pub other_ws : (org ws q : List ℕ) → bytes_eq q ws ≡ false → is_pair org ws org q ≡ false
other_ws org ws q e = ap (λ (x : Bool). x && bytes_eq q ws) (name_is org) ∙ e

module _ (org ws : List ℕ) (w : Option Workspace) (t u : Tables) (puts : Puts org ws w t u) where
  same_orgs : (q : List ℕ) → cap_of q u ≡ cap_of q t
  same_orgs q = ap (λ orgs. option_map (λ (x : Kept OrgRow). x.1.cap) (find (is_org q) orgs)) puts.orgs

  same_tokens : (q : List ℕ) → tokens_at u q ≡ tokens_at t q
  same_tokens q = tokens_carried t u puts.tokens puts.bounds q

  put_workspaces : workspaces_at u org ≡ with_workspace (workspaces_at t org) ws w
  put_workspaces = same_map names_total names_same _ _ (λ q. by_name q (bytes_eq q ws) refl)
    where
      by_name : (q : List ℕ) (b : Bool) → bytes_eq q ws ≡ b → get (workspaces_at u org) q ≡ get (with_workspace (workspaces_at t org) ws w) q
      by_name q true e = subst (λ (n : List ℕ). get (workspaces_at u org) n ≡ get (with_workspace (workspaces_at t org) ws w) n) (sym (equal_bytes q ws e))
          (got_workspace u org ws ∙ puts.own ∙ sym (own_workspace (workspaces_at t org) ws w))
      by_name q false e = got_workspace u org q ∙ puts.others org q (other_ws org ws q e) ∙ sym (got_workspace t org q) ∙ sym (other_workspace (workspaces_at t org) ws w q (apart_from q ws e))

  other_workspaces : (q : List ℕ) → q ≢ org → workspaces_at u q ≡ workspaces_at t q
  other_workspaces q apart = same_map names_total names_same _ _ (λ n. got_workspace u q n ∙ puts.others q n (other_org org ws q n apart) ∙ sym (got_workspace t q n))

  put_organization : (cap : Option ℕ) (o : Organization) → option_map (organization_at t org) cap ≡ Some o → option_map (organization_at u org) cap ≡ Some (placed o ws w)
  put_organization None o e = absurd (let none : ⊥ = cc in none)
  put_organization (Some cap) o e =
      subst (λ (p : Organization). Some (organization_at u org cap) ≡ Some (placed p ws w)) (same_Some (organization_at t org cap) o e) (λ i. Some (record { limit = cap; tokens = same_tokens org i; workspaces = put_workspaces i }))

  pub put_own : (o : Organization) → record_of t org ≡ Some o → record_of u org ≡ Some (placed o ws w)
  put_own o e = ap (option_map (organization_at u org)) (same_orgs org) ∙ put_organization (cap_of org t) o e

  other_organization : (q : List ℕ) → q ≢ org → (cap : Option ℕ) → option_map (organization_at u q) cap ≡ option_map (organization_at t q) cap
  other_organization q apart None = refl
  other_organization q apart (Some cap) = λ i. Some (record { limit = cap; tokens = same_tokens q i; workspaces = other_workspaces q apart i })

  pub put_other : (q : List ℕ) → q ≢ org → record_of u q ≡ record_of t q
  put_other q apart = ap (option_map (organization_at u q)) (same_orgs q) ∙ other_organization q apart (cap_of q t)
