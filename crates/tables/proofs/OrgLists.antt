-- The list of all organizations.
use Rattle.tables.proofs.Outside.{◌≡◌, ℕ, Bool, true, false, ◌||◌, cond, T, List, [], ◌∷◌, map, find, Option, Some, option_map, IsSomeAnd, refl, sym, ap, subst, ◌∙◌, bytes_eq, AllByRecursion, list_any, entries, get, entries_sorted, get-entries, get-from_entries, name_cmp, count_of, is_row_of, Ascend, ShowsOrganization, AreOrganizations, Organization, names_total, both_first, both_second, Tables, cap_of, workspaces_of}
use Rattle.std.specs.FinMap.Entries.{find as find_entry, is_sorted}
use Rattle.machine.specs.declared.keeps.OrgRow.{OrgRow}
use Rattle.statements.specs.Rows.{Kept, OrgRow as OrgCells}
use Rattle.statements.specs.Listings.{caps, organization_row as cells_at}
use Rattle.tables.specs.Records.{organization_at, record_of}
use Rattle.tables.specs.Sound.{IsSound}
use Rattle.tables.specs.Inner.Lists.{org_row_in, organizations_listed_in}
use Rattle.tables.proofs.Names.{tied}
use Rattle.tables.proofs.Lawful.{limit_there}
use Rattle.tables.proofs.Finding.{count_found}
use Rattle.tables.proofs.Managed.{record_there}
use Rattle.tables.proofs.Ranks.{all_found, rows_above}

module _ {A V : Type 0} (key : A → List ℕ) (value : A → V) (q : List ℕ) where
  found_of_all : (xs : List A) → find_entry name_cmp q (map (λ x. (key x, value x)) xs) ≡ option_map value (find (λ x. bytes_eq (key x) q) xs)
  found_of_all [] = refl
  found_of_all (x ∷ xs) = ap (λ (b : Bool). cond b (Some (value x)) (find_entry name_cmp q (map (λ y. (key y, value y)) xs))) (tied q (key x)) ∙ go (bytes_eq (key x) q) (found_of_all xs)
    where
      go : (b : Bool) → find_entry name_cmp q (map (λ y. (key y, value y)) xs) ≡ option_map value (find (λ y. bytes_eq (key y) q) xs)
          → cond b (Some (value x)) (find_entry name_cmp q (map (λ y. (key y, value y)) xs)) ≡ option_map value (cond b (Some x) (find (λ y. bytes_eq (key y) q) xs))
      go true more = refl
      go false more = more

module _ (t : Tables) where
  abbrev row_at : List ℕ × ℕ → OrgRow
  row_at e = org_row_in t (cells_at e)

  cap_found : (q : List ℕ) → get (caps t) q ≡ cap_of q t
  cap_found q = get-from_entries names_total (map (λ (x : Kept OrgCells). (x.1.name, x.1.cap)) t.orgs) q ∙ found_of_all (λ (x : Kept OrgCells). x.1.name) (λ (x : Kept OrgCells). x.1.cap) q t.orgs

  rows_ascend : (es : List (List ℕ × ℕ)) → T (is_sorted name_cmp es) → Ascend (map row_at es)
  rows_ascend [] sorted = tt
  rows_ascend (e ∷ es) sorted = (rows_above row_at (λ (r : OrgRow). r.name) (λ f. refl) e.0 es (both_first _ _ sorted), rows_ascend es (both_second _ _ sorted))

  row_found : (org : List ℕ) (cap : ℕ) (es : List (List ℕ × ℕ)) → find_entry name_cmp org es ≡ Some cap → list_any (is_row_of org) (map row_at es) ≡ true
  row_found org cap [] e = absurd (let none : ⊥ = cc in none)
  row_found org cap (x ∷ es) e = passed (bytes_eq x.0 org) refl (row_found org cap es)
    where
      passed : (b : Bool) → bytes_eq x.0 org ≡ b → (find_entry name_cmp org es ≡ Some cap → list_any (is_row_of org) (map row_at es) ≡ true) → (b || list_any (is_row_of org) (map row_at es)) ≡ true
      passed true f more = refl
      passed false f more = more (sym (ap (λ (b : Bool). cond b (Some x.1) (find_entry name_cmp org es)) (tied org x.0 ∙ f)) ∙ e)

  rows_mapped : (es : List (List ℕ × ℕ)) → map (org_row_in t) (map cells_at es) ≡ map row_at es
  rows_mapped [] = refl
  rows_mapped (e ∷ es) = ap (λ rows. row_at e ∷ rows) (rows_mapped es)

  module _ (sound : IsSound t) where
    reports : (e : List ℕ × ℕ) → find_entry name_cmp e.0 (entries (caps t)) ≡ Some e.1 → ShowsOrganization (record_of t) (row_at e)
    reports e found =
        let there : record_of t e.0 ≡ Some (organization_at t e.0 e.1) = record_there t e.0 e.1 (sym (cap_found e.0) ∙ get-entries (caps t) e.0 ∙ found) in
        subst (λ (r : Option Organization). IsSomeAnd r (λ o. (workspaces_of e.0 t ≡ count_of o) × (e.1 ≡ o.limit))) (sym there) (count_found t sound e.0 (organization_at t e.0 e.1) there, refl)

    all_reported : (es : List (List ℕ × ℕ)) → AllByRecursion (λ (e : List ℕ × ℕ). find_entry name_cmp e.0 (entries (caps t)) ≡ Some e.1) es → AllByRecursion (ShowsOrganization (record_of t)) (map row_at es)
    all_reported [] found = tt
    all_reported (e ∷ es) found = (reports e found.0, all_reported es found.1)

    -- the rows are the organizations that are there
    pub organizations_reported : AreOrganizations (record_of t) (organizations_listed_in t)
    organizations_reported = subst (AreOrganizations (record_of t)) (sym (rows_mapped (entries (caps t)))) (record {
      ascend = rows_ascend (entries (caps t)) (entries_sorted (caps t));
      reported = all_reported (entries (caps t)) (all_found (entries (caps t)) (entries_sorted (caps t)));
      whole = λ org o e. row_found org o.limit (entries (caps t)) (sym (get-entries (caps t) org) ∙ cap_found org ∙ limit_there t org o e);
    })
