-- What the queries on the table org read of its rows.
use Rattle.statements.proofs.Outside.{AllZip, ◌≡◌, ℕ, List, [], ◌∷◌, Option, codes, refl, Text, Row, end, State, Shown}
use Rattle.statements.specs.Schema.{org_table}
use Rattle.statements.specs.Rows.{org_cells}
use Rattle.statements.specs.Tables.{Tables, Holds, org_layout}
use Rattle.statements.specs.Changes.{is_org}
use Rattle.statements.specs.Finds.{cap_of}
use Rattle.statements.specs.Calls.{FirstRow, Pins, IsNumber, IsOrganization}
use Rattle.statements.specs.declared.rows.Organization.{Organization}
use Rattle.statements.specs.Listings.{organization_row, organizations_in, OrgsApart}
use Rattle.statements.specs.declared.organizations.TheConstants.{LIST_ORGS, ORG_CAP}
use Rattle.statements.proofs.Held.{IsHeld, orgs_held}
use Rattle.statements.proofs.NameLists.{by_text, orgs_apart, all_names}
use Rattle.statements.proofs.PointReads.{first_own}
use Rattle.statements.proofs.ReadBack.{number_read, organization_read}
use Rattle.statements.proofs.Conditions.{one_text}
use Rattle.statements.proofs.OrgTexts.{list_orgs_asks, list_orgs_rest, list_orgs_names, org_cap_asks, org_cap_rest}

module _ (old new : State) (t : Tables) (h : Holds old.now t) where
  abbrev held : IsHeld org_layout old.now t.orgs
  held = orgs_held old.now t h

  pub org_cap_shows : (name : List ℕ) (row : Option Row) → FirstRow ORG_CAP.now (Text name ∷ []) old new row → Pins IsNumber row (cap_of name t)
  org_cap_shows name row first =
      first_own org_cells org_table old new held.own t.orgs held.rows held.keyed ORG_CAP.now (Text name ∷ []) row first org_cap_rest (codes "cap" ∷ [])
      (is_org name) (λ x. one_text x.1.name name) IsNumber (λ x. x.1.cap) (λ x y reported. number_read x.1.cap y reported) (org_cap_asks.meaning old.now.schema _ _ held.own.place) (λ l. refl)

  pub list_orgs_shows : (rows : List Row) (orgs : List Organization) → OrgsApart t → Shown LIST_ORGS.now [] old new rows → AllZip IsOrganization rows orgs → orgs ≡ organizations_in t
  list_orgs_shows rows orgs apart shown read =
      all_names org_cells org_table old new held.own t.orgs held.rows LIST_ORGS.now [] list_orgs_rest 1 list_orgs_names end (λ _. []) (λ terms x. refl)
      IsOrganization (λ x. x.1.name) (λ x. x.1.cap) organization_row (λ x y reported. organization_read x.1.name x.1.cap y reported)
      (λ x y. by_text x.1.name y.1.name) (list_orgs_asks.meaning old.now.schema _ _ held.own.place) (λ l. refl) (λ x. refl) (orgs_apart t.orgs apart) rows orgs shown read
