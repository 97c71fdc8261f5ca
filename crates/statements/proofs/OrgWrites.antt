-- What the writes to the table org do to its rows.
use Rattle.statements.proofs.Outside.{ℕ, List, [], ◌∷◌, Ok, refl, Text, State, Executes}
use Rattle.statements.specs.Rows.{number}
use Rattle.statements.specs.Tables.{Tables, Holds}
use Rattle.statements.specs.Changes.{is_org, org_row_added, org_row_removed, org_capped}
use Rattle.statements.specs.declared.organizations.TheConstants.{ADD_ORG, SET_CAP, REMOVE_ORG}
use Rattle.statements.proofs.Held.{orgs}
use Rattle.statements.proofs.Casts.{org_casts}
use Rattle.statements.proofs.Frames.{Turns, updated, deleted, inserted}
use Rattle.statements.proofs.Conditions.{one_text}
use Rattle.statements.proofs.OrgTexts.{add_org_means, set_cap_means, remove_org_means}

module _ (old new : State) (count : ℕ) (t : Tables) (h : Holds old.now t) where
  pub add_org_does : (name : List ℕ) (cap : ℕ) → Executes ADD_ORG.now (Text name ∷ number cap ∷ []) old new (Ok count) → Turns old.now new.now (org_row_added name cap t)
  add_org_does name cap ran = inserted orgs org_casts old new count t h _ _ ran (add_org_means old.now.schema) refl refl (record { name = name; cap = cap }) refl

  pub set_cap_does : (name : List ℕ) (cap : ℕ) → Executes SET_CAP.now (Text name ∷ number cap ∷ []) old new (Ok count) → Turns old.now new.now (org_capped name cap t)
  set_cap_does name cap ran = updated orgs org_casts old new count t h _ _ ran (set_cap_means old.now.schema) (is_org name) (λ x. one_text x.1.name name) (λ r. record r { cap = cap }) (λ x. refl) tt

  pub remove_org_does : (name : List ℕ) → Executes REMOVE_ORG.now (Text name ∷ []) old new (Ok count) → Turns old.now new.now (org_row_removed name t)
  remove_org_does name ran = deleted orgs org_casts old new count t h _ _ ran (remove_org_means old.now.schema) (is_org name) (λ x. one_text x.1.name name) tt
