-- Rising lists with the same members are equal, and so are records of the same things.
use Rattle.machine.proofs.Outside.{◌≡◌, ℕ, ◌<◌, ◌⊎◌, ◌↔◌, List, [], ◌∷◌, map, Option, Some, None, refl, sym, ap, subst, ap₂, ◌∙◌, arith, inl, inr, FinMap, get, same_map, Settings, Holder}
use Rattle.machine.specs.Laws.{Rises, IsLawful}
use Rattle.machine.specs.Sameness.{IsOneOf, HoldTheSame, HoldTheSameIfThere, SameThingsAreEqualRecords}
use Rattle.machine.specs.Order.{name_cmp}
use Rattle.machine.specs.declared.records.Token.{Token}
use Rattle.machine.specs.declared.records.Version.{Version}
use Rattle.basis.specs.declared.rows.RunRow.{RunRow as Run}
use Rattle.machine.specs.declared.records.Workspace.{Workspace}
use Rattle.machine.specs.declared.records.Organization.{Organization}
use Rattle.machine.proofs.MapLemmas.{names_total, names_same}

module _ {X : Type 0} (number : X → ℕ) where
  above : (low next : ℕ) (xs : List X) (x : X) → Rises low (map number xs) next → IsOneOf x xs → low < number x
  above low next [] x rises is = absurd is
  above low next (y ∷ ys) x rises (inl e) = subst (λ (z : X). low < number z) (sym e) rises.0
  above low next (y ∷ ys) x rises (inr later) = let higher : number y < number x = above (number y) next ys x rises.2 later in omega (arith, rises.0)

  -- the members behind the first are others
  behind : (low next : ℕ) (y : X) (ys : List X) (x : X) → Rises low (map number (y ∷ ys)) next → x ≡ y → IsOneOf x ys → ⊥
  behind low next y ys x rises e later =
      let higher : number y < number x = above (number y) next ys x rises.2 later in
      let same : number x ≡ number y = ap number e in
      omega (arith, same)

  first_same : (low next low' next' : ℕ) (x : X) (xs : List X) (y : X) (ys : List X) → Rises low (map number (x ∷ xs)) next → Rises low' (map number (y ∷ ys)) next'
      → ((x ≡ y) ⊎ IsOneOf x ys) → ((y ≡ x) ⊎ IsOneOf y xs) → x ≡ y
  first_same low next low' next' x xs y ys rises others (inl e) b = e
  first_same low next low' next' x xs y ys rises others (inr later) (inl e) = sym e
  first_same low next low' next' x xs y ys rises others (inr later) (inr later') =
      let one : number y < number x = above (number y) next' ys x others.2 later in
      let two : number x < number y = above (number x) next xs y rises.2 later' in
      absurd (omega (arith, one))

  rest : (z x y : X) (xs ys : List X) → x ≡ y → (z ≡ x → IsOneOf z xs → ⊥) → IsOneOf z xs → ((z ≡ y) ⊎ IsOneOf z ys) → IsOneOf z ys
  rest z x y xs ys e apart is (inl first) = absurd (apart (first ∙ sym e) is)
  rest z x y xs ys e apart is (inr later) = later

  pub same_members : (low next low' next' : ℕ) (xs ys : List X) → Rises low (map number xs) next → Rises low' (map number ys) next' → ((x : X) → IsOneOf x xs ↔ IsOneOf x ys) → xs ≡ ys
  same_members low next low' next' [] [] rises others h = refl
  same_members low next low' next' [] (y ∷ ys) rises others h = absurd ((h y).1 (inl refl))
  same_members low next low' next' (x ∷ xs) [] rises others h = absurd ((h x).0 (inl refl))
  same_members low next low' next' (x ∷ xs) (y ∷ ys) rises others h =
      let e : x ≡ y = first_same low next low' next' x xs y ys rises others ((h x).0 (inl refl)) ((h y).1 (inl refl)) in
      let tails : xs ≡ ys = same_members (number x) next (number y) next' xs ys rises.2 others.2
      (λ z. (
        (λ is. rest z x y xs ys e (λ same. behind low next x xs z rises same) is ((h z).0 (inr is))),
        (λ is. rest z y x ys xs (sym e) (λ same. behind low' next' y ys z others same) is ((h z).1 (inr is))),
      )) in
      ap₂ (λ (v : X) (vs : List X). v ∷ vs) e tails

abbrev workspace_of : Settings → Holder → Option (List ℕ) → ℕ → ℕ → List Version → List Run → Workspace
workspace_of settings holder released next_version next_run versions runs =
    record { settings = settings; holder = holder; released = released; next_version = next_version; next_run = next_run; versions = versions; runs = runs }

same_workspace : (w v : Workspace) → IsLawful w → IsLawful v → HoldTheSame w v → w ≡ v
same_workspace w v one other same =
    let versions : w.versions ≡ v.versions = same_members (λ (x : Version). x.number) 0 w.next_version 0 v.next_version w.versions v.versions one.versions.rise other.versions.rise same.versions in
    let runs : w.runs ≡ v.runs = same_members (λ (x : Run). x.number) 0 w.next_run 0 v.next_run w.runs v.runs one.runs.rise other.runs.rise same.runs in
    let made : workspace_of w.settings w.holder w.released w.next_version w.next_run w.versions w.runs ≡ workspace_of v.settings v.holder v.released v.next_version v.next_run v.versions v.runs =
    rw (same.settings, same.holder, same.released, same.next_version, same.next_run, versions, runs) refl in
    made

same_if_there : (a b : Option Workspace) → ((w : Workspace) → a ≡ Some w → IsLawful w) → ((v : Workspace) → b ≡ Some v → IsLawful v) → HoldTheSameIfThere a b → a ≡ b
same_if_there None None one other same = refl
same_if_there None (Some v) one other same = absurd same
same_if_there (Some w) None one other same = absurd same
same_if_there (Some w) (Some v) one other same = ap Some (same_workspace w v (one w refl) (other v refl) same)

abbrev organization_of : ℕ → FinMap name_cmp Token → FinMap name_cmp Workspace → Organization
organization_of limit tokens workspaces = record { limit = limit; tokens = tokens; workspaces = workspaces }

pub same_things : SameThingsAreEqualRecords
same_things o p one other limit tokens workspaces =
    let same_tokens : o.tokens ≡ p.tokens = same_map names_total names_same o.tokens p.tokens tokens in
    let same_workspaces : o.workspaces ≡ p.workspaces = same_map names_total names_same o.workspaces p.workspaces
    (λ ws. same_if_there (get o.workspaces ws) (get p.workspaces ws) (λ w is. (one.workspaces ws w is).lawful) (λ v is. (other.workspaces ws v is).lawful) (workspaces ws)) in
    let made : organization_of o.limit o.tokens o.workspaces ≡ organization_of p.limit p.tokens p.workspaces = rw (limit, same_tokens, same_workspaces) refl in
    made
