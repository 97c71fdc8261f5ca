-- Rows that belong to an organization, a token or a workspace: the laws of our tables about their names.
use Rattle.std.specs.Prelude.{◌≡◌, true, List}
use Rattle.std.specs.List.{AllByRecursion, list_any}
use Rattle.sqlite_keyed.specs.Rules.{AreApart}
use Rattle.statements.specs.Rows.{Kept, Owned, OrgRow}
use Rattle.statements.specs.Changes.{is_of, is_org}

-- no two rows have the same organization and name
abbrev pub AreNamedApart : {T : Type 0} → List (Kept (Owned T)) → Type 0
AreNamedApart xs = AreApart (λ a b. is_of a.1.org a.1.name b) xs

-- the organization of each row exists
abbrev pub AreOfOrgs : {T : Type 0} → List (Kept OrgRow) → List (Kept (Owned T)) → Type 0
AreOfOrgs orgs xs = AllByRecursion (λ x. list_any (is_org x.1.org) orgs ≡ true) xs

-- each row has a row of the same organization and name among these
abbrev pub AreAmong : {S T : Type 0} → List (Kept (Owned S)) → List (Kept (Owned T)) → Type 0
AreAmong others xs = AllByRecursion (λ x. list_any (is_of x.1.org x.1.name) others ≡ true) xs
