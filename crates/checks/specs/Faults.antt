-- The faults of rows: which there are, and what each one reports.
use Rattle.std.specs.Prelude.{◌≡◌, ◌≤◌, ◌<◌, ◌⊎◌, ℕ, true, false, ◌&&◌, ◌==◌, pos, List, [], ◌∷◌, find, map, Option, Some, None, IsTrue}
use Rattle.std.specs.Str.{bytes_eq}
use Rattle.std.specs.List.{list_any}
use Rattle.basis.specs.declared.numbers.TheConstants.{MAX_LIMIT}
use Rattle.basis.specs.declared.rows.VersionRow.{VersionRow as Version}
use Rattle.basis.specs.declared.rows.RunRow.{RunRow as Run}
use Rattle.statements.specs.Rows.{Kept, Owned, OrgRow, TokenRow, BoundRow, WsRow, VersionRow, RunRow, VpageRow}
use Rattle.statements.specs.Tables.{Tables}
use Rattle.statements.specs.Changes.{is_of, is_org, is_digest_of}
use Rattle.statements.specs.declared.rows.PageHead.{PageHead}
use Rattle.statements.specs.declared.rows.Rows.{Rows}
use Rattle.statements.specs.declared.making.TheConstants.{SCHEMA_VERSION}
use Rattle.pages.specs.Heads.{head_in}
use Rattle.texts.specs.Texts.{is_place, names_page}
use Rattle.tables.specs.Sound.{IsOrgRow, IsTokenRow, IsBoundRow}
use Rattle.checks.specs.declared.found.Fault.{Fault}
use Rattle.checks.specs.declared.found.FaultKind.{FaultKind}
use Rattle.checks.specs.declared.found.FaultKind.TheVariants as kind
use Rattle.checks.specs.Judging.{fault_of, Breaks, OfSome, OfClash}
use Rattle.checks.specs.Workspaces.{count_in}
use Rattle.checks.specs.Missing.{IsFirstMissing}
use Rattle.checks.specs.Pages.{IsPlacedIn, NamesPage, IsCountedIn, HasTextIn}
use Rattle.checks.specs.Versions.{are_versions, unfit_version}
use Rattle.checks.specs.Runs.{are_runs, unfit_run}
use Rattle.checks.specs.Workspaces.{its_of, is_own, retention_among}

-- ---- what a fault names

-- the fault of this kind that names the organization
abbrev pub org_fault : FaultKind → List ℕ → Fault
org_fault kind org = fault_of kind org [] None

-- the fault of this kind that names the organization, and the workspace or the token in it
abbrev pub name_fault : FaultKind → List ℕ → List ℕ → Fault
name_fault kind org name = fault_of kind org name None

-- the fault of this kind that names a version
abbrev pub version_fault : FaultKind → VersionRow → Fault
version_fault kind x = fault_of kind x.org x.name (Some x.it.number)

-- the fault of this kind that names the version of the place
abbrev pub place_fault : FaultKind → VpageRow → Fault
place_fault kind x = fault_of kind x.org x.ws (Some x.number)

abbrev pub first_fault : FaultKind → Option (Kept VpageRow) → Fault
first_fault kind None = fault_of kind [] [] None
first_fault kind (Some x) = place_fault kind x.1

-- the fault of this kind that names the version of the first place that names the page; if no place does, it names none
abbrev pub page_fault : FaultKind → List (Kept VpageRow) → PageHead → Fault
page_fault kind vpages h = first_fault kind (find (names_page h.key h.twin) vpages)

-- ---- rows of one key

abbrev pub SameOrgs : List (Kept OrgRow) → Fault → Type 0
SameOrgs = OfClash (λ a b. is_org a.1.name b) (λ x. org_fault kind.Twice x.1.name)

-- rows with the same organization and name
abbrev pub SameNames : {T : Type 0} → List (Kept (Owned T)) → Fault → Type 0
SameNames = OfClash (λ a b. is_of a.1.org a.1.name b) (λ x. name_fault kind.Twice x.1.org x.1.name)

abbrev pub SameDigests : List (Kept TokenRow) → Fault → Type 0
SameDigests = OfClash (λ a b. is_digest_of a.1.org a.1.it.digest b) (λ x. name_fault kind.DigestTwice x.1.org x.1.name)

abbrev pub SamePages : List PageHead → Fault → Type 0
SamePages = OfClash (λ a b. bytes_eq b.key a.key && b.twin == a.twin) (λ x. fault_of kind.Twice [] [] None)

abbrev pub SamePlaces : List (Kept VpageRow) → Fault → Type 0
SamePlaces = OfClash (λ a b. is_place a.1.org a.1.ws a.1.number a.1.place b) (λ x. place_fault kind.Twice x.1)

-- ---- rows that lack another one

-- rows whose organization does not exist
abbrev pub OfNoOrg : {T : Type 0} → List (Kept OrgRow) → List (Kept (Owned T)) → Fault → Type 0
OfNoOrg orgs = OfSome (λ x. Breaks (list_any (is_org x.1.org) orgs ≡ true) (name_fault kind.Ownerless x.1.org x.1.name))

-- rows that have no row of the same organization and name among the others
abbrev pub Unmatched : {S T : Type 0} → FaultKind → (T → Option ℕ) → List (Kept (Owned S)) → List (Kept (Owned T)) → Fault → Type 0
Unmatched kind number others = OfSome (λ x. Breaks (list_any (is_of x.1.org x.1.name) others ≡ true) (fault_of kind x.1.org x.1.name (number x.1.it)))

abbrev pub unnumbered : {T : Type 0} → T → Option ℕ
unnumbered it = None

abbrev pub of_version : Version → Option ℕ
of_version v = Some v.number

abbrev pub of_run : Run → Option ℕ
of_run r = Some r.number

-- ---- rows that are out of range

abbrev pub VersionNotStored : Rows → Fault → Type 0
VersionNotStored r = Breaks ((r.editions ≡ (pos 1, SCHEMA_VERSION) ∷ []) × (r.metas ≡ [])) (fault_of kind.Version [] [] None)

abbrev pub OrgsOutside : List (Kept OrgRow) → Fault → Type 0
OrgsOutside = OfSome (λ x. Breaks (IsOrgRow x) (org_fault kind.Range x.1.name))

abbrev pub TokensOutside : List (Kept TokenRow) → Fault → Type 0
TokensOutside = OfSome (λ x. Breaks (IsTokenRow x) (name_fault kind.Range x.1.org x.1.name))

abbrev pub BoundsOutside : List (Kept BoundRow) → Fault → Type 0
BoundsOutside = OfSome (λ x. Breaks (IsBoundRow x) (name_fault kind.Range x.1.org x.1.name))

-- ---- pages, their places and texts

-- if a page is not in use, nothing more is reported of it; if its key is not that of its bytes, not whether another page has them
abbrev pub OfHead : List (Kept VpageRow) → PageHead → Fault → Type 0
OfHead vpages h f =
    ((h.uses < 1) × (f ≡ page_fault kind.Uses vpages h)) ⊎ ((1 ≤ h.uses) × (h.is_keyed ≡ false) × (f ≡ page_fault kind.Key vpages h)) ⊎ ((1 ≤ h.uses) × (h.is_keyed ≡ true) × (h.is_first ≡ false) × (f ≡ page_fault kind.SamePage vpages h))

abbrev pub OfHeads : List (Kept VpageRow) → List PageHead → Fault → Type 0
OfHeads vpages = OfSome (OfHead vpages)

abbrev pub PagesMiscounted : List (Kept VpageRow) → List PageHead → Fault → Type 0
PagesMiscounted vpages = OfSome (λ h. Breaks (IsCountedIn vpages h) (page_fault kind.Uses vpages h))

abbrev pub PlacesOutside : List (Kept VersionRow) → List (Kept VpageRow) → Fault → Type 0
PlacesOutside versions = OfSome (λ x. Breaks (IsPlacedIn versions x.1) (place_fault kind.Place x.1))

abbrev pub PagesMissing : List PageHead → List (Kept VpageRow) → Fault → Type 0
PagesMissing heads = OfSome (λ x. Breaks (NamesPage heads x.1) (place_fault kind.Text x.1))

abbrev pub TextsBroken : List PageHead → List (Kept VpageRow) → List (Kept VersionRow) → Fault → Type 0
TextsBroken heads vpages = OfSome (λ x. Breaks (HasTextIn heads vpages x.1) (version_fault kind.Text x.1))

abbrev pub OfPages : List PageHead → List (Kept VersionRow) → List (Kept VpageRow) → Fault → Type 0
OfPages heads versions vpages f = OfHeads vpages heads f ⊎ PagesMiscounted vpages heads f ⊎ PlacesOutside versions vpages f ⊎ PagesMissing heads vpages f ⊎ TextsBroken heads vpages versions f

-- ---- workspaces

-- an organization that has more workspaces than the greatest limit
abbrev pub TooMany : List (Kept WsRow) → Fault → Type 0
TooMany wss f = (org : List ℕ) × (MAX_LIMIT < count_in wss org) × (f ≡ org_fault kind.TooMany org)

-- what is wrong with the row of a workspace, with what its rows of keeping, versions and runs hold; it names the first version or run that is out of
-- range, if there is one
abbrev pub OfWorkspace : List ℕ → List Version → List Run → WsRow → Fault → Type 0
OfWorkspace ks vs rs x f =
    Breaks (IsTrue (is_own x)) (name_fault kind.Unlawful x.org x.name) f ⊎ Breaks (IsTrue (are_versions (retention_among ks) x.it.next_version vs)) (fault_of kind.Versions x.org x.name (unfit_version vs)) f
    ⊎ Breaks (IsTrue (are_runs x.it.holder x.it.next_run rs)) (fault_of kind.Runs x.org x.name (unfit_run x.it.holder rs)) f

abbrev pub OfWorkspaces : Rows → Fault → Type 0
OfWorkspaces r = OfSome (λ x. OfWorkspace (its_of x.1.org x.1.name r.retentions) (its_of x.1.org x.1.name r.versions) (its_of x.1.org x.1.name r.runs) x.1) r.wss

-- a run of the workspace is missing; it names the lowest one
abbrev pub LacksRun : List (Kept RunRow) → WsRow → Fault → Type 0
LacksRun runs x f = (n : ℕ) × IsFirstMissing runs x n × (f ≡ fault_of kind.MissingRun x.org x.name (Some n))

abbrev pub RunsMissing : List (Kept RunRow) → List (Kept WsRow) → Fault → Type 0
RunsMissing runs = OfSome (λ x. LacksRun runs x.1)

-- ---- all of them

abbrev pub OfNames : Rows → Fault → Type 0
OfNames r f = SameOrgs r.orgs f ⊎ SameNames r.tokens f ⊎ SameDigests r.tokens f ⊎ SameNames r.wss f

abbrev pub OfOthers : Rows → Fault → Type 0
OfOthers r f = SameNames r.bounds f ⊎ SameNames r.retentions f

abbrev pub OfTokens : Rows → Fault → Type 0
OfTokens r f = Unmatched kind.Unbounded unnumbered r.bounds r.tokens f ⊎ OfNoOrg r.orgs r.tokens f ⊎ Unmatched kind.Ownerless unnumbered r.tokens r.bounds f

abbrev pub OfOwned : Rows → Fault → Type 0
OfOwned r f =
    Unmatched kind.Unkept unnumbered r.retentions r.wss f ⊎ OfNoOrg r.orgs r.wss f ⊎ Unmatched kind.Ownerless unnumbered r.wss r.retentions f
    ⊎ Unmatched kind.Ownerless of_version r.wss r.versions f ⊎ Unmatched kind.Ownerless of_run r.wss r.runs f

abbrev pub OfRanges : Rows → Fault → Type 0
OfRanges r f = VersionNotStored r f ⊎ OrgsOutside r.orgs f ⊎ TokensOutside r.tokens f ⊎ BoundsOutside r.bounds f

abbrev pub OfRows : Rows → Fault → Type 0
OfRows r f = OfNames r f ⊎ OfOthers r f ⊎ OfTokens r f ⊎ OfOwned r f ⊎ OfRanges r f

abbrev pub OfTexts : List PageHead → List (Kept VersionRow) → List (Kept VpageRow) → Fault → Type 0
OfTexts heads versions vpages f = SamePages heads f ⊎ SamePlaces vpages f ⊎ OfPages heads versions vpages f

abbrev pub OfTables : Rows → Fault → Type 0
OfTables r f = OfTexts r.pages r.versions r.vpages f ⊎ TooMany r.wss f ⊎ OfWorkspaces r f ⊎ RunsMissing r.runs r.wss f

-- a fault of these rows: its kind says which law they break, its names and its number where
abbrev pub IsFaultOf : Rows → Fault → Type 0
IsFaultOf r f = OfRows r f ⊎ OfTables r f

-- the fault that names a table
abbrev pub table_fault : List ℕ → Fault
table_fault name = fault_of kind.Table [] name None

-- the rows that are read of the tables
abbrev pub rows_of : (List ℕ → List ℕ) → Tables → Rows
rows_of key_of t = record {
  metas = t.metas;
  orgs = t.orgs;
  tokens = t.tokens;
  wss = t.wss;
  versions = t.versions;
  runs = t.runs;
  pages = map (head_in key_of t) t.pages;
  vpages = t.vpages;
  bounds = t.bounds;
  editions = t.editions;
  retentions = t.retentions;
}
