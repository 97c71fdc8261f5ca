-- When tables are sound.
use Rattle.std.specs.Prelude.{⊤, ◌≡◌, ◌≤◌, ◌<◌, ◌+◌, ℕ, zero, suc, pos, List, [], ◌∷◌, length, map, Some, IfSome, IsSomeAnd, IsTrue}
use Rattle.std.specs.List.{AllByRecursion}
use Rattle.sqlite_keyed.specs.Rules.{AreApart}
use Rattle.basis.specs.Names.{is_org_name, is_ws_name, is_prefix}
use Rattle.basis.specs.declared.numbers.TheConstants.{MAX_LIMIT}
use Rattle.machine.specs.Laws.{IsLawful}
use Rattle.machine.specs.Ranges.{IsMoment}
use Rattle.machine.specs.Records.{count_of}
use Rattle.machine.specs.declared.records.Version.{Version}
use Rattle.machine.specs.declared.records.Workspace.{Workspace}
use Rattle.machine.specs.declared.records.Organization.{Organization}
use Rattle.statements.specs.Rows.{Kept, OrgRow, TokenRow, BoundRow, WsRow, RetentionRow, VersionRow, RunRow, VpageRow}
use Rattle.statements.specs.declared.making.TheConstants.{SCHEMA_VERSION}
use Rattle.statements.specs.Tables.{Tables, rows_in}
use Rattle.statements.specs.Changes.{is_org, is_digest_of}
use Rattle.statements.specs.Belonging.{AreNamedApart, AreOfOrgs, AreAmong}
use Rattle.statements.specs.Finds.{size_of}
use Rattle.texts.specs.Texts.{pages_for, IsWhole, HasSoundPlaces}
use Rattle.tables.specs.Records.{workspace_by, record_of}

pub record IsOrgRow (x : Kept OrgRow) : Type 0 where
  pub named : IsTrue (is_org_name x.1.name)
  pub limit : x.1.cap ≤ MAX_LIMIT

-- the token's name is valid, and its digest has 32 bytes
pub record IsTokenRow (x : Kept TokenRow) : Type 0 where
  pub named : IsTrue (is_org_name x.1.name)
  pub digest : length x.1.it.digest ≡ 32

-- the expiry of a token is in range, and its prefix is valid
pub record IsBoundRow (x : Kept BoundRow) : Type 0 where
  pub until : IfSome x.1.it.until IsMoment
  pub prefix : IsTrue (is_prefix x.1.it.prefix)

-- The one row with the version: in the first version it is in meta; in each later version it is in edition, and meta is empty.
abbrev pub StoresVersion : ℕ → Tables → Type 0
StoresVersion zero t = ⊥
StoresVersion (suc zero) t = t.metas ≡ (pos 1, 1) ∷ []
StoresVersion (suc (suc n)) t = (t.editions ≡ (pos 1, suc (suc n)) ∷ []) × (t.metas ≡ [])

-- the row's version exists, and the row's place is below the number of pages of its text
abbrev pub IsPlaced : Tables → Kept VpageRow → Type 0
IsPlaced t x = IsSomeAnd (size_of x.1.org x.1.ws x.1.number t) (λ size. x.1.place < pages_for size)

-- every page of the version's text exists
abbrev pub HasText : Tables → Kept VersionRow → Type 0
HasText t x = IsWhole x.1.org x.1.name x.1.it.number x.1.it.size t

-- When the rows of organizations and tokens are sound, with those of the tokens' expiries and prefixes.
pub record AreAccountsIn (n : ℕ) (orgs : List (Kept OrgRow)) (tokens : List (Kept TokenRow)) (bounds : List (Kept BoundRow)) : Type 0 where
  -- an organization and a token each have one row; no two tokens of an organization have the same digest
  pub orgs_apart : AreApart (λ a b. is_org a.1.name b) orgs
  pub tokens_apart : AreNamedApart tokens
  pub digests_apart : AreApart (λ a b. is_digest_of a.1.org a.1.it.digest b) tokens
  -- each token has one row of bound, in a version that has that table
  pub bounds_apart : AreNamedApart bounds
  pub tokens_bound : AreAmong bounds (rows_in n 8 tokens)
  -- each row has the row that it belongs to
  pub tokens_owned : AreOfOrgs orgs tokens
  pub bounds_owned : AreAmong tokens bounds
  -- names, limits, digests, expiries and prefixes are valid
  pub org_rows : AllByRecursion IsOrgRow orgs
  pub token_rows : AllByRecursion IsTokenRow tokens
  pub bound_rows : AllByRecursion IsBoundRow bounds

-- When the rows of workspaces are sound, with those that belong to them.
pub record AreOwnedIn (n : ℕ) (orgs : List (Kept OrgRow)) (wss : List (Kept WsRow)) (retentions : List (Kept RetentionRow)) (versions : List (Kept VersionRow)) (runs : List (Kept RunRow)) : Type 0 where
  pub wss_apart : AreNamedApart wss
  -- each workspace has one row of keeping, in a version that has that table
  pub retentions_apart : AreNamedApart retentions
  pub wss_kept : AreAmong retentions (rows_in n 10 wss)
  -- each row has the row that it belongs to
  pub wss_owned : AreOfOrgs orgs wss
  pub retentions_owned : AreAmong wss retentions
  pub versions_owned : AreAmong wss versions
  pub runs_owned : AreAmong wss runs

-- The pages are sound, the uses of each are the number of places that name it, and each place of a version has one row. Only places of
-- versions have rows, and the text of each version is complete.
pub record AreTexts (t : Tables) : Type 0 where
  pub places : HasSoundPlaces t
  pub placed : AllByRecursion (IsPlaced t) t.vpages
  pub texts : AllByRecursion (HasText t) t.versions

-- each number is followed by the next one, and the last one by `next`
abbrev pub HasNoGap : List ℕ → ℕ → Type 0
HasNoGap [] next = ⊤
HasNoGap (n ∷ []) next = n + 1 ≡ next
HasNoGap (n ∷ m ∷ ns) next = (n + 1 ≡ m) × HasNoGap (m ∷ ns) next

-- no number is missing from the oldest version that is kept up to the next number
abbrev pub IsGapless : Workspace → Type 0
IsGapless w = HasNoGap (map (λ (v : Version). v.number) w.versions) w.next_version

-- what sound rows denote: a lawful workspace with a valid name, none of whose versions is missing
pub record IsSoundWorkspace (name : List ℕ) (w : Workspace) : Type 0 where
  pub named : IsTrue (is_ws_name name)
  pub lawful : IsLawful w
  pub gapless : IsGapless w

-- When the tables of a version are sound. A law about a table that the version does not have requires nothing, because that table has no
-- rows.
pub record IsSoundIn (n : ℕ) (t : Tables) : Type 0 where
  -- the tables are those of this version, and store it
  pub reported : StoresVersion n t
  pub accounts : AreAccountsIn n t.orgs t.tokens t.bounds
  pub open accounts use *
  pub owned : AreOwnedIn n t.orgs t.wss t.retentions t.versions t.runs
  pub open owned use *
  pub contents : AreTexts t
  pub open contents use *
  -- no organization has more workspaces than the greatest limit; if its own limit was lowered, it may have more than that
  pub counts : (org : List ℕ) (o : Organization) → record_of t org ≡ Some o → count_of o ≤ MAX_LIMIT
  -- each workspace that the rows denote is lawful: what it holds is in range, and no two of its versions or runs have the same number; and
  -- no version between two that are kept is missing
  pub workspaces : (org name : List ℕ) (w : Workspace) → workspace_by t org name ≡ Some w → IsSoundWorkspace name w

-- when tables of the newest version are sound
abbrev pub IsSound : Tables → Type 0
IsSound = IsSoundIn SCHEMA_VERSION
