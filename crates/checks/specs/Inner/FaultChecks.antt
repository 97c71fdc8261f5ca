-- What the checks test, by the rows as they were read.
use Rattle.std.specs.Prelude.{◌≡◌, pos, [], ◌∷◌}
use Rattle.std.specs.List.{AllByRecursion}
use Rattle.sqlite_keyed.specs.Rules.{AreApart}
use Rattle.statements.specs.declared.rows.Rows.{Rows}
use Rattle.statements.specs.declared.making.TheConstants.{SCHEMA_VERSION}
use Rattle.statements.specs.Changes.{is_org, is_digest_of}
use Rattle.statements.specs.Belonging.{AreNamedApart, AreOfOrgs, AreAmong}
use Rattle.tables.specs.Sound.{IsOrgRow, IsTokenRow, IsBoundRow}

pub record AreNamesApart (r : Rows) : Type 0 where
  pub orgs : AreApart (λ a b. is_org a.1.name b) r.orgs
  pub tokens : AreNamedApart r.tokens
  pub digests : AreApart (λ a b. is_digest_of a.1.org a.1.it.digest b) r.tokens
  pub wss : AreNamedApart r.wss

pub record AreOthersApart (r : Rows) : Type 0 where
  pub bounds : AreNamedApart r.bounds
  pub retentions : AreNamedApart r.retentions

pub record HaveTokensOwners (r : Rows) : Type 0 where
  pub bound : AreAmong r.bounds r.tokens
  pub tokens : AreOfOrgs r.orgs r.tokens
  pub bounds : AreAmong r.tokens r.bounds

pub record HaveWorkspacesOwners (r : Rows) : Type 0 where
  pub kept : AreAmong r.retentions r.wss
  pub wss : AreOfOrgs r.orgs r.wss
  pub retentions : AreAmong r.wss r.retentions
  pub versions : AreAmong r.wss r.versions
  pub runs : AreAmong r.wss r.runs

pub record AreInRange (r : Rows) : Type 0 where
  pub reported : (r.editions ≡ (pos 1, SCHEMA_VERSION) ∷ []) × (r.metas ≡ [])
  pub orgs : AllByRecursion IsOrgRow r.orgs
  pub tokens : AllByRecursion IsTokenRow r.tokens
  pub bounds : AllByRecursion IsBoundRow r.bounds

-- all of these
pub record AreRowsFit (r : Rows) : Type 0 where
  pub names : AreNamesApart r
  pub others : AreOthersApart r
  pub tokens : HaveTokensOwners r
  pub owned : HaveWorkspacesOwners r
  pub ranges : AreInRange r
