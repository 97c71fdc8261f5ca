-- When what is kept in memory of the tables is correct.
use Rattle.std.specs.Prelude.{◌≡◌, List, Option, Some, None, IfSome, All}
use Rattle.machine.specs.Records.{workspace_in}
use Rattle.machine.specs.Tokens.{asker_of}
use Rattle.machine.specs.Units.{version_text}
use Rattle.statements.specs.Tables.{Tables}
use Rattle.texts.specs.Texts.{text_of}
use Rattle.tables.specs.Counting.{IsCachedCount}
use Rattle.tables.specs.Records.{record_of}
use Rattle.tables.specs.declared.askers.Asked.{Asked}
use Rattle.tables.specs.declared.memo.Memo.{Memo}
use Rattle.tables.specs.declared.sizes.SizedVersion.{SizedVersion}

-- the version that it names exists, and its text is what its pages hold up to the size that is kept
abbrev pub IsSize : Tables → SizedVersion → Type 0
IsSize t s = version_text s.number (workspace_in (record_of t s.org) s.ws) ≡ Some (text_of s.org s.ws s.number s.size t)

-- the organization that it names has a token with this digest, and its name and caller are those that are kept
abbrev pub IsAsker : Tables → Asked → Type 0
IsAsker t a = asker_of (record_of t a.org) a.digest ≡ Some a.row

-- each of the tokens that are kept is so
abbrev pub AreAskers : Tables → Option (List Asked) → Type 0
AreAskers t asked = IfSome asked (All (IsAsker t))

-- everything that is kept is correct for the tables
pub record IsRemembered (t : Tables) (memo : Memo) : Type 0 where
  pub counts : IsCachedCount (record_of t) memo.cached
  pub sizes : IfSome memo.sized (IsSize t)
  pub askers : AreAskers t memo.asked

abbrev pub nothing_kept : Memo
nothing_kept = record { cached = None; sized = None; asked = None }
