-- What is kept in memory about versions and tokens, and how it changes.
use Rattle.std.specs.Prelude.{◌≡◌, ◌==◌, ◌&&◌, ℕ, Bool, true, false, cond, List, Option, Some, None}
use Rattle.std.specs.Str.{bytes_eq}
use Rattle.basis.specs.declared.acts.Query.TheVariants as query
use Rattle.machine.specs.declared.acts.Act.{Act}
use Rattle.machine.specs.declared.acts.Act.TheVariants.{Query}
use Rattle.machine.specs.declared.acts.Edit.{Edit}
use Rattle.tables.specs.Inner.Counting.{changed_count}
use Rattle.tables.specs.declared.askers.Asked.{Asked}
use Rattle.tables.specs.declared.versions.VersionSize.{VersionSize}
use Rattle.tables.specs.declared.memo.Memo.{Memo}
use Rattle.tables.specs.declared.sizes.SizedVersion.{SizedVersion}

-- whether an act answers with the text of a version
abbrev pub reads_text : Act → Bool
reads_text (Query query.State) = true
reads_text (Query (query.Version n)) = true
reads_text other = false

-- the number of bytes of a version's text, if it is in memory
abbrev pub size_kept : Option SizedVersion → List ℕ → List ℕ → ℕ → Option ℕ
size_kept None org ws n = None
size_kept (Some s) org ws n = cond ((bytes_eq s.org org && bytes_eq s.ws ws) && s.number == n) (Some s.size) None

-- what is kept of a version that was found
abbrev pub Notes : List ℕ → List ℕ → Option VersionSize → SizedVersion → Type 0
Notes org ws None kept = ⊥
Notes org ws (Some v) kept = kept ≡ record { org = org; ws = ws; number = v.number; size = v.size }

-- it is the token of this organization with this digest
abbrev pub IsAskedBy : List ℕ → List ℕ → Asked → Type 0
IsAskedBy org digest a = (a.org ≡ org) × (a.digest ≡ digest)

-- after a workspace was changed
abbrev pub changed_memo : Memo → List ℕ → List ℕ → Edit → Memo
changed_memo memo org ws edit = record { cached = changed_count memo.cached org ws edit; sized = None; asked = memo.asked }
