-- The line of a fault.
use Rattle.std.specs.Prelude.{◌≡◌, ℕ, List, [], ◌++◌, map, codes, if◌then◌else◌, Option, Some, None}
use Rattle.std.specs.Fmt.{decimal}
use Rattle.basis.specs.Names.{is_ws_name}
use Rattle.statements.specs.declared.rows.Rows.{Rows}
use Rattle.statements.specs.Tables.{Tables}
use Rattle.tables.specs.Scans.{AreRowsOf, ArePagesKeyed}
use Rattle.tables.specs.Sound.{IsSound}
use Rattle.checks.specs.declared.found.Fault.{Fault}
use Rattle.checks.specs.declared.found.FaultKind.{FaultKind}
use Rattle.checks.specs.declared.found.FaultKind.TheVariants as kind
use Rattle.checks.specs.Judging.{AreReported}
use Rattle.checks.specs.Faults.{IsFaultOf}
use Rattle.checks.specs.Missing.{HasEveryRun}

abbrev pub fault_word : FaultKind → List ℕ
fault_word kind.Table = codes "table"
fault_word kind.Version = codes "version"
fault_word kind.Twice = codes "twice"
fault_word kind.DigestTwice = codes "digest-twice"
fault_word kind.Ownerless = codes "ownerless"
fault_word kind.Unbounded = codes "unbounded"
fault_word kind.Unkept = codes "unkept"
fault_word kind.Range = codes "range"
fault_word kind.TooMany = codes "too-many"
fault_word kind.Unlawful = codes "unlawful"
fault_word kind.Versions = codes "versions"
fault_word kind.Runs = codes "runs"
fault_word kind.MissingRun = codes "missing-run"
fault_word kind.Text = codes "text"
fault_word kind.Place = codes "place"
fault_word kind.Uses = codes "uses"
fault_word kind.Key = codes "key"
fault_word kind.SamePage = codes "same-page"

-- bytes that are not a valid name are not printed: a row may have any bytes there
abbrev pub name_or_hyphen : List ℕ → List ℕ
name_or_hyphen name = if is_ws_name name then name else codes "-"

abbrev pub number_or_hyphen : Option ℕ → List ℕ
number_or_hyphen None = codes "-"
number_or_hyphen (Some n) = decimal n

-- `fault`, the word, the names of organization and workspace (for a token's row or a table, its name), and the number, separated by spaces
abbrev pub fault_line : Fault → List ℕ
fault_line f =
    codes "fault " ++ fault_word f.kind ++ codes " " ++ name_or_hyphen f.org ++ codes " " ++ name_or_hyphen f.ws ++ codes " " ++ number_or_hyphen f.number

-- One line for each of some faults that are to be reported: for all, if they are fewer than 50.
pub record ReportsEach (Says : Fault → Type 0) (lines : List (List ℕ)) : Type 0 where
  pub faults : List Fault
  pub reported : AreReported Says faults
  pub lines_are : lines ≡ map fault_line faults

-- The lines of the faults of rows: none exactly if the tables that have these rows are sound, each page's key is that of its bytes, and no run
-- is missing.
pub record ReportsFaults (rows : Rows) (lines : List (List ℕ)) : Type 0 where
  pub each : ReportsEach (IsFaultOf rows) lines
  pub holds : lines ≡ [] → (key_of : List ℕ → List ℕ) (t : Tables) → AreRowsOf key_of t rows → IsSound t × ArePagesKeyed key_of t × HasEveryRun t
  pub clean : (key_of : List ℕ → List ℕ) (t : Tables) → AreRowsOf key_of t rows → IsSound t → ArePagesKeyed key_of t → HasEveryRun t → lines ≡ []
