-- What a check of a file's tables finds, in the program's words.
use Rattle.sha2.specs.Sha256.{sha256}
use Rattle.sqlite.specs.Effect.{Database}
use Rattle.statements.specs.Tables.{Tables, Holds}
use Rattle.checks.specs.Standing.{ReportsStore}
use Rattle.checks.specs.Totals.{AreTotalsOf}
use Rattle.checks.specs.declared.totals.Totals as checks
use Rattle.program.specs.declared.totals.Findings.{Findings}
use Rattle.program.specs.declared.totals.Totals.{Totals}

-- the same numbers
abbrev pub found_totals : Totals → checks.Totals
found_totals t = record { organizations = t.organizations; workspaces = t.workspaces; versions = t.versions; runs = t.runs; newest = t.newest; made = t.made }

-- No fault was found exactly if the tables of the database are ours and sound, each page's key is the SHA-256 of its bytes, and no run is
-- missing; and these are the numbers of their rows.
pub record ReportsOf (db : Database) (findings : Findings) : Type 0 where
  pub faults : ReportsStore sha256 db findings.faults
  pub totals : (t : Tables) → Holds db t → AreTotalsOf t (found_totals findings.totals)
