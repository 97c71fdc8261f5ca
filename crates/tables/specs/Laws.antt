-- What holds of sound tables.
use Rattle.std.specs.Prelude.{◌≡◌, ℕ, List}
use Rattle.std.specs.List.Sorted.{IsPermutation}
use Rattle.machine.specs.Laws.{AreLawful}
use Rattle.statements.specs.Rows.{Kept, VersionRow, RunRow}
use Rattle.statements.specs.Tables.{Tables}
use Rattle.tables.specs.Records.{record_of}
use Rattle.tables.specs.Sound.{IsSound}

-- the records that sound tables denote are lawful
abbrev pub SoundTablesAreLawful : Type 0
SoundTablesAreLawful = (t : Tables) → IsSound t → AreLawful (record_of t)

-- these tables are sound, and denote the same records as those
pub record StandFor (t u : Tables) : Type 0 where
  pub sound : IsSound u
  pub records : (org : List ℕ) → record_of u org ≡ record_of t org

-- The rows of versions and of runs may be in any order.
abbrev pub RowsStandInAnyOrder : Type 0
RowsStandInAnyOrder = (t : Tables) (versions : List (Kept VersionRow)) (runs : List (Kept RunRow)) → IsSound t → IsPermutation t.versions versions → IsPermutation t.runs runs
    → StandFor t (record t { versions = versions; runs = runs })
