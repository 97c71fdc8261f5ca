-- The exchange log on standard output, if `--log` is given: one line per exchange, with how it ended.
use Rattle.std.specs.Prelude.{◌≡◌, ◌++◌, ℕ, suc, List, [], ◌∷◌, Bool, true, false, Option, Some, None, Result, Ok, Err, is_some, codes}
use Rattle.std.specs.Io.KnownBytes.{Appends}
use Rattle.docs.specs.Logs.{log_line}
use Rattle.docs.specs.declared.logs.LogRow.{LogRow}
use Rattle.machine.specs.declared.records.Organization.{Organization}
use Rattle.serve.specs.declared.exchanges.LinkFault.{LinkFault}
use Rattle.serve.specs.declared.exchanges.LinkFault.TheVariants.{Ended, Read, Continue, Write}
use Rattle.serve.specs.Exchanges.{ChangesAsLogged}
use Rattle.serve.specs.Service.{Stays}
use Rattle.program.specs.Streams.{GetsFront}

-- the log's word for how an exchange ended
abbrev pub end_word : {T : Type 0} → Result T LinkFault → List ℕ
end_word (Ok done) = codes "ok"
end_word (Err Ended) = codes "ended"
end_word (Err Read) = codes "read"
end_word (Err Continue) = codes "continue"
end_word (Err Write) = codes "write"

-- the line for the connection of this number, whose exchange ended in this way; none if there is nothing to report
abbrev pub row_text : {T : Type 0} → ℕ → Result T LinkFault → Option LogRow → List ℕ
row_text connection result None = []
row_text connection result (Some row) = log_line connection (end_word result) row

-- whether the line names an act; only if a whole message was read
abbrev pub names_act : Option LogRow → Bool
names_act None = false
names_act (Some row) = is_some row.act

-- standard output gets the text if the log is on: the whole of it if the result says that it was taken, otherwise a front of it. If the log is
-- off, it gets nothing, and nothing failed
abbrev pub Logs : Bool → Bool → List ℕ → Option (List ℕ) → Option (List ℕ) → Type 0
Logs true true text old new = Appends old new text
Logs true false text old new = GetsFront old new text
Logs false is_logged text old new = (new ≡ old) × (is_logged ≡ true)

-- a line, then the log if it is on
abbrev pub with_log : Bool → List ℕ → List ℕ → List ℕ
with_log true line log = line ++ log
with_log false line log = line

-- what a line says: how an exchange ended, and the rest
pub record Line : Type 0 where
  pub ended : Result (Unit {0}) LinkFault
  pub row : LogRow

-- the lines for connections numbered from this one on
abbrev pub log_text : ℕ → List Line → List ℕ
log_text connection [] = []
log_text connection (line ∷ lines) = log_line connection (end_word line.ended) line.row ++ log_text (suc connection) lines

-- before each line, only the record of the organization that it names has changed, and none if it reports a refusal; new versions and runs are
-- those that it reports
abbrev pub ChangeByLines : List Line → (List ℕ → Option Organization) → (List ℕ → Option Organization) → Type 0
ChangeByLines [] old new = Stays old new
ChangeByLines (line ∷ lines) old new = (mid : List ℕ → Option Organization) × ChangesAsLogged line.row old mid × ChangeByLines lines mid new
