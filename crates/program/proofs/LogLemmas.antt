-- What standard output gets of the log, and what its lines tell of the records.
use Rattle.std.proofs.Common.{◌≡◌, ◌++◌, ◌∷◌, [], List, ℕ, suc, Option, Some, IfSome, Result, Ok, Err, Bool, true, false, length, refl, sym, subst, ap, inl, inr}
use Rattle.std.proofs.KnownBytes.{Appends-nil, Appends-trans}
use Rattle.std.specs.Io.KnownBytes.{Appends}
use Rattle.docs.specs.Logs.{log_line}
use Rattle.docs.specs.declared.logs.LogRow.{LogRow}
use Rattle.machine.specs.declared.keeps.Keep as keep
use Rattle.machine.specs.declared.records.Organization.{Organization}
use Rattle.wire.specs.Replies.{Answer}
use Rattle.wire.specs.declared.devices.Inlet as inlet
use Rattle.wire.specs.declared.devices.Outlet as outlet
use Rattle.serve.specs.Asks.{Ask, silent, refused, requests, commands, stops, owner_of}
use Rattle.serve.specs.Doors.{operator_with, IsAnswerTo}
use Rattle.serve.specs.Exchanges.{IsAnswered, Exchanges, ChangesAsLogged}
use Rattle.serve.specs.declared.doors.Door.{Door}
use Rattle.serve.specs.Logs.{silent_row, with_answer, request_row, command_row, no_command_row, stop_row, row_of_ask}
use Rattle.serve.specs.Service.{record_for}
use Rattle.serve.specs.Steps.{refusing}
use Rattle.serve.specs.declared.exchanges.LinkFault.{LinkFault}
use Rattle.serve.specs.declared.exchanges.LinkFault.TheVariants.{Ended, Read, Continue, Write}
use Rattle.program.specs.declared.serving.Terms.{Terms}
use Rattle.program.specs.declared.environment.Clock as clock
use Rattle.program.specs.declared.environment.Connections as connections
use Rattle.program.specs.declared.environment.Files as files
use Rattle.program.specs.declared.reasons.Cause.{Cause}
use Rattle.program.specs.Logs.{end_word, row_text, with_log, Logs, Line, log_text, ChangeByLines}
use Rattle.program.specs.Serving.{State, AnswersOne, AnswersNext, AnswersAll, EndsEarly, LogReportsNext}
use Rattle.program.specs.Streams.{Reported}
use Rattle.program.proofs.ServingLemmas.{after_reply_lasts, after_reply_rows}

-- a log where it is asked for, and else nothing
abbrev pub Grows : Bool → Option (List ℕ) → Option (List ℕ) → Type 0
Grows true old new = (log : List ℕ) × Appends old new log
Grows false old new = new ≡ old

grows_none : (logs : Bool) (old new : Option (List ℕ)) → new ≡ old → Grows logs old new
grows_none true old new same = ([], subst (λ (o : Option (List ℕ)). Appends old o []) (sym same) (Appends-nil old))
grows_none false old new same = same

pub grows_then : (logs : Bool) (a b c : Option (List ℕ)) → Grows logs a b → Grows logs b c → Grows logs a c
grows_then true a b c first more = (first.0 ++ more.0, Appends-trans a b c first.0 more.0 first.1 more.1)
grows_then false a b c first more = subst (λ (o : Option (List ℕ)). o ≡ a) (sym more) first

pub grows_one : (logs is_logged : Bool) (text : List ℕ) (old new : Option (List ℕ)) → Logs logs is_logged text old new → Grows logs old new
grows_one true true text old new h = (text, h)
grows_one true false text old new h = (h.0, h.3)
grows_one false is_logged text old new h = h.0

-- the log stands behind the line
pub heard_log : (logs : Bool) (line : List ℕ) (old heard new : Option (List ℕ)) → Appends old heard line → Grows logs heard new → (log : List ℕ) × Appends old new (with_log logs line log)
heard_log true line old heard new first log = (log.0, Appends-trans old heard new line log.0 first log.1)
heard_log false line old heard new first same = ([], subst (λ (o : Option (List ℕ)). Appends old o line) (sym same) first)

-- of each exchange something is told
served_row : (by : Option (List ℕ)) (rows : List ℕ → Option Organization) (r : Option Organization) (now : ℕ) (awaited : Bool) (ask : Ask) (answer : Answer) (row : Option LogRow)
    → IsAnswerTo rows now awaited ask answer → row ≡ row_of_ask by r ask answer → (reported : LogRow) × (row ≡ Some reported)
served_row by rows r now awaited silent answer row answers is = absurd answers
served_row by rows r now awaited (refused when due refusal is_head false) answer row answers is = (with_answer (refusing refusal r).answer (silent_row when), is)
served_row by rows r now awaited (refused when due refusal is_head true) answer row answers is = (no_command_row when by (refusing refusal r).answer, is)
served_row by rows r now awaited (requests when due asked content_md5 body) answer row answers is = (request_row r when asked content_md5 body, is)
served_row by rows r now awaited (commands when command) answer row answers is = (command_row when by command answer, is)
served_row by rows r now awaited (stops when) answer row answers is = (stop_row when by answer, is)

answered_row : (door : Door) (now : ℕ) (received : List ℕ) (old new : List ℕ → Option Organization) (awaited : Bool) (text : List ℕ) (row : Option LogRow) (is_down : Bool)
    → IsAnswered door now received old new awaited text row is_down → (reported : LogRow) × (row ≡ Some reported)
answered_row door now received old new awaited text row false served = served_row (operator_with door now served.carried.asks.reading) old (record_for old (owner_of served.ask)) now awaited served.ask served.answer row served.carried.answers served.logged
answered_row door now received old new awaited text row true down = (down.1.reported, down.1.reports)

row_there : {T : Type 0} (door : Door) (now : ℕ) (received : List ℕ) (left : Option (List ℕ)) (old new : List ℕ → Option Organization) (before after : Option (List ℕ)) (is_down : Bool) (row : Option LogRow) (res : Result T LinkFault)
    → Exchanges door now received left old new before after is_down row res → (reported : LogRow) × (row ≡ Some reported)
row_there door now received left old new before after is_down row (Ok done) reported = answered_row door now received old new reported.0 reported.1 row is_down reported.2
row_there door now received left old new before after is_down row (Err Ended) reported = (silent_row now, reported.1)
row_there door now received left old new before after is_down row (Err Read) reported = (silent_row now, reported.1)
row_there door now received left old new before after is_down row (Err Continue) reported = (silent_row now, reported.1)
row_there door now received left old new before after is_down row (Err Write) reported = answered_row door now received old new reported.0 (reported.1 ++ reported.2) row is_down reported.4

module _ {K N R W : Type 0} (k : keep.Ghosts K) (n : connections.Ghosts N R W) (i : inlet.Ghosts R) (o : outlet.Ghosts W) where
  line_of : (terms : Terms) → terms.logs ≡ true → (connection at : ℕ) (is_down is_stop : Bool) (reader : R) (writer : W) (network network' : N) (store store' : K) (errors errors' : Reported) (output output' : Option (List ℕ))
      → AnswersOne k n i o terms connection at is_down is_stop true reader writer network network' store store' errors errors' output output' → k.clean store' → k.sound store
      → (line : Line) × Appends output output' (log_line connection (end_word line.ended) line.row) × ChangesAsLogged line.row (k.rows store) (k.rows store')
  line_of terms logged connection at is_down is_stop reader writer network network' store store' errors errors' output output' one clean sound =
      let exchanged = one.exchanges clean sound in
      let reported = row_there terms.door at exchanged.0 (i.left one.read) (k.rows store) (k.rows store') (o.written writer) (o.written one.written) is_down one.row one.result exchanged.2 in (
        record { ended = one.result; row = reported.0 },
        subst (λ (row : Option LogRow). Appends output output' (row_text connection one.result row)) reported.1 (subst (λ (logs : Bool). Logs logs true (row_text connection one.result one.row) output output') logged one.logged),
        subst (λ (row : Option LogRow). IfSome row (λ r. ChangesAsLogged r (k.rows store) (k.rows store'))) reported.1 (one.changes clean sound),
      )

module _ {K F N C R W : Type 0} (k : keep.Ghosts K) (f : files.Ghosts F K) (n : connections.Ghosts N R W) (c : clock.Ghosts C) (i : inlet.Ghosts R) (o : outlet.Ghosts W) where
  pub grows_all : (terms : Terms) (connection : ℕ) (moments : List ℕ) (old new : State N C K) → AnswersAll k f n c i o terms connection moments old new → Grows terms.logs old.output new.output
  grows_all terms connection [] old new same = grows_none terms.logs old.output new.output (ap (λ (s : State N C K). s.output) same)
  grows_all terms connection (at ∷ moments) old new all =
      let one = all.1.answers.answers in
      grows_then terms.logs old.output all.0.output new.output (grows_one terms.logs true (row_text connection one.result one.row) old.output all.0.output one.logged) (grows_all terms (suc connection) moments all.0 new all.2)

  pub grows_early : (terms : Terms) (connection : ℕ) (last new : State N C K) (why : Cause) → EndsEarly k f n c i o terms connection last new why → Grows terms.logs last.output new.output
  grows_early terms connection last new why (inl none) = grows_none terms.logs last.output new.output none.3
  grows_early terms connection last new why (inr (inl shut)) =
      let one = shut.3.answers.answers in
      grows_one terms.logs shut.2 (row_text connection one.result one.row) last.output new.output one.logged
  grows_early terms connection last new why (inr (inr unreported)) =
      let one = unreported.2.answers.answers in
      grows_one terms.logs false (row_text connection one.result one.row) last.output new.output one.logged

  pub clean_next : (terms : Terms) (connection at : ℕ) (is_shut is_stop is_logged : Bool) (old new : State N C K) → AnswersNext k f n c i o terms connection at is_shut is_stop is_logged old new → k.clean new.store → k.clean old.store
  clean_next terms connection at is_shut is_stop is_logged old new one clean = one.answers.answers.lasts.so_far ((after_reply_lasts k f one.is_down one.store is_shut new.store one.after_reply).so_far clean)

  pub clean_all : (terms : Terms) (connection : ℕ) (moments : List ℕ) (old new : State N C K) → AnswersAll k f n c i o terms connection moments old new → k.clean new.store → k.clean old.store
  clean_all terms connection [] old new same clean = subst (λ (s : State N C K). k.clean s.store) same clean
  clean_all terms connection (at ∷ moments) old new all clean =
      clean_next terms connection at false false true old all.0 all.1 (clean_all terms (suc connection) moments all.0 new all.2 clean)

  pub sound_next : (terms : Terms) (connection at : ℕ) (is_shut is_stop is_logged : Bool) (old new : State N C K) → AnswersNext k f n c i o terms connection at is_shut is_stop is_logged old new → k.clean new.store → k.sound old.store → k.sound new.store
  sound_next terms connection at is_shut is_stop is_logged old new one clean sound =
      (after_reply_lasts k f one.is_down one.store is_shut new.store one.after_reply).kept clean (one.answers.answers.lasts.kept ((after_reply_lasts k f one.is_down one.store is_shut new.store one.after_reply).so_far clean) sound)

  pub line_next : LogReportsNext k f n c i o
  line_next terms logged connection at is_stop old new one clean sound =
      let answers = one.answers in
      let before = (after_reply_lasts k f one.is_down one.store false new.store one.after_reply).so_far clean in
      let line = line_of k n i o terms logged connection at one.is_down is_stop answers.reader answers.writer answers.network new.network old.store one.store old.errors new.errors old.output new.output answers.answers
      before sound in (
        line.0,
        line.1,
        subst (λ (rows : List ℕ → Option Organization). ChangesAsLogged line.0.row (k.rows old.store) rows) (sym (after_reply_rows k f one.is_down one.store false new.store one.after_reply clean (answers.answers.lasts.kept before sound))) line.2,
      )

  pub reports_changes : (terms : Terms) → terms.logs ≡ true → (connection : ℕ) (moments : List ℕ) (old new : State N C K) → AnswersAll k f n c i o terms connection moments old new → k.clean new.store → k.sound old.store
      → (lines : List Line) × (length lines ≡ length moments) × Appends old.output new.output (log_text connection lines) × ChangeByLines lines (k.rows old.store) (k.rows new.store)
  reports_changes terms logged connection [] old new same clean sound = (
    [],
    refl,
    subst (λ (s : State N C K). Appends old.output s.output []) (sym same) (Appends-nil old.output),
    λ org. ap (λ (s : State N C K). k.rows s.store org) same,
  )
  reports_changes terms logged connection (at ∷ moments) old new all clean sound =
      let before = clean_all terms (suc connection) moments all.0 new all.2 clean in
      let line = line_next terms logged connection at false old all.0 all.1 before sound in
      let more = reports_changes terms logged (suc connection) moments all.0 new all.2 clean (sound_next terms connection at false false true old all.0 all.1 before sound) in (
        line.0 ∷ more.0,
        ap suc more.1,
        Appends-trans old.output all.0.output new.output (log_line connection (end_word line.0.ended) line.0.row) (log_text (suc connection) more.0) line.1 more.2,
        (k.rows all.0.store, line.2, more.3),
      )
