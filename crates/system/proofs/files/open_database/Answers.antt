use Rattle.std.proofs.Common.{ℕ, Bool, true, cond, List, sym, ap₂, subst}
use Rattle.std.proofs.lemmas.Result.{IfOk-weaker}
use Rattle.sqlite_disk.specs.Events.{Event, replay}
use Rattle.sqlite_wal.specs.Recovery.{Image}
use Rattle.sqlite.specs.Files.{file_state, IsBlankAs}
use Rattle.sqlite.specs.Start.{FindsIn}
use Rattle.system.proofs.files.open_database.Goals as goal

abbrev image : List ℕ → List ℕ → Image
image log db = record { log = log; db = db }

abbrev seen : List ℕ → List ℕ → Bool → List Event → List ℕ
seen log db is_log history = (replay (cond is_log log db) history).seen

pub returns-clause-found : goal.returns-clause-found
returns-clause-found g c =
    let (log, db) = c.in-Ok-open.ensures.fresh in
    let same = ap₂ image (ap₂ (seen g.S.Start.log g.S.Start.db) log.0 log.1) (ap₂ (seen g.S.Start.log g.S.Start.db) db.0 db.1) in
    IfOk-weaker c.connect.result _ _ (λ conn found clean. subst (λ i. FindsIn i (file_state conn)) same (found clean)) c.connect.ensures.found

pub returns-clause-sums : goal.returns-clause-sums
returns-clause-sums g c =
    let (log, db) = c.in-Ok-open.ensures.fresh in
    let same = ap₂ image (ap₂ (seen g.S.Start.log g.S.Start.db) log.0 log.1) (ap₂ (seen g.S.Start.log g.S.Start.db) db.0 db.1) in
    IfOk-weaker c.connect.result _ _ (λ conn reported clean blank. reported clean (subst (IsBlankAs true) (sym same) blank)) c.connect.ensures.sums
