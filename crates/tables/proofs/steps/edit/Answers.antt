use Rattle.tables.proofs.Outside.{when_done, steps_by}
use Rattle.tables.specs.Inner.Edits.{edited_rows}
use Rattle.tables.proofs.KeepMoves.{no_keys}
use Rattle.tables.proofs.KeyedRows.{edited_keyed}
use Rattle.tables.proofs.KeyedSteps.{keyed_by}
use Rattle.tables.proofs.steps.edit.Goals as goal

pub returns-in-Make-clause-edits : goal.returns-in-Make-clause-edits
returns-in-Make-clause-edits g c = rw c.in-Make.is (no_keys, record { steps = c.make_workspace.ensures.steps; reports = c.make_workspace.ensures.fresh })

pub returns-in-Configure-clause-edits : goal.returns-in-Configure-clause-edits
returns-in-Configure-clause-edits g c = rw c.in-Configure.is (no_keys, record { steps = c.configure.ensures; reports = λ clean inside. when_done c.configure.result (λ t holds. tt) })

pub returns-in-Remove-clause-edits : goal.returns-in-Remove-clause-edits
returns-in-Remove-clause-edits g c = rw c.in-Remove.is (no_keys, record { steps = c.remove.ensures; reports = λ clean inside. when_done c.remove.result (λ t holds. tt) })

pub returns-in-AddVersion-clause-edits : goal.returns-in-AddVersion-clause-edits
returns-in-AddVersion-clause-edits g c = rw c.in-AddVersion.is (c.put.ensures.puts.0, record { steps = c.put.ensures.puts.1.steps; reports = c.put.ensures.puts.1.reports })

pub returns-in-Purge-clause-edits : goal.returns-in-Purge-clause-edits
returns-in-Purge-clause-edits g c = rw c.in-Purge.is (no_keys, record { steps = c.purge.ensures; reports = λ clean inside. when_done c.purge.result (λ t holds. tt) })

pub returns-in-Hold-clause-edits : goal.returns-in-Hold-clause-edits
returns-in-Hold-clause-edits g c = rw c.in-Hold.is (no_keys, record { steps = rw c.as_slice.ensures at (steps_by g.S.Store _ _ _ _ c.hold_by_lock.ensures); reports = λ clean inside. when_done c.hold_by_lock.result (λ t holds. tt) })

pub returns-in-Release-clause-edits : goal.returns-in-Release-clause-edits
returns-in-Release-clause-edits g c = rw c.in-Release.is (no_keys, record { steps = steps_by g.S.Store _ _ _ _ c.release_lock.ensures; reports = λ clean inside. when_done c.release_lock.result (λ t holds. tt) })

pub returns-in-AddRun-clause-edits : goal.returns-in-AddRun-clause-edits
returns-in-AddRun-clause-edits g c = rw c.in-AddRun.is (no_keys, record { steps = c.add_run.ensures; reports = λ clean inside. when_done c.add_run.result (λ t holds. tt) })

pub returns-in-Report-clause-edits : goal.returns-in-Report-clause-edits
returns-in-Report-clause-edits g c = rw c.in-Report.is (no_keys, record { steps = c.report.ensures; reports = λ clean inside. when_done c.report.result (λ t holds. tt) })

pub returns-in-Make-clause-keyed : goal.returns-in-Make-clause-keyed
returns-in-Make-clause-keyed g c =
    let edited = returns-in-Make-clause-edits g c in
    keyed_by g.S.Store g.K.PageKey.key_of (edited_rows edited.0 c.args.org.now c.args.ws.now c.args.edit.now) c.args.tx.now c.make_workspace.new.tx c.make_workspace.result edited.1.steps
    (edited_keyed g.K.PageKey.key_of c.args.org.now c.args.ws.now edited.0 c.args.edit.now (rw c.in-Make.is tt))

pub returns-in-Configure-clause-keyed : goal.returns-in-Configure-clause-keyed
returns-in-Configure-clause-keyed g c =
    let edited = returns-in-Configure-clause-edits g c in
    keyed_by g.S.Store g.K.PageKey.key_of (edited_rows edited.0 c.args.org.now c.args.ws.now c.args.edit.now) c.args.tx.now c.configure.new.tx c.configure.result edited.1.steps
    (edited_keyed g.K.PageKey.key_of c.args.org.now c.args.ws.now edited.0 c.args.edit.now (rw c.in-Configure.is tt))

pub returns-in-Remove-clause-keyed : goal.returns-in-Remove-clause-keyed
returns-in-Remove-clause-keyed g c =
    let edited = returns-in-Remove-clause-edits g c in
    keyed_by g.S.Store g.K.PageKey.key_of (edited_rows edited.0 c.args.org.now c.args.ws.now c.args.edit.now) c.args.tx.now c.remove.new.tx c.remove.result edited.1.steps
    (edited_keyed g.K.PageKey.key_of c.args.org.now c.args.ws.now edited.0 c.args.edit.now (rw c.in-Remove.is tt))

pub returns-in-AddVersion-clause-keyed : goal.returns-in-AddVersion-clause-keyed
returns-in-AddVersion-clause-keyed g c = c.put.ensures.keyed

pub returns-in-Purge-clause-keyed : goal.returns-in-Purge-clause-keyed
returns-in-Purge-clause-keyed g c =
    let edited = returns-in-Purge-clause-edits g c in
    keyed_by g.S.Store g.K.PageKey.key_of (edited_rows edited.0 c.args.org.now c.args.ws.now c.args.edit.now) c.args.tx.now c.purge.new.tx c.purge.result edited.1.steps
    (edited_keyed g.K.PageKey.key_of c.args.org.now c.args.ws.now edited.0 c.args.edit.now (rw c.in-Purge.is tt))

pub returns-in-Hold-clause-keyed : goal.returns-in-Hold-clause-keyed
returns-in-Hold-clause-keyed g c =
    let edited = returns-in-Hold-clause-edits g c in
    keyed_by g.S.Store g.K.PageKey.key_of (edited_rows edited.0 c.args.org.now c.args.ws.now c.args.edit.now) c.args.tx.now c.hold_by_lock.new.tx c.hold_by_lock.result edited.1.steps
    (edited_keyed g.K.PageKey.key_of c.args.org.now c.args.ws.now edited.0 c.args.edit.now (rw c.in-Hold.is tt))

pub returns-in-Release-clause-keyed : goal.returns-in-Release-clause-keyed
returns-in-Release-clause-keyed g c =
    let edited = returns-in-Release-clause-edits g c in
    keyed_by g.S.Store g.K.PageKey.key_of (edited_rows edited.0 c.args.org.now c.args.ws.now c.args.edit.now) c.args.tx.now c.release_lock.new.tx c.release_lock.result edited.1.steps
    (edited_keyed g.K.PageKey.key_of c.args.org.now c.args.ws.now edited.0 c.args.edit.now (rw c.in-Release.is tt))

pub returns-in-AddRun-clause-keyed : goal.returns-in-AddRun-clause-keyed
returns-in-AddRun-clause-keyed g c =
    let edited = returns-in-AddRun-clause-edits g c in
    keyed_by g.S.Store g.K.PageKey.key_of (edited_rows edited.0 c.args.org.now c.args.ws.now c.args.edit.now) c.args.tx.now c.add_run.new.tx c.add_run.result edited.1.steps
    (edited_keyed g.K.PageKey.key_of c.args.org.now c.args.ws.now edited.0 c.args.edit.now (rw c.in-AddRun.is tt))

pub returns-in-Report-clause-keyed : goal.returns-in-Report-clause-keyed
returns-in-Report-clause-keyed g c =
    let edited = returns-in-Report-clause-edits g c in
    keyed_by g.S.Store g.K.PageKey.key_of (edited_rows edited.0 c.args.org.now c.args.ws.now c.args.edit.now) c.args.tx.now c.report.new.tx c.report.result edited.1.steps
    (edited_keyed g.K.PageKey.key_of c.args.org.now c.args.ws.now edited.0 c.args.edit.now (rw c.in-Report.is tt))
