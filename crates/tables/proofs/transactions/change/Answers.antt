use Rattle.tables.proofs.Outside.{rules, state, HasCleanDisk, clean_before}
use Rattle.tables.specs.Inner.Edits.{changed_rows, TakesEdit}
use Rattle.tables.specs.Inner.Keys.{KeepsKeys}
use Rattle.tables.proofs.KeepCommits.{inside_by, commits_by, reported_committed, commits_reported, commits_related}
use Rattle.tables.proofs.transactions.change.Goals as goal

pub returns-clause-done : goal.returns-clause-done
returns-clause-done g c = (
  c.in_ok-change.ensures.changes.0,
  λ clean.
      let h = c.args.conn.now in
      let k = c.begin-tx.result.conn.now in
      let l = c.change.new.tx.conn.now in
      let m = c.commit.new.self.0 in
      let keys = c.in_ok-change.ensures.changes.0 in
      let changed = c.in_ok-change.ensures.changes.1 in
      let late : HasCleanDisk (state g.S.Store m) = search rules in
      let before = clean_before (state g.S.Store l) (state g.S.Store m) _ c.commit.ensures.survives late in
      let all_committed = c.begin-tx.ensures.all_committed in
      let within = inside_by c.args.conn.now c.begin-tx.result.conn.now c.begin-tx.ensures.begun in
      let moved = (changed.steps.changed before within).0 in
      let reported = changed.reports before within in
      let rows = changed_rows keys c.args.org.now c.args.ws.now c.args.change.now in
      let takes = TakesEdit keys c.args.org.now c.args.ws.now c.args.change.now.edit in
      let all = commits_by g.S.Store h k l m all_committed c.begin-tx.ensures.begun rows c.commit.result moved (c.commit.ensures.ok late) (c.commit.ensures.err late) in
      commits_reported rows takes (state g.S.Store h) _ c.commit.result (reported_committed g.S.Store h k l m all_committed c.begin-tx.ensures.begun rows takes moved reported) (search (rules, all)),
)

pub returns-clause-keyed : goal.returns-clause-keyed
returns-clause-keyed g c clean =
    let h = c.args.conn.now in
    let k = c.begin-tx.result.conn.now in
    let l = c.change.new.tx.conn.now in
    let m = c.commit.new.self.0 in
    let late : HasCleanDisk (state g.S.Store m) = search rules in
    let before = clean_before (state g.S.Store l) (state g.S.Store m) _ c.commit.ensures.survives late in
    let all_committed = c.begin-tx.ensures.all_committed in
    let related = (c.in_ok-change.ensures.keyed.changed before (inside_by h k c.begin-tx.ensures.begun)).0 in
    let all = commits_related g.S.Store h k l m all_committed c.begin-tx.ensures.begun (KeepsKeys g.K.PageKey.key_of) c.commit.result related (c.commit.ensures.ok late) (c.commit.ensures.err late) in
    search (rules, all)
