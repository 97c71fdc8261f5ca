use Rattle.tables.proofs.Outside.{rules, state, HasCleanDisk, clean_before}
use Rattle.tables.specs.Inner.Copies.{AreMadeBy}
use Rattle.tables.specs.Inner.Removals.{all_gone_of}
use Rattle.tables.proofs.KeepCommits.{inside_by, commits_related}
use Rattle.tables.proofs.transactions.remove_organization.Goals as goal

pub returns-clause-done : goal.returns-clause-done
returns-clause-done g c clean =
    let h = c.args.conn.now in
    let k = c.begin-tx.result.conn.now in
    let l = c.leave.new.tx.conn.now in
    let m = c.commit.new.self.0 in
    let late : HasCleanDisk (state g.S.Store m) = search rules in
    let before = clean_before (state g.S.Store l) (state g.S.Store m) _ c.commit.ensures.survives late in
    let all_committed = c.begin-tx.ensures.all_committed in
    let related = (c.in_ok-leave.ensures.changed before (inside_by h k c.begin-tx.ensures.begun)).0 in
    let all = commits_related g.S.Store h k l m all_committed c.begin-tx.ensures.begun (AreMadeBy (all_gone_of c.args.org.now c.args.names.now c.args.list.now)) c.commit.result related (c.commit.ensures.ok late) (c.commit.ensures.err late) in
    search (rules, all)
