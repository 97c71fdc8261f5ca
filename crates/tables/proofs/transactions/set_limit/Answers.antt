use Rattle.tables.proofs.Outside.{rules, state, HasCleanDisk, org_capped, clean_before}
use Rattle.tables.proofs.KeepCommits.{inside_by, commits_by}
use Rattle.tables.proofs.transactions.set_limit.Goals as goal

pub returns-clause-done : goal.returns-clause-done
returns-clause-done g c clean =
    let h = c.args.conn.now in
    let k = c.begin-tx.result.conn.now in
    let l = c.set_cap.new.tx.conn.now in
    let m = c.commit.new.self.0 in
    let late : HasCleanDisk (state g.S.Store m) = search rules in
    let before = clean_before (state g.S.Store l) (state g.S.Store m) _ c.commit.ensures.survives late in
    let all_committed = c.begin-tx.ensures.all_committed in
    let moved = (c.in_ok-set_cap.ensures.changed before (inside_by c.args.conn.now c.begin-tx.result.conn.now c.begin-tx.ensures.begun)).0 in
    let all = commits_by g.S.Store h k l m all_committed c.begin-tx.ensures.begun (org_capped c.args.org.now c.args.limit) c.commit.result moved (c.commit.ensures.ok late) (c.commit.ensures.err late) in
    search (rules, all)
