use Rattle.tables.proofs.Outside.{rules, state, HasCleanDisk, clean_before}
use Rattle.tables.proofs.KeepCommits.{inside_by, made_by}
use Rattle.tables.proofs.transactions.make.Goals as goal

pub returns-clause-made : goal.returns-clause-made
returns-clause-made g c clean =
    let h = c.args.conn.now in
    let k = c.begin-tx.result.conn.now in
    let l = c.make_schema.new.tx.conn.now in
    let m = c.commit.new.self.0 in
    let late : HasCleanDisk (state g.S.Store m) = grind (rules) in
    let before = clean_before (state g.S.Store l) (state g.S.Store m) _ c.commit.ensures.survives late in
    let made = (c.in_ok-make_schema.ensures.made before (inside_by h k c.begin-tx.ensures.begun)).0 in
    let all = made_by g.S.Store h k l m c.begin-tx.ensures.all_committed c.begin-tx.ensures.begun c.commit.result made (c.commit.ensures.ok late) (c.commit.ensures.err late) in
    search (rules, all)
