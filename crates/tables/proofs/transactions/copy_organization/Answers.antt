use Rattle.tables.proofs.Outside.{⊤, rules, state, HasCleanDisk, clean_before}
use Rattle.tables.specs.Inner.Imports.{TakesFrom, Brings}
use Rattle.tables.specs.Inner.Keys.{KeepsKeys}
use Rattle.tables.proofs.Arriving.{unchanged_as}
use Rattle.tables.proofs.KeepCommits.{inside_by, commits_related}
use Rattle.tables.proofs.transactions.copy_organization.Goals as goal

pub returns-clause-unchanged : goal.returns-clause-unchanged
returns-clause-unchanged g c = unchanged_as g.T.Store (λ _ _. ⊤) c.args.from.now c.bring.new.from _ c.commit.result c.in_ok-bring.ensures.unchanged

pub returns-clause-done : goal.returns-clause-done
returns-clause-done g c clean =
    let h = c.args.conn.now in
    let k = c.begin-tx.result.conn.now in
    let l = c.bring.new.tx.conn.now in
    let m = c.commit.new.self.0 in
    let late : HasCleanDisk (state g.S.Store m) = search rules in
    let before = clean_before (state g.S.Store l) (state g.S.Store m) _ c.commit.ensures.survives late in
    let all_committed = c.begin-tx.ensures.all_committed in
    let related = (c.in_ok-bring.ensures.brings.changed before (inside_by h k c.begin-tx.ensures.begun)).0 in
    let all = commits_related g.S.Store h k l m all_committed c.begin-tx.ensures.begun (TakesFrom g.T.Store (Brings c.args.org.now c.args.cap) c.args.from.now c.bring.new.from) c.commit.result related (c.commit.ensures.ok late) (c.commit.ensures.err late) in
    search (rules, all)

pub returns-clause-keyed : goal.returns-clause-keyed
returns-clause-keyed g c clean =
    let h = c.args.conn.now in
    let k = c.begin-tx.result.conn.now in
    let l = c.bring.new.tx.conn.now in
    let m = c.commit.new.self.0 in
    let late : HasCleanDisk (state g.S.Store m) = search rules in
    let before = clean_before (state g.S.Store l) (state g.S.Store m) _ c.commit.ensures.survives late in
    let all_committed = c.begin-tx.ensures.all_committed in
    let related = (c.in_ok-bring.ensures.keyed.changed before (inside_by h k c.begin-tx.ensures.begun)).0 in
    let all = commits_related g.S.Store h k l m all_committed c.begin-tx.ensures.begun (KeepsKeys g.K.PageKey.key_of) c.commit.result related (c.commit.ensures.ok late) (c.commit.ensures.err late) in
    search (rules, all)
