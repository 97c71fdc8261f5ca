use Rattle.tables.proofs.Outside.{◌≡◌, suc, ◌+◌, rules, subst, arith, Database, state, HasCleanDisk, Raises, clean_before}
use Rattle.tables.specs.Versions.{Becomes, KeepsBeside}
use Rattle.tables.proofs.KeepCommits.{inside_by, climbs_by}
use Rattle.tables.proofs.Raising.{becomes_next}
use Rattle.tables.proofs.transactions.raise.Goals as goal

pub returns-clause-done : goal.returns-clause-done
returns-clause-done g c clean =
    let n = c.args.from in
    let h = c.args.conn.now in
    let k = c.begin-tx.result.conn.now in
    let l = c.raise.new.tx.conn.now in
    let m = c.commit.new.self.0 in
    let late : HasCleanDisk (state g.S.Store m) = search rules in
    let before = clean_before (state g.S.Store l) (state g.S.Store m) _ c.commit.ensures.survives late in
    let made = (c.in_ok-raise.ensures.made before (inside_by h k c.begin-tx.ensures.begun)).0 in
    let on : suc n ≡ n + 1 = omega arith in
    let next = subst (λ i. (a b : Database) → Raises n a b → Becomes n i a b × KeepsBeside n i a b) on (becomes_next n c.requires.older) in
    let all = climbs_by g.S.Store h k l m c.begin-tx.ensures.all_committed c.begin-tx.ensures.begun n (Raises n) next c.commit.result made (c.commit.ensures.ok late) (c.commit.ensures.err late) in
    search (rules, all)
