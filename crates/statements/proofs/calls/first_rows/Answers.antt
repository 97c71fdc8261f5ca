use Rattle.statements.proofs.Outside.{◌⊎◌, refl, rules, arith, bound, state, HasCleanDisk, Survives, IsUnchanged, IsRolledBack, CommitsShowing}
use Rattle.statements.proofs.Calm.{failed_calm, survives_query}
use Rattle.statements.proofs.Taking.{takes_none, taken_begin, takes_all}
use Rattle.statements.proofs.calls.first_rows.Goals as goal

pub returns-in_err-rows-clause-calm : goal.returns-in_err-rows-clause-calm
returns-in_err-rows-clause-calm g c is clean =
    let old = state g.S.Store c.args.conn.now in
    let new = state g.S.Store c.query.follows.lender-at-none in
    let held = c.query.follows.holds-at-none in
    let late : HasCleanDisk new = search rules in
    let refused = rw c.in_err-rows.was at held in
    let calm : IsUnchanged old new ⊎ IsRolledBack old new = failed_calm c.args.sql.now is _ old new _ (refused.err late) in
    search rules

pub returns-in_err-rows-clause-survives : goal.returns-in_err-rows-clause-survives
returns-in_err-rows-clause-survives g c is =
    let old = state g.S.Store c.args.conn.now in
    let new = state g.S.Store c.query.follows.lender-at-none in
    let held = c.query.follows.holds-at-none in
    let kept : Survives old new (CommitsShowing c.args.sql.now (bound c.args.params.now) old) = search rules in
    survives_query c.args.sql.now is _ old new kept

pub rows-init : goal.rows-init
rows-init g c =
    let made = c.in_ok-rows.ensures in
    (refl, rw c.new-first.ensures.items (takes_none g.S.Store _ _ c.args.conn.now _ made.mode made.survives made.begun))

pub returns-in_default-clause-rows : goal.returns-in_default-clause-rows
returns-in_default-clause-rows g c is clean =
    let moved = c.next.follows.holds-at-none in
    let now = c.next.follows.lender-at-none.conn.now in
    let late : HasCleanDisk (state g.S.Store now) = search rules in
    let first = takes_all g.S.Store c.args.sql.now (bound c.args.params.now) c.args.conn.now _ _ _ c.rows.invariant.1 now moved.mode moved.survives c.args.most c.rows.auto.taken-end
    (λ clean. rw (c.in_ok-row.was, c.in_default.is) at (moved.ok clean)) is late in
    search rules

pub returns-clause-rows : goal.returns-clause-rows
returns-clause-rows g c is clean =
    let now = c.rows.rows.conn.now in
    let late : HasCleanDisk (state g.S.Store now) = search rules in
    let first = taken_begin g.S.Store c.args.sql.now (bound c.args.params.now) c.args.conn.now now _ _ c.rows.invariant.1 c.args.most (omega (arith, c.rows.auto.taken-end, c.rows-test.false)) is late in
    search rules
