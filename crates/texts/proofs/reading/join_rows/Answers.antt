use Rattle.std.proofs.Common.{◌≡◌, ◌∙◌, Err, refl, rules, arith}
use Rattle.sqlite.specs.declared.error.Error.TheVariants.{QueryReturnedNoRows}
use Rattle.texts.proofs.InTurn.{begin_in_turn, more_in_turn, joins_all, joins_failed, joins_none, joins_refused, joins_stopped}
use Rattle.texts.proofs.reading.join_rows.Goals as goal

pub returns-in_err-text : goal.returns-in_err-text
returns-in_err-text g c = joins_none g.S.Store _ _ c.args.conn.now _ _ c.from_residual.ensures.0

pub returns-in_err-rows : goal.returns-in_err-rows
returns-in_err-rows g c =
    let refused = rw c.in_err-rows.was at c.query.follows.holds-at-none in
    joins_refused g.S.Store _ _ c.args.conn.now c.query.follows.lender-at-none _ _ _ c.from_residual-in_err-rows.ensures.0 refused.mode refused.survives refused.err

pub rows-init : goal.rows-init
rows-init g c =
    let made = c.in_ok-rows.ensures in
    (refl, rw c.in_ok-text.ensures.items (begin_in_turn g.S.Store _ _ c.args.conn.now _ made.mode made.survives made.begun))

pub returns-in_err-row : goal.returns-in_err-row
returns-in_err-row g c =
    let moved = c.next.follows.holds-at-none in
    let now = c.next.follows.lender-at-none.conn.now in
    joins_failed g.S.Store _ _ c.args.conn.now _ _ _ c.rows.invariant.1 now moved.mode moved.survives _ _ _ _ c.from_residual-in_err-row.ensures.0 (search rules) (λ clean. rw c.in_err-row.was at (moved.kept clean))

pub returns-in_err-add_row : goal.returns-in_err-add_row
returns-in_err-add_row g c =
    let moved = c.next.follows.holds-at-none in
    let now = c.next.follows.lender-at-none.conn.now in
    joins_stopped g.S.Store _ _ c.args.conn.now _ _ _ c.rows.invariant.1 now moved.mode moved.survives _ _ _ c.from_residual-in_err-add_row.ensures.0 (search rules) (λ clean. rw c.in_ok-row.was at (moved.same clean))

pub rows-preserved : goal.rows-preserved
rows-preserved g c =
    let moved = c.next.follows.holds-at-none in
    let now = c.next.follows.lender-at-none.conn.now in
    let added = c.in_ok-add_row.ensures in (
      moved.same_reference ∙ c.rows.invariant.0,
      more_in_turn g.S.Store _ _ c.args.conn.now _ _ _ c.rows.invariant.1 now moved.mode moved.survives added.one (λ clean. rw (c.in_ok-row.was, added.is_there) at (moved.ok clean)) (λ clean. rw c.in_ok-row.was at (moved.same clean)) added.bytes _ added.place_is added.bytes_are added.grown,
    )

pub returns-in_err-next : goal.returns-in_err-next
returns-in_err-next g c =
    let moved = c.next-2.follows.holds-at-none in
    let now = c.next-2.follows.lender-at-none.conn.now in
    joins_failed g.S.Store _ _ c.args.conn.now _ _ _ c.rows.invariant.1 now moved.mode moved.survives _ _ _ _ c.from_residual-in_err-next.ensures.0 (search rules) (λ clean. rw c.in_err-next.was at (moved.kept clean))

pub returns-in-None : goal.returns-in-None
returns-in-None g c =
    let moved = c.next-2.follows.holds-at-none in
    let now = c.next-2.follows.lender-at-none.conn.now in
    let end : c.rows.place ≡ c.args.places = omega (arith, c.rows.auto.place-end, c.rows-test.false) in
    joins_all g.S.Store _ _ c.args.conn.now _ _ _ c.rows.invariant.1 now moved.mode moved.survives _ c.new.result _ (search rules) end c.new.ensures (λ clean. rw (c.in_ok-next.was, c.in-None.is) at (moved.ok clean)) (λ clean. rw c.in_ok-next.was at (moved.same clean))

pub returns-in-Some : goal.returns-in-Some
returns-in-Some g c =
    let moved = c.next-2.follows.holds-at-none in
    let now = c.next-2.follows.lender-at-none.conn.now in
    joins_stopped g.S.Store _ _ c.args.conn.now _ _ _ c.rows.invariant.1 now moved.mode moved.survives _ (Err QueryReturnedNoRows) _ refl (search rules) (λ clean. rw c.in_ok-next.was at (moved.same clean))
