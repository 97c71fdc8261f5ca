use Rattle.checks.proofs.Outside.{rules, ◌≡◌, [], refl, IfOk-weaker, state}
use Rattle.checks.proofs.StoreLemmas.{none_long, others_reported, none_held, store_reported, totals_reported, store_sound}
use Rattle.checks.proofs.stores.check.Goals as goal

pub returns-then-not-is_empty-clause-decides : goal.returns-then-not-is_empty-clause-decides
returns-then-not-is_empty-clause-decides g c clean =
    let some : ¬ (c.in_ok-others.others ≡ []) = λ none. search (rules, none) in
    others_reported g.K.PageKey.key_of (state g.S.Store c.args.keep.now.conn).committed (state g.S.Store c.report_tables.new.keep.conn).committed c.in_ok-others.others (c.in_ok-others.ensures.reported clean) some

pub returns-then-not-is_empty-clause-totals : goal.returns-then-not-is_empty-clause-totals
returns-then-not-is_empty-clause-totals g c clean = λ t held.
    let some : ¬ (c.in_ok-others.others ≡ []) = λ none. search (rules, none) in
    absurd (none_held g.K.PageKey.key_of (state g.S.Store c.args.keep.now.conn).committed (state g.S.Store c.report_tables.new.keep.conn).committed c.in_ok-others.others (c.in_ok-others.ensures.reported clean) some t held)

pub returns-then-not-is_empty-clause-sound : goal.returns-then-not-is_empty-clause-sound
returns-then-not-is_empty-clause-sound g c clean = λ none.
    let some : ¬ (c.in_ok-others.others ≡ []) = λ empty. search (rules, empty) in
    absurd (some none)

pub returns-clause-decides : goal.returns-clause-decides
returns-clause-decides g c clean =
    let none : c.in_ok-others.others ≡ [] = none_long c.in_ok-others.others (search rules) in
    let reports = c.in_ok-others.ensures.reported (c.check_rows.ensures.unchanged.so_far clean) in
    IfOk-weaker c.check_rows.result _ _ (λ findings checked. store_reported g.K.PageKey.key_of (state g.S.Store c.args.keep.now.conn).committed (state g.S.Store c.report_tables.new.keep.conn).committed c.in_ok-others.others reports none findings checked) (c.check_rows.ensures.reported clean)

pub returns-clause-totals : goal.returns-clause-totals
returns-clause-totals g c clean =
    let none : c.in_ok-others.others ≡ [] = none_long c.in_ok-others.others (search rules) in
    let reports = c.in_ok-others.ensures.reported (c.check_rows.ensures.unchanged.so_far clean) in
    IfOk-weaker c.check_rows.result _ _ (λ findings checked. totals_reported g.K.PageKey.key_of (state g.S.Store c.args.keep.now.conn).committed (state g.S.Store c.report_tables.new.keep.conn).committed c.in_ok-others.others reports none findings checked) (c.check_rows.ensures.reported clean)

pub returns-clause-sound : goal.returns-clause-sound
returns-clause-sound g c clean =
    let none : c.in_ok-others.others ≡ [] = none_long c.in_ok-others.others (search rules) in
    let reports = c.in_ok-others.ensures.reported (c.check_rows.ensures.unchanged.so_far clean) in
    IfOk-weaker c.check_rows.result _ _ (λ findings checked. store_sound g.K.PageKey.key_of (state g.S.Store c.args.keep.now.conn).committed (state g.S.Store c.report_tables.new.keep.conn).committed c.in_ok-others.others reports none findings checked
    (state g.S.Store c.args.keep.now.conn) (state g.S.Store c.args.keep.now.seen.value).committed c.args.keep.now.memo refl) (c.check_rows.ensures.reported clean)
