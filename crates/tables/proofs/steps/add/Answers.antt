use Rattle.tables.proofs.Outside.{when_done, rules, ℕ, List, IsTrue, length, subst, state, pages_for, text_added, TwinsFit, KeysFit, AddsText}
use Rattle.tables.specs.Inner.Edits.{row_added, added_rows}
use Rattle.tables.specs.Inner.Keys.{KeepsKeys}
use Rattle.tables.proofs.Copying.{related_by}
use Rattle.tables.proofs.KeyedRows.{version_keyed}
use Rattle.tables.proofs.KeepMoves.{no_keys, steps_then_all, reported_then}
use Rattle.tables.proofs.steps.add.Goals as goal

pub returns-clause-adds : goal.returns-clause-adds
returns-clause-adds g c =
    let org = c.args.org.now in
    let ws = c.args.ws.now in
    let v = c.args.version.now in
    let keys = c.add_text.ensures.adds.0 in
    let adds = subst (λ (text : List ℕ). IsTrue (state g.S.Store c.add_row.new.tx.conn.now).is_open → AddsText g.S.Store g.K.PageKey.key_of keys org ws v.number text c.add_row.new.tx c.add_text.new.tx c.add_text.result) c.as_slice-text.ensures c.add_text.ensures.adds.1 in (
      keys,
      record {
        steps = steps_then_all g.S.Store (row_added org ws v) (text_added keys org ws v.number v.text) c.args.tx.now c.add_row.new.tx c.add_text.new.tx _ c.add_text.result
            c.in_ok-add_row.ensures.steps c.add_text.ensures.goes_on (λ is. (adds is).steps);
        reports = reported_then g.S.Store (row_added org ws v) (TwinsFit keys org ws v.number v.text (pages_for (length v.text))) c.args.tx.now c.add_row.new.tx c.add_text.new.tx _ c.add_text.result
            c.in_ok-add_row.ensures.steps c.add_text.ensures.goes_on.so_far (λ is. (adds is).fits);
      },
    )

pub returns-clause-keyed : goal.returns-clause-keyed
returns-clause-keyed g c =
    let org = c.args.org.now in
    let ws = c.args.ws.now in
    let v = c.args.version.now in
    let key_of = g.K.PageKey.key_of in
    let keys = c.add_text.ensures.adds.0 in
    let adds = subst (λ (text : List ℕ). IsTrue (state g.S.Store c.add_row.new.tx.conn.now).is_open → AddsText g.S.Store key_of keys org ws v.number text c.add_row.new.tx c.add_text.new.tx c.add_text.result) c.as_slice-text.ensures c.add_text.ensures.adds.1 in
    related_by g.S.Store (λ t. KeysFit key_of keys org ws v.number v.text (pages_for (length v.text)) (row_added org ws v t)) (added_rows keys org ws v) (KeepsKeys key_of) c.args.tx.now c.add_text.new.tx c.add_text.result (version_keyed key_of org ws keys v)
    (steps_then_all g.S.Store (row_added org ws v) (text_added keys org ws v.number v.text) c.args.tx.now c.add_row.new.tx c.add_text.new.tx _ c.add_text.result
    c.in_ok-add_row.ensures.steps c.add_text.ensures.goes_on (λ is. (adds is).steps))
    (reported_then g.S.Store (row_added org ws v) (KeysFit key_of keys org ws v.number v.text (pages_for (length v.text))) c.args.tx.now c.add_row.new.tx c.add_text.new.tx _ c.add_text.result
    c.in_ok-add_row.ensures.steps c.add_text.ensures.goes_on.so_far (λ is. (adds is).keyed))

pub returns-clause-fresh : goal.returns-clause-fresh
returns-clause-fresh g c clean inside = when_done c.add_text.result (c.in_ok-add_row.ensures.fresh (c.add_text.ensures.goes_on.so_far clean) inside)

pub returns-in_err-add_row-clause-adds : goal.returns-in_err-add_row-clause-adds
returns-in_err-add_row-clause-adds g c = (no_keys, search rules)
