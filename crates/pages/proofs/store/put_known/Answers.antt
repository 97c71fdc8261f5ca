use Rattle.pages.proofs.Outside.{rules, ◌≡◌, ◌+◌, Some, sym, ◌∙◌, state, HasCleanDisk, Tables, Holds}
use Rattle.std.proofs.lemmas.Result.{IfOk-weaker}
use Rattle.pages.specs.Puts.{page_put}
use Rattle.pages.specs.Rows.{page_used, equal_page}
use Rattle.pages.proofs.FirstPages.{found_equal, used_is_put, found_twin, found_fits}
use Rattle.pages.proofs.Sequences.{step_behind}
use Rattle.pages.proofs.Promises.{puts_under, puts_behind, own_fits}
use Rattle.pages.proofs.store.put_known.Goals as goal

pub returns-in_err-first-clause-puts : goal.returns-in_err-first-clause-puts
returns-in_err-first-clause-puts g c = (c.args.known.now, search rules)

pub returns-in-None-clause-puts : goal.returns-in-None-clause-puts
returns-in-None-clause-puts g c =
    let read = c.in_ok-first.ensures.read in (
      g.K.PageKey.key_of c.args.page.now,
      puts_behind g.S.Store (g.K.PageKey.key_of c.args.page.now) c.args.page.now c.args.tx.now c.first.new.tx c.put.new.tx c.put.result c.first.ensures.same_reference c.first.ensures.survives (λ clean. (read clean).1.0) c.put.ensures,
    )

pub returns-in-None-clause-keyed : goal.returns-in-None-clause-keyed
returns-in-None-clause-keyed g c clean = own_fits g.K.PageKey.key_of c.args.page.now (state g.S.Store c.args.tx.now.conn.now) c.put.result c.put.ensures.named

pub returns-in-Some-clause-puts : goal.returns-in-Some-clause-puts
returns-in-Some-clause-puts g c =
    let key = c.args.known.now in
    let page = c.args.page.now in
    let found = c.in-Some.found in
    let s0 = state g.S.Store c.args.tx.now.conn.now in
    let s1 = state g.S.Store c.first.new.tx.conn.now in
    let read = c.in_ok-first.ensures.read in
    let used = c.use_known.ensures in
    let equal : HasCleanDisk s1 → (t : Tables) → Holds s0.now t → equal_page key page t ≡ Some found = λ clean t holds. found_equal c.as_slice.result.now key page t c.in_ok-first.first found c.as_slice.ensures ((read clean).0 t holds) (sym c.alike-found.ensures ∙ c.in-Some.is) in
    let steps = step_behind g.S.Store c.args.tx.now c.first.new.tx c.first.ensures.same_reference c.first.ensures.survives (page_used key found.twin (found.uses + 1)) (page_put key page) c.use_known.new.tx c.use_known.result
    (λ clean. (λ t holds. used_is_put key page t found (equal clean t holds), (read clean).1.0)) used.steps in (
      key,
      puts_under g.S.Store key page c.args.tx.now c.use_known.new.tx c.use_known.result steps (search rules) (λ clean. IfOk-weaker c.use_known.result _ _ (λ id named t holds. named.1 ∙ found_twin key page t found (equal (used.steps.so_far clean) t holds)) used.named),
    )

pub returns-in-Some-clause-keyed : goal.returns-in-Some-clause-keyed
returns-in-Some-clause-keyed g c clean =
    let key = c.args.known.now in
    let page = c.args.page.now in
    let found = c.in-Some.found in
    let s0 = state g.S.Store c.args.tx.now.conn.now in
    let used = c.use_known.ensures in
    let read = c.in_ok-first.ensures.read (used.steps.so_far clean) in
    let equal : (t : Tables) → Holds s0.now t → equal_page key page t ≡ Some found = λ t holds. found_equal c.as_slice.result.now key page t c.in_ok-first.first found c.as_slice.ensures (read.0 t holds) (sym c.alike-found.ensures ∙ c.in-Some.is) in
    IfOk-weaker c.use_known.result _ _ (λ id named t holds. found_fits key page t found (equal t holds) g.K.PageKey.key_of id.key named.0) used.named
