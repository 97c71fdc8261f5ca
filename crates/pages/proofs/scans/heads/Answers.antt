use Rattle.pages.proofs.Outside.{map, ℤ, None, Some, Option, Ok, sym, ◌∙◌, subst, rules, List, SFits, w64, arith, ◌<◌, length, to_z-of_z, state, AnyRows, Equals, Sees, pages_held, Error}
use Rattle.pages.specs.Heads.{head_in}
use Rattle.pages.specs.declared.scans.Unhashed.{Unhashed}
use Rattle.pages.specs.Inner.Scans.{unhashed_behind}
use Rattle.pages.proofs.Behind.{AreReadBefore, reads_begin, reads_more, reads_end}
use Rattle.pages.proofs.Sights.{SeenSoFar, seen_so_far, seen_more, seen_all, seen_failed, seen_in_vain}
use Rattle.pages.proofs.scans.heads.Goals as goal

pub pages-init : goal.pages-init
pages-init g c =
    let key_of = g.K.PageKey.key_of in
    let few : length c.new-window.result.items < 4 = subst (λ (l : List Unhashed). length l < 4) (sym c.new-window.ensures.items) (omega arith) in
    (seen_so_far g.S.Store (λ t. AreReadBefore key_of t c.new-heads.result.items c.new-window.result.items None) c.args.conn.now (λ t. reads_begin key_of t _ _ c.new-heads.ensures.items c.new-window.ensures.items), few)

pub pages-preserved : goal.pages-preserved
pages-preserved g c =
    let key_of = g.K.PageKey.key_of in
    let fits : SFits w64 c.in-Some.row.page.id = search rules in
    let seen : Sees {E = Error} g.S.Store (Equals (unhashed_behind c.pages.behind)) c.pages.conn c.next_behind.new.conn (Ok (Some c.in-Some.row)) =
    subst (λ (o : Option Unhashed). Sees {E = Error} g.S.Store (Equals (unhashed_behind c.pages.behind)) c.pages.conn c.next_behind.new.conn (Ok o)) c.in-Some.is c.in_ok-found.ensures in
    let so_far = subst (λ (id : ℤ). SeenSoFar g.S.Store (λ t. AreReadBefore key_of t c.add_row.new.heads.items c.add_row.new.window.items (Some id)) c.args.conn.now c.next_behind.new.conn) (sym (to_z-of_z w64 c.in-Some.row.page.id fits))
    (seen_more g.S.Store (λ t. AreReadBefore key_of t c.pages.heads.items c.pages.window.items c.pages.behind) c.args.conn.now c.pages.conn c.pages.invariant.0 (Equals (unhashed_behind c.pages.behind))
    (λ t. AreReadBefore key_of t c.add_row.new.heads.items c.add_row.new.window.items (Some c.in-Some.row.page.id)) c.next_behind.new.conn (Some c.in-Some.row)
    (λ t holds before is. reads_more key_of t c.pages.heads.items c.add_row.new.heads.items c.pages.window.items c.add_row.new.window.items c.pages.behind c.in-Some.row (pages_held (state g.S.Store c.args.conn.now).now t holds).keyed is c.in_ok-add_row-in-Some.ensures.heads before) seen) in
    (so_far, c.in_ok-add_row-in-Some.ensures.few)

pub returns-in_err-found : goal.returns-in_err-found
returns-in_err-found g c =
    let key_of = g.K.PageKey.key_of in
    seen_failed g.S.Store (λ t. AreReadBefore key_of t c.pages.heads.items c.pages.window.items c.pages.behind) c.args.conn.now c.pages.conn c.pages.invariant.0 (Equals (unhashed_behind c.pages.behind)) _ c.next_behind.new.conn _ c.from_residual.result
    c.from_residual.ensures.0 c.in_err-found.ensures

pub returns-in_err-flush-in-None : goal.returns-in_err-flush-in-None
returns-in_err-flush-in-None g c =
    let key_of = g.K.PageKey.key_of in
    let some = seen_more g.S.Store (λ t. AreReadBefore key_of t c.pages.heads.items c.pages.window.items c.pages.behind) c.args.conn.now c.pages.conn c.pages.invariant.0 (Equals (unhashed_behind c.pages.behind))
    AnyRows c.next_behind.new.conn c.in_ok-found.found (λ t holds before is. tt) c.in_ok-found.ensures in
    seen_in_vain g.S.Store AnyRows c.args.conn.now c.next_behind.new.conn some _ c.from_residual-in_err-flush-in-None.result c.from_residual-in_err-flush-in-None.ensures.0

pub returns-in-None : goal.returns-in-None
returns-in-None g c =
    let key_of = g.K.PageKey.key_of in
    let seen : Sees {E = Error} g.S.Store (Equals (unhashed_behind c.pages.behind)) c.pages.conn c.next_behind.new.conn (Ok None) =
    subst (λ (o : Option Unhashed). Sees {E = Error} g.S.Store (Equals (unhashed_behind c.pages.behind)) c.pages.conn c.next_behind.new.conn (Ok o)) c.in-None.is c.in_ok-found.ensures in
    let all = seen_more g.S.Store (λ t. AreReadBefore key_of t c.pages.heads.items c.pages.window.items c.pages.behind) c.args.conn.now c.pages.conn c.pages.invariant.0 (Equals (unhashed_behind c.pages.behind))
    (Equals (λ t. map (head_in key_of t) t.pages) c.flush.new.heads.items) c.next_behind.new.conn None
    (λ t holds before is. reads_end key_of t _ c.flush.new.heads.items _ c.pages.behind is c.in_ok-flush-in-None.ensures.heads before) seen in
    seen_all g.S.Store _ c.args.conn.now c.next_behind.new.conn all (Equals (λ t. map (head_in key_of t) t.pages)) c.new.result (λ t is. c.new.ensures ∙ is)

pub returns-in_err-add_row-in-Some : goal.returns-in_err-add_row-in-Some
returns-in_err-add_row-in-Some g c =
    let key_of = g.K.PageKey.key_of in
    let some = seen_more g.S.Store (λ t. AreReadBefore key_of t c.pages.heads.items c.pages.window.items c.pages.behind) c.args.conn.now c.pages.conn c.pages.invariant.0 (Equals (unhashed_behind c.pages.behind))
    AnyRows c.next_behind.new.conn c.in_ok-found.found (λ t holds before is. tt) c.in_ok-found.ensures in
    seen_in_vain g.S.Store AnyRows c.args.conn.now c.next_behind.new.conn some _ c.from_residual-in_err-add_row-in-Some.result c.from_residual-in_err-add_row-in-Some.ensures.0
