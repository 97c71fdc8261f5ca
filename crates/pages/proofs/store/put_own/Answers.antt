use Rattle.pages.proofs.Outside.{Ok, ℕ, List, sym, subst, arith, Error}
use Rattle.pages.specs.Pages.{PutsUnder}
use Rattle.pages.specs.declared.store.PageId.{PageId}
use Rattle.pages.proofs.Promises.{puts_under}
use Rattle.pages.proofs.store.put_own.Goals as goal

pub returns : goal.returns
returns g c =
    let page = c.args.page.now in
    let id : PageId = record { key = c.args.key.now; twin = c.in_ok-twin.twin } in
    let put = c.in_ok-twin.ensures in
    subst (λ (key : List ℕ). PutsUnder {E = Error} g.S.Store key page c.args.tx.now c.put_under.new.tx (Ok id)) c.as_slice.ensures
    (puts_under {E = Error} g.S.Store c.as_slice.result.now page c.args.tx.now c.put_under.new.tx (Ok id) (record { same_reference = put.steps.same_reference; changed = put.steps.changed; so_far = put.steps.so_far; shield = put.steps.shield }) (sym c.as_slice.ensures, omega (arith, c.get.ensures.value, c.get.ensures.most)) put.twin)
