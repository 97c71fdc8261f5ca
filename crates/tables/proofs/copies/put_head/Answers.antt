use Rattle.tables.proofs.Outside.{◌≡◌, [], None, Ok, refl, sym, ap, ◌∙◌, subst, ws_added, workspace_of, steps_by}
use Rattle.tables.specs.Records.{workspace_of_cells}
use Rattle.tables.specs.Inner.Copies.{AreMadeBy, released_rows, held_rows, counted_rows, Begins}
use Rattle.tables.proofs.Copying.{AreMadeWhere, related_by, made_by_steps, made_then, related_then}
use Rattle.tables.proofs.KeyedSteps.{paged_by, paged_made, paged_then, released_pages, held_pages}
use Rattle.tables.proofs.Standing.{head_begins}
use Rattle.tables.proofs.copies.put_head.Goals as goal

pub returns-clause-begins : goal.returns-clause-begins
returns-clause-begins g c =
    let org = c.args.org.now in
    let ws = c.args.ws.now in
    let head = c.args.head.now in
    let retention = c.args.retention in
    let added = ws_added org ws head.runs retention in
    let counted = counted_rows org ws head in
    let released = released_rows org ws head.released in
    let held = held_rows org ws head.holder in
    let begun = related_by g.S.Store (λ t. workspace_of org ws t ≡ None) added (AreMadeWhere (λ t. workspace_of org ws t ≡ None) added) c.args.tx.now c.add.new.tx (Ok tt) (λ t none. (none, refl)) (steps_by g.S.Store added c.args.tx.now c.add.new.tx (Ok tt) c.in_ok-add.ensures.writes) c.in_ok-add.ensures.fresh in
    let numbered = made_then g.S.Store (λ t. workspace_of org ws t ≡ None) added counted c.args.tx.now c.add.new.tx c.put_counts.new.tx tt (Ok tt) begun (made_by_steps g.S.Store counted c.add.new.tx c.put_counts.new.tx (Ok tt) c.in_ok-put_counts.ensures) in
    let freed = made_then g.S.Store (λ t. workspace_of org ws t ≡ None) (λ t. counted (added t)) released c.args.tx.now c.put_counts.new.tx c.put_released.new.tx tt (Ok tt) numbered c.in_ok-put_released.ensures in
    related_then g.S.Store (AreMadeWhere (λ t. workspace_of org ws t ≡ None) (λ t. released (counted (added t)))) (AreMadeBy held) (Begins org ws (workspace_of_cells retention head [] [])) c.args.tx.now c.put_released.new.tx c.put_holder.new.tx tt c.put_holder.result
    (λ t u z first then. subst (Begins org ws (workspace_of_cells retention head [] []) t) (sym (then ∙ ap held first.1)) (head_begins org ws head retention t first.0)) freed c.put_holder.ensures

pub returns-clause-pages : goal.returns-clause-pages
returns-clause-pages g c =
    let org = c.args.org.now in
    let ws = c.args.ws.now in
    let head = c.args.head.now in
    let retention = c.args.retention in
    let begun = paged_by g.S.Store (ws_added org ws head.runs retention) c.args.tx.now c.add.new.tx (Ok tt) (steps_by g.S.Store (ws_added org ws head.runs retention) c.args.tx.now c.add.new.tx (Ok tt) c.in_ok-add.ensures.writes) (λ t. refl) in
    let numbered = paged_then g.S.Store c.args.tx.now c.add.new.tx c.put_counts.new.tx tt (Ok tt) begun (paged_by g.S.Store (counted_rows org ws head) c.add.new.tx c.put_counts.new.tx (Ok tt) c.in_ok-put_counts.ensures (λ t. refl)) in
    let freed = paged_then g.S.Store c.args.tx.now c.put_counts.new.tx c.put_released.new.tx tt (Ok tt) numbered
    (paged_made g.S.Store (released_rows org ws head.released) c.put_counts.new.tx c.put_released.new.tx (Ok tt) c.in_ok-put_released.ensures (released_pages org ws head.released)) in
    paged_then g.S.Store c.args.tx.now c.put_released.new.tx c.put_holder.new.tx tt c.put_holder.result freed
    (paged_made g.S.Store (held_rows org ws head.holder) c.put_released.new.tx c.put_holder.new.tx c.put_holder.result c.put_holder.ensures (held_pages org ws head.holder))
