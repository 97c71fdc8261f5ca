use Rattle.tables.proofs.Outside.{rules, ◌≡◌, Ok, with_next_version, with_next_run, ws_changed, steps_by, steps_then}
use Rattle.tables.proofs.copies.put_counts.Goals as goal

pub returns : goal.returns
returns g c =
    let org = c.args.org.now in
    let ws = c.args.ws.now in
    let version : c.in-Ok.version ≡ c.args.head.now.next_version = search rules in
    let run : c.in-Ok-try_from.run' ≡ c.args.head.now.next_run = search rules in
    let versions = ws_changed (with_next_version c.in-Ok.version) org ws in
    let runs = ws_changed (with_next_run c.in-Ok-try_from.run') org ws in
    let one = rw (version, run) at (
    steps_then g.S.Store versions runs c.args.tx.now c.set_next_version.new.tx c.set_next_run.new.tx c.in_ok-set_next_version.field-0 (Ok c.in_ok-set_next_run.field-0)
    (steps_by g.S.Store versions c.args.tx.now c.set_next_version.new.tx (Ok c.in_ok-set_next_version.field-0) c.in_ok-set_next_version.ensures.writes)
    (steps_by g.S.Store runs c.set_next_version.new.tx c.set_next_run.new.tx (Ok c.in_ok-set_next_run.field-0) c.in_ok-set_next_run.ensures.writes)) in
    record { same_reference = one.same_reference; changed = one.changed; so_far = one.so_far; shield = one.shield }
