use Rattle.checks.proofs.Outside.{rules, ◌≡◌, get}
use Rattle.std.specs.Prelude.{None}
use Rattle.checks.specs.Inner.Firsts.{key_cmp}
use Rattle.checks.proofs.FirstsLemmas.{keeps_new}
use Rattle.checks.proofs.firsts.keep_first.Goals as goal

pub returns-in-Ok : goal.returns-in-Ok
returns-in-Ok g c =
    let absent : get key_cmp c.args.map.now c.args.key ≡ None = search rules in
    keeps_new c.args.key c.args.value c.args.map.now c.insert.new.self absent c.in-Ok.ensures.updates.0
