use Rattle.checks.proofs.Outside.{◌∙◌, ◌++◌, ◌∷◌, [], ap, map-append}
use Rattle.checks.specs.Inner.Groups.{lent}
use Rattle.checks.proofs.GroupLemmas.{put_back}
use Rattle.checks.proofs.groups.add.Goals as goal

pub returns : goal.returns
returns g c =
    let it = c.args.it in
    put_back c.args.key it.now c.push.new.self c.args.groups.now c.take-group.new.groups c.insert.new.self
    (ap lent c.in_ok-push.ensures.items ∙ map-append (λ r. r.now) c.take-group.result.items (it ∷ []) ∙ ap (λ l. l ++ it.now ∷ []) c.take-group.ensures.taken)
    c.take-group.ensures.others c.in-Ok.ensures.updates.0
