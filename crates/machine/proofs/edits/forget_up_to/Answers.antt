use Rattle.std.proofs.Common.{◌≡◌, ◌∙◌, List, nat_lt, filter, ap, rules}
use Rattle.std.proofs.lemmas.Fn.{filter_same}
use Rattle.machine.specs.declared.records.Version.{Version}
use Rattle.machine.proofs.edits.forget_up_to.Goals as goal

pub returns : goal.returns
returns c =
    let above = λ (v : Version). nat_lt c.args.last v.number in
    let same : c.versions.inside.items.items ≡ c.args.versions.now = search rules in
    filter_same _ above _ (λ x b f' k. search rules) _ _ c.retain.ensures.filtered ∙ ap (λ (l : List Version). filter above l) same
