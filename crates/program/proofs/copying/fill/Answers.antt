use Rattle.std.proofs.Common.{◌∙◌, sym}
use Rattle.program.proofs.CopyLemmas.{copies_none, some_stay, is_left}
use Rattle.program.proofs.copying.fill.Goals as goal

pub returns-then-not-lists_none : goal.returns-then-not-lists_none
returns-then-not-lists_none g c = copies_none g.K.Keep _ c.args.from.now c.args.to.now c.org_list.new.self c.in_ok-there.ensures.unchanged
    (λ clean sound same from. (some_stay from _ _ same, is_left from _ _ c.in_ok-there.there (c.in_ok-there.ensures.ok clean sound) (sym c.lists_none.ensures ∙ c.if-not-lists_none.true) same))
