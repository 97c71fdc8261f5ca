use Rattle.std.proofs.Common.{◌∙◌, ap, sym}
use Rattle.machine.specs.declared.keeps.AdminAnswer.TheVariants.{Organizations}
use Rattle.program.proofs.CopyLemmas.{by_list, copies_as}
use Rattle.program.proofs.copying.copy_listed.Goals as goal

pub returns-in-Organizations : goal.returns-in-Organizations
returns-in-Organizations g c =
    copies_as g.K.Keep _ _ c.args.from.now c.copy_each.new.from c.args.to.now c.copy_each.new.to
    (λ source before after copies. by_list source before after c.args.listed.now c.as_slice.result.now c.copy_each.result (c.in-Organizations.is ∙ ap Organizations (sym c.as_slice.ensures)) copies) c.copy_each.ensures
