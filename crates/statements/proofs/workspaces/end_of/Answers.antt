use Rattle.std.proofs.Common.{◌∙◌, sym, ap, ap₂, ◌++◌, subst, ◌<◌, ◌-◌, ◌+◌, get_or, refl, length}
use Rattle.statements.proofs.Prefixes.{last_low, made_end}
use Rattle.statements.proofs.workspaces.end_of.Goals as goal

pub returns : goal.returns
returns c =
    let text = c.as_str-text.ensures.text in
    let fits = c.as_str-text.ensures.fits in
    let low = subst (λ n. n < 128) (sym (c.from.ensures ∙ ap (λ l. get_or l (length c.as_str-text.result.now - 1) 0 + 1) (c.as_bytes.ensures.value ∙ text))) (last_low c.args.prefix.now fits (length c.as_str-text.result.now - 1)) in
    c.in_ok-push.ensures.bytes ∙ ap₂ ◌++◌ (c.in_ok-end.ensures.ok ∙ c.range.ensures.value) (c.in_ok-push.ensures.ascii low)
    ∙ made_end c.args.prefix.now fits c.requires.some c.as_str-text.result.now _ c.as_bytes.result.now c.from.result text refl c.as_bytes.ensures.value c.from.ensures
