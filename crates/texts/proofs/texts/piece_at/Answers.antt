use Rattle.texts.proofs.Outside.{take, sym, ap, ◌∙◌, take_all}
use Rattle.texts.proofs.texts.piece_at.Goals as goal

pub returns-then-rest-le-PAGE_BYTES : goal.returns-then-rest-le-PAGE_BYTES
returns-then-rest-le-PAGE_BYTES c = sym (take_all 16_384 c.split_at.result.1.now c.if-rest-le-PAGE_BYTES.true) ∙ ap (take 16_384) c.split_at.ensures.back
