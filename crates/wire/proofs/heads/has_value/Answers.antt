use Rattle.std.proofs.Common.{◌∙◌, rules, tests}
use Rattle.std.proofs.lemmas.Iterator.{YieldsList-from_slice}
use Rattle.std.proofs.lemmas.Iterator.Search.{any_from_yields_List}
use Rattle.httparse.specs.Spans.{header_bytes}
use Rattle.wire.specs.Fields.{is_field}
use Rattle.wire.proofs.FieldLemmas.{any_at}
use Rattle.wire.proofs.heads.has_value.Goals as goal

pub returns : goal.returns
returns c =
    any_from_yields_List (λ span. is_field c.args.name.now c.args.wanted.now (header_bytes c.args.head.now span)) _ _ c.any.result c.any.ensures.ran (YieldsList-from_slice c.args.fields.now cc) (λ x b q k. search (rules, tests))
    ∙ any_at c.args.head.now (is_field c.args.name.now c.args.wanted.now) c.args.fields.now
