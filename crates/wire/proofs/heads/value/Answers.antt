use Rattle.std.proofs.Common.{Option, Some, Bor, option_map, length, sym, ap, ◌∙◌}
use Rattle.std.specs.Option.{option_copied}
use Rattle.httparse.specs.declared.spans.HeaderSpan.{HeaderSpan}
use Rattle.httparse.specs.Spans.{span_bytes, header_bytes, IsHeaderWithin}
use Rattle.wire.specs.Fields.{is_named}
use Rattle.wire.proofs.FieldLemmas.{found_within, value_found}
use Rattle.wire.proofs.heads.value.Goals as goal

pub of-requires-clause-ordered : goal.of-requires-clause-ordered
of-requires-clause-ordered c =
    (found_within (IsHeaderWithin (length c.args.head.now)) (λ span. is_named c.args.name.now (header_bytes c.args.head.now span)) c.args.fields.now _ c.requires (sym c.first_named.ensures ∙ ap option_copied c.in-Some.is)).1.0

pub of-requires-clause-in_range : goal.of-requires-clause-in_range
of-requires-clause-in_range c =
    (found_within (IsHeaderWithin (length c.args.head.now)) (λ span. is_named c.args.name.now (header_bytes c.args.head.now span)) c.args.fields.now _ c.requires (sym c.first_named.ensures ∙ ap option_copied c.in-Some.is)).1.1

pub returns-in-Some : goal.returns-in-Some
returns-in-Some c =
    let head = c.args.head.now in
    ap Some c.of.ensures ∙ ap (λ (o : Option (Bor HeaderSpan)). option_map (λ (span : HeaderSpan). span_bytes head span.value) (option_copied o)) (sym c.in-Some.is)
    ∙ value_found head c.args.name.now c.args.fields.now (option_copied c.first_named.result) c.stands_twice.result c.stands_twice.ensures c.if-stands_twice.false c.first_named.ensures

pub returns-in-None : goal.returns-in-None
returns-in-None c =
    let head = c.args.head.now in
    ap (λ (o : Option (Bor HeaderSpan)). option_map (λ (span : HeaderSpan). span_bytes head span.value) (option_copied o)) (sym c.in-None.is)
    ∙ value_found head c.args.name.now c.args.fields.now (option_copied c.first_named.result) c.stands_twice.result c.stands_twice.ensures c.if-stands_twice.false c.first_named.ensures
