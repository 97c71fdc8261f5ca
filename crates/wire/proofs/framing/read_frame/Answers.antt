use Rattle.std.proofs.Common.{◌≤◌, drop, refl, arith}
use Rattle.httparse.specs.Spans.{IsRequestOf}
use Rattle.wire.specs.Heads.{feeds_of}
use Rattle.wire.specs.Framing.{malformed}
use Rattle.wire.proofs.FrameLemmas.{judged_head, no_request}
use Rattle.wire.proofs.framing.read_frame.Goals as goal

pub returns-in-Ok-Complete : goal.returns-in-Ok-Complete
returns-in-Ok-Complete c =
    let few : feeds_of c.args.head.now ≤ 66 = omega (arith, c.if-lines-gt-MAX_FEEDS.false, c.feeds-lines.ensures) in
    let of : IsRequestOf c.args.head.now c.parse_request.new.headers c.in-Ok-Complete.spans = rw c.in-Ok-Complete.field-0-is at c.in-Ok-Complete.ensures.complete in
    judged_head c.args.head.now of.0 (drop c.in-Ok-Complete.spans.len c.args.head.now) c.parsed.result few of.1.reads (c.parsed.ensures of.0 of.1)

pub returns-in-Ok-Partial : goal.returns-in-Ok-Partial
returns-in-Ok-Partial c =
    let few : feeds_of c.args.head.now ≤ 66 = omega (arith, c.if-lines-gt-MAX_FEEDS.false, c.feeds-lines.ensures) in
    (malformed, (few, rw c.in-Ok-Partial.field-0-is at c.in-Ok-Partial.ensures.partial), refl)

pub returns-in-Err : goal.returns-in-Err
returns-in-Err c =
    let few : feeds_of c.args.head.now ≤ 66 = omega (arith, c.if-lines-gt-MAX_FEEDS.false, c.feeds-lines.ensures) in
    (malformed, (few, no_request c.args.head.now few c.in-Err.ensures.no_room), refl)
