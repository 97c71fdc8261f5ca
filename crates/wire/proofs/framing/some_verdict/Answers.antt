use Rattle.std.proofs.Common.{◌≤◌, ◌<◌, arith}
use Rattle.httparse.specs.Spans.{IsRequestOf}
use Rattle.wire.specs.Heads.{feeds_of}
use Rattle.wire.proofs.FrameLemmas.{no_request}
use Rattle.wire.proofs.ExistenceLemmas.{judged_parts, judged_none, judged_crowded}
use Rattle.wire.proofs.framing.some_verdict.Goals as goal

pub returns-then-count-gt-MAX_FEEDS : goal.returns-then-count-gt-MAX_FEEDS
returns-then-count-gt-MAX_FEEDS c =
    let many : 66 < feeds_of c.args.head.now = omega (arith, c.if-count-gt-MAX_FEEDS.true, c.feeds-count.ensures) in
    judged_crowded c.args.head.now many

pub returns-in-Ok-Complete : goal.returns-in-Ok-Complete
returns-in-Ok-Complete c =
    let few : feeds_of c.args.head.now ≤ 66 = omega (arith, c.if-count-gt-MAX_FEEDS.false, c.feeds-count.ensures) in
    let of : IsRequestOf c.args.head.now c.parse_request.new.headers c.in-Ok-Complete._spans = rw c.in-Ok-Complete.field-0-is at c.in-Ok-Complete.ensures.complete in
    judged_parts c.args.head.now c.parse_request.new.headers c.in-Ok-Complete._spans few of

pub returns-in-Ok-Partial : goal.returns-in-Ok-Partial
returns-in-Ok-Partial c =
    let few : feeds_of c.args.head.now ≤ 66 = omega (arith, c.if-count-gt-MAX_FEEDS.false, c.feeds-count.ensures) in
    judged_none c.args.head.now few (rw c.in-Ok-Partial.field-0-is at c.in-Ok-Partial.ensures.partial)

pub returns-in-Err : goal.returns-in-Err
returns-in-Err c =
    let few : feeds_of c.args.head.now ≤ 66 = omega (arith, c.if-count-gt-MAX_FEEDS.false, c.feeds-count.ensures) in
    judged_none c.args.head.now few (no_request c.args.head.now few c.in-Err.ensures.no_room)
