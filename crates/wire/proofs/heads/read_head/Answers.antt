use Rattle.std.proofs.Common.{◌≡◌, ◌<◌, ◌≤◌, ◌++◌, ◌∙◌, ℕ, ◌+◌, List, Some, true, not, cond, ap, refl, is_ok, take, drop, length, arith, length-append, length-take}
use Rattle.std.proofs.lemmas.List.{take-append-le}
use Rattle.std.proofs.KnownBytes.{Consumes-trans, Consumes-kept}
use Rattle.wire.specs.Heads.{head_len}
use Rattle.wire.proofs.HeadLemmas.{head_end_some, head_end_short, head_end_long, passes_none, passes_end}
use Rattle.wire.proofs.heads.read_head.Goals as goal

pub returns-in_default-clause-found : goal.returns-in_default-clause-found
returns-in_default-clause-found g c =
    let few : length c.reading.bytes.items < 16_384 = omega (arith, c.reading-test.true, c.len.ensures) in (
      c.reading.bytes.items,
      Consumes-kept _ _ _ c.reading.bytes.items c.reading.invariant.received c.in_default.ensures.bytes,
      head_end_short c.reading.bytes.items (passes_none c.reading.bytes.items c.reading.position c.reading.invariant.goes) few,
    )

pub returns-then-is_err-clause-found : goal.returns-then-is_err-clause-found
returns-then-is_err-clause-found g c =
    (c.reading.bytes.items ++ take c.in-Ok.count c.read.new.buf, Consumes-trans _ _ _ _ _ c.reading.invariant.received c.in-Ok.ensures.bytes.0, tt)

pub returns-in-Some-clause-found : goal.returns-in-Some-clause-found
returns-in-Some-clause-found g c =
    let received : List ℕ = c.reading.bytes.items in
    let n : ℕ = c.in-Ok.count in
    let got : List ℕ = c.read.new.buf in
    let piece : List ℕ = take n (got ++ drop c.min-room.result c.reading.chunk) in
    let grown : is_ok c.extend_from_slice.result ≡ true = c.is_err.ensures.negation ∙ ap not c.if-is_err.false in
    let same : piece ≡ take n got = take-append-le n got (drop c.min-room.result c.reading.chunk) (omega (arith, c.in-Ok.ensures.bound)) in
    let items : c.new.result ≡ received ++ take n got =
    c.new.ensures ∙ c.extend_from_slice.ensures.items ∙ ap (λ b. cond b (received ++ piece) received) grown ∙ ap (λ z. received ++ z) same in
    let len : c.len-before.result ≡ length received = omega (arith, c.len-before.ensures) in
    let end : head_len (received ++ piece) ≡ Some (length received + c.in-Some.end) =
    passes_end received piece c.reading.position c.in-Some.end c.reading.invariant.goes c.in-Some.ensures.end in
    let in_piece : c.in-Some.end ≤ length piece = c.in-Some.ensures.within in
    let in_all : c.len-before.result + c.in-Some.end ≤ length (received ++ take n got) = omega (arith, len, length-append received (take n got), ap length same, in_piece) in
    let room : length got ≡ length (take c.min-room.result c.reading.chunk) = c.read.auto.buf in
    let few : length received + c.in-Some.end ≤ 16_384 = omega (arith, in_piece, ap length same, length-take n got, room, length-take c.min-room.result c.reading.chunk, c.min-room.ensures, c.len-in-reading.ensures, c.in-Ok.ensures.bound, c.reading-test.true) in (
      received ++ take n got,
      Consumes-trans _ _ _ _ _ c.reading.invariant.received c.in-Ok.ensures.bytes.0,
      (items, rw len (head_end_some (received ++ take n got) (length received + c.in-Some.end) (rw same at end) few), in_all),
    )

pub returns-clause-found : goal.returns-clause-found
returns-clause-found g c =
    let many : 16_384 ≤ length c.reading.bytes.items = omega (arith, c.reading-test.false, c.len.ensures) in
    (c.reading.bytes.items, c.reading.invariant.received, (refl, refl, head_end_long c.reading.bytes.items (passes_none c.reading.bytes.items c.reading.position c.reading.invariant.goes) many))
