use Rattle.std.proofs.Common.{◌≡◌, Some, true, false, is_some, ap, ◌∙◌, arith}
use Rattle.docs.specs.Inner.Heads.{object_in}
use Rattle.docs.proofs.Heading.{object_whole, object_and_more, object_refused, one_left, none_left}
use Rattle.docs.proofs.heads.read_root.Goals as goal

pub returns-in_err-head-clause-err : goal.returns-in_err-head-clause-err
returns-in_err-head-clause-err c = let none = ap object_in c.in_ok-open.ensures.ok ∙ object_refused _ c.in_err-head.ensures.err in grind (arith, none)

pub returns-then-is_some-clause-err : goal.returns-then-is_some-clause-err
returns-then-is_some-clause-err c =
    let done = c.in_ok-head.ensures.ok in
    let some : is_some c.next.result ≡ true = grind arith in
    let more = one_left c.next.result _ _ c.next.ensures.value some in
    ap object_in c.in_ok-open.ensures.ok ∙ object_and_more _ more.1 more.0 done.0 (done.1 ∙ ap (λ ts. Some (done.0, ts)) more.2)

pub returns-clause-ok : goal.returns-clause-ok
returns-clause-ok c =
    let done = c.in_ok-head.ensures.ok in
    let some : is_some c.next.result ≡ false = grind arith in
    let none = none_left c.next.result _ _ c.next.ensures.value some in
    (done.0, ap object_in c.in_ok-open.ensures.ok ∙ object_whole _ done.0 (done.1 ∙ ap (λ ts. Some (done.0, ts)) none), done.2)
