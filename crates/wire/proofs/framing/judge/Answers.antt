use Rattle.std.proofs.Common.{rules}
use Rattle.wire.specs.Inner.Spans.{parts_at}
use Rattle.wire.proofs.FrameLemmas.{refuses_target, refuses_frame, refuses_chunks, refuses_length, takes_all}
use Rattle.wire.proofs.framing.judge.Goals as goal

pub returns-in_default : goal.returns-in_default
returns-in_default c =
    refuses_target (parts_at c.args.method.now c.args.target.now c.args.minor c.args.head.now c.args.fields.now) c.is_head_method-is_head.result
    c.is_head_method-is_head.ensures (search rules)

pub returns-then-are_misframed : goal.returns-then-are_misframed
returns-then-are_misframed c =
    refuses_frame (parts_at c.args.method.now c.args.target.now c.args.minor c.args.head.now c.args.fields.now) _ c.is_head_method-is_head.result
    c.is_head_method-is_head.ensures c.in-Some.ensures c.if-are_misframed.ensures

pub returns-then-is_there : goal.returns-then-is_there
returns-then-is_there c =
    refuses_chunks (parts_at c.args.method.now c.args.target.now c.args.minor c.args.head.now c.args.fields.now) _ c.is_head_method-is_head.result
    c.is_head_method-is_head.ensures c.in-Some.ensures c.if-are_misframed.ensures c.if-is_there.ensures

pub returns-in-Refuses : goal.returns-in-Refuses
returns-in-Refuses c =
    refuses_length (parts_at c.args.method.now c.args.target.now c.args.minor c.args.head.now c.args.fields.now) _ c.is_head_method-is_head.result _ _ _
    c.is_head_method-is_head.ensures c.in-Some.ensures c.if-are_misframed.ensures c.if-is_there.ensures c.value.ensures c.max_body.ensures.value c.in-Refuses.ensures

pub returns-in-Ok : goal.returns-in-Ok
returns-in-Ok c =
    takes_all (parts_at c.args.method.now c.args.target.now c.args.minor c.args.head.now c.args.fields.now) _ c.in-Ok.frame _ _
    c.in-Some.ensures c.if-are_misframed.ensures c.if-is_there.ensures c.value.ensures c.max_body.ensures.value c.in-Of.ensures.0 (c.in-Ok.ensures c.args.target.now)
