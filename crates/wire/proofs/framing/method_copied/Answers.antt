use Rattle.std.proofs.Common.{ap, Err}
use Rattle.wire.proofs.FrameLemmas.{same_token}
use Rattle.wire.proofs.framing.method_copied.Goals as goal

pub unreachable-requires : goal.unreachable-requires
unreachable-requires c = c.in-Err-Invalid.ensures.invalid.0 (ap Err c.in-Err-Invalid.field-0-is) (same_token c.args.method.now c.requires)
