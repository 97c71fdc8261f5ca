use Rattle.std.proofs.Common.{◌≡◌, ◌≤◌, length, drop, refl, arith, ◌∙◌, ap}
use Rattle.std.specs.List.{position_or_len}
use Rattle.wire.specs.Targets.{ends_host}
use Rattle.wire.proofs.TargetLemmas.{host_end}
use Rattle.wire.proofs.heads.origin.Goals as goal

pub range_from-requires : goal.range_from-requires
range_from-requires c _ =
    let here : c.host_len-host.result ≡ position_or_len ends_host (drop 7 c.args.target.now) =
    c.host_len-host.ensures.position ∙ ap (position_or_len ends_host) (c.split_at.ensures.back ∙ ap (drop 7) c.as_bytes-bytes.ensures.value) in
    let long : 7 ≤ length c.args.target.now = omega (arith, c.if-not-begins_with_scheme.ensures.long refl, c.as_bytes-bytes.ensures.len) in
    host_end c.args.target.now c.host_len-host.result here long
