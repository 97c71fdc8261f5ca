use Rattle.std.proofs.Common.{rules, inr}
use Rattle.program.specs.declared.exits.Exit.{Exit}
use Rattle.program.specs.declared.exits.Exit.TheVariants.{Down}
use Rattle.program.specs.Outcomes.{ReplaysFrames, stream, error_stream}
use Rattle.program.proofs.OutcomeLemmas.{said, replayed}
use Rattle.program.proofs.replays.replay_frames.Goals as goal

pub returns-in_default-clause-replays : goal.returns-in_default-clause-replays
returns-in_default-clause-replays g c =
    said (λ (e : Exit). ReplaysFrames (g.I.Read.remaining c.args.input.now) e (stream (g.O.Write.contents c.args.output.now) (g.O.Write.contents c.refuse.new.output)) (error_stream (g.E.ErrorStream.reported c.args.errors.now) (g.E.ErrorStream.reported c.refuse.new.errors)))
    Down c.refuse.result _ _ (λ h. (h, c.refuse.ensures.why)) tt c.refuse.ensures.said

pub returns-in-Ok-print_all-clause-replays : goal.returns-in-Ok-print_all-clause-replays
returns-in-Ok-print_all-clause-replays g c =
    replayed (g.I.Read.remaining c.args.input.now) c.in-Ok.replay.replies.items c.in-Ok.replay.bad_frame c.end_at.result _ _ c.in-Ok.ensures.answers (search rules) c.end_at.ensures.done c.end_at.ensures.bad

pub returns-clause-replays : goal.returns-clause-replays
returns-clause-replays g c = tt

pub returns-in_default-clause-input : goal.returns-in_default-clause-input
returns-in_default-clause-input g c = inr (c.refuse.ensures.said, c.refuse.ensures.why)
