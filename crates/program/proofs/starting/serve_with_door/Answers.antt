use Rattle.std.proofs.Common.{rules, refl, sym, inl, inr}
use Rattle.program.specs.Listening.{bound_site}
use Rattle.command_line.specs.Orders.{site_of}
use Rattle.program.specs.Batches.{bad_text}
use Rattle.program.specs.Outcomes.{stream, error_stream}
use Rattle.program.specs.Streams.{Reports}
use Rattle.program.proofs.InputLemmas.{read_if}
use Rattle.program.proofs.OperatorLemmas.{has_door, refused_door, refused_long}
use Rattle.program.proofs.OutcomeLemmas.{served_among, site_given}
use Rattle.program.proofs.starting.serve_with_door.Goals as goal

pub returns-in-Ok-clause-line : goal.returns-in-Ok-clause-line
returns-in-Ok-clause-line g c = inl (has_door c.args.operates (g.I.Read.remaining c.args.input.now) c.in-Ok.door c.in-Ok.ensures.opens, served_among (site_given g.N.Connections (site_of c.args.address) (bound_site c.listen-bound.result) c.args.network.now c.listen-bound.new.network c.listen-bound.ensures) c.args.logs c.start_at.result (stream (g.O.Write.contents c.args.output.now) (g.O.Write.contents c.start_at.new.output)) c.start_at.ensures.line)

pub returns-in-Ok-clause-serves : goal.returns-in-Ok-clause-serves
returns-in-Ok-clause-serves g c = inl (c.in-Ok.door, c.in-Ok.ensures.opens, bound_site c.listen-bound.result, c.listen-bound.new.network, c.listen-bound.ensures, c.start_at.ensures.starts)

pub returns-in-Ok-clause-input : goal.returns-in-Ok-clause-input
returns-in-Ok-clause-input g c = read_if c.args.operates _ _ _ _ _ (search rules)

pub returns-in-Err-Line-clause-line : goal.returns-in-Err-Line-clause-line
returns-in-Err-Line-clause-line g c =
    let out = g.O.Write.contents in
    let err = g.E.ErrorStream.reported in
    let reported : Reports (err c.args.errors.now) (err c.refuse_line.new.errors) (bad_text c.in-Err-Line.number c.in-Err-Line.fault) =
    rw (sym c.in-Err-Line.number-is) (rw (sym c.in-Err-Line.fault-is) c.refuse_line.ensures.reported) in
    inr (
      c.in-Err-Line.ensures.asked,
      inl (refused_door c.args.operates (g.I.Read.remaining c.args.input.now) c.in-Err-Line.field-0 c.in-Err-Line.number c.in-Err-Line.fault c.refuse_line.result
          (stream (out c.args.output.now) (out c.refuse_line.new.output)) (error_stream (err c.args.errors.now) (err c.refuse_line.new.errors)) c.in-Err-Line.ensures.opens c.in-Err-Line.field-0-is c.refuse_line.ensures.said reported),
    )

pub returns-in-Err-Line-clause-serves : goal.returns-in-Err-Line-clause-serves
returns-in-Err-Line-clause-serves g c =
    let out = g.O.Write.contents in
    let err = g.E.ErrorStream.reported in
    let reported : Reports (err c.args.errors.now) (err c.refuse_line.new.errors) (bad_text c.in-Err-Line.number c.in-Err-Line.fault) =
    rw (sym c.in-Err-Line.number-is) (rw (sym c.in-Err-Line.fault-is) c.refuse_line.ensures.reported) in
    inr (
      c.in-Err-Line.ensures.asked,
      refl,
      inl (refused_door c.args.operates (g.I.Read.remaining c.args.input.now) c.in-Err-Line.field-0 c.in-Err-Line.number c.in-Err-Line.fault c.refuse_line.result
          (stream (out c.args.output.now) (out c.refuse_line.new.output)) (error_stream (err c.args.errors.now) (err c.refuse_line.new.errors)) c.in-Err-Line.ensures.opens c.in-Err-Line.field-0-is c.refuse_line.ensures.said reported),
    )

pub returns-in-Err-Long-clause-line : goal.returns-in-Err-Long-clause-line
returns-in-Err-Long-clause-line g c =
    let out = g.O.Write.contents in
    let err = g.E.ErrorStream.reported in
    inr (
      c.in-Err-Long.ensures.asked,
      inl (refused_long c.args.operates (g.I.Read.remaining c.args.input.now) c.in-Err-Long.field-0 c.say_why.result
          (stream (out c.args.output.now) (out c.say_why.new.output)) (error_stream (err c.args.errors.now) (err c.say_why.new.errors)) c.in-Err-Long.ensures.opens c.in-Err-Long.field-0-is (c.say_why.ensures.said (search rules)) c.say_why.ensures.reported),
    )

pub returns-in-Err-Long-clause-serves : goal.returns-in-Err-Long-clause-serves
returns-in-Err-Long-clause-serves g c =
    let out = g.O.Write.contents in
    let err = g.E.ErrorStream.reported in
    inr (
      c.in-Err-Long.ensures.asked,
      refl,
      inl (refused_long c.args.operates (g.I.Read.remaining c.args.input.now) c.in-Err-Long.field-0 c.say_why.result
          (stream (out c.args.output.now) (out c.say_why.new.output)) (error_stream (err c.args.errors.now) (err c.say_why.new.errors)) c.in-Err-Long.ensures.opens c.in-Err-Long.field-0-is (c.say_why.ensures.said (search rules)) c.say_why.ensures.reported),
    )
