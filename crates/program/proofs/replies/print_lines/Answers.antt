use Rattle.std.proofs.Common.{codes}
use Rattle.std.proofs.lemmas.Result.{on_ok_weaker}
use Rattle.std.proofs.KnownBytes.{Appends-trans}
use Rattle.program.specs.Totals.{totals_line}
use Rattle.program.proofs.replies.print_lines.Goals as goal

pub returns : goal.returns
returns g c = on_ok_weaker c.print_totals.result (λ counted.
    Appends-trans (g.O.Write.contents c.args.output.now) (g.O.Write.contents c.write_all.new.self) (g.O.Write.contents c.print_totals.new.output) (codes "ok\n") (totals_line c.args.totals.now) c.in_ok-write_all.ensures.bytes counted)
    c.print_totals.ensures
