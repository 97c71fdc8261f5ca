use Rattle.docs.proofs.Putting.{shown_written}
use Rattle.docs.proofs.put.write_shown.Goals as goal

pub returns : goal.returns
returns g c = shown_written (g.T.Shown.members c.args.shown.now) c.in_ok-writer.ensures c.in_ok-put.ensures c.in_ok-end_text.ensures
