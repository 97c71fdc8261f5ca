use Rattle.docs.specs.Bodies.{run_holder_text}
use Rattle.docs.proofs.Putting.{object_written}
use Rattle.docs.proofs.bodies.write_run_holder.Goals as goal

pub returns : goal.returns
unfolding run_holder_text
returns c = object_written c.in_ok-writer.ensures c.in_ok-put_run_holder.ensures c.in_ok-end_text.ensures
