use Rattle.docs.proofs.Outside.{ap, on_ok_weaker, string}
use Rattle.docs.proofs.Putting.{put_as, then_put}
use Rattle.docs.proofs.bodies.put_run_holder.Goals as goal

pub returns : goal.returns
returns c =
    on_ok_weaker c.put_text-5.result (λ put.
    then_put c.in_ok-put_run_id.ensures (
    then_put c.in_ok-put_text.ensures (
    then_put c.in_ok-put_text-2.ensures (
    then_put (put_as (ap string c.as_str.ensures.text) c.in_ok-put_text-3.ensures) (
    then_put c.in_ok-put_text-4.ensures
    (put_as (ap string c.as_str-2.ensures.text) put)))))) c.put_text-5.ensures
