use Rattle.docs.proofs.Outside.{ap, Some, on_ok_weaker, string}
use Rattle.docs.specs.Bodies.{number_value}
use Rattle.docs.proofs.Putting.{put_as, then_put}
use Rattle.docs.proofs.bodies.VersionRowShown.put.Goals as goal

pub returns : goal.returns
returns c =
    on_ok_weaker c.put_number-4.result (λ put.
    then_put (put_as (ap (λ n. number_value (Some n)) c.seconds.ensures.value) c.in_ok-put_number.ensures) (
    then_put (put_as (ap string c.as_str.ensures) c.in_ok-put_text.ensures) (
    then_put (put_as (ap (λ n. number_value (Some n)) c.whole_number.ensures) c.in_ok-put_number-2.ensures) (
    then_put (put_as (ap (λ n. number_value (Some n)) c.get.ensures.value) c.in_ok-put_number-3.ensures)
    put)))) c.put_number-4.ensures
