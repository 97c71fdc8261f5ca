use Rattle.docs.proofs.Outside.{Some, ap, on_ok_weaker}
use Rattle.docs.specs.Bodies.{number_value, text_value}
use Rattle.docs.proofs.Putting.{put_as, then_put}
use Rattle.docs.proofs.logs.put_asked.Goals as goal

pub returns : goal.returns
returns c =
    let row = c.args.row.now in
    on_ok_weaker c.put_text-2.result (λ put.
    then_put (put_as (ap text_value c.act_word.ensures) c.in_ok-put_text.ensures) (
    then_put (put_as (ap (λ n. number_value (Some n)) c.seconds.ensures.value) c.in_ok-put_number.ensures) (
    then_put c.in_ok-put_number-2.ensures
    put))) c.put_text-2.ensures
