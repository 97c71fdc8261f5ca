use Rattle.docs.proofs.Outside.{rules, ap, on_ok_weaker}
use Rattle.basis.specs.Refusals.{line_of}
use Rattle.docs.specs.Bodies.{number_value, text_value}
use Rattle.docs.proofs.Putting.{put_as, then_put, text_made, number_made}
use Rattle.docs.proofs.logs.put_outcome.Goals as goal

pub returns : goal.returns
returns c =
    let row = c.args.row.now in
    on_ok_weaker c.put_number-2.result (λ put.
    then_put (put_as (ap text_value (text_made row.refusal c.map.result (λ refusal. (line_of refusal).word) _ c.map.ensures.cases (λ x y k. search rules))) c.in_ok-put_text.ensures) (
    then_put (put_as (ap number_value (number_made row.run c.map-2.result _ c.map-2.ensures.cases (λ x y k. search rules))) c.in_ok-put_number.ensures)
    (put_as (ap number_value (number_made row.status c.map-3.result _ c.map-3.ensures.cases (λ x y k. search rules))) put))) c.put_number-2.ensures
