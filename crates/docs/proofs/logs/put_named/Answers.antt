use Rattle.docs.proofs.Outside.{codes, rules, ap, on_ok_weaker}
use Rattle.docs.specs.Bodies.{number_value}
use Rattle.docs.proofs.Putting.{put_as, then_put, at_door_as, text_lent, number_made}
use Rattle.docs.proofs.logs.put_named.Goals as goal

pub returns : goal.returns
returns c =
    let row = c.args.row.now in
    on_ok_weaker c.put_text-2.result (λ put.
    then_put (put_as (text_lent row.id c.as_ref.result c.map.result _ c.as_ref.ensures.value c.map.ensures.cases (λ x y k. search rules)) c.in_ok-put_text.ensures) (
    then_put (put_as (ap number_value (number_made row.number c.map-2.result _ c.map-2.ensures.cases (λ x y k. search rules))) c.in_ok-put_number.ensures) (
    then_put (at_door_as row.at_door (codes "operator") row.operator c.as_ref-2.result c.map-3.result _ c.as_ref-2.ensures.value c.map-3.ensures.cases (λ x y k. search rules) c.in_ok-put_at_door.ensures)
    (put_as (text_lent row.organization c.as_ref-3.result c.map-4.result _ c.as_ref-3.ensures.value c.map-4.ensures.cases (λ x y k. search rules)) put)))) c.put_text-2.ensures
