use Rattle.docs.proofs.Outside.{rules, ap, Some, ◌∙◌, on_ok_weaker, string, action_word}
use Rattle.docs.specs.Bodies.{number_value, text_value}
use Rattle.docs.proofs.Putting.{put_as, then_put, text_made, text_lent, action_is}
use Rattle.docs.proofs.bodies.RunRowShown.put.Goals as goal

pub returns : goal.returns
returns c =
    let row = c.args.self.now in
    on_ok_weaker c.put_text-4.result (λ put.
    then_put (put_as (ap text_value (text_made row.action c.map.result action_word _ c.map.ensures.cases (λ x y k. search rules)) ∙ action_is row.action) c.in_ok-put_text.ensures) (
    then_put (put_as (ap (λ n. number_value (Some n)) c.seconds.ensures.value) c.in_ok-put_number.ensures) (
    then_put (put_as (text_lent row.key c.as_ref.result c.map-2.result _ c.as_ref.ensures.value c.map-2.ensures.cases (λ x y k. search rules)) c.in_ok-put_text-2.ensures) (
    then_put (put_as (ap string c.as_str.ensures) c.in_ok-put_text-3.ensures) (
    then_put (put_as (ap (λ n. number_value (Some n)) c.whole_number.ensures) c.in_ok-put_number-2.ensures) (
    then_put c.in_ok-put_flag.ensures.puts
    (put_as (ap string c.word.ensures) put))))))) c.put_text-4.ensures
