use Rattle.docs.proofs.Outside.{rules, ap, Some, on_ok_weaker, string, no_members}
use Rattle.docs.specs.Bodies.{number_value}
use Rattle.docs.specs.RunSettings.{run_settings_members}
use Rattle.docs.proofs.Putting.{members_put, put_as, then_put, number_made}
use Rattle.docs.proofs.bodies.WsRowShown.put.Goals as goal

pub returns : goal.returns
returns c =
    let row = c.args.self.now in
    on_ok_weaker c.put_number-2.result (λ put.
    then_put (members_put (run_settings_members row.settings.runs no_members) c.in_ok-put_run_settings.ensures.before c.in_ok-put_run_settings.ensures.tokens) (
    then_put c.in_ok-put_holder.ensures (
    then_put (put_as (ap (λ n. number_value (Some n)) (search rules)) c.in_ok-put_number.ensures) (
    then_put (put_as (ap string c.as_str.ensures.text) c.in_ok-put_text.ensures)
    (put_as (ap number_value (number_made row.version c.map.result _ c.map.ensures.cases (λ x y k. search rules))) put))))) c.put_number-2.ensures
