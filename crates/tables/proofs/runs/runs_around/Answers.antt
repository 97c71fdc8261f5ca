use Rattle.tables.proofs.Outside.{ℕ, Option, cond, Error, RunStatus, needed_of, if_needed, first_waiting_of, open_runs_of}
use Rattle.basis.specs.declared.rows.RunRow.{RunRow as Run}
use Rattle.tables.specs.Inner.Units.{holder_status_in, asked_run_in}
use Rattle.tables.specs.declared.runs.RunsAround.{RunsAround}
use Rattle.tables.proofs.KeepFound.{seen_four}
use Rattle.tables.proofs.runs.runs_around.Goals as goal

make : Option RunStatus → Option ℕ → Option Run → ℕ → RunsAround
make status waiting run runs = record { holder_status = status; first_waiting = waiting; asked_run = run; open_runs = runs }

pub returns : goal.returns
unfolding make
returns g c =
    let org = c.args.org.now in
    let ws = c.args.ws.now in
    let need = needed_of c.args.needs.now in
    record {
      unchanged = seen_four g.S.Store Error Error Error Error Error (λ t. if_needed need.holder_status (holder_status_in org ws c.args.holder.now t)) (λ t. if_needed need.waiting (first_waiting_of org ws t)) (asked_run_in need.run need.key org ws)
          (λ t. cond need.open_runs (open_runs_of org ws t) 0) make c.in_ok-holder_status.holder_status c.in_ok-first_waiting.first_waiting c.in_ok-asked_run.asked_run c.in_ok-open_runs.open_runs
          c.args.conn.now c.holder_status.new.conn c.first_waiting_if.new.conn c.asked_run.new.conn c.open_runs_if.new.conn
          c.in_ok-holder_status.ensures.unchanged c.in_ok-first_waiting.ensures.unchanged c.in_ok-asked_run.ensures.unchanged c.in_ok-open_runs.ensures.unchanged;
    }
