use Rattle.statements.proofs.Decoding.{run_back}
use Rattle.statements.specs.Rows.{kept_by, run_at}
use Rattle.statements.proofs.Held.{runs}
use Rattle.statements.proofs.Wholes.{scans}
use Rattle.statements.proofs.ScanTexts.{all_runs_asks}
use Rattle.statements.proofs.scans.runs.Goals as goal

pub returns : goal.returns
returns g c = scans g.S.Store runs c.args.conn.now c.scan.new.conn c.scan.result all_runs_asks (kept_by run_at) run_back (c.scan.ensures all_runs_asks.is_query)
