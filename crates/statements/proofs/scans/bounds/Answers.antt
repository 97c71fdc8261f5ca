use Rattle.statements.proofs.Decoding.{bound_back}
use Rattle.statements.specs.Rows.{kept_by, bound_at}
use Rattle.statements.proofs.Held.{bounds}
use Rattle.statements.proofs.Wholes.{scans}
use Rattle.statements.proofs.ScanTexts.{all_bounds_asks}
use Rattle.statements.proofs.scans.bounds.Goals as goal

pub returns : goal.returns
returns g c = scans g.S.Store bounds c.args.conn.now c.scan.new.conn c.scan.result all_bounds_asks (kept_by bound_at) bound_back (c.scan.ensures all_bounds_asks.is_query)
