use Rattle.std.proofs.Common.{refl}
use Rattle.statements.specs.Rows.{kept_by, retention_row_at}
use Rattle.statements.proofs.Held.{retentions}
use Rattle.statements.proofs.Wholes.{scans}
use Rattle.statements.proofs.ScanTexts.{all_retentions_asks}
use Rattle.statements.proofs.scans.retentions.Goals as goal

pub returns : goal.returns
returns g c = scans g.S.Store retentions c.args.conn.now c.scan.new.conn c.scan.result all_retentions_asks (kept_by retention_row_at) (λ x. refl) (c.scan.ensures all_retentions_asks.is_query)
