use Rattle.std.proofs.Common.{refl}
use Rattle.statements.specs.Rows.{kept_by, number_at}
use Rattle.statements.proofs.Held.{metas}
use Rattle.statements.proofs.Wholes.{scans}
use Rattle.statements.proofs.ScanTexts.{all_metas_asks}
use Rattle.statements.proofs.scans.metas.Goals as goal

pub returns : goal.returns
returns g c = scans g.S.Store metas c.args.conn.now c.scan.new.conn c.scan.result all_metas_asks (kept_by (λ r. number_at r 1)) (λ x. refl) (c.scan.ensures all_metas_asks.is_query)
