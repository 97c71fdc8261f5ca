use Rattle.std.proofs.Common.{refl}
use Rattle.statements.specs.Rows.{kept_by, org_at}
use Rattle.statements.proofs.Held.{orgs}
use Rattle.statements.proofs.Wholes.{scans}
use Rattle.statements.proofs.ScanTexts.{all_orgs_asks}
use Rattle.statements.proofs.scans.orgs.Goals as goal

pub returns : goal.returns
returns g c = scans g.S.Store orgs c.args.conn.now c.scan.new.conn c.scan.result all_orgs_asks (kept_by org_at) (λ x. refl) (c.scan.ensures all_orgs_asks.is_query)
