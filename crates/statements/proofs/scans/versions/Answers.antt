use Rattle.std.proofs.Common.{refl}
use Rattle.statements.specs.Rows.{kept_by, version_at}
use Rattle.statements.proofs.Held.{versions}
use Rattle.statements.proofs.Wholes.{scans}
use Rattle.statements.proofs.ScanTexts.{all_versions_asks}
use Rattle.statements.proofs.scans.versions.Goals as goal

pub returns : goal.returns
returns g c = scans g.S.Store versions c.args.conn.now c.scan.new.conn c.scan.result all_versions_asks (kept_by version_at) (λ x. refl) (c.scan.ensures all_versions_asks.is_query)
