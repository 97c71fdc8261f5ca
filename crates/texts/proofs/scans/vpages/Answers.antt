use Rattle.texts.proofs.Outside.{refl, kept_by, vpage_at, vpages}
use Rattle.statements.proofs.Wholes.{scans}
use Rattle.texts.proofs.PlaceScans.{all_places_asks}
use Rattle.texts.proofs.scans.vpages.Goals as goal

pub returns : goal.returns
returns g c = scans g.S.Store vpages c.args.conn.now c.scan.new.conn c.scan.result all_places_asks (kept_by vpage_at) (λ x. refl) (c.scan.ensures all_places_asks.is_query)
