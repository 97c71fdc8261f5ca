use Rattle.statements.proofs.Decoding.{ws_back}
use Rattle.statements.specs.Rows.{kept_by, ws_at}
use Rattle.statements.proofs.Held.{wss}
use Rattle.statements.proofs.Wholes.{scans}
use Rattle.statements.proofs.ScanTexts.{all_wss_asks}
use Rattle.statements.proofs.scans.wss.Goals as goal

pub returns : goal.returns
returns g c = scans g.S.Store wss c.args.conn.now c.scan.new.conn c.scan.result all_wss_asks (kept_by ws_at) ws_back (c.scan.ensures all_wss_asks.is_query)
