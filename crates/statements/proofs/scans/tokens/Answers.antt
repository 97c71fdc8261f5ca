use Rattle.statements.proofs.Decoding.{token_back}
use Rattle.statements.specs.Rows.{kept_by, token_at}
use Rattle.statements.proofs.Held.{tokens}
use Rattle.statements.proofs.Wholes.{scans}
use Rattle.statements.proofs.ScanTexts.{all_tokens_asks}
use Rattle.statements.proofs.scans.tokens.Goals as goal

pub returns : goal.returns
returns g c = scans g.S.Store tokens c.args.conn.now c.scan.new.conn c.scan.result all_tokens_asks (kept_by token_at) token_back (c.scan.ensures all_tokens_asks.is_query)
