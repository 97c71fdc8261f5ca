use Rattle.docs.proofs.ReadingLemmas.{settings_law}
use Rattle.docs.proofs.documents.read_settings.Goals as goal

pub returns-in_err-value-clause-law : goal.returns-in_err-value-clause-law
returns-in_err-value-clause-law c = settings_law c.args.bytes.now

pub returns-in_err-retention-clause-law : goal.returns-in_err-retention-clause-law
returns-in_err-retention-clause-law c = settings_law c.args.bytes.now

pub returns-clause-law : goal.returns-clause-law
returns-clause-law c = settings_law c.args.bytes.now
