use Rattle.docs.proofs.ReadingLemmas.{ask_law}
use Rattle.docs.proofs.documents.read_run.Goals as goal

pub returns-in_err-value-clause-law : goal.returns-in_err-value-clause-law
returns-in_err-value-clause-law c = ask_law c.args.bytes.now

pub returns-in_err-key-clause-law : goal.returns-in_err-key-clause-law
returns-in_err-key-clause-law c = ask_law c.args.bytes.now

pub returns-in_err-message-clause-law : goal.returns-in_err-message-clause-law
returns-in_err-message-clause-law c = ask_law c.args.bytes.now

pub returns-clause-law : goal.returns-clause-law
returns-clause-law c = ask_law c.args.bytes.now
