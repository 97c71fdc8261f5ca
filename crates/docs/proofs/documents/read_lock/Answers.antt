use Rattle.docs.proofs.ReadingLemmas.{lock_law}
use Rattle.docs.proofs.documents.read_lock.Goals as goal

pub returns-in_err-value-clause-law : goal.returns-in_err-value-clause-law
returns-in_err-value-clause-law c = lock_law c.args.bytes.now

pub returns-in_err-read-in-Some-clause-law : goal.returns-in_err-read-in-Some-clause-law
returns-in_err-read-in-Some-clause-law c = lock_law c.args.bytes.now

pub returns-in-Some-clause-law : goal.returns-in-Some-clause-law
returns-in-Some-clause-law c = lock_law c.args.bytes.now

pub returns-clause-law : goal.returns-clause-law
returns-clause-law c = lock_law c.args.bytes.now
