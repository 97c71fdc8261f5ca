use Rattle.std.proofs.Common.{Some, sym, ap, ◌∙◌}
use Rattle.docs.proofs.Heading.{head_found, text_of}
use Rattle.docs.proofs.ReadingLemmas.{state_law}
use Rattle.docs.proofs.documents.read_state.Goals as goal

pub returns-in_err-head-clause-law : goal.returns-in_err-head-clause-law
returns-in_err-head-clause-law c = state_law c.args.bytes.now

pub returns-in_default-clause-law : goal.returns-in_default-clause-law
returns-in_default-clause-law c = state_law c.args.bytes.now

pub returns-in_default-lineage-clause-law : goal.returns-in_default-lineage-clause-law
returns-in_default-lineage-clause-law c = state_law c.args.bytes.now

pub returns-in_err-lineage-clause-law : goal.returns-in_err-lineage-clause-law
returns-in_err-lineage-clause-law c = state_law c.args.bytes.now

pub returns-clause-ok : goal.returns-clause-ok
returns-clause-ok c =
    let reported = c.in_ok-head.ensures.ok in
    head_found c.args.bytes.now reported.0 c.in_ok-head.head _ reported.1 reported.2 (sym c.serial.ensures ∙ c.in-Some.is) (ap text_of c.in-Some-lineage.is ∙ ap Some (sym c.in_ok-lineage.ensures))

pub returns-clause-law : goal.returns-clause-law
returns-clause-law c = state_law c.args.bytes.now
