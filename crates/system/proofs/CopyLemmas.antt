-- What is answered where an organization is copied.
use Rattle.std.proofs.Common.{◌≡◌, ap, Option, Some, None, Result, Ok, Err, OnErr}
use Rattle.machine.specs.Effects.{effect}
use Rattle.machine.specs.declared.keeps.AdminAnswer.{AdminAnswer}
use Rattle.machine.specs.declared.keeps.AdminAnswer.TheVariants.{Done, Exists, Absent, InUse, Organizations, Tokens}
use Rattle.machine.specs.declared.records.Organization.{Organization}
use Rattle.program.specs.Moves.{org_copied}
use Rattle.tables.specs.Copying.{IsCopied}

-- what is answered and left is what the rule says
pub copied_by_rule : (answer : AdminAnswer) (from before after : Option Organization) → IsCopied answer from before after → effect answer after ≡ org_copied from before
copied_by_rule Done (Some o) None after c = ap (effect Done) c.2
copied_by_rule Done (Some o) (Some p) after c = absurd (cc c.1)
copied_by_rule Done None before after c = absurd (cc c.0)
copied_by_rule Exists (Some o) (Some p) after c = ap (effect Exists) c.2
copied_by_rule Exists (Some o) None after c = absurd (cc c.1)
copied_by_rule Exists None before after c = absurd (cc c.0)
copied_by_rule Absent None before after c = ap (effect Absent) c.1
copied_by_rule Absent (Some o) before after c = absurd (cc c.0)
copied_by_rule InUse from before after c = absurd c
copied_by_rule (Organizations rows) from before after c = absurd c
copied_by_rule (Tokens rows) from before after c = absurd c

-- what holds in any case holds where a call failed
pub on_failure : {X E P : Type 0} (result : Result X E) → P → OnErr result P
on_failure (Ok x) is = tt
on_failure (Err e) is = is
