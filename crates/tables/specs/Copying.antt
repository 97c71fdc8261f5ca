-- Copying an organization from one store to another.
use Rattle.std.specs.Prelude.{◌≡◌, Option, None, is_some, true}
use Rattle.machine.specs.declared.keeps.AdminAnswer.{AdminAnswer}
use Rattle.machine.specs.declared.keeps.AdminAnswer.TheVariants.{Done, Exists, Absent, InUse, Organizations, Tokens}
use Rattle.machine.specs.declared.records.Organization.{Organization}

-- The answer, by the organization's record in the store that it is copied from, and its record in the other store before and after. It has
-- to exist in the first, and not in the other.
abbrev pub IsCopied : AdminAnswer → Option Organization → Option Organization → Option Organization → Type 0
IsCopied Done from before after = (is_some from ≡ true) × (before ≡ None) × (after ≡ from)
IsCopied Exists from before after = (is_some from ≡ true) × (is_some before ≡ true) × (after ≡ before)
IsCopied Absent from before after = (from ≡ None) × (after ≡ before)
IsCopied InUse from before after = ⊥
IsCopied (Organizations rows) from before after = ⊥
IsCopied (Tokens rows) from before after = ⊥
