-- What happens to organizations that are copied from one store to another.
use Rattle.std.specs.Prelude.{◌≡◌, ◌≢◌, ◌⊎◌, ◌++◌, ℕ, List, [], ◌∷◌, Bool, true, false, Option, Some, None, Result, Ok, Err, ⊤}
use Rattle.machine.specs.Effects.{effect}
use Rattle.machine.specs.StoreCalls.{Unchanged}
use Rattle.machine.specs.declared.keeps.Keep as keep
use Rattle.machine.specs.Tokens.{Managed}
use Rattle.machine.specs.declared.keeps.AdminAnswer.{AdminAnswer}
use Rattle.machine.specs.declared.keeps.AdminAnswer.TheVariants.{Done, Exists, Absent, InUse, Organizations, Tokens}
use Rattle.machine.specs.declared.keeps.OrgRow.{OrgRow}
use Rattle.machine.specs.declared.records.Organization.{Organization}
use Rattle.machine.specs.Removal.{org_removed}
use Rattle.program.specs.declared.environment.CopyTask.{CopyTask}
use Rattle.program.specs.declared.environment.CopyTask.TheVariants.{Make, Compare}
use Rattle.basis.specs.declared.memory.Down.{Down}
use Rattle.serve.specs.Asks.{Ask, organization}
use Rattle.serve.specs.Steps.{own_said, own_record}
use Rattle.serve.specs.Service.{Stays, AreTexts, own_asks, replies_at, record_for}
use Rattle.serve.specs.Runs.{IsOwnMachine}

-- copying an organization: its record in the source, and its record in the target
abbrev pub org_copied : Option Organization → Option Organization → Managed
org_copied None there = effect Absent there
org_copied (Some o) None = effect Done (Some o)
org_copied (Some o) (Some p) = effect Exists (Some p)

-- its record in the target afterwards: the one that was there; if there was none, the source's
abbrev pub copied_into : Option Organization → Option Organization → Option Organization
copied_into from None = from
copied_into from (Some p) = Some p

-- `Done` says that both records are equal
abbrev pub SaysSame : AdminAnswer → Option Organization → Option Organization → Type 0
SaysSame Done from there = from ≡ there
SaysSame Exists from there = ⊤
SaysSame Absent from there = ⊤
SaysSame InUse from there = ⊤
SaysSame (Organizations rows) from there = ⊤
SaysSame (Tokens rows) from there = ⊤

-- an organization is copied (`Make`), or its two records are compared: its record in the source, and its record in the target before and after
abbrev pub AnswersTask : CopyTask → AdminAnswer → (from there new : Option Organization) → Type 0
AnswersTask Make answer from there new = effect answer new ≡ org_copied from there
AnswersTask Compare answer from there new = (new ≡ there) × SaysSame answer from there

-- an organization is removed that has the same record in the source, and every other record is unchanged. Or its records differ (`None`), or
-- an allocation or a store failed, and none is changed
abbrev pub RemovesSame : Bool → List ℕ → Result (Option AdminAnswer) Down → (from old new : List ℕ → Option Organization) → Type 0
RemovesSame is_forced org (Ok (Some answer)) from old new =
    (from org ≡ old org) × (effect answer (new org) ≡ org_removed is_forced (old org)) × ((other : List ℕ) → other ≢ org → new other ≡ old other)
RemovesSame is_forced org (Ok None) from old new = Stays old new
RemovesSame is_forced org (Err refused) from old new = Stays old new

-- an organization is copied in this way: the records of the source, and those of the target before and after
abbrev pub Arrives : (from old new : List ℕ → Option Organization) → List ℕ → Type 0
Arrives from old new org = new org ≡ copied_into (from org) (old org)

-- every organization is copied
abbrev pub AllAreCopied : (from old new : List ℕ → Option Organization) → Type 0
AllAreCopied from old new = (org : List ℕ) → Arrives from old new org

-- some organizations are copied, and every other record is unchanged
abbrev pub SomeAreCopied : (from old new : List ℕ → Option Organization) → Type 0
SomeAreCopied from old new = (org : List ℕ) → (new org ≡ old org) ⊎ Arrives from old new org

-- if the target was empty (`true`), its records are now those of the source; otherwise some organizations were in it, and no record changed
abbrev pub IsFilled : (from old new : List ℕ → Option Organization) → Bool → Type 0
IsFilled from old new true = ((org : List ℕ) → old org ≡ None) × ((org : List ℕ) → new org ≡ from org)
IsFilled from old new false = ((org : List ℕ) → new org ≡ old org) × ((org : List ℕ) × (there : Organization) × (old org ≡ Some there))

-- whether a list of organizations is empty
abbrev pub has_none : List OrgRow → Bool
has_none [] = true
has_none (row ∷ rows) = false

abbrev pub lists_none : AdminAnswer → Bool
lists_none (Organizations rows) = has_none rows
lists_none Done = false
lists_none Exists = false
lists_none Absent = false
lists_none InUse = false
lists_none (Tokens rows) = false

module _ {K : Type 0} (k : keep.Ghosts K) where
  -- an organization, or all, were copied from one store to another, with this effect on the records. Those of the source are unchanged
  pub record CopiesBetween (Becomes : (from old new : List ℕ → Option Organization) → Type 0) (source_before source_after target_before target_after : K) : Type 0 where
    pub unchanged : Unchanged k.rows k.clean k.sound k.keyed k.shielded source_before source_after
    pub so_far : k.clean target_after → k.clean target_before
    pub shield : k.shielded target_before → k.shielded target_after
    pub kept : k.clean target_after → k.sound target_before → k.clean source_after → k.sound source_before → k.sound target_after
    pub keys : k.clean target_after → k.sound target_before → k.clean source_after → k.sound source_before → k.keyed target_before → k.keyed target_after
    pub model : k.clean target_after → k.sound target_before → k.clean source_after → k.sound source_before
        → Becomes (k.rows source_before) (k.rows target_before) (k.rows target_after)

-- if the answer is that the copy was made, the target's record is the source's, and the target had none before
abbrev pub DoneCopiesAreEqual : Type 0
DoneCopiesAreEqual = (from there new : Option Organization) → effect Done new ≡ org_copied from there → (new ≡ from) × (there ≡ None)

-- if the target was empty, its records are those of the source
abbrev pub CopiesToNoneAreTheSame : Type 0
CopiesToNoneAreTheSame = (from old new : List ℕ → Option Organization) → AllAreCopied from old new → ((org : List ℕ) → old org ≡ None) → (org : List ℕ) → new org ≡ from org

-- if some organizations were copied, and then all, the effect is that of copying all
abbrev pub StoppedCopiesGoOn : Type 0
StoppedCopiesGoOn = (from old mid new : List ℕ → Option Organization) → SomeAreCopied from old mid → AllAreCopied from mid new → AllAreCopied from old new

-- an organization is copied after a run, and another run continues with the copy. Its record at the end, and its replies in both runs, are
-- those of its own machine over its own steps of both runs
abbrev pub CopiedOrganizationsGoOn : Type 0
CopiedOrganizationsGoOn = (org : List ℕ) (first second : List Ask) (a b c d : List ℕ → Option Organization) (said later : List (List ℕ))
    → IsOwnMachine org first a b said → c org ≡ b org → IsOwnMachine org second c d later
    → (d org ≡ own_record (a org) (own_asks (organization org) (first ++ second)))
    × AreTexts (own_said (record_for a (organization org)) (own_asks (organization org) (first ++ second))) (replies_at (organization org) first said ++ replies_at (organization org) second later)
