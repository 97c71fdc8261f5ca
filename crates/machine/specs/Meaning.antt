-- What a decision means for its workspace, and when it is as the rules say.
use Rattle.std.specs.Prelude.{◌≡◌, ℕ, Option, Some, None, IfSome, ⊤}
use Rattle.std.specs.Option.{option_map_or}
use Rattle.machine.specs.Effects.{effect}
use Rattle.machine.specs.Laws.{IsLawfulIfThere}
use Rattle.machine.specs.Ranges.{IsInRange, IsMoment}
use Rattle.machine.specs.Records.{Seen, standing}
use Rattle.machine.specs.Showing.{versions_after, runs_after}
use Rattle.machine.specs.Rules.{Outcome, done, no_state, state, workspace, the_run, versions, runs, Ruling, refused_by, rules}
use Rattle.machine.specs.Changes.{changed_by, IsDue}
use Rattle.machine.specs.Units.{version_text}
use Rattle.machine.specs.declared.acts.Act.{Act}
use Rattle.machine.specs.declared.acts.Answer.{Answer}
use Rattle.machine.specs.declared.acts.Answer.TheVariants.{Done, NoState, State, Workspace as ShownWorkspace, Run as ShownRun, Versions, Runs}
use Rattle.machine.specs.declared.acts.Change.{Change}
use Rattle.machine.specs.declared.acts.Decision.{Decision}
use Rattle.machine.specs.declared.acts.Decision.TheVariants.{Refused, Accepted}
use Rattle.basis.specs.declared.rows.Holder.{Holder}
use Rattle.basis.specs.declared.rows.Holder.TheVariants.{Nobody}
use Rattle.machine.specs.declared.records.Workspace.{Workspace}

abbrev pub changed : Option Change → Option Workspace → Option Workspace
changed None w = w
changed (Some change) w = changed_by change w

-- the answer to an accepted act, read from the workspace as it is before the act
abbrev pub answered : Answer → Option Workspace → Outcome
answered Done w = done
answered NoState w = no_state
answered (State n) w = option_map_or state (version_text n w) no_state
answered (ShownWorkspace shown) w = workspace shown
answered (ShownRun r) w = the_run r
answered (Versions after) w = versions (versions_after after w)
answered (Runs after) w = runs (runs_after after w)

-- the holder that a refusal names
abbrev pub holder_of : Option Workspace → Holder
holder_of None = Nobody
holder_of (Some w) = w.holder

-- the answer that a decision means, and the workspace after it, if there is one
abbrev pub meaning : Decision → Option Workspace → Ruling
meaning (Refused refusal) w = effect (refused_by refusal (holder_of w)) w
meaning (Accepted answer change) w = effect (answered answer w) (changed change w)

-- the change of an accepted act, if it has one, is due
abbrev pub ChangeIsDue : Seen → Decision → Type 0
ChangeIsDue s (Refused refusal) = ⊤
ChangeIsDue s (Accepted answer change) = IfSome change (IsDue s)

-- a decision on a workspace is as the rules say
pub record Meets (s : Seen) (act : Act) (now : ℕ) (decision : Decision) : Type 0 where
  -- the answer, every refusal included, and the workspace after it are those of the rules
  pub model : meaning decision (standing s) ≡ rules act now s
  -- `Keep::apply` accepts the change
  pub due : IsInRange act → IsMoment now → ChangeIsDue s decision
  -- the workspace after it is lawful if the one before is
  pub lawful : IsInRange act → IsMoment now → IsLawfulIfThere (standing s) → IsLawfulIfThere (rules act now s).left
