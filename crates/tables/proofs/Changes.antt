-- The records after a change of a workspace.
use Rattle.tables.proofs.Outside.{◌≡◌, ◌≢◌, ℕ, nat_lt, List, Option, Some, None, IfSome, refl, sym, ap, subst, ◌∙◌, get, changed_by, IsDue, IsLawful, IsLawfulIfThere, placed, seen_in, standing, count_of, Change, Workspace, Organization, standing_is, Tables}
use Rattle.machine.specs.Rules.{rules}
use Rattle.machine.proofs.RuleLemmas.{rules_are_lawful}
use Rattle.tables.specs.Records.{workspace_by, record_of}
use Rattle.tables.specs.Inner.Edits.{changed_rows, TakesEdit}
use Rattle.tables.specs.Sound.{IsGapless, IsSound}
use Rattle.tables.proofs.Edits.{changed_leaves, changed_puts}
use Rattle.tables.proofs.NoGaps.{rules_leave_no_gap}
use Rattle.tables.proofs.Sets.{put_own, put_other, workspace_there}

there_if : (P : Workspace → Type 0) (o : Option Workspace) → ((w : Workspace) → o ≡ Some w → P w) → IfSome o P
there_if P None h = tt
there_if P (Some w) h = h w refl

module _ (org ws : List ℕ) (t : Tables) (sound : IsSound t) (change : Change) (o : Organization) (there : record_of t org ≡ Some o) (due : IsDue (seen_in o ws) change) where
  seen : standing (seen_in o ws) ≡ workspace_by t org ws
  seen = standing_is (nat_lt (count_of o) o.limit) (get o.workspaces ws) ∙ workspace_there t org ws o there

  ruled : changed_by change (workspace_by t org ws) ≡ (rules due.act due.now (seen_in o ws)).left
  ruled = ap (changed_by change) (sym seen) ∙ due.is

  -- after a due change a workspace of sound tables is lawful
  pub lawful_after : IsLawfulIfThere (changed_by change (workspace_by t org ws))
  lawful_after = subst IsLawfulIfThere (sym ruled) (rules_are_lawful due.act due.now (seen_in o ws) due.range due.moment
      (subst IsLawfulIfThere (sym seen) (there_if IsLawful (workspace_by t org ws) (λ w e. (sound.workspaces org ws w e).lawful))))

  -- and none of its versions is missing
  pub gapless_after : IfSome (changed_by change (workspace_by t org ws)) IsGapless
  gapless_after = subst (λ (w : Option Workspace). IfSome w IsGapless) (sym ruled) (rules_leave_no_gap due.act due.now (seen_in o ws)
      (subst (λ (w : Option Workspace). IfSome w IsGapless) (sym seen) (there_if IsGapless (workspace_by t org ws) (λ w e. (sound.workspaces org ws w e).gapless))))

module _ (keys : ℕ → List ℕ) (org ws : List ℕ) (t : Tables) (sound : IsSound t) (change : Change) (takes : TakesEdit keys org ws change.edit t) where
  -- the record of the organization has the changed workspace in its place
  pub changed_own : (o : Organization) → record_of t org ≡ Some o → IsDue (seen_in o ws) change → record_of (changed_rows keys org ws change t) org ≡ Some (placed o ws (changed_by change (get o.workspaces ws)))
  changed_own o e due =
      subst (λ (w : Option Workspace). record_of (changed_rows keys org ws change t) org ≡ Some (placed o ws (changed_by change w))) (sym (workspace_there t org ws o e))
      (put_own org ws (changed_by change (workspace_by t org ws)) t (changed_rows keys org ws change t) (changed_puts keys org ws t sound change takes (lawful_after org ws t sound change o e due)) o e)

  -- the records of all others are as before
  pub changed_other : (other : List ℕ) → other ≢ org → record_of (changed_rows keys org ws change t) other ≡ record_of t other
  changed_other other apart = put_other org ws (workspace_by (changed_rows keys org ws change t) org ws) t (changed_rows keys org ws change t) (changed_leaves keys org ws t sound change takes) other apart
