-- Removing an organization: whether one of its workspaces is in use, and what an operator's command leaves of them.
use Rattle.serve.proofs.Outside.{◌≡◌, ◌≢◌, ◌⊎◌, inl, inr, ℕ, T, Bool, true, false, not, ◌&&◌, ◌||◌, cond, List, [], ◌∷◌, Option, Some, None, IsSome, is_some, nat_lt, refl, sym, ap, subst, ◌∙◌, list_any, eq_by_cmp, is_eq, Ordering, find, is_sorted, entries, entries_sorted, get, get-empty, get-entries, sha256, OpenRuns, Holder, name_cmp, effect, is_nobody, IsLawful, there, workspace_in, is_locked, is_in_use, has_use, org_removed, refused, done, delete, rules, token_of, with_token, without_token, has_digest, open_runs, Done, Exists, Absent, InUse, Workspace, Organization, held_stays, names_total, not_tied, tied_names, below_apart, both_first, both_second}
use Rattle.std.proofs.Math.Bool.{or-true}
use Rattle.std.specs.Cmp.{tied_itself}
use Rattle.std.specs.FinMap.Entries.{below_all}
use Rattle.basis.specs.declared.rows.Holder.TheVariants.{Nobody, Lock as HeldLock, Run as HeldRun}
use Rattle.machine.specs.declared.acts.Act.TheVariants.{DeleteWorkspace as DeleteAct}
use Rattle.serve.specs.declared.steps.Admin.{Admin}
use Rattle.serve.specs.declared.steps.Admin.TheVariants.{OrgAdd, OrgLimit, OrgRemove, OrgList, TokenAdd, TokenList, TokenRevoke}
use Rattle.serve.specs.Steps.{command_step, command_said}
use Rattle.serve.specs.Custody.{IsRemoval, IsForcedRemoval, IsAccepted, IsInUseIn}

-- ---- whether a workspace is in use

abbrev Entries : Type 0
Entries = List (List ℕ × Workspace)

abbrev is_used : List ℕ × Workspace → Bool
is_used e = is_in_use e.1

-- what is found and in use is among the entries
used_if_found : (ws : List ℕ) (w : Workspace) (es : Entries) → find name_cmp ws es ≡ Some w → is_in_use w ≡ true → list_any is_used es ≡ true
used_if_found ws w [] found is = absurd (let none : ⊥ = cc in none)
used_if_found ws w (e ∷ es) found is = by_name (eq_by_cmp name_cmp ws e.0) found (λ later. used_if_found ws w es later is)
  where
    one : Some e.1 ≡ Some w → e.1 ≡ w
    one here = cc

    by_name : (b : Bool) → cond b (Some e.1) (find name_cmp ws es) ≡ Some w → (find name_cmp ws es ≡ Some w → list_any is_used es ≡ true) → (is_in_use e.1 || list_any is_used es) ≡ true
    by_name true here more = ap (λ b. b || list_any is_used es) (ap is_in_use (one here) ∙ is)
    by_name false later more = ap (λ b. is_in_use e.1 || b) (more later) ∙ or-true (is_in_use e.1)

-- what is found behind a name isn't of that name
found_apart : (before ws : List ℕ) (w : Workspace) (es : Entries) → T (below_all name_cmp before es) → find name_cmp ws es ≡ Some w → ws ≢ before
found_apart before ws w [] below found = absurd (let none : ⊥ = cc in none)
found_apart before ws w (e ∷ es) below found = by_name (eq_by_cmp name_cmp ws e.0) refl found (λ later. found_apart before ws w es (both_second _ _ below) later)
  where
    by_name : (b : Bool) → eq_by_cmp name_cmp ws e.0 ≡ b → cond b (Some e.1) (find name_cmp ws es) ≡ Some w → (find name_cmp ws es ≡ Some w → ws ≢ before) → ws ≢ before
    by_name true tied here more = λ same. below_apart before e.0 (both_first _ _ below) (sym (tied_names ws e.0 tied) ∙ same)
    by_name false tied later more = more later

-- and of the entries one that is in use is found by its name
abbrev IsUsedIn : Entries → Type 0
IsUsedIn es = (ws : List ℕ) × (w : Workspace) × (find name_cmp ws es ≡ Some w) × (is_in_use w ≡ true)

found_if_used : (es : Entries) → T (is_sorted name_cmp es) → list_any is_used es ≡ true → IsUsedIn es
found_if_used [] sorted any = absurd (let none : ⊥ = cc in none)
found_if_used (e ∷ es) sorted any = by_first (is_in_use e.1) refl any (λ later. found_if_used es (both_second _ _ sorted) later)
  where
    by_first : (b : Bool) → is_in_use e.1 ≡ b → (b || list_any is_used es) ≡ true → (list_any is_used es ≡ true → IsUsedIn es) → IsUsedIn (e ∷ es)
    by_first true is any more = (e.0, e.1, ap (λ (o : Ordering). cond (is_eq o) (Some e.1) (find name_cmp e.0 es)) (tied_itself names_total e.0), is)
    by_first false is any more =
        let u = more any in
        (u.0, u.1, ap (λ (b : Bool). cond b (Some e.1) (find name_cmp u.0 es)) (not_tied u.0 e.0 (found_apart e.0 u.0 u.1 es (both_first _ _ sorted) u.2)) ∙ u.2, u.3)

in_use_of : (o : Organization) → IsInUseIn (Some o) → has_use o ≡ true
in_use_of o u = used_if_found u.0 u.1 (entries o.workspaces) (sym (get-entries o.workspaces u.0) ∙ u.2) u.3

in_use_in : (o : Organization) → has_use o ≡ true → IsInUseIn (Some o)
in_use_in o is =
    let u = found_if_used (entries o.workspaces) (entries_sorted o.workspaces) is in
    (u.0, u.1, get-entries o.workspaces u.0 ∙ u.2, u.3)

unused : (o : Organization) → has_use o ≡ false → IsInUseIn (Some o) → ⊥
unused o is u = let none : ⊥ = cc (sym is ∙ in_use_of o u) in none

-- where a lock holds it is in use, and where a run holds, which is open
pub lock_is_used : (w : Workspace) (own text : List ℕ) → w.holder ≡ HeldLock own text → is_in_use w ≡ true
lock_is_used w own text at = ap (λ (h : Holder). is_locked h || nat_lt 0 (open_runs w.runs)) at

-- what isn't in use would go by DELETE
unused_goes : (w : Workspace) (h : Holder) → w.holder ≡ h → (is_locked h || nat_lt 0 (open_runs w.runs)) ≡ false → (rules DeleteAct 0 (there w)).left ≡ None
unused_goes w Nobody at is = ap (λ (h : Holder). (delete h w).left) at ∙ ap (λ (b : Bool). (cond b (effect (refused OpenRuns) (Some w)) (effect done None)).left) is
unused_goes w (HeldLock own text) at is = absurd (let none : ⊥ = cc in none)
unused_goes w (HeldRun n) at is = ap (λ (h : Holder). (delete h w).left) at ∙ ap (λ (b : Bool). (cond b (effect (refused OpenRuns) (Some w)) (effect done None)).left) is

pub held_is_used : (w : Workspace) → IsLawful w → is_nobody w.holder ≡ false → is_in_use w ≡ true
held_is_used w lawful somebody = by_use (is_in_use w) refl
  where
    goes : is_in_use w ≡ false → ⊥
    goes is =
        let none : ⊥ = cc (sym (held_stays DeleteAct 0 w lawful somebody) ∙ ap is_some (unused_goes w w.holder refl is)) in none

    by_use : (b : Bool) → is_in_use w ≡ b → b ≡ true
    by_use true is = refl
    by_use false is = absurd (goes is)

-- ---- what a command leaves

-- it takes the organization away, by force or where nothing is in use
pub record IsRemoved (r : Option Organization) (command : Admin) : Type 0 where
  pub removes : IsRemoval command
  pub accepts : IsAccepted (command_said command (command_step r command).answer)
  pub gone : (command_step r command).left ≡ None
  pub reason : IsForcedRemoval command ⊎ (IsInUseIn r → ⊥)

-- or it leaves the organization there, and every workspace
pub record LeavesAll (r left : Option Organization) : Type 0 where
  pub there : IsSome r → IsSome left
  pub keeps : (ws : List ℕ) → workspace_in left ws ≡ workspace_in r ws

abbrev pub Comes : Option Organization → Admin → Type 0
Comes r command = IsRemoved r command ⊎ LeavesAll r (command_step r command).left

pub command_comes : (r : Option Organization) (command : Admin) → Comes r command
command_comes None (OrgAdd org limit) = inr (record { there = λ some. refl; keeps = λ ws. get-empty name_cmp ws })
command_comes (Some o) (OrgAdd org limit) = inr (record { there = λ some. refl; keeps = λ ws. refl })
command_comes None (TokenAdd org name role secret bounds) = inr (record { there = λ some. some; keeps = λ ws. refl })
command_comes (Some o) (TokenAdd org name role secret bounds) = inr (chosen (is_some (get o.tokens name) || has_digest (sha256 secret) o))
  where
    chosen : (b : Bool) → LeavesAll (Some o) (cond b (effect Exists (Some o)) (effect Done (Some (with_token o name (token_of (sha256 secret) role bounds))))).left
    chosen true = record { there = λ some. refl; keeps = λ ws. refl }
    chosen false = record { there = λ some. refl; keeps = λ ws. refl }
command_comes r (TokenList org) = inr (record { there = λ some. some; keeps = λ ws. refl })
command_comes None (OrgLimit org limit) = inr (record { there = λ some. some; keeps = λ ws. refl })
command_comes (Some o) (OrgLimit org limit) = inr (record { there = λ some. refl; keeps = λ ws. refl })
command_comes r OrgList = inr (record { there = λ some. some; keeps = λ ws. refl })
command_comes None (TokenRevoke org name) = inr (record { there = λ some. some; keeps = λ ws. refl })
command_comes (Some o) (TokenRevoke org name) = inr (taken (is_some (get o.tokens name)))
  where
    taken : (b : Bool) → LeavesAll (Some o) (cond b (effect Done (Some (without_token o name))) (effect Absent (Some o))).left
    taken true = record { there = λ some. refl; keeps = λ ws. refl }
    taken false = record { there = λ some. refl; keeps = λ ws. refl }
command_comes None (OrgRemove org is_forced) = inr (record { there = λ some. some; keeps = λ ws. refl })
command_comes (Some o) (OrgRemove org true) = inl (record { removes = tt; accepts = refl; gone = refl; reason = inl refl })
command_comes (Some o) (OrgRemove org false) = by_use (has_use o) refl
  where
    by_use : (b : Bool) → has_use o ≡ b → Comes (Some o) (OrgRemove org false)
    by_use true is = inr (subst (λ (c : Bool). LeavesAll (Some o) (cond c (effect InUse (Some o)) (effect Done None)).left) (sym is) (record { there = λ some. refl; keeps = λ ws. refl }))
    by_use false is = inl (record {
      removes = tt;
      accepts = ap (λ (c : Bool). (cond c (effect InUse (Some o)) (effect Done None)).answer) is;
      gone = ap (λ (c : Bool). (cond c (effect InUse (Some o)) (effect Done None)).left) is;
      reason = inr (unused o is);
    })

-- by force, or where nothing is in use, it is carried out
pub removal_goes : (o : Organization) (command : Admin) → IsRemoval command → IsForcedRemoval command ⊎ (IsInUseIn (Some o) → ⊥) → (command_step (Some o) command).left ≡ None
removal_goes o (OrgAdd org limit) removes reason = absurd removes
removal_goes o (OrgLimit org limit) removes reason = absurd removes
removal_goes o OrgList removes reason = absurd removes
removal_goes o (TokenAdd org name role secret bounds) removes reason = absurd removes
removal_goes o (TokenList org) removes reason = absurd removes
removal_goes o (TokenRevoke org name) removes reason = absurd removes
removal_goes o (OrgRemove org true) removes reason = refl
removal_goes o (OrgRemove org false) removes (inl forced) = absurd (let none : ⊥ = cc in none)
removal_goes o (OrgRemove org false) removes (inr free) = by_use (has_use o) refl
  where
    by_use : (b : Bool) → has_use o ≡ b → (org_removed false (Some o)).left ≡ None
    by_use true is = absurd (free (in_use_in o is))
    by_use false is = ap (λ (c : Bool). (cond c (effect InUse (Some o)) (effect Done None)).left) is

-- what is removed again
pub removed_again : (o : Organization) (is_forced b : Bool) → (not is_forced && has_use o) ≡ b
    → (org_removed is_forced (cond b (effect InUse (Some o)) (effect Done None)).left).left ≡ (cond b (effect InUse (Some o)) (effect Done None)).left
removed_again o is_forced true e = ap (λ (b : Bool). (cond b (effect InUse (Some o)) (effect Done None)).left) e
removed_again o is_forced false e = refl
