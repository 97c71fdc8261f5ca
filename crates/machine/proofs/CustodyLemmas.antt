-- Custody: writes under a lock carry its ID, and a lock holds until it is released.
use Rattle.machine.proofs.Outside.{◌∙◌, ◌≡◌, ◌⊎◌, Bool, IsSome, List, None, Option, Some, ap, cond, false, inl, inr, refl, subst, sym, true, ℕ, Settings, SettingsAsk, Holder, Lock, Nobody}
use Rattle.machine.specs.Workspaces.{holder_status, new_workspace, open_runs}
use Rattle.machine.proofs.RunRulings.{IsReported}
use Rattle.machine.specs.Settling.{first_waiting, settled, started_if, to_start}
use Rattle.machine.specs.Rules.{Outcome, Ruling, done, frees, lock, put, rules, rules_missing, settings_for}
use Rattle.machine.proofs.PuttingLemmas.{held_stay}
use Rattle.machine.proofs.RefusalLemmas.{writes_carry_the_id}
use Rattle.machine.specs.Laws.{is_nobody}
use Rattle.machine.specs.Custody.{AcceptedActsComeAgain, HeldVersionsChangeByTheId, HoldsUntilReleased, IsAnew, IsRefusal, IsUnlocked, IsWriter, LockedWorkspacesStay, Releases, VersionsChangeByTheId, WorkspacesBeginAnew, WorkspacesGoByDelete, WritesWith}
use Rattle.machine.specs.Records.{Seen, missing, there}
use Rattle.machine.proofs.Rulings.{Comes, IsPut, Leaves, Misses, Way, comes, it_changes, it_goes, it_stays, leaves, lock_comes, lock_goes, put_or_missed, repeats, run_comes, run_goes_on, settings_come, version_comes, versions_go, versions_stay}
use Rattle.machine.specs.declared.acts.Act.{Act}
use Rattle.machine.specs.declared.acts.Act.TheVariants.{DeleteWorkspace, PutWorkspace}
use Rattle.machine.specs.declared.records.Workspace.{Workspace}

-- while a lock holds, settling starts no run
holder_stays : (u : Workspace) (held text : List ℕ) → u.holder ≡ Lock held text → (settled u).holder ≡ Lock held text
holder_stays u held text e = ap (λ (h : Holder). (started_if (to_start h (first_waiting u.runs)) u).holder) e ∙ e

id_of_lock : (a b s t : List ℕ) → Lock a s ≡ Lock b t → a ≡ b
id_of_lock a b s t e = cc

pub holds_until_released : HoldsUntilReleased
holds_until_released act now w v held text e h = by_case (leaves act now w v h)
  where
    by_way : (u : Workspace) (answer : Outcome) → Way act now w u answer → (u.holder ≡ Lock held text) ⊎ Releases act held
    by_way u answer (version_comes x) = inl (ap (λ (y : Workspace). y.holder) x.is ∙ e)
    by_way u answer (versions_go x) = inl (ap (λ (y : Workspace). y.holder) x.is ∙ e)
    by_way u answer (settings_come x) = inl (ap (λ (y : Workspace). y.holder) x.is ∙ e)
    by_way u answer (lock_comes x) = absurd (let none : ⊥ = cc (sym e ∙ x.nobody) in none)
    by_way u answer (lock_goes x) = inr (subst (Releases act) (id_of_lock x.id held x.text text (sym x.holds ∙ e)) x.releases)
    by_way u answer (run_comes x) = inl (ap (λ (y : Workspace). y.holder) x.made.2 ∙ e)
    by_way u answer (run_goes_on x) =
        let is : IsReported w x.n x.action u = x.reported in
        inl (ap (λ (y : Workspace). y.holder) is.is ∙ ap (λ (z : Holder). cond (frees x.n is.status z) Nobody z) e)

    after : (u : Workspace) → settled u ≡ v → (u.holder ≡ Lock held text) ⊎ Releases act held → (v.holder ≡ Lock held text) ⊎ Releases act held
    after u is (inl kept) = inl (ap (λ (y : Workspace). y.holder) (sym is) ∙ holder_stays u held text kept)
    after u is (inr releases) = inr releases

    by_case : (w ≡ v) ⊎ Leaves act now w v → (v.holder ≡ Lock held text) ⊎ Releases act held
    by_case (inl still) = inl (ap (λ (y : Workspace). y.holder) (sym still) ∙ e)
    by_case (inr l) = after l.to l.settles (by_way l.to l.answer l.way)

pub settled_versions : (u : Workspace) → (settled u).versions ≡ u.versions
settled_versions u = versions_stay u (to_start u.holder (first_waiting u.runs))

abbrev Written : Act → ℕ → Workspace → Workspace → Type 0
Written act now w v = (v.versions ≡ w.versions) ⊎ ((id : Option (List ℕ)) × WritesWith act id × ((rules act now (there w)).answer ≡ done) × IsWriter w.holder (holder_status w.holder w.runs) id)

pub held_versions_change_by_the_id : HeldVersionsChangeByTheId
held_versions_change_by_the_id act now w v somebody e = by_case (leaves act now w v e)
  where
    by_case : (w ≡ v) ⊎ Leaves act now w v → Written act now w v
    by_case (inl still) = inl (ap (λ (y : Workspace). y.versions) (sym still))
    by_case (inr l) = by_way l.way
      where
        kept : l.to.versions ≡ w.versions → Written act now w v
        kept stays = inl (ap (λ (y : Workspace). y.versions) (sym l.settles) ∙ settled_versions l.to ∙ stays)

        written : (id : Option (List ℕ)) → WritesWith act id → l.answer ≡ done → Written act now w v
        written id writes answered = inr (id, writes, l.said ∙ answered, writes_carry_the_id act now w id writes (l.said ∙ answered))

        by_way : Way act now w l.to l.answer → Written act now w v
        by_way (version_comes x) = written x.id x.writes x.answered
        by_way (versions_go x) = written x.id x.writes x.answered
        by_way (settings_come x) = kept (ap (λ (y : Workspace). y.versions) x.is ∙ held_stay x.settings w somebody x.free)
        by_way (lock_comes x) = kept (ap (λ (y : Workspace). y.versions) x.is)
        by_way (lock_goes x) = kept (ap (λ (y : Workspace). y.versions) x.is)
        by_way (run_comes x) = kept (ap (λ (y : Workspace). y.versions) x.made.2)
        by_way (run_goes_on x) = let is : IsReported w x.n x.action l.to = x.reported in kept (ap (λ (y : Workspace). y.versions) is.is)

pub versions_change_by_the_id : VersionsChangeByTheId
versions_change_by_the_id act now w v own text lock e = by_case (held_versions_change_by_the_id act now w v (ap is_nobody lock) e)
  where
    by_case : Written act now w v → (v.versions ≡ w.versions) ⊎ WritesWith act (Some own)
    by_case (inl h) = inl h
    by_case (inr (id, writes, is, writer)) =
        let own_id : id ≡ Some own = subst (λ (h : Holder). IsWriter h (holder_status h w.runs) id) lock writer in
        inr (subst (WritesWith act) own_id writes)

-- a workspace stays, or the act is DELETE
stays_or_deleted : (act : Act) (now : ℕ) (w : Workspace) → IsSome (rules act now (there w)).left ⊎ (act ≡ DeleteWorkspace)
stays_or_deleted act now w = by_case (comes act now w)
  where
    by_case : Comes act now w (rules act now (there w)) → IsSome (rules act now (there w)).left ⊎ (act ≡ DeleteWorkspace)
    by_case (it_stays stays) = inl (subst IsSome (sym stays.left) refl)
    by_case (it_goes goes) = inr goes.deletes
    by_case (it_changes changes) = inl (subst (λ (r : Ruling). IsSome r.left) (sym changes.is) refl)

none_of_some : {X : Type 0} (o : Option X) → IsSome o → o ≡ None → ⊥
none_of_some None some e = let none : ⊥ = cc in none
none_of_some (Some x) some e = let none : ⊥ = cc in none

pub locked_workspaces_stay : LockedWorkspacesStay
locked_workspaces_stay act now w held text e = by_case (comes act now w)
  where
    by_case : Comes act now w (rules act now (there w)) → IsSome (rules act now (there w)).left
    by_case (it_stays stays) = subst IsSome (sym stays.left) refl
    by_case (it_goes goes) = absurd (subst IsUnlocked e goes.unheld)
    by_case (it_changes changes) = subst (λ (r : Ruling). IsSome r.left) (sym changes.is) refl

-- a workspace goes by DELETE alone
pub workspaces_go_by_delete : WorkspacesGoByDelete
workspaces_go_by_delete act now w e = by_case (comes act now w)
  where
    by_case : Comes act now w (rules act now (there w)) → (act ≡ DeleteWorkspace) × IsUnlocked w.holder × (open_runs w.runs ≡ 0)
    by_case (it_stays stays) = absurd (let none : ⊥ = cc (sym stays.left ∙ e) in none)
    by_case (it_goes goes) = (goes.deletes, goes.unheld, goes.idle)
    by_case (it_changes changes) = absurd (let none : ⊥ = cc (sym (ap (λ (r : Ruling). r.left) changes.is) ∙ e) in none)

pub workspaces_begin_anew : WorkspacesBeginAnew
workspaces_begin_anew act now room v e = by_act (put_or_missed act)
  where
    anew : (settings : Settings) → new_workspace settings ≡ v → IsAnew v
    anew settings is = subst IsAnew is (record { holder = refl; released = refl; versions_begin = (refl, refl); runs_begin = (refl, refl) })

    made : (room : Bool) (ask : SettingsAsk) → (rules_missing (PutWorkspace ask) room).left ≡ Some v → IsAnew v
    made true ask e = anew (settings_for ask None) (let same_one : new_workspace (settings_for ask None) ≡ v = cc in same_one)
    made false ask e = absurd (let none : ⊥ = cc in none)

    by_act : IsPut act ⊎ Misses act → IsAnew v
    by_act (inl put) = made room put.0 (subst (λ (a : Act). (rules_missing a room).left ≡ Some v) put.1 e)
    by_act (inr misses) = absurd (let none : ⊥ = cc (sym (ap (λ (r : Ruling). r.left) (misses room).0) ∙ e) in none)

-- what is accepted leaves the workspace there, or is DELETE
accepted_stays : (act : Act) (now : ℕ) (s : Seen) → (IsRefusal (rules act now s).answer → ⊥) → IsSome (rules act now s).left ⊎ (act ≡ DeleteWorkspace)
accepted_stays act now (missing room) accepted = by_act (put_or_missed act)
  where
    made : (room : Bool) (ask : SettingsAsk) → (IsRefusal (rules_missing (PutWorkspace ask) room).answer → ⊥) → IsSome (rules_missing (PutWorkspace ask) room).left
    made true ask accepted = refl
    made false ask accepted = absurd (accepted tt)

    by_act : IsPut act ⊎ Misses act → IsSome (rules_missing act room).left ⊎ (act ≡ DeleteWorkspace)
    by_act (inl put) =
        inl (subst (λ (a : Act). IsSome (rules_missing a room).left) (sym put.1) (made room put.0 (λ is. accepted (subst (λ (a : Act). IsRefusal (rules_missing a room).answer) (sym put.1) is))))
    by_act (inr misses) = absurd (accepted (subst (λ (r : Ruling). IsRefusal r.answer) (sym (misses room).0) tt))
accepted_stays act now (there w) accepted = stays_or_deleted act now w

-- what was accepted, and comes again to what it left
pub accepted_acts_come_again : AcceptedActsComeAgain
accepted_acts_come_again act now later s (there v) may accepted e = repeats act now later s v may (sym e)
accepted_acts_come_again act now later s (missing room) may accepted e = by_case (accepted_stays act now s accepted)
  where
    by_case : IsSome (rules act now s).left ⊎ (act ≡ DeleteWorkspace) → (rules act later (missing room)).left ≡ None
    by_case (inl some) = absurd (none_of_some (rules act now s).left some (sym e))
    by_case (inr is) = subst (λ (a : Act). (rules a later (missing room)).left ≡ None) (sym is) refl
