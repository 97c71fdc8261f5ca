-- What is told of a workspace: all that the laws ask of a query, a clause a query.
use Rattle.machine.proofs.Outside.{◌≡◌, ℕ, true, false, ◌&&◌, cond, List, [], ◌∷◌, ◌==◌, Option, Some, None, is_some, option_map, refl, ap, subst, eq-eqb, option_map_or, NotFound}
use Rattle.basis.specs.declared.acts.Query.{Query as AnyQuery}
use Rattle.basis.specs.declared.acts.Query.TheVariants as query
use Rattle.machine.specs.Effects.{effect}
use Rattle.machine.specs.Inner.Decisions.{decided_query, decided_read, decided_version_read, decided_read_run}
use Rattle.machine.specs.Meaning.{meaning}
use Rattle.machine.specs.Named.{has_named}
use Rattle.machine.specs.Needs.{needs_of_query}
use Rattle.machine.specs.Rules.{refused, state, no_state, workspace, state_answer, version_answer, run_answer, query_answer}
use Rattle.machine.specs.Showing.{holder_id, shown_of}
use Rattle.machine.specs.Units.{workspace_unit, newest_unit, version_of}
use Rattle.machine.specs.Workspaces.{newest, run_of}
use Rattle.machine.specs.declared.acts.Act.TheVariants.{Query}
use Rattle.machine.specs.declared.acts.Newest.{Newest}
use Rattle.basis.specs.declared.rows.RunRow.{RunRow as Run}
use Rattle.machine.specs.declared.records.Version.{Version}
use Rattle.machine.specs.declared.records.Workspace.{Workspace}
use Rattle.machine.proofs.RunRulings.{IsPlain, plainly_not_found, plainly_answered}

-- what is told is plain, a decision means it, and where what is named isn't there, that is told
pub record IsQueryRule (what : AnyQuery) (w : Workspace) : Type 0 where
  pub plain : IsPlain (effect (query_answer what w) (Some w)) w
  pub model : meaning (decided_query what (workspace_unit (Query what) w)) (Some w) ≡ effect (query_answer what w) (Some w)
  pub lacks : has_named (needs_of_query what) w ≡ false → query_answer what w ≡ refused NotFound

-- the workspace itself
shown_model : (w : Workspace) (o : Option Version) → newest w.versions ≡ o
    → effect (workspace (record { settings = w.settings; holder = holder_id w.holder; version = option_map (λ (v : Newest). v.number) (option_map (newest_unit None) (newest w.versions)) })) (Some w)
    ≡ effect (workspace (shown_of w)) (Some w)
shown_model w None e = rw e refl
shown_model w (Some v) e = rw e refl

-- the newest version is the last of its number
pub version_of-newest : (vs : List Version) (v : Version) → newest vs ≡ Some v → version_of v.number vs ≡ Some v
version_of-newest [] v e = cc
version_of-newest (u ∷ []) v e =
    let is : u ≡ v = cc in
    subst (λ (x : Version). cond (u.number == x.number) (Some u) None ≡ Some x) is (rw (eq-eqb u.number u.number refl) refl)
version_of-newest (u ∷ w ∷ vs) v e = rw (version_of-newest (w ∷ vs) v e) refl

state_plain : (w : Workspace) (o : Option Version) → IsPlain (effect (state_answer o) (Some w)) w
state_plain w None = record { left = refl; unheld = λ holder e. cc; unlocked = λ e. cc }
state_plain w (Some v) = record { left = refl; unheld = λ holder e. cc; unlocked = λ e. cc }

read_model : (w : Workspace) (o : Option Version) → newest w.versions ≡ o
    → meaning (decided_read (option_map (newest_unit None) o)) (Some w) ≡ effect (state_answer o) (Some w)
read_model w None e = refl
read_model w (Some v) e = rw (version_of-newest w.versions v e) refl

-- a version of a number
version_plain : (w : Workspace) (o : Option Version) → IsPlain (effect (version_answer o) (Some w)) w
version_plain w None = plainly_not_found w
version_plain w (Some v) = record { left = refl; unheld = λ holder e. cc; unlocked = λ e. cc }

version_model : (w : Workspace) (n : ℕ) (o : Option Version) → version_of n w.versions ≡ o → meaning (decided_version_read (is_some o) n) (Some w) ≡ effect (version_answer o) (Some w)
version_model w n None at = refl
version_model w n (Some v) at = ap (λ (o : Option Version). effect (option_map_or state (option_map (λ (u : Version). u.text) o) no_state) (Some w)) at

version_lacks : (o : Option Version) → (is_some o && true) ≡ false → version_answer o ≡ refused NotFound
version_lacks None e = refl
version_lacks (Some v) e = absurd (let none : ⊥ = cc in none)

-- a run of a number
run_plain : (w : Workspace) (o : Option Run) → IsPlain (effect (run_answer o) (Some w)) w
run_plain w None = plainly_not_found w
run_plain w (Some r) = plainly_answered r w

run_model : (w : Workspace) (o : Option Run) → meaning (decided_read_run o) (Some w) ≡ effect (run_answer o) (Some w)
run_model w None = refl
run_model w (Some r) = refl

run_lacks : (o : Option Run) → is_some o ≡ false → run_answer o ≡ refused NotFound
run_lacks None e = refl
run_lacks (Some r) e = absurd (let none : ⊥ = cc in none)

-- where nothing is named nothing is lacking
nothing_lacks : {X : Type 0} → true ≡ false → X
nothing_lacks e = absurd (let none : ⊥ = cc in none)

pub all_queries : (what : AnyQuery) (w : Workspace) → IsQueryRule what w
all_queries query.Workspace w = record {
  plain = record { left = refl; unheld = λ holder e. cc; unlocked = λ e. cc };
  model = shown_model w (newest w.versions) refl;
  lacks = nothing_lacks;
}
all_queries query.State w = record { plain = state_plain w (newest w.versions); model = read_model w (newest w.versions) refl; lacks = nothing_lacks }
all_queries (query.Version n) w = record {
  plain = version_plain w (version_of n w.versions);
  model = version_model w n (version_of n w.versions) refl;
  lacks = version_lacks (version_of n w.versions);
}
all_queries (query.Versions after) w = record { plain = record { left = refl; unheld = λ holder e. cc; unlocked = λ e. cc }; model = refl; lacks = nothing_lacks }
all_queries (query.Run n) w = record { plain = run_plain w (run_of n w.runs); model = run_model w (run_of n w.runs); lacks = run_lacks (run_of n w.runs) }
all_queries (query.Runs after) w = record { plain = record { left = refl; unheld = λ holder e. cc; unlocked = λ e. cc }; model = refl; lacks = nothing_lacks }
