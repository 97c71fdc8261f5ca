-- The laws of workspaces by the tests of their rows.
use Rattle.checks.proofs.Outside.{◌≡◌, ℕ, ◌+◌, true, List, filter, Option, Some, None, option_map, IfSome, IsTrue, refl, sym, ap, ◌∙◌, subst, ◌↔◌, AllByRecursion, slice_get-map, all_weaker, slice_get-filter, is_ws_name, is_free_id, MAX_NUMBER, FIRST_KEPT, IsNext, IsRetention, Kept, WsRow, RetentionRow, Tables, Rows, is_retention, retention_at, workspace_at, IsSoundWorkspace}
use Rattle.std.specs.Option.{unwrap_or}
use Rattle.checks.specs.declared.found.Found.{Found}
use Rattle.checks.specs.declared.workspaces.Grouped.{Grouped}
use Rattle.checks.specs.declared.found.Fault.{Fault}
use Rattle.checks.specs.Judging.{OfSome, Judges}
use Rattle.checks.specs.Faults.{OfWorkspace, OfWorkspaces}
use Rattle.checks.specs.Versions.{are_versions}
use Rattle.checks.specs.Workspaces.{its_of, is_next, is_free_if, is_own, retention_among}
use Rattle.checks.specs.Inner.Workspaces.{IsLawfulRow, IsLawfulAt, OfGroups, AreAllGrouped, HasWsRows, AreLawfulWss}
use Rattle.checks.proofs.JudgingLemmas.{judges_as}
use Rattle.checks.proofs.TestLemmas.{at_most, both}
use Rattle.checks.proofs.VersionLaws.{versions_by_test, no_gap_by_test, test_of_versions}
use Rattle.checks.proofs.RunLaws.{runs_by_test, test_of_runs}

next_tests : (n : ℕ) → IsTrue (is_next n) ↔ IsNext n
next_tests n = both (at_most 1 n) (at_most n (MAX_NUMBER + 1))

free_tests : (id : Option (List ℕ)) → IsTrue (is_free_if id) ↔ IfSome id (λ i. IsTrue (is_free_id i))
free_tests None = (λ e. tt, λ h. refl)
free_tests (Some id) = (λ e. e, λ h. h)

own_tests : (x : WsRow) → IsTrue (is_own x) ↔ (((IsTrue (is_ws_name x.name) × IsNext x.it.next_version) × IsNext x.it.next_run) × IfSome x.it.released (λ i. IsTrue (is_free_id i)))
own_tests x = both (both (both (λ e. e, λ e. e) (next_tests x.it.next_version)) (next_tests x.it.next_run)) (free_tests x.it.released)

module _ (t : Tables) (x : Kept WsRow) where
  abbrev Lawful : Type 0
  Lawful = IsLawfulRow (its_of x.1.org x.1.name t.retentions) (its_of x.1.org x.1.name t.versions) (its_of x.1.org x.1.name t.runs) x.1

  abbrev Named : Type 0
  Named = IsSoundWorkspace x.1.name (workspace_at t x.1.org x.1.name x.1.it)

  retention_is : retention_among (its_of x.1.org x.1.name t.retentions) ≡ retention_at t x.1.org x.1.name
  retention_is =
      ap (λ o. unwrap_or o FIRST_KEPT)
      (slice_get-map (λ (y : Kept RetentionRow). y.1.it) (filter (is_retention x.1.org x.1.name) t.retentions) 0 ∙ ap (option_map (λ (y : Kept RetentionRow). y.1.it)) (slice_get-filter (is_retention x.1.org x.1.name) t.retentions))

  -- a row that passes denotes a lawful workspace
  named_by_tests : Lawful → Named
  named_by_tests law =
      let own = (own_tests x.1).0 law.own in
      let versions = subst (λ n. are_versions n x.1.it.next_version (its_of x.1.org x.1.name t.versions) ≡ true) retention_is law.versions in
      record {
        named = own.0.0.0;
        lawful = record {
          versions = versions_by_test t x.1.org x.1.name (retention_at t x.1.org x.1.name) x.1.it.next_version (subst IsRetention retention_is law.retention) own.0.0.1 versions;
          runs = runs_by_test t x.1.org x.1.name x.1.it.holder x.1.it.next_run own.0.1 law.runs;
          released = own.1;
        };
        gapless = no_gap_by_test t x.1.org x.1.name (retention_at t x.1.org x.1.name) x.1.it.next_version versions;
      }

  tests_of_named : Named → Lawful
  tests_of_named it = record {
    retention = subst IsRetention (sym retention_is) it.lawful.versions.retention;
    own = (own_tests x.1).1 (((it.named, it.lawful.versions.next), it.lawful.runs.next), it.lawful.released);
    versions = subst (λ n. are_versions n x.1.it.next_version (its_of x.1.org x.1.name t.versions) ≡ true) (sym retention_is) (test_of_versions t x.1.org x.1.name (retention_at t x.1.org x.1.name) x.1.it.next_version it.lawful.versions it.gapless);
    runs = test_of_runs t x.1.org x.1.name x.1.it.holder x.1.it.next_run it.lawful.runs;
  }

-- what the groups say the rows say
module _ (rows : Rows) (groups : Grouped) (grouped : AreAllGrouped rows groups) where
  lawful_is : (t : Tables) → HasWsRows rows t → (x : Kept WsRow) → IsLawfulAt groups x.1 ≡ Lawful t x
  lawful_is t has x = λ i. IsLawfulRow ((grouped.retentions x.1.org x.1.name ∙ ap (its_of x.1.org x.1.name) (sym has.retentions)) i) ((grouped.versions x.1.org x.1.name ∙ ap (its_of x.1.org x.1.name) (sym has.versions)) i)
      ((grouped.runs x.1.org x.1.name ∙ ap (its_of x.1.org x.1.name) (sym has.runs)) i) x.1

  faults_are : OfSome (λ (x : Kept WsRow). OfGroups groups x.1) rows.wss ≡ OfWorkspaces rows
  faults_are = λ i. OfSome (λ (x : Kept WsRow). OfWorkspace (grouped.retentions x.1.org x.1.name i) (grouped.versions x.1.org x.1.name i) (grouped.runs x.1.org x.1.name i) x.1) rows.wss

  pub grouped_says : {A : Type 0} (a b : Found) → Judges (OfSome (λ x. OfGroups groups x.1) rows.wss) A a b → Judges (OfWorkspaces rows) A a b
  grouped_says {A} a b checked = subst (λ (says : Fault → Type 0). Judges says A a b) faults_are checked

  -- a check by groups at all rows judges the workspaces
  pub workspaces_judged : (t : Tables) (a b : Found) → HasWsRows rows t → Judges (OfSome (λ x. OfGroups groups x.1) rows.wss) (AllByRecursion (λ x. IsLawfulAt groups x.1) rows.wss) a b → Judges (OfWorkspaces rows) (AreLawfulWss t) a b
  workspaces_judged t a b has checked =
      judges_as a b
      (λ all. subst (AllByRecursion (Named t)) (sym has.wss) (all_weaker (λ x. IsLawfulAt groups x.1) (Named t) (λ x law. named_by_tests t x (subst (λ (P : Type 0). P) (lawful_is t has x) law)) rows.wss all))
      (λ all. all_weaker (Named t) (λ x. IsLawfulAt groups x.1) (λ x it. subst (λ (P : Type 0). P) (sym (lawful_is t has x)) (tests_of_named t x it)) rows.wss (subst (AllByRecursion (Named t)) has.wss all))
      (grouped_says a b checked)
