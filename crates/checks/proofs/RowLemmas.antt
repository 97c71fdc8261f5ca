-- The looks at one workspace.
use Rattle.checks.proofs.Outside.{◌≡◌, ℕ, ◌≤◌, Bool, List, sym, ap, ◌∙◌, subst, IsTrue, MAX_KEPT, WsRow}
use Rattle.basis.specs.declared.rows.RunRow.{RunRow as Run}
use Rattle.basis.specs.declared.rows.VersionRow.{VersionRow as Version}
use Rattle.checks.specs.declared.found.Found.{Found}
use Rattle.checks.specs.declared.found.FaultKind.TheVariants as kind
use Rattle.checks.specs.Judging.{fault_of, Breaks, Judges}
use Rattle.checks.specs.Faults.{name_fault, OfWorkspace}
use Rattle.checks.specs.Versions.{are_versions, unfit_version}
use Rattle.checks.specs.Runs.{are_runs, unfit_run}
use Rattle.checks.specs.Workspaces.{is_own, retention_among}
use Rattle.checks.specs.Inner.Workspaces.{IsLawfulRow}
use Rattle.checks.proofs.JudgingLemmas.{judges_both, judges_as, judges_law}

-- three looks judge a workspace
pub row_judged : (ks : List ℕ) (vs : List Version) (rs : List Run) (x : WsRow) (own versions runs : Bool) (retention : ℕ) (a b c d : Found)
    → own ≡ is_own x → retention ≡ retention_among ks → 1 ≤ retention → retention ≤ MAX_KEPT → versions ≡ are_versions retention x.it.next_version vs → runs ≡ are_runs x.it.holder x.it.next_run rs
    → Judges (Breaks (IsTrue own) (name_fault kind.Unlawful x.org x.name)) (IsTrue own) a b → Judges (Breaks (IsTrue versions) (fault_of kind.Versions x.org x.name (unfit_version vs))) (IsTrue versions) b c
    → Judges (Breaks (IsTrue runs) (fault_of kind.Runs x.org x.name (unfit_run x.it.holder rs))) (IsTrue runs) c d → Judges (OfWorkspace ks vs rs x) (IsLawfulRow ks vs rs x) a d
row_judged ks vs rs x own versions runs retention a b c d is_it retention_is least most versions_are runs_are one two three =
    judges_as a d
    (λ all. record { retention = (subst (λ n. 1 ≤ n) retention_is least, subst (λ n. n ≤ MAX_KEPT) retention_is most); own = all.0; versions = all.1.0; runs = all.1.1 })
    (λ lawful. (lawful.own, (lawful.versions, lawful.runs)))
    (judges_both a b d (judges_law a b (subst IsTrue is_it) (subst IsTrue (sym is_it)) one)
    (judges_both b c d (judges_law b c (subst IsTrue kept) (subst IsTrue (sym kept)) two) (judges_law c d (subst IsTrue runs_are) (subst IsTrue (sym runs_are)) three)))
  where
    kept : versions ≡ are_versions (retention_among ks) x.it.next_version vs
    kept = versions_are ∙ ap (λ n. are_versions n x.it.next_version vs) retention_is
