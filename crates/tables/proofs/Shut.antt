-- What a statement that isn't compiled tells of its connection.
use Rattle.tables.proofs.Outside.{◌≡◌, ◌∙◌, sym, inl, inr, ℕ, false, List, Error, SqliteFailure, State, IsUnchanged, IsNotRun, KeepsCommit, HasCause, store_error}
use Rattle.sqlite_value.specs.Order.{Row}
use Rattle.sqlite_trees.specs.declared.error.StoreError.{StoreError}
use Rattle.sqlite_trees.specs.declared.error.StoreError.TheVariants.{OutOfMemory, Io, Corrupt, Full, Broken, Unstorable}
use Rattle.sqlite.specs.declared.error.ErrorCode.TheVariants.{Closed}

pub unchanged_keeps : (old new : State) → IsUnchanged old new → KeepsCommit old new
unchanged_keeps old new same = record { was_open = λ _. same.0.was_open; committed = λ _. same.0.committed_is }

pub not_run_keeps : (old new : State) (text : List ℕ) (params : Row) (e : Error) → IsNotRun old new text params e → KeepsCommit old new
unfolding IsNotRun
not_run_keeps old new text params e (inl refused) = unchanged_keeps old new refused.1
not_run_keeps old new text params e (inr failed) = record { was_open = failed.3.was_open; committed = λ is_open. (failed.3.undone is_open).1 }

-- what is closed was shut before
broken : (old new : State) (cause : StoreError) → SqliteFailure Closed ≡ store_error cause → HasCause old new ⊥ cause → old.is_open ≡ false
broken old new OutOfMemory is h = cc
broken old new Io is h = cc
broken old new Corrupt is h = cc
broken old new Full is h = cc
broken old new Broken is h = h
broken old new Unstorable is h = absurd h

pub closed_shut : (old new : State) (text : List ℕ) (params : Row) (e : Error) → e ≡ SqliteFailure Closed → IsNotRun old new text params e → old.is_open ≡ false
unfolding IsNotRun
closed_shut old new text params e is (inl (inl fault, same)) = let reported = fault.2 in cc
closed_shut old new text params e is (inl (inr bad, same)) = elim bad.2 [
  | inl many ↦ let reported = many.1 in cc
  | inr other ↦ elim other [ inl count ↦ let reported = count.1 in cc | inr clock ↦ let reported = clock.1 in cc ]
]
closed_shut old new text params e is (inr failed) = broken old new failed.0 (sym is ∙ failed.1) failed.2
