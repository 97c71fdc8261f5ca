use Rattle.std.proofs.Common.{Bool, true, false, ℕ, List, Result, Ok, Err, IfOk, OnOk}
use Rattle.program.specs.Paths.{LeavesVacant}
use Rattle.system.proofs.files.DiskFilesFilesFileKeep.open.Goals as goal

all_reported : {X E : Type 0} (P : Type 0) (Clean A B D : X → Type 0) (result : Result X E) → IfOk result (λ x. Clean x → A x) → IfOk result (λ x. Clean x → B x) → IfOk result (λ x. Clean x → D x) → IfOk result (λ x. P → Clean x → A x × B x × D x)
all_reported P Clean A B D (Ok x) one two three = λ first clean. (one clean, two clean, three clean)
all_reported P Clean A B D (Err e) one two three = tt

pub returns-in-Some-clause-opened : goal.returns-in-Some-clause-opened
returns-in-Some-clause-opened g c = all_reported _ _ _ _ _ c.open_file-opened.result c.open_file-opened.ensures.opens c.open_file-opened.ensures.guarded c.open_file-opened.ensures.as_opened

not_bare : {X E : Type 0} (M A H : Type 0) (Clean : X → Type 0) (result : Result X E) → (M → IfOk result (λ x. Clean x → H)) → M → IfOk result (λ x. Clean x → ¬ (A × ¬ H))
not_bare M A H Clean (Ok x) reported m = λ clean both. both.1 (reported m clean)
not_bare M A H Clean (Err e) reported m = tt

found_as : {X E : Type 0} (M P : Type 0) (Clean A : X → Type 0) (result : Result X E) → (M → IfOk result (λ x. Clean x → A x)) → M → IfOk result (λ x. P → Clean x → A x)
found_as M P Clean A (Ok x) reported m = λ first. reported m
found_as M P Clean A (Err e) reported m = tt

pub returns-in-Some-clause-unraised : goal.returns-in-Some-clause-unraised
returns-in-Some-clause-unraised g c = found_as _ _ _ _ c.open_file-opened.result c.open_file-opened.ensures.unraised

none_vacant : {X E : Type 0} (result : Result X E) → OnOk result (¬ ⊥)
none_vacant (Ok x) = λ never. never
none_vacant (Err e) = tt

none_left : {F : Type 0} (b : Bool) (path : List ℕ) (old new : F) → LeavesVacant (λ _ _. ⊥) b path old new
none_left true path old new = λ other differs never. absurd never
none_left false path old new = λ other never. absurd never

pub returns-in-Some-clause-existing : goal.returns-in-Some-clause-existing
returns-in-Some-clause-existing g c = not_bare _ _ _ _ c.open_file-opened.result c.open_file-opened.ensures.tabled

pub returns-in-Some-clause-there : goal.returns-in-Some-clause-there
returns-in-Some-clause-there g c = λ makes. none_vacant c.open_file-opened.result

pub returns-in-Some-clause-vacancies : goal.returns-in-Some-clause-vacancies
returns-in-Some-clause-vacancies g c = none_left _ c.args.path.now _ _
