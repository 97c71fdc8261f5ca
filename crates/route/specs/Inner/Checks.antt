-- Texts behind references.
use Rattle.std.specs.Borrow.{Bor}
use Rattle.std.specs.Prelude.{ℕ, List, Result, Ok, Err}
use Rattle.basis.specs.declared.refusals.Refusal.{Refusal}

-- what a reference points to
abbrev pub now_of : Bor (List ℕ) → List ℕ
now_of reference = reference.now

-- the same of an answer that is a reference
abbrev pub result_of : Result (Bor (List ℕ)) Refusal → Result (List ℕ) Refusal
result_of (Ok reference) = Ok reference.now
result_of (Err refusal) = Err refusal
