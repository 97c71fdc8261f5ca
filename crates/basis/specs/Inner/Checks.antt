-- What a function answers, beside what its definition gives.
use Rattle.std.specs.Prelude.{◌≡◌, ◌≢◌, Result, Ok, Err}
use Rattle.basis.specs.declared.refusals.Refusal.{Refusal}
use Rattle.basis.specs.declared.refusals.Refusal.TheVariants.{Unavailable}

-- a result follows the definition, or memory was refused
abbrev pub Follows : {A : Type 0} → Result A Refusal → Result A Refusal → Type 0
Follows (Ok value) defined = defined ≡ Ok value
Follows (Err refusal) defined = refusal ≢ Unavailable → defined ≡ Err refusal
