-- The error stream: its contents, and how many calls on it have failed.
use Rattle.std.specs.Prelude.{◌≡◌, ◌⊎◌, ◌++◌, ◌+◌, ◌^◌, ◌-◌, ℕ, List, Option, Result, Ok, Err, min}
use Rattle.std.specs.Io.KnownBytes.{Appends}

-- the stream's contents, if they are known, and how many calls on it have failed
pub record Reported : Type 0 where
  pub bytes : Option (List ℕ)
  pub failures : ℕ

abbrev pub as_reported : Option (List ℕ) → ℕ → Reported
as_reported bytes failures = record { bytes = bytes; failures = failures }

-- one more; it is counted up to 2⁶⁴ - 1
unfoldable pub one_more : ℕ → ℕ
one_more failures = min (failures + 1) (2 ^ 64 - 1)

-- how many calls have failed after this one
abbrev pub failures_after : {T E : Type 0} → Result T E → ℕ → ℕ
failures_after (Ok done) failures = failures
failures_after (Err fault) failures = one_more failures

-- the stream got the text, or a front of it
abbrev pub GetsFront : Option (List ℕ) → Option (List ℕ) → List ℕ → Type 0
GetsFront old new text = (front : List ℕ) × (rest : List ℕ) × (text ≡ front ++ rest) × Appends old new front

-- no call on the error stream failed, and it got the whole text
abbrev pub GetsAll : Reported → Reported → List ℕ → Type 0
GetsAll old new text = Appends old.bytes new.bytes text × (new.failures ≡ old.failures)

-- a call on the error stream failed, and it got the text, or a front of it
abbrev pub GetsPart : Reported → Reported → List ℕ → Type 0
GetsPart old new text = GetsFront old.bytes new.bytes text × (new.failures ≡ one_more old.failures)

-- the error stream gets the whole text, unless a call on it failed
abbrev pub Reports : Reported → Reported → List ℕ → Type 0
Reports old new text = GetsAll old new text ⊎ GetsPart old new text

-- the same, where the result says whether a call failed
abbrev pub ReportsBy : {T E : Type 0} → Reported → Reported → List ℕ → Result T E → Type 0
ReportsBy old new text (Ok done) = GetsAll old new text
ReportsBy old new text (Err fault) = GetsPart old new text
