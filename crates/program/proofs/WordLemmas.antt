-- Words of another number than a form has.
use Rattle.std.proofs.Common.{◌≡◌, ℕ, ◌<◌, List, [], ◌∷◌, length, Bor, None, refl, arith}
use Rattle.serve.specs.Words.{bytes_of}
use Rattle.program.specs.FrameHeaders.{heading_of}

pub no_heading : (words : List (Bor (List ℕ))) → length words < 3 → heading_of (bytes_of words) ≡ None
no_heading [] short = refl
no_heading (a ∷ []) short = refl
no_heading (a ∷ b ∷ []) short = refl
no_heading (a ∷ b ∷ c ∷ words) short = absurd (omega arith)
