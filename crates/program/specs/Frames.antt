-- Frames: what `custody replay` takes, one after another.
use Rattle.std.specs.Prelude.{ℕ, List, [], ◌∷◌, ◌≡◌, ◌≢◌, Option, Some, None, Bool, true, false, option_map, option_and_then}
use Rattle.serve.specs.declared.steps.Step.{Step}
use Rattle.serve.specs.declared.steps.Step.TheVariants.{Request as RequestStep, Command as CommandStep}
use Rattle.program.specs.declared.frame_headers.FrameHeader.{FrameHeader}
use Rattle.program.specs.declared.frame_headers.FrameHeader.TheVariants.{Request, Command}
use Rattle.program.specs.FrameHeaders.{heading_of}
use Rattle.serve.specs.Lines.{first_line, message_of}
use Rattle.serve.specs.Words.{words_of}

-- the step that a header and the bytes after its line make, and the bytes after the frame
abbrev pub step_of : FrameHeader → List ℕ → Option (Step × List ℕ)
step_of (Request at len) rest = option_map (λ found. (RequestStep at found.0, found.1)) (message_of len rest)
step_of (Command at command) rest = Some (CommandStep at command, rest)

-- what a frame's line says
abbrev pub line_heading : List ℕ → Option FrameHeader
line_heading line = option_and_then heading_of (words_of line)

-- the step of the first frame, and the bytes after it; none if the bytes do not begin with a frame
abbrev pub first_frame : List ℕ → Option (Step × List ℕ)
first_frame bytes = option_and_then (λ found. option_and_then (λ header. step_of header found.1) (line_heading found.0)) (first_line bytes)

-- at the end is nothing, or bytes that do not begin with a frame: a bad frame
abbrev pub Ends : List ℕ → Bool → Type 0
Ends bytes false = bytes ≡ []
Ends bytes true = (bytes ≢ []) × (first_frame bytes ≡ None)

-- the bytes are the frames of these steps in order, followed by a bad frame or nothing
abbrev pub AreFrames : List ℕ → List Step → Bool → Type 0
AreFrames bytes [] is_bad = Ends bytes is_bad
AreFrames bytes (step ∷ steps) is_bad = (rest : List ℕ) × (first_frame bytes ≡ Some (step, rest)) × AreFrames rest steps is_bad

-- no other steps, and no other end, can be read from the bytes
abbrev pub IsOnlyReading : List ℕ → List Step → Bool → Type 0
IsOnlyReading bytes steps is_bad = (others : List Step) (other : Bool) → AreFrames bytes others other → (others ≡ steps) × (other ≡ is_bad)
