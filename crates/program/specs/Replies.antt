-- The text of replies, and what a replay leaves on its output.
use Rattle.std.specs.Prelude.{ℕ, List, [], ◌∷◌, ◌++◌, ◌+◌, ◌≡◌, Bool, Option, None, IfSome, codes, length, is_some}
use Rattle.std.specs.Fmt.{decimal}
use Rattle.std.specs.List.{flat_map}
use Rattle.std.specs.Io.KnownBytes.{Appends}
use Rattle.serve.specs.declared.steps.Step.{Step}
use Rattle.machine.specs.declared.records.Organization.{Organization}
use Rattle.serve.specs.Asks.{Ask, Owner}
use Rattle.serve.specs.Service.{AreAsked}
use Rattle.serve.specs.Runs.{AreOwnReplies, ListsAreReported}
use Rattle.program.specs.Frames.{AreFrames}

-- `reply LEN`, a line feed (10), the bytes of the reply and a line feed
abbrev pub reply_frame : List ℕ → List ℕ
reply_frame reply = codes "reply " ++ decimal (length reply) ++ 10 ∷ [] ++ reply ++ 10 ∷ []

-- the replies one after another
abbrev pub printed : List (List ℕ) → List ℕ
printed replies = flat_map reply_frame replies

-- the line about the frame of this number, which does not parse
abbrev pub bad_frame_text : ℕ → List ℕ
bad_frame_text frame = codes "custody: bad frame " ++ (decimal frame ++ 10 ∷ [])

-- a line of an answer: a word or two and a line feed
abbrev pub answer_line : List ℕ → List ℕ
answer_line words = words ++ 10 ∷ []

-- one line for each fault found in the tables of a file
abbrev pub fault_lines : List (List ℕ) → List ℕ
fault_lines faults = flat_map answer_line faults

-- there is no organization
abbrev pub no_records : List ℕ → Option Organization
no_records org = None

-- the replies to these steps over an empty store: one each. For the steps of an organization, and of nobody, they are those of its own
-- machine. The operator's are lists, and each names the organizations that the steps before it leave
pub record AreReplies (steps : List Step) (replies : List (List ℕ)) : Type 0 where
  pub one_each : length replies ≡ length steps
  pub own : (asked : List Ask) → AreAsked steps asked → (owner : Owner) → AreOwnReplies asked no_records replies owner
  pub lists : (asked : List Ask) → AreAsked steps asked → ListsAreReported no_records asked replies

-- the replies to the frames of the bytes, and the number of the bad frame after them, from 1
abbrev pub AnswersFrames : List ℕ → List (List ℕ) → Option ℕ → Type 0
AnswersFrames bytes replies bad_frame =
    (steps : List Step) × AreFrames bytes steps (is_some bad_frame) × AreReplies steps replies × IfSome bad_frame (λ frame. frame ≡ length steps + 1)

-- the output's contents, if known, grow by the printed replies to the frames of the bytes; and whether a bad frame follows
abbrev pub Replays : List ℕ → Bool → Option (List ℕ) → Option (List ℕ) → Type 0
Replays bytes is_bad old new =
    (steps : List Step) × (replies : List (List ℕ)) × AreFrames bytes steps is_bad × AreReplies steps replies × Appends old new (printed replies)
