-- The message that a string of bytes means: each string has exactly one reading, and bytes that follow change nothing once it is read.
use Rattle.std.specs.Prelude.{◌≡◌, ◌↔◌, ℕ, List, ◌++◌, length, take, drop, Bool, false, codes, nat_le, if◌then◌else◌, IsTrue}
use Rattle.basis.specs.Refusals.{line_of}
use Rattle.basis.specs.declared.refusals.Refusal.{Refusal}
use Rattle.basis.specs.declared.refusals.Refusal.TheVariants.{HeadTooLarge}
use Rattle.wire.specs.declared.framing.Frame.{Frame}
use Rattle.wire.specs.declared.messages.Message.{Message}
use Rattle.wire.specs.declared.messages.WireFault.{WireFault}
use Rattle.wire.specs.declared.messages.WireFault.TheVariants.{Ended, Read, Continue, Refused, Down}
use Rattle.wire.specs.Heads.{HeadEnd, Unfinished, Long, Whole, head_end_of}
use Rattle.wire.specs.Framing.{Verdict, refuses, accepts, IsJudged}

-- what a string is: unfinished; refused, and whether the head could be parsed and its method is HEAD; or a message, and whether a `100 Continue` is awaited before its body
pub data Reading : Type 0 where
  unfinished : Reading
  refused : Refusal → Bool → Reading
  whole : Message → Bool → Reading

abbrev pub framed_message : Frame → List ℕ → Message
framed_message frame body = record frame.message { body = body }

-- the verdict on the head, and the bytes that follow it: those past the body aren't part of the message
abbrev pub reading_by : Verdict → List ℕ → Reading
reading_by (refuses refusal is_head) rest = refused refusal is_head
reading_by (accepts frame) rest =
    if nat_le frame.body_len (length rest) then whole (framed_message frame (take frame.body_len rest)) frame.awaits_continue else unfinished

abbrev pub ReadsByEnd : HeadEnd → List ℕ → Reading → Type 0
ReadsByEnd Unfinished bytes reading = reading ≡ unfinished
ReadsByEnd Long bytes reading = reading ≡ refused HeadTooLarge false
ReadsByEnd (Whole n) bytes reading =
    (verdict : Verdict) × IsJudged (take n bytes) verdict × (reading ≡ reading_by verdict (drop n bytes))

abbrev pub Reads : List ℕ → Reading → Type 0
Reads bytes reading = ReadsByEnd (head_end_of bytes) bytes reading

-- the head is whole and not refused, and the client awaits a `100 Continue` (RFC 9110, section 10.1.1)
abbrev pub AwaitsContinueBy : HeadEnd → List ℕ → Type 0
AwaitsContinueBy Unfinished bytes = ⊥
AwaitsContinueBy Long bytes = ⊥
AwaitsContinueBy (Whole n) bytes = (frame : Frame) × IsJudged (take n bytes) (accepts frame) × IsTrue frame.awaits_continue

abbrev pub AwaitsContinue : List ℕ → Type 0
AwaitsContinue bytes = AwaitsContinueBy (head_end_of bytes) bytes

-- the flag says whether it does
abbrev pub IsAwaited : List ℕ → Bool → Type 0
IsAwaited bytes awaited = IsTrue awaited ↔ AwaitsContinue bytes

-- why no message was read, in words
abbrev pub fault_text : WireFault → List ℕ
fault_text Ended = codes "the input ended inside the message"
fault_text Read = codes "a read failed"
fault_text Continue = codes "writing the `100 Continue` failed"
fault_text (Refused refusal is_head) = codes "the head is refused: " ++ (line_of refusal).word
fault_text Down = codes "memory was refused"
