-- What the parts of the reading of a message report.
use Rattle.std.specs.Prelude.{◌≡◌, ℕ, ◌<◌, ◌≤◌, List, [], length, take, Bool, Option, Result, Ok, Err, IsTrue}
use Rattle.std.specs.Io.KnownBytes.{Appends, IsAtEnd}
use Rattle.wire.specs.declared.framing.Frame.{Frame}
use Rattle.wire.specs.declared.messages.Message.{Message}
use Rattle.wire.specs.declared.messages.WireFault.{WireFault}
use Rattle.wire.specs.declared.messages.WireFault.TheVariants.{Ended, Read, Continue, Refused, Down}
use Rattle.wire.specs.Messages.{framed_message}
use Rattle.wire.specs.Links.{WritesPrefix, continue_text, continue_if}

-- the bytes of a body so far, those left, and the body: it is whole, or the input ended or a read failed before
abbrev pub Fills : List ℕ → ℕ → Option (List ℕ) → List ℕ → Result (Unit {0}) WireFault → Type 0
Fills received len left body (Ok done) = (body ≡ received) × (length received ≡ len)
Fills received len left body (Err Ended) = (length received < len) × IsAtEnd left
Fills received len left body (Err Read) = length received < len
Fills received len left body (Err fault) = ⊥

-- why there is no body, by its length, whether a `100 Continue` is awaited, and the bytes received after the head
abbrev pub LacksBody : ℕ → Bool → List ℕ → Option (List ℕ) → Option (List ℕ) → Option (List ℕ) → WireFault → Type 0
LacksBody len awaits rest left old new Ended = (length rest < len) × IsAtEnd left × Appends old new (continue_if awaits)
LacksBody len awaits rest left old new Read = (length rest < len) × Appends old new (continue_if awaits)
LacksBody len awaits rest left old new Continue = IsTrue awaits × WritesPrefix old new continue_text
LacksBody len awaits rest left old new (Refused refusal is_head) = ⊥
LacksBody len awaits rest left old new Down = Appends old new []

-- the body that follows a head
abbrev pub ReadsBody : ℕ → Bool → List ℕ → Option (List ℕ) → Option (List ℕ) → Option (List ℕ) → Result (List ℕ) WireFault → Type 0
ReadsBody len awaits rest left old new (Ok body) = (len ≤ length rest) × (body ≡ take len rest) × Appends old new (continue_if awaits)
ReadsBody len awaits rest left old new (Err fault) = LacksBody len awaits rest left old new fault

-- what follows a head that is accepted
abbrev pub Finishes : Frame → List ℕ → Option (List ℕ) → Option (List ℕ) → Option (List ℕ) → Result Message WireFault → Type 0
Finishes frame rest left old new (Ok message) =
    (frame.body_len ≤ length rest) × (message ≡ framed_message frame (take frame.body_len rest)) × Appends old new (continue_if frame.awaits_continue)
Finishes frame rest left old new (Err fault) = LacksBody frame.body_len frame.awaits_continue rest left old new fault
