-- What a reader gave and a writer took, and what the reading of a message reports.
use Rattle.std.specs.Prelude.{◌≡◌, ℕ, ◌<◌, nat_lt, ◌==◌, ◌&&◌, List, [], ◌∷◌, ◌++◌, length, Bool, true, false, Option, Result, Ok, Err, codes, ⊤}
use Rattle.std.specs.Io.KnownBytes.{Appends, IsAtEnd}
use Rattle.wire.specs.declared.messages.Message.{Message}
use Rattle.wire.specs.declared.messages.WireFault.{WireFault}
use Rattle.wire.specs.declared.messages.WireFault.TheVariants.{Ended, Read, Continue, Refused, Down}
use Rattle.wire.specs.Messages.{Reads, unfinished, refused, whole, AwaitsContinue, IsAwaited}

-- a read told the end of the input: it gave nothing, and there was room
abbrev pub is_end : {E : Type 0} → Result ℕ E → ℕ → Bool
is_end (Ok count) room = count == 0 && nat_lt 0 room
is_end (Err fault) room = false

-- a writer took nothing of a piece that has bytes
abbrev pub takes_nothing : {E : Type 0} → Result ℕ E → ℕ → Bool
takes_nothing (Ok count) length = count == 0 && nat_lt 0 length
takes_nothing (Err fault) length = false

-- CR LF
abbrev pub line_end : List ℕ
line_end = 13 ∷ 10 ∷ []

-- the interim reply (RFC 9110, section 15.2.1): a line and an empty line, 25 bytes
abbrev pub continue_text : List ℕ
continue_text = codes "HTTP/1.1 100 Continue" ++ line_end ++ line_end

abbrev pub continue_if : Bool → List ℕ
continue_if true = continue_text
continue_if false = []

-- a prefix of the text was written, and not all of it
abbrev pub WritesPrefix : Option (List ℕ) → Option (List ℕ) → List ℕ → Type 0
WritesPrefix old new text = (prefix : List ℕ) × (rest : List ℕ) × (0 < length rest) × (text ≡ prefix ++ rest) × Appends old new prefix

-- all of the text was written, or a prefix of it and not all
abbrev pub Writes : {T E : Type 0} → Option (List ℕ) → Option (List ℕ) → List ℕ → Result T E → Type 0
Writes old new text (Ok done) = Appends old new text
Writes old new text (Err fault) = WritesPrefix old new text

-- the `100 Continue` was written where it is awaited by these bytes, and else nothing
abbrev pub WritesContinue : List ℕ → Option (List ℕ) → Option (List ℕ) → Type 0
WritesContinue bytes old new = (awaited : Bool) × IsAwaited bytes awaited × Appends old new (continue_if awaited)

-- what the reading of a message reports, by the bytes received: those left, and those written before and after
abbrev pub ReportsReceived : List ℕ → Option (List ℕ) → Option (List ℕ) → Option (List ℕ) → Result Message WireFault → Type 0
ReportsReceived received left old new (Ok message) = (awaited : Bool) × Reads received (whole message awaited) × Appends old new (continue_if awaited)
ReportsReceived received left old new (Err Ended) = Reads received unfinished × IsAtEnd left × WritesContinue received old new
ReportsReceived received left old new (Err Read) = Reads received unfinished × WritesContinue received old new
ReportsReceived received left old new (Err Continue) = AwaitsContinue received × WritesPrefix old new continue_text
ReportsReceived received left old new (Err (Refused refusal is_head)) = Reads received (refused refusal is_head) × Appends old new []
ReportsReceived received left old new (Err Down) = Appends old new []

-- the same by the whole input, the bytes that the reader had
abbrev pub ReportsInput : List ℕ → Option (List ℕ) → Option (List ℕ) → Result Message WireFault → Type 0
ReportsInput bytes old new (Ok message) = (awaited : Bool) × Reads bytes (whole message awaited) × Appends old new (continue_if awaited)
ReportsInput bytes old new (Err Ended) = Reads bytes unfinished × WritesContinue bytes old new
ReportsInput bytes old new (Err Read) = ⊤
ReportsInput bytes old new (Err Continue) = AwaitsContinue bytes × WritesPrefix old new continue_text
ReportsInput bytes old new (Err (Refused refusal is_head)) = Reads bytes (refused refusal is_head) × Appends old new []
ReportsInput bytes old new (Err Down) = Appends old new []
