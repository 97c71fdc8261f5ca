-- What spans of a head cover, and what the functions over them answer.
use Rattle.std.specs.Prelude.{◌≡◌, ℕ, List, length, map, All, Option, Some, None, cond, min, Result, Ok, Err, ⊤}
use Rattle.std.specs.Str.Parse.{digits_value}
use Rattle.httparse.specs.declared.spans.HeaderSpan.{HeaderSpan}
use Rattle.httparse.specs.Spans.{header_bytes, IsHeaderWithin}
use Rattle.wire.specs.declared.framing.Frame.{Frame}
use Rattle.wire.specs.declared.framing.Length.{Length}
use Rattle.wire.specs.declared.framing.Length.TheVariants.{Refuses, Of}
use Rattle.wire.specs.declared.messages.WireFault.{WireFault}
use Rattle.wire.specs.declared.messages.WireFault.TheVariants.{Refused, Down}
use Rattle.wire.specs.Fields.{Fields}
use Rattle.wire.specs.Framing.{Parts, Verdict, refuses, accepts, IsJudged, judged, is_length, length_refusal, length_written}

-- the fields that the spans cover
abbrev pub fields_at : List ℕ → List HeaderSpan → Fields
fields_at head spans = map (header_bytes head) spans

-- the spans lie in the head
abbrev pub AreWithin : List ℕ → List HeaderSpan → Type 0
AreWithin head spans = All (IsHeaderWithin (length head)) spans

-- the number that a length's digits write, or the cap where it is above
abbrev pub capped_length : ℕ → List ℕ → Option ℕ
capped_length cap text = cond (is_length text) (Some (min (digits_value 10 text) cap)) None

abbrev pub GivesLength : Option (List ℕ) → ℕ → Length → Type 0
GivesLength text most (Refuses refusal) = length_refusal text most ≡ Some refusal
GivesLength text most (Of len) = (length_refusal text most ≡ None) × (len ≡ length_written text)

abbrev pub parts_at : List ℕ → List ℕ → ℕ → List ℕ → List HeaderSpan → Parts
parts_at method target minor head spans = record { method = method; target = target; minor = minor; fields = fields_at head spans }

-- a verdict, unless memory was refused
abbrev pub GivesBy : (Verdict → Type 0) → Result Frame WireFault → Type 0
GivesBy P (Ok frame) = P (accepts frame)
GivesBy P (Err (Refused refusal is_head)) = P (refuses refusal is_head)
GivesBy P (Err Down) = ⊤
GivesBy P (Err fault) = ⊥

abbrev pub Judges : Parts → Result Frame WireFault → Type 0
Judges parts result = GivesBy (λ verdict. verdict ≡ judged parts) result

-- the verdict on a whole head
abbrev pub Frames : List ℕ → Result Frame WireFault → Type 0
Frames head result = GivesBy (IsJudged head) result
