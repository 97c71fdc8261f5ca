-- What a whole head says: refused, or a message with a body of so many bytes (RFC 9112, sections 3.2 and 6; RFC 9110, section 10.1.1).
use Rattle.std.specs.Prelude.{◌≡◌, ℕ, ◌<◌, ◌≤◌, List, [], length, map, Bool, true, false, not, ◌&&◌, ◌||◌, ◌==◌, nat_lt, if◌then◌else◌, Option, Some, None, is_none, codes, bytes_eq}
use Rattle.std.specs.List.{list_all}
use Rattle.std.specs.Char.{is_ascii_digit}
use Rattle.std.specs.Str.Parse.{digits_value}
use Rattle.httparse.specs.Grammar.{RequestHead, ReadsRequest, HasNoRequest}
use Rattle.httparse.specs.Spans.{name_and_value}
use Rattle.basis.specs.declared.refusals.Refusal.{Refusal}
use Rattle.basis.specs.declared.refusals.Refusal.TheVariants.{BadMessage, NoLength, TooLarge, HeadTooLarge}
use Rattle.wire.specs.declared.framing.TheConstants.{MAX_FEEDS, MAX_STATE_BODY, MAX_OTHER_BODY}
use Rattle.wire.specs.declared.framing.Frame.{Frame}
use Rattle.wire.specs.Heads.{feeds_of}
use Rattle.wire.specs.Fields.{Fields, has_value, has_field, stands_twice, value_of}
use Rattle.wire.specs.Targets.{origin_of, path_of, query_of}

-- the request line and the fields, each with its name and its value without the white space around it
pub record Parts : Type 0 where
  pub method : List ℕ
  pub target : List ℕ
  pub minor : ℕ
  pub fields : Fields

abbrev pub parts_of : RequestHead → Parts
parts_of h = record { method = h.method; target = h.target; minor = h.minor; fields = map name_and_value h.fields }

-- what the bytes of a whole head are: too many field lines, no head of the grammar, or these parts
pub data HeadParse : Type 0 where
  crowded malformed : HeadParse
  parsed : Parts → HeadParse

-- at most MAX_FEEDS line feeds: the request line and the empty line end in one too
abbrev pub ParsesAs : List ℕ → HeadParse → Type 0
ParsesAs head crowded = MAX_FEEDS < feeds_of head
ParsesAs head malformed = (feeds_of head ≤ MAX_FEEDS) × HasNoRequest head
ParsesAs head (parsed parts) =
    (feeds_of head ≤ MAX_FEEDS) × ((h : RequestHead) × (rest : List ℕ) × ReadsRequest head h rest × (parts ≡ parts_of h))

-- HTTP/1.1 without a host, or two hosts
abbrev pub is_without_host : ℕ → Fields → Bool
is_without_host minor fields = (minor == 1 && not (has_field (codes "host") fields)) || stands_twice (codes "host") fields

-- two fields of a name that may stand once
abbrev pub repeats_a_field : Fields → Bool
repeats_a_field fields =
    stands_twice (codes "authorization") fields
    || stands_twice (codes "content-length") fields
    || stands_twice (codes "content-md5") fields

abbrev pub is_chunked : Fields → Bool
is_chunked fields = has_field (codes "transfer-encoding") fields

-- a body with a length and chunks
abbrev pub is_framed_twice : Fields → Bool
is_framed_twice fields = is_chunked fields && has_field (codes "content-length") fields

-- one decimal digit or more
abbrev pub is_length : List ℕ → Bool
is_length text = nat_lt 0 (length text) && list_all is_ascii_digit text

abbrev pub is_length_or_none : Option (List ℕ) → Bool
is_length_or_none None = true
is_length_or_none (Some text) = is_length text

abbrev pub length_written : Option (List ℕ) → ℕ
length_written None = 0
length_written (Some text) = digits_value 10 text

abbrev pub content_length : Fields → Option (List ℕ)
content_length fields = value_of (codes "content-length") fields

-- the length of the body; without the field it is empty
abbrev pub body_length : Fields → ℕ
body_length fields = length_written (content_length fields)

-- the most bytes of a body
abbrev pub max_body : List ℕ → ℕ
max_body method = if bytes_eq method (codes "POST") || bytes_eq method (codes "PUT") then MAX_STATE_BODY else MAX_OTHER_BODY

-- a client of HTTP/1.1 awaits a `100 Continue` before it sends its body
abbrev pub awaits_continue : ℕ → Fields → Bool
awaits_continue minor fields = minor == 1 && not (body_length fields == 0) && has_value (codes "expect") (codes "100-continue") fields

-- the first rules, each of which refuses the head as no message
abbrev pub are_misframed : ℕ → Fields → Bool
are_misframed minor fields = is_without_host minor fields || repeats_a_field fields || is_framed_twice fields

abbrev pub is_misframed : Parts → Bool
is_misframed parts = is_none (origin_of parts.target) || are_misframed parts.minor parts.fields

-- the refusal by the length of the body, if it is refused
abbrev pub length_refusal : Option (List ℕ) → ℕ → Option Refusal
length_refusal text most =
    if not (is_length_or_none text) then Some BadMessage
    else (if nat_lt most (length_written text) then Some TooLarge else None)

-- the answer of the first rule that refuses
abbrev pub refusal_of : Parts → Option Refusal
refusal_of parts =
    if is_misframed parts then Some BadMessage
    else (if is_chunked parts.fields then Some NoLength
    else length_refusal (content_length parts.fields) (max_body parts.method))

abbrev pub is_head_method : List ℕ → Bool
is_head_method method = bytes_eq method (codes "HEAD")

-- the message, without its body so far; `origin` is the target without scheme and host
abbrev pub frame_of : Parts → List ℕ → Frame
frame_of parts origin = record {
  message = record {
    method = parts.method;
    path = path_of origin;
    query = query_of origin;
    authorization = value_of (codes "authorization") parts.fields;
    content_md5 = value_of (codes "content-md5") parts.fields;
    body = [];
  };
  body_len = body_length parts.fields;
  awaits_continue = awaits_continue parts.minor parts.fields;
}

-- refused, and whether the head could be parsed and its method is HEAD; or accepted
pub data Verdict : Type 0 where
  refuses : Refusal → Bool → Verdict
  accepts : Frame → Verdict

abbrev pub judged_by : Option Refusal → Option (List ℕ) → Parts → Verdict
judged_by (Some refusal) origin parts = refuses refusal (is_head_method parts.method)
judged_by None (Some origin) parts = accepts (frame_of parts origin)
judged_by None None parts = refuses BadMessage (is_head_method parts.method)

abbrev pub judged : Parts → Verdict
judged parts = judged_by (refusal_of parts) (origin_of parts.target) parts

abbrev pub verdict_of : HeadParse → Verdict
verdict_of crowded = refuses HeadTooLarge false
verdict_of malformed = refuses BadMessage false
verdict_of (parsed parts) = judged parts

-- the verdict on a whole head
abbrev pub IsJudged : List ℕ → Verdict → Type 0
IsJudged head verdict = (parse : HeadParse) × ParsesAs head parse × (verdict ≡ verdict_of parse)
