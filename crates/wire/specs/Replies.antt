-- The text of a reply (RFC 9112, section 4; RFC 9110, section 15): a status line, fields, an empty line and the body. The phrases are this project's own choice.
use Rattle.std.specs.Prelude.{◌≡◌, ℕ, List, [], ◌∷◌, ◌++◌, length, Bool, true, false, ◌==◌, if◌then◌else◌, Option, Some, None, codes, decimal}
use Rattle.httpdate.specs.declared.date.HttpDate.{HttpDate}
use Rattle.httpdate.specs.Date.{unix_secs, date_text}
use Rattle.basis.specs.declared.refusals.Refusal.{Refusal}
use Rattle.basis.specs.declared.refusals.Refusal.TheVariants.{TwoTokens, NoToken, BadToken, BadSecret, NeedWrite, NeedAdmin, NoMethod, Unavailable}
use Rattle.basis.specs.Refusals.{line_of, allow_text}
use Rattle.wire.specs.Links.{line_end}

-- what is answered; `is_head` says that the method is HEAD, whose reply leaves the body out; `is_text`, that the body is text and not JSON
pub record Answer : Type 0 where
  pub status : ℕ
  pub refusal : Option Refusal
  pub body : List ℕ
  pub is_head : Bool
  pub is_text : Bool

abbrev pub empty_answer : Answer
empty_answer = record { status = 200; refusal = None; body = []; is_head = false; is_text = false }

abbrev pub no_content_answer : Answer
no_content_answer = record { status = 204; refusal = None; body = []; is_head = false; is_text = false }

abbrev pub document_answer : List ℕ → Answer
document_answer body = record { status = 200; refusal = None; body = body; is_head = false; is_text = false }

abbrev pub refused_answer : Refusal → List ℕ → Bool → Answer
refused_answer refusal body is_head = record { status = (line_of refusal).status; refusal = Some refusal; body = body; is_head = is_head; is_text = false }

-- 200, or the status of a refusal
abbrev pub status_of : Option Refusal → ℕ
status_of None = 200
status_of (Some refusal) = (line_of refusal).status

-- lines of text; if the request is refused, they say so
abbrev pub text_answer : Option Refusal → List ℕ → Answer
text_answer refusal body = record { status = status_of refusal; refusal = refusal; body = body; is_head = false; is_text = true }

-- the document of the refusal for want of memory
abbrev pub down_text : List ℕ
down_text = codes "{\"error\":\"down\"}"

abbrev pub unavailable_answer : Bool → Answer
unavailable_answer is_head = refused_answer Unavailable down_text is_head

-- the document of the refusal for want of the operator's secret
abbrev pub secret_text : List ℕ
secret_text = codes "{\"error\":\"bad-token\"}"

abbrev pub bad_secret_answer : Bool → Answer
bad_secret_answer is_head = refused_answer BadSecret secret_text is_head

abbrev pub phrase_of : ℕ → List ℕ
phrase_of status =
    if status == 200 then codes "OK"
    else (if status == 204 then codes "No Content"
    else (if status == 400 then codes "Bad Request"
    else (if status == 401 then codes "Unauthorized"
    else (if status == 403 then codes "Forbidden"
    else (if status == 404 then codes "Not Found"
    else (if status == 405 then codes "Method Not Allowed"
    else (if status == 409 then codes "Conflict"
    else (if status == 411 then codes "Length Required"
    else (if status == 413 then codes "Payload Too Large"
    else (if status == 423 then codes "Locked"
    else (if status == 431 then codes "Request Header Fields Too Large"
    else codes "Service Unavailable")))))))))))

abbrev pub status_line : ℕ → List ℕ
status_line status = codes "HTTP/1.1 " ++ decimal status ++ codes " " ++ phrase_of status ++ line_end

-- the date is IMF-fixdate (RFC 9110, section 5.6.7)
abbrev pub date_line : List ℕ → List ℕ
date_line date = codes "Date: " ++ date ++ line_end

-- each connection has one exchange, and no cache keeps a reply
abbrev pub fixed_lines : List ℕ
fixed_lines = codes "Connection: close" ++ line_end ++ codes "Cache-Control: private, no-store" ++ line_end

-- the methods of a route (RFC 9110, section 10.2.1)
abbrev pub allow_line : Option Refusal → List ℕ
allow_line (Some (NoMethod allow)) = codes "Allow: " ++ allow_text allow ++ line_end
allow_line _ = []

-- why a bearer token is needed or was refused (RFC 6750, section 3); or that the operator's secret is needed, for every reason
abbrev pub challenge_of : Refusal → Option (List ℕ)
challenge_of NoToken = Some (codes "Bearer realm=\"custody\"")
challenge_of TwoTokens = Some (codes "Bearer realm=\"custody\", error=\"invalid_request\"")
challenge_of BadToken = Some (codes "Bearer realm=\"custody\", error=\"invalid_token\"")
challenge_of BadSecret = Some (codes "Operator realm=\"custody\"")
challenge_of NeedWrite = Some (codes "Bearer realm=\"custody\", error=\"insufficient_scope\"")
challenge_of NeedAdmin = Some (codes "Bearer realm=\"custody\", error=\"insufficient_scope\"")
challenge_of _ = None

abbrev pub challenge_field : Option (List ℕ) → List ℕ
challenge_field None = []
challenge_field (Some challenge) = codes "WWW-Authenticate: " ++ challenge ++ line_end

abbrev pub challenge_line : Option Refusal → List ℕ
challenge_line None = []
challenge_line (Some refusal) = challenge_field (challenge_of refusal)

-- the type of a body: text, or a JSON document
abbrev pub type_of : Bool → List ℕ
type_of true = codes "text/plain; charset=utf-8"
type_of false = codes "application/json"

-- a body that is not empty has a type
abbrev pub type_line : Bool → List ℕ → List ℕ
type_line is_text [] = []
type_line is_text (b ∷ body) = codes "Content-Type: " ++ type_of is_text ++ line_end

-- every status but 204 has a length
abbrev pub length_line : ℕ → ℕ → List ℕ
length_line status len = if status == 204 then [] else codes "Content-Length: " ++ decimal len ++ line_end

-- the body that is sent
abbrev pub sent_body : Bool → List ℕ → List ℕ
sent_body true body = []
sent_body false body = body

abbrev pub head_text : Answer → List ℕ → List ℕ
head_text answer date =
    status_line answer.status ++ date_line date ++ fixed_lines ++ allow_line answer.refusal ++ challenge_line answer.refusal
    ++ type_line answer.is_text answer.body ++ length_line answer.status (length answer.body) ++ line_end

abbrev pub text_with_date : Answer → List ℕ → List ℕ
text_with_date answer date = head_text answer date ++ sent_body answer.is_head answer.body

-- the text of the date of a moment, in seconds since 1970
abbrev pub IsDateOf : ℕ → List ℕ → Type 0
IsDateOf moment text = (date : HttpDate) × (unix_secs date ≡ moment) × (text ≡ date_text date)

-- the text of an answer at a moment
abbrev pub IsReplyText : Answer → ℕ → List ℕ → Type 0
IsReplyText answer moment text = (date : List ℕ) × IsDateOf moment date × (text ≡ text_with_date answer date)
