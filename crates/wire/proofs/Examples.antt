-- Worked replies, computed by the definitions themselves.
use Rattle.std.proofs.Common.{◌≡◌, ℕ, List, length, true, false, Some, None, refl}
use Rattle.std.specs.Prelude.{codes}
use Rattle.std.specs.Fmt.{digits}
use Rattle.basis.specs.declared.refusals.Allow.TheVariants.{States}
use Rattle.basis.specs.declared.refusals.Refusal.TheVariants.{NoToken, NoMethod, TooLarge, BadSecret, Exists}
use Rattle.wire.specs.Framing.{max_body, length_refusal}
use Rattle.wire.specs.Heads.{head_len}
use Rattle.wire.specs.Replies.{empty_answer, no_content_answer, document_answer, refused_answer, unavailable_answer, text_answer, text_with_date}

abbrev date : List ℕ
date = codes "Tue, 14 Nov 2023 22:13:20 GMT"

done : text_with_date empty_answer date
    ≡ codes "HTTP/1.1 200 OK\r\nDate: Tue, 14 Nov 2023 22:13:20 GMT\r\nConnection: close\r\nCache-Control: private, no-store\r\nContent-Length: 0\r\n\r\n"
unfolding digits
done = refl

document : text_with_date (document_answer (codes "{\"version\":4,\"serial\":1,\"lineage\":\"a1\"}")) date
    ≡ codes "HTTP/1.1 200 OK\r\nDate: Tue, 14 Nov 2023 22:13:20 GMT\r\nConnection: close\r\nCache-Control: private, no-store\r\nContent-Type: application/json\r\nContent-Length: 39\r\n\r\n{\"version\":4,\"serial\":1,\"lineage\":\"a1\"}"
unfolding digits
document = refl

no_content : text_with_date no_content_answer date
    ≡ codes "HTTP/1.1 204 No Content\r\nDate: Tue, 14 Nov 2023 22:13:20 GMT\r\nConnection: close\r\nCache-Control: private, no-store\r\n\r\n"
unfolding digits
no_content = refl

no_token : text_with_date (refused_answer NoToken (codes "{\"error\":\"no-token\"}") false) date
    ≡ codes "HTTP/1.1 401 Unauthorized\r\nDate: Tue, 14 Nov 2023 22:13:20 GMT\r\nConnection: close\r\nCache-Control: private, no-store\r\nWWW-Authenticate: Bearer realm=\"custody\"\r\nContent-Type: application/json\r\nContent-Length: 20\r\n\r\n{\"error\":\"no-token\"}"
unfolding digits
no_token = refl

-- HEAD: the lines on the body stay, and the body is left out
head_asked : text_with_date (refused_answer (NoMethod States) (codes "{\"error\":\"no-method\"}") true) date
    ≡ codes "HTTP/1.1 405 Method Not Allowed\r\nDate: Tue, 14 Nov 2023 22:13:20 GMT\r\nConnection: close\r\nCache-Control: private, no-store\r\nAllow: DELETE, GET, LOCK, POST, PUT, UNLOCK\r\nContent-Type: application/json\r\nContent-Length: 21\r\n\r\n"
unfolding digits
head_asked = refl

-- the operator's secret is missing
no_secret : text_with_date (refused_answer BadSecret (codes "{\"error\":\"bad-token\"}") false) date
    ≡ codes "HTTP/1.1 401 Unauthorized\r\nDate: Tue, 14 Nov 2023 22:13:20 GMT\r\nConnection: close\r\nCache-Control: private, no-store\r\nWWW-Authenticate: Operator realm=\"custody\"\r\nContent-Type: application/json\r\nContent-Length: 21\r\n\r\n{\"error\":\"bad-token\"}"
unfolding digits
no_secret = refl

-- what an operator's command is answered
commanded : text_with_date (text_answer None (codes "ok\n")) date
    ≡ codes "HTTP/1.1 200 OK\r\nDate: Tue, 14 Nov 2023 22:13:20 GMT\r\nConnection: close\r\nCache-Control: private, no-store\r\nContent-Type: text/plain; charset=utf-8\r\nContent-Length: 3\r\n\r\nok\n"
unfolding digits
commanded = refl

command_refused : text_with_date (text_answer (Some Exists) (codes "refused exists\n")) date
    ≡ codes "HTTP/1.1 409 Conflict\r\nDate: Tue, 14 Nov 2023 22:13:20 GMT\r\nConnection: close\r\nCache-Control: private, no-store\r\nContent-Type: text/plain; charset=utf-8\r\nContent-Length: 15\r\n\r\nrefused exists\n"
unfolding digits
command_refused = refl

-- the lengths of replies at that moment
length_done : length (text_with_date empty_answer date) ≡ 128
unfolding digits
length_done = refl

length_document : length (text_with_date (document_answer (codes "{\"version\":4,\"serial\":1,\"lineage\":\"a1\"}")) date) ≡ 200
unfolding digits
length_document = refl

length_workspace : length (text_with_date (document_answer (codes "{\"auto_apply\":false,\"holder\":null,\"keep_versions\":100,\"name\":\"net\",\"version\":null}")) date) ≡ 243
unfolding digits
length_workspace = refl

length_no_content : length (text_with_date no_content_answer date) ≡ 117
unfolding digits
length_no_content = refl

length_unavailable : length (text_with_date (unavailable_answer false) date) ≡ 194
unfolding digits
length_unavailable = refl

length_unavailable_to_head : length (text_with_date (unavailable_answer true) date) ≡ 178
unfolding digits
length_unavailable_to_head = refl

-- where a head ends: at the first empty line, by LF LF or LF CR LF, past line breaks before it
head_of_two_lines : head_len (codes "GET / HTTP/1.1\r\nHost: c\r\n\r\nrest") ≡ Some 27
head_of_two_lines = refl

feeds_alone : head_len (codes "a\nb\n\nrest") ≡ Some 5
feeds_alone = refl

mixed_breaks : head_len (codes "a\n\r\nrest") ≡ Some 4
mixed_breaks = refl

breaks_in_front : head_len (codes "\r\n\r\na\n\n") ≡ Some 7
breaks_in_front = refl

not_whole : head_len (codes "a\n\r") ≡ None
not_whole = refl

breaks_alone : head_len (codes "\n\n\r\n") ≡ None
breaks_alone = refl

-- how long a body may be: of POST and PUT 16 MiB, of another method 16 KiB
longest_state : length_refusal (Some (codes "16777216")) (max_body (codes "POST")) ≡ None
longest_state = refl

longer_state : length_refusal (Some (codes "16777217")) (max_body (codes "POST")) ≡ Some TooLarge
longer_state = refl

longest_document : length_refusal (Some (codes "16777216")) (max_body (codes "PUT")) ≡ None
longest_document = refl

longer_document : length_refusal (Some (codes "16777217")) (max_body (codes "PUT")) ≡ Some TooLarge
longer_document = refl

longest_of_another : length_refusal (Some (codes "16384")) (max_body (codes "LOCK")) ≡ None
longest_of_another = refl

longer_of_another : length_refusal (Some (codes "16385")) (max_body (codes "LOCK")) ≡ Some TooLarge
longer_of_another = refl
