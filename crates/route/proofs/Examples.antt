-- Worked requests, computed by the definitions themselves: what a message asks, or why it is refused.
use Rattle.std.proofs.Common.{◌≡◌, ℕ, List, [], Option, Some, None, refl}
use Rattle.std.specs.Prelude.{codes}
use Rattle.std.specs.Str.{chars, is_utf8}
use Rattle.std.specs.Str.Lossy.{utf8_lossy, utf8_valid_len}
use lib.Utf8.{encode}
use Rattle.form_urlencoded.proofs.OnLiterals.{form_urlencoded_on_literals}
use Rattle.basis.specs.declared.refusals.Allow.TheVariants.{States}
use Rattle.basis.specs.declared.refusals.Refusal.TheVariants.{TwoTokens, NoToken, BadToken, BadQuery, NoRoute, NoMethod}
use Rattle.basis.specs.declared.acts.Query.TheVariants.{State, Versions}
use Rattle.basis.specs.declared.runs.RunAction.TheVariants.{Discard}
use Rattle.wire.specs.declared.messages.Message.{Message}
use Rattle.route.specs.declared.routes.AskedAct.TheVariants.{OfWorkspace}
use Rattle.basis.specs.declared.acts.WsAct.{WsAct}
use Rattle.basis.specs.declared.acts.WsAct.TheVariants.{Query, UpdateState, Unlock, ForceUnlock, ReportRun}
use Rattle.route.specs.Asks.{Asking, refused, asks, asked_of, asked_made}
use Rattle.route.specs.Tokens.{bearer_token_made}

abbrev message : List ℕ → List ℕ → Option (List ℕ) → Option (List ℕ) → List ℕ → Message
message method path query authorization body = record { method = method; path = path; query = query; authorization = authorization; content_md5 = None; body = body }

abbrev reader : Option (List ℕ)
reader = Some (codes "Bearer acme.readreadreadread")

abbrev net : List ℕ
net = codes "/v1/acme/state/net"

-- of the workspace `net`
abbrev asks_of : WsAct → Option (List ℕ) → List ℕ → Asking
asks_of act lock_id secret = asks (asked_made (codes "acme") (OfWorkspace (codes "net") act) lock_id (bearer_token_made (codes "acme") secret))

state_read : asked_of (message (codes "GET") net None reader []) ≡ asks_of (Query State) None (codes "readreadreadread")
unfolding form_urlencoded_on_literals utf8_lossy utf8_valid_len chars is_utf8 encode
state_read = refl

-- a stock client's token and lock ID stand in the query
update_with_id : asked_of (message (codes "POST") net (Some (codes "ID=5f2c&access_token=acme.writewritewrite1")) None (codes "{}"))
    ≡ asks_of UpdateState (Some (codes "5f2c")) (codes "writewritewrite1")
unfolding form_urlencoded_on_literals utf8_lossy utf8_valid_len chars is_utf8 encode
update_with_id = refl

escaped_key : asked_of (message (codes "GET") net (Some (codes "access%5Ftoken=acme.readreadreadread")) None []) ≡ asks_of (Query State) None (codes "readreadreadread")
unfolding form_urlencoded_on_literals utf8_lossy utf8_valid_len chars is_utf8 encode
escaped_key = refl

-- UNLOCK is two acts, told apart by the body
unlocked : asked_of (message (codes "UNLOCK") net None reader (codes "{}")) ≡ asks_of Unlock None (codes "readreadreadread")
unfolding form_urlencoded_on_literals utf8_lossy utf8_valid_len chars is_utf8 encode
unlocked = refl

forced : asked_of (message (codes "UNLOCK") net None reader []) ≡ asks_of ForceUnlock None (codes "readreadreadread")
unfolding form_urlencoded_on_literals utf8_lossy utf8_valid_len chars is_utf8 encode
forced = refl

action : asked_of (message (codes "POST") (codes "/v1/acme/runs/net/2/actions/discard") None reader []) ≡ asks_of (ReportRun 2 Discard) None (codes "readreadreadread")
unfolding form_urlencoded_on_literals utf8_lossy utf8_valid_len chars is_utf8 encode
action = refl

listed : asked_of (message (codes "GET") (codes "/v1/acme/versions/net") (Some (codes "after=51")) reader []) ≡ asks_of (Query (Versions 51)) None (codes "readreadreadread")
unfolding form_urlencoded_on_literals utf8_lossy utf8_valid_len chars is_utf8 encode
listed = refl

-- refused, in the order of the checks
head_asked : asked_of (message (codes "HEAD") net None reader []) ≡ refused (NoMethod States)
unfolding form_urlencoded_on_literals utf8_lossy utf8_valid_len chars is_utf8 encode
head_asked = refl

slash_behind : asked_of (message (codes "GET") (codes "/v1/acme/state/net/") None reader []) ≡ refused NoRoute
unfolding form_urlencoded_on_literals utf8_lossy utf8_valid_len chars is_utf8 encode
slash_behind = refl

capital_name : asked_of (message (codes "GET") (codes "/v1/Acme/state/net") None reader []) ≡ refused NoRoute
unfolding form_urlencoded_on_literals utf8_lossy utf8_valid_len chars is_utf8 encode
capital_name = refl

leading_zero : asked_of (message (codes "GET") (codes "/v1/acme/runs/net/01") None reader []) ≡ refused NoRoute
unfolding form_urlencoded_on_literals utf8_lossy utf8_valid_len chars is_utf8 encode
leading_zero = refl

two_ids : asked_of (message (codes "GET") net (Some (codes "ID=a&ID=a")) reader []) ≡ refused BadQuery
unfolding form_urlencoded_on_literals utf8_lossy utf8_valid_len chars is_utf8 encode
two_ids = refl

after_no_name : asked_of (message (codes "GET") (codes "/v1/acme/workspaces") (Some (codes "after=a.b")) reader []) ≡ refused BadQuery
unfolding form_urlencoded_on_literals utf8_lossy utf8_valid_len chars is_utf8 encode
after_no_name = refl

both_tokens : asked_of (message (codes "GET") net (Some (codes "access_token=x")) reader []) ≡ refused TwoTokens
unfolding form_urlencoded_on_literals utf8_lossy utf8_valid_len chars is_utf8 encode
both_tokens = refl

another_scheme : asked_of (message (codes "GET") net None (Some (codes "Basic eDp5")) []) ≡ refused NoToken
unfolding form_urlencoded_on_literals utf8_lossy utf8_valid_len chars is_utf8 encode
another_scheme = refl

small_letters : asked_of (message (codes "GET") net None (Some (codes "bearer acme.readreadreadread")) []) ≡ asks_of (Query State) None (codes "readreadreadread")
unfolding form_urlencoded_on_literals utf8_lossy utf8_valid_len chars is_utf8 encode
small_letters = refl

no_dot : asked_of (message (codes "GET") net None (Some (codes "Bearer acme")) []) ≡ refused BadToken
unfolding form_urlencoded_on_literals utf8_lossy utf8_valid_len chars is_utf8 encode
no_dot = refl
