-- What a message asks, or why it is refused: checks in their order, and the first that fails answers.
use Rattle.std.specs.Prelude.{ℕ, Bool, true, false, List, [], ◌∷◌, Option, Some, None, Result, Ok, Err}
use Rattle.basis.specs.declared.refusals.Refusal.{Refusal}
use Rattle.basis.specs.declared.refusals.Refusal.TheVariants.{NoRoute}
use Rattle.wire.specs.declared.messages.Message.{Message}
use Rattle.route.specs.declared.routes.Asked.{Asked}
use Rattle.route.specs.declared.routes.AskedAct.{AskedAct}
use Rattle.route.specs.declared.asks.UrlQuery.{UrlQuery}
use Rattle.route.specs.declared.tokens.BearerToken.{BearerToken}
use Rattle.basis.specs.Checks.{or_refused, and_then}
use Rattle.route.specs.Paths.{OrgResource, resource_of}
use Rattle.route.specs.Acts.{act_read}
use Rattle.route.specs.Queries.{query_read, lock_id_read, after_read}
use Rattle.route.specs.Tokens.{bearer_token_read}

-- what a message asks, or its refusal
pub data Asking : Type 0 where
  refused : Refusal → Asking
  asks : Asked → Asking

-- a message without a query has an empty one
abbrev pub query_text : Option (List ℕ) → List ℕ
query_text None = []
query_text (Some text) = text

-- nothing follows the head
abbrev pub is_bodyless : List ℕ → Bool
is_bodyless [] = true
is_bodyless (b ∷ bytes) = false

-- what is asked, from its parts
abbrev pub asked_made : List ℕ → AskedAct → Option (List ℕ) → BearerToken → Asked
asked_made org act lock_id token =
    record { caller = token.org; secret = token.secret; org = org; act = act; lock_id = lock_id }

-- the query's ID, then where a list begins, then the token: its form, and its text
abbrev pub with_query : Option (List ℕ) → List ℕ → AskedAct → UrlQuery → Result Asked Refusal
with_query authorization org act found =
    and_then (lock_id_read found.id) (λ lock_id. and_then (after_read act found.after) (λ begun.
    and_then (bearer_token_read authorization found.token) (λ token. Ok (asked_made org begun lock_id token))))

-- the method of a route, then the query and the token
abbrev pub asked_at : Message → OrgResource → Result Asked Refusal
asked_at message named =
    and_then (act_read named.resource message.method (is_bodyless message.body)) (λ act.
    and_then (query_read (query_text message.query)) (with_query message.authorization named.org act))

-- the route first
abbrev pub asked_read : Message → Result Asked Refusal
asked_read message = and_then (or_refused NoRoute (resource_of message.path)) (asked_at message)

abbrev pub asking_of : Result Asked Refusal → Asking
asking_of (Ok asked) = asks asked
asking_of (Err refusal) = refused refusal

-- what a message asks
abbrev pub asked_of : Message → Asking
asked_of message = asking_of (asked_read message)
