-- The log: one line of compact JSON for each exchange, keys in the order of their bytes.
use Rattle.std.specs.Prelude.{◌≡◌, ℕ, ◌^◌, ◌<◌, ◌≤◌, Bool, true, false, List, [], ◌∷◌, ◌++◌, Option, codes, option_map, IfSome}
use Rattle.std.specs.List.{AllByRecursion}
use Rattle.json.specs.Lex.{tokens}
use Rattle.json.specs.Tree.{json_tokens}
use Rattle.serde_json.specs.Data.{Data, Members, number, unsigned, string, object, member, no_members}
use Rattle.serde_json.specs.Written.{compact_text, outline}
use Rattle.basis.specs.Acts.{act_word}
use Rattle.basis.specs.Refusals.{line_of}
use Rattle.docs.specs.Bodies.{number_value, text_value}
use Rattle.docs.specs.Escapes.{escaped, NothingActs}
use Rattle.docs.specs.declared.logs.LogAct.{LogAct}
use Rattle.docs.specs.declared.logs.LogAct.TheVariants.{ListWorkspaces, OfWorkspace, OfOperator}
use Rattle.docs.specs.declared.logs.OperatorAct.{OperatorAct}
use Rattle.docs.specs.declared.logs.OperatorAct.TheVariants.{AddOrganization, LimitOrganization, RemoveOrganization, ListOrganizations, AddToken, ListTokens, RevokeToken, Stop}
use Rattle.docs.specs.declared.logs.LogRow.{LogRow}

-- the words for what an operator's command asks
abbrev pub operator_word : OperatorAct → List ℕ
operator_word AddOrganization = codes "add organization"
operator_word LimitOrganization = codes "limit organization"
operator_word RemoveOrganization = codes "remove organization"
operator_word ListOrganizations = codes "list organizations"
operator_word AddToken = codes "add token"
operator_word ListTokens = codes "list tokens"
operator_word RevokeToken = codes "revoke token"
operator_word Stop = codes "stop"

-- what a request asks, in words
abbrev pub log_word : LogAct → List ℕ
log_word ListWorkspaces = codes "list workspaces"
log_word (OfWorkspace act) = act_word act
log_word (OfOperator act) = operator_word act

-- only the line of a request that came to the operator's door has this member
abbrev pub door_member : Bool → List ℕ → Option (List ℕ) → Members → Members
door_member true name text rest = member name (text_value text) rest
door_member false name text rest = rest

-- an exchange of a connection, and how it ended
abbrev pub log_value : ℕ → List ℕ → LogRow → Data
log_value connection end row = object (
    member (codes "act") (text_value (option_map log_word row.act)) (
    member (codes "at") (number (unsigned row.at)) (
    member (codes "connection") (number (unsigned connection)) (
    member (codes "end") (string end) (
    member (codes "id") (text_value row.id) (
    member (codes "number") (number_value row.number) (
    door_member row.at_door (codes "operator") row.operator (
    member (codes "organization") (text_value row.organization) (
    member (codes "refusal") (text_value (option_map (λ refusal. (line_of refusal).word) row.refusal)) (
    member (codes "run") (number_value row.run) (
    member (codes "status") (number_value row.status) (
    door_member row.at_door (codes "subject") row.subject (
    member (codes "token") (text_value row.token) (
    member (codes "version") (number_value row.version) (
    member (codes "workspace") (text_value row.workspace) no_members)))))))))))))))

-- its line: compact JSON, in which what acts on a terminal is escaped, and the line feed (10) that ends it
unfoldable pub log_line : ℕ → List ℕ → LogRow → List ℕ
log_line connection end row = escaped (compact_text (log_value connection end row)) ++ 10 ∷ []

-- one line, which is safe on a terminal: a line feed ends it, no byte before it is a control character of ASCII (below 32), so none
-- is a line feed, and nowhere in it stands another character that acts on a terminal
abbrev pub IsOneLine : List ℕ → Type 0
IsOneLine line = (text : List ℕ) × (line ≡ text ++ 10 ∷ []) × AllByRecursion (λ b. 32 ≤ b) text × NothingActs line

-- each exchange is one line, whatever its texts have in them
abbrev pub ExchangesAreLines : Type 0
ExchangesAreLines = (connection : ℕ) (end : List ℕ) (row : LogRow) → IsOneLine (log_line connection end row)

-- each number that a line shows has at most 64 bits, as the types of the program have
pub record HasWords (connection : ℕ) (row : LogRow) : Type 0 where
  pub connection_fits : connection < 2 ^ 64
  pub at_fits : row.at < 2 ^ 64
  pub number_fits : IfSome row.number (λ n. n < 2 ^ 64)
  pub run_fits : IfSome row.run (λ n. n < 2 ^ 64)
  pub status_fits : IfSome row.status (λ n. n < 2 ^ 64)
  pub version_fits : IfSome row.version (λ n. n < 2 ^ 64)

-- the tokens of each line are those of the exchange's JSON: its texts come back as they were
abbrev pub LinesReadBack : Type 0
LinesReadBack = (connection : ℕ) (end : List ℕ) (row : LogRow) → HasWords connection row → tokens (log_line connection end row) ≡ json_tokens (outline (log_value connection end row))
