-- Contracts between functions: the members of a line of the log, as they are put one behind another.
use Rattle.std.specs.Prelude.{ℕ, List, codes, option_map}
use Rattle.serde_json.specs.Data.{Members, member, unsigned, number, string}
use Rattle.docs.specs.Bodies.{number_value, text_value}
use Rattle.basis.specs.Refusals.{line_of}
use Rattle.docs.specs.Logs.{log_word, door_member}
use Rattle.docs.specs.declared.logs.LogRow.{LogRow}

-- the members of a line, each part with what follows it
abbrev pub asked : ℕ → List ℕ → LogRow → Members → Members
asked connection end row rest =
    member (codes "act") (text_value (option_map log_word row.act)) (
    member (codes "at") (number (unsigned row.at)) (
    member (codes "connection") (number (unsigned connection)) (
    member (codes "end") (string end) rest)))

abbrev pub named : LogRow → Members → Members
named row rest =
    member (codes "id") (text_value row.id) (
    member (codes "number") (number_value row.number) (
    door_member row.at_door (codes "operator") row.operator (
    member (codes "organization") (text_value row.organization) rest)))

abbrev pub outcome : LogRow → Members → Members
outcome row rest =
    member (codes "refusal") (text_value (option_map (λ refusal. (line_of refusal).word) row.refusal)) (
    member (codes "run") (number_value row.run) (
    member (codes "status") (number_value row.status) rest))

abbrev pub made : LogRow → Members → Members
made row rest =
    door_member row.at_door (codes "subject") row.subject (
    member (codes "token") (text_value row.token) (
    member (codes "version") (number_value row.version) (
    member (codes "workspace") (text_value row.workspace) rest)))
