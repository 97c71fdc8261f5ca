use Rattle.std.proofs.Common.{ap, ◌∙◌}
use Rattle.machine.specs.Tokens.{tokens_listed}
use Rattle.machine.specs.declared.keeps.AdminAnswer.TheVariants.{Tokens}
use Rattle.machine.proofs.records.Organization.token_list.Goals as goal

pub returns : goal.returns
returns c = ap Tokens (c.in_ok-rows.ensures ∙ ap tokens_listed c.entries.ensures)
