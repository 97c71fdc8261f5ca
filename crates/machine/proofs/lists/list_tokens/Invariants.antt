use Rattle.std.proofs.Common.{◌≡◌, map, take}
use Rattle.machine.specs.Tokens.{tokens_listed}
use Rattle.machine.proofs.lists.list_tokens.Given as goal

-- a row for each entry so far
abbrev pub invariant-loop-entry : goal.invariant-loop-entry
invariant-loop-entry l = l.rows ≡ tokens_listed (map (λ e. (e.name, e.value)) (take l.entry-index l.entries))
