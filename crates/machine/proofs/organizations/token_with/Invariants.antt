use Rattle.std.proofs.Common.{◌≡◌, map, drop}
use Rattle.machine.specs.Tokens.{token_with}
use Rattle.machine.proofs.organizations.token_with.Given as goal

-- the rest of the entries decides
abbrev pub invariant-loop-entry : goal.invariant-loop-entry
invariant-loop-entry l = token_with l.digest (map (λ e. (e.name, e.value)) (drop l.entry-index l.entries)) ≡ token_with l.digest (map (λ e. (e.name, e.value)) l.entries)
