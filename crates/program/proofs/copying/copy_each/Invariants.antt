use Rattle.std.proofs.Common.{take}
use Rattle.std.specs.List.{AllByRecursion}
use Rattle.program.specs.Moves.{Arrives, SomeAreCopied, CopiesBetween}
use Rattle.program.proofs.copying.copy_each.Given as goal

-- the organizations of the rows so far are copied
abbrev pub invariant-loop-row : goal.invariant-loop-row
invariant-loop-row g l = CopiesBetween g.K.Keep (λ source before after. SomeAreCopied source before after × AllByRecursion (λ row. Arrives source before after row.name) (take l.row-index l.rows)) l.fn.from l.from l.fn.to l.to
