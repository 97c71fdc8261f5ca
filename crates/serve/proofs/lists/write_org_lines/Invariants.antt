use Rattle.serve.proofs.Outside.{take, flat_map, Appends}
use Rattle.serve.specs.Service.{org_line}
use Rattle.serve.proofs.lists.write_org_lines.Given as goal

-- the lines of the rows so far are written
abbrev pub invariant-rows : goal.invariant-rows
invariant-rows g l = Appends (g.O.Write.contents l.initial.output) (g.O.Write.contents l.output) (flat_map org_line (take l.row-index l.rows))
