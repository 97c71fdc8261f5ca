use Rattle.std.proofs.Common.{ℕ, ◌+◌, List, Option, drop}
use Rattle.program.specs.Outcomes.{CarriesEach}
use Rattle.program.specs.Streams.{Reported}
use Rattle.program.specs.declared.exits.Exit.{Exit}
use Rattle.program.proofs.carrying.carry_each.Given as goal

-- what becomes of the commands that are left becomes of all, behind those that were carried out
abbrev pub invariant-loop-line_index : goal.invariant-loop-line_index
invariant-loop-line_index g l = (new : _) (e : Exit) (out : Option (List ℕ)) (err : Reported)
    → CarriesEach g.K.Keep g.F.Files (drop l.line_index l.lines) (l.line_index + 1) l.service.keep new e (g.O.Write.contents l.output) out (g.E.ErrorStream.reported l.errors) err
    → CarriesEach g.K.Keep g.F.Files l.lines 1 l.fn.service.keep new e (g.O.Write.contents l.fn.output) out (g.E.ErrorStream.reported l.fn.errors) err
