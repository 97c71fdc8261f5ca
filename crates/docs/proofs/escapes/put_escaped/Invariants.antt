use Rattle.std.proofs.Common.{◌≡◌, ◌++◌, drop}
use Rattle.docs.specs.Escapes.{escaped, escaped_from}
use Rattle.docs.proofs.escapes.put_escaped.Given as goal

-- what is put, and what is left to put, are the whole
abbrev pub invariant-loop-i : goal.invariant-loop-i
invariant-loop-i l = l.out.items ++ escaped_from l.skip (drop l.i l.text) ≡ l.fn.out.items ++ escaped l.text
