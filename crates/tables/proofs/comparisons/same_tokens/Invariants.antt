use Rattle.sqlite.specs.declared.error.Error.{Error}
use Rattle.tables.specs.Inner.Comparing.{entry_of}
use Rattle.tables.proofs.Comparing.{SoFar}
use Rattle.tables.proofs.comparisons.same_tokens.Given as goal

-- the items so far are the same
abbrev pub invariant-items : goal.invariant-items
invariant-items g l = SoFar g.S.Store Error (entry_of l.org) l.list l.token-index l.fn.one l.one l.fn.other l.other
