use Rattle.tables.proofs.Outside.{false, take, Ok, list_any, Error, Equals, Sees}
use Rattle.tables.specs.Inner.Removals.{is_used_in}
use Rattle.tables.proofs.removals.is_one_in_use.Given as goal

-- none so far
abbrev pub invariant-workspaces : goal.invariant-workspaces
invariant-workspaces g l = Sees {E = Error} g.S.Store (Equals (λ t. list_any (λ ws. is_used_in l.org ws t) (take l.name-index l.names))) l.fn.conn l.conn (Ok false)
