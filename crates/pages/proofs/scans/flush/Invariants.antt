use Rattle.std.specs.Prelude.{◌++◌, map}
use Rattle.pages.specs.Inner.Scans.{hashed}
use Rattle.pages.proofs.Windows.{HashedSoFar}
use Rattle.pages.proofs.scans.flush.Given as goal

-- the rows that are left have the keys that are left
abbrev pub invariant-rows : goal.invariant-rows
invariant-rows g l = HashedSoFar g.K.PageKey.key_of l.heads.items l.window.items l.keys l.at l.count (l.fn.heads.items ++ map (hashed g.K.PageKey.key_of) l.fn.window.items)
