use Rattle.std.specs.Prelude.{◌<◌, length}
use Rattle.pages.proofs.Behind.{AreReadBefore}
use Rattle.pages.proofs.Sights.{SeenSoFar}
use Rattle.pages.proofs.scans.heads.Given as goal

-- the heads so far, those of the window, and those of the pages behind the last one are those of all
abbrev pub invariant-pages : goal.invariant-pages
invariant-pages g l = SeenSoFar g.S.Store (λ t. AreReadBefore g.K.PageKey.key_of t l.heads.items l.window.items l.behind) l.fn.conn l.conn × (length l.window.items < 4)
