use Rattle.std.proofs.Common.{sym}
use Rattle.definitions.proofs.alike.same_lent.Goals as goal

pub returns : goal.returns
returns c = rw (sym c.as_slice.ensures.value, sym c.as_slice-2.ensures.value) c.same_roots.ensures
