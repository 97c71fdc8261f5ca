-- When the head of a page is sound.
use Rattle.std.specs.Prelude.{◌≡◌, ◌≤◌, true}
use Rattle.statements.specs.declared.rows.PageHead.{PageHead}

-- the page is in use, its key is that of its bytes, and it is the first of its key with them
pub record IsSoundHead (h : PageHead) : Type 0 where
  pub used : 1 ≤ h.uses
  pub keyed : h.is_keyed ≡ true
  pub first : h.is_first ≡ true
