-- How a text follows the versions of a workspace (Terraform: a state of the same lineage and of a
-- greater serial is newer).
use Rattle.std.specs.Prelude.{ℕ, Bool, not, ◌&&◌, nat_lt, cond, List, length, Option, Some, None}
use Rattle.std.specs.Str.{bytes_eq}
use Rattle.basis.specs.declared.rows.StateHead.{StateHead}
use Rattle.machine.specs.Workspaces.{newest}
use Rattle.machine.specs.declared.records.Version.{Version}

pub data Succession : Type 0 where
  -- there is no version
  first : Succession
  -- the text of the newest version, byte for byte
  same : Succession
  -- another lineage than that of the newest version
  other_lineage : Succession
  -- a serial that is not greater than that of the newest version
  old_serial : Succession
  -- a further version
  next : Succession

-- both lineages are non-empty, and they differ
abbrev pub lineages_differ : List ℕ → List ℕ → Bool
lineages_differ a b = nat_lt 0 (length a) && nat_lt 0 (length b) && not (bytes_eq a b)

-- the serial is greater than the other
abbrev pub is_newer : (before after : ℕ) → Bool
is_newer before after = nat_lt before after

abbrev pub after_newest : List ℕ → StateHead → Option Version → Succession
after_newest text head None = first
after_newest text head (Some v) =
    cond (bytes_eq v.text text) same
    (cond (lineages_differ v.lineage head.lineage) other_lineage
    (cond (is_newer v.serial head.serial) next old_serial))

abbrev pub succession : List Version → List ℕ → StateHead → Succession
succession versions text head = after_newest text head (newest versions)
