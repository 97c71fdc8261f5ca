-- How many workspaces organizations have.
use Rattle.std.specs.Prelude.{ℕ, ◌≤◌, List}
use Rattle.basis.specs.declared.numbers.TheConstants.{MAX_LIMIT}
use Rattle.statements.specs.Rows.{Kept, WsRow}
use Rattle.checks.specs.Workspaces.{count_in}

-- no organization has more workspaces than the greatest limit
abbrev pub AreFew : List (Kept WsRow) → Type 0
AreFew wss = (org : List ℕ) → count_in wss org ≤ MAX_LIMIT
