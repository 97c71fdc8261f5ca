-- Why a command's values are not accepted.
use Rattle.std.specs.Prelude.{◌≡◌, ℕ, List, Option, None, Some, ⊤}
use Rattle.clap.specs.Words.{Row, Text}
use Rattle.command_line.specs.Arguments.{first_misfit}
use Rattle.command_line.specs.Orders.{Given, asked_with}
use Rattle.command_line.specs.Words.{asked_by_command, misfit_by_command}
use Rattle.command_line.specs.declared.misfits.Unread.{Unread}
use Rattle.command_line.specs.declared.misfits.Unread.TheVariants.{Value, Down}

-- this is the first argument that the values do not fit; if an allocation failed, there need not be one
abbrev pub IsUnread : List ℕ → Given → Unread → Type 0
IsUnread command given (Value argument) = (asked_with command given ≡ None) × (first_misfit command given ≡ Some argument)
IsUnread command given Down = ⊤

-- the same for the command and the values that `clap` finds
abbrev pub IsUnreadOf : Option (Text × List Row) → Unread → Type 0
IsUnreadOf found (Value argument) = (asked_by_command found ≡ None) × (misfit_by_command found ≡ Some argument)
IsUnreadOf found Down = ⊤
