-- System times as seconds.
use Rattle.std.specs.Prelude.{ℕ, ◌/◌, Option}
use Rattle.basis.specs.Numbers.{within}
use Rattle.basis.specs.declared.numbers.TheConstants.{MAX_MOMENT}

abbrev pub NANOS_A_SECOND : ℕ
NANOS_A_SECOND = 1_000_000_000

-- A time in nanoseconds since 1970, as whole seconds. None after the last second of the year 9999.
abbrev pub moment_at : ℕ → Option ℕ
moment_at nanos = within 0 MAX_MOMENT (nanos / NANOS_A_SECOND)
