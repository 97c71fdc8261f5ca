-- When two tables have the same definition.
use Rattle.std.specs.Prelude.{◌≡◌}
use Rattle.sqlite_schema.specs.declared.schema.Table.{Table}

-- The tables have the same definition, wherever their rows are stored.
abbrev pub AreAlike : Table → Table → Type 0
AreAlike a b = record a { tree = 0 } ≡ record b { tree = 0 }
