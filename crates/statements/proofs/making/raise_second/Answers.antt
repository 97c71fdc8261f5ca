use Rattle.std.proofs.Common.{refl}
use Rattle.statements.specs.Changes.{edition_moved, retentions_filled}
use Rattle.statements.specs.Making.{Raises}
use Rattle.statements.specs.Tables.{Tables, added_by}
use Rattle.statements.specs.Inner.Making.{Grows, Moved}
use Rattle.statements.proofs.Schemas.{makes_then, moved_then, raised_by}
use Rattle.statements.proofs.making.raise_second.Goals as goal

-- what is written behind the table
abbrev filled : Tables → Tables
filled t = edition_moved 3 (retentions_filled t)

pub returns : goal.returns
returns g c =
    makes_then g.S.Store (Grows (added_by 3)) (Moved 3 filled) (Raises 2) (raised_by 2 refl filled (λ t. refl) (λ t. refl)) _ _ _ _ _ c.in_ok-make_tables_of.ensures
    (makes_then g.S.Store (Moved 3 retentions_filled) (Moved 3 (edition_moved 3)) (Moved 3 filled) (moved_then 3 retentions_filled (edition_moved 3)) _ _ _ _ _ c.in_ok-fill.ensures c.move_schema_version.ensures)
