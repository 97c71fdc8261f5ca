use Rattle.std.proofs.Common.{refl}
use Rattle.statements.specs.Changes.{bounds_filled}
use Rattle.statements.specs.Making.{Raises}
use Rattle.statements.specs.Tables.{Tables, added_by}
use Rattle.statements.specs.Inner.Making.{Grows, Moved, Reported, schema_version_cleared, edition_set}
use Rattle.statements.proofs.Schemas.{makes_then, moved_then, raised_by}
use Rattle.statements.proofs.making.raise_first.Goals as goal

-- what is written behind the tables
abbrev cleared : Tables → Tables
cleared t = edition_set 2 (schema_version_cleared t)

abbrev filled : Tables → Tables
filled t = cleared (bounds_filled t)

pub returns : goal.returns
returns g c =
    makes_then g.S.Store (Grows (added_by 2)) (Moved 2 filled) (Raises 1) (raised_by 1 refl filled (λ t. refl) (λ t. refl)) _ _ _ _ _ c.in_ok-make_tables_of.ensures
    (makes_then g.S.Store (Moved 2 bounds_filled) (Moved 2 cleared) (Moved 2 filled) (moved_then 2 bounds_filled cleared) _ _ _ _ _ c.in_ok-fill.ensures
    (makes_then g.S.Store (Moved 2 schema_version_cleared) (Reported 2) (Moved 2 cleared) (λ a b d one two. moved_then 2 schema_version_cleared (edition_set 2) a b d one two.moved) _ _ _ _ _ c.in_ok-clear_schema_version.ensures c.set_schema_version.ensures))
