-- A database in which nothing was made has none of our tables.
use Rattle.tables.proofs.Outside.{◌≡◌, ap, false, Database, IsDatabase}
use Rattle.sqlite_catalog.proofs.ReadLemmas.{lists_once}
use Rattle.sqlite.specs.Files.{IsEmpty}
use Rattle.sqlite.proofs.ListingLemmas.{empty_is_sound}
use Rattle.sqlite_trees.specs.Objects.{catalog_tree}
use Rattle.tables.specs.Opening.{any_there}

-- its trees have no row, and so list no table
pub no_table : (db : Database) → IsDatabase db → IsEmpty db.trees → any_there db.schema ≡ false
no_table db is empty = ap any_there (lists_once (db.trees catalog_tree) db.schema _ is.lists (empty_is_sound db.trees empty.1).lists)
