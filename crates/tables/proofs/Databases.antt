-- What a database denotes, by the tables that it holds.
use Rattle.tables.proofs.Outside.{◌≡◌, ℕ, List, sym, ap, subst, Database, Tables, Holds, tables_of, tables-held, SCHEMA_VERSION}
use Rattle.tables.specs.Records.{record_of}
use Rattle.tables.specs.Sound.{IsSound}
use Rattle.tables.specs.Stores.{records_of, IsSoundStore}
use Rattle.tables.specs.Versions.{HoldsSchema}

-- a database that holds sound tables is sound
pub store_by : (db : Database) (t : Tables) → Holds db t → IsSound t → IsSoundStore db
store_by db t holds sound =
    let is : tables_of db ≡ t = tables-held db t holds in
    record { holds = subst (Holds db) (sym is) holds; sound = subst IsSound (sym is) sound }

pub records_by : (db : Database) (t : Tables) → Holds db t → (org : List ℕ) → records_of db org ≡ record_of t org
records_by db t holds org = ap (λ (u : Tables). record_of u org) (tables-held db t holds)

-- and one of the newest version is
pub store_is : (db : Database) → HoldsSchema SCHEMA_VERSION db → IsSoundStore db
store_is db h = record { holds = record { ours = h.holds.own; rows = h.holds.rows }; sound = h.sound }
