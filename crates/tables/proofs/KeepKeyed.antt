-- From a transaction to a store whose pages are under the keys of their bytes.
use Rattle.tables.proofs.Outside.{ℕ, List, IsTrue, sym, subst, Database, State, IsUnchanged, Tables, Holds, tables_of, tables-held}
use Rattle.tables.specs.Opening.{IsSoundKeep}
use Rattle.tables.specs.Scans.{ArePagesKeyed}
use Rattle.tables.specs.declared.memo.Memo.{Memo}
use Rattle.tables.specs.Inner.Imports.{CommitsRelated}
use Rattle.tables.specs.Inner.Keys.{KeepsKeys}
use Rattle.tables.specs.Inner.Steps.{Commits}

-- a database that holds tables whose pages are so has such pages
pub keyed_held : (key_of : List ℕ → List ℕ) (db : Database) (t : Tables) → Holds db t → ArePagesKeyed key_of t → ArePagesKeyed key_of (tables_of db)
keyed_held key_of db t holds keyed = subst (ArePagesKeyed key_of) (sym (tables-held db t holds)) keyed

module _ (key_of : List ℕ → List ℕ) {memo : Memo} (db : Database) (a b : State) (s : IsSoundKeep db memo a) (keyed : ArePagesKeyed key_of (tables_of db)) where
  held : IsTrue a.is_open → Holds a.committed (tables_of db)
  held was = subst (λ (d : Database). Holds d (tables_of db)) (sym (s.tied was)) s.store.holds

  pub keyed_related : CommitsRelated (KeepsKeys key_of) a b → ArePagesKeyed key_of (tables_of b.committed)
  keyed_related m = let u = m.rows (tables_of db) (held m.was_open) in keyed_held key_of b.committed u.0 u.1 (u.2 keyed)

  pub keyed_committed : (f : Tables → Tables) (reported : Tables → Type 0) → Commits f reported a b → ((t : Tables) → KeepsKeys key_of t (f t)) → ArePagesKeyed key_of (tables_of b.committed)
  keyed_committed f reported m keeps = keyed_held key_of b.committed (f (tables_of db)) (m.rows (tables_of db) (held m.was_open)) (keeps (tables_of db) keyed)

-- ---- behind a query

module _ (key_of : List ℕ → List ℕ) (a b : State) (same : IsUnchanged a b) where
  pub keyed_unchanged : CommitsRelated (KeepsKeys key_of) a b
  keyed_unchanged = record {
    rows = λ t holds. (t, subst (λ (d : Database). Holds d t) (sym same.0.committed_is) holds, λ keyed. keyed);
    was_open = same.0.was_open;
    is_open = same.0.is_open;
  }

  pub keyed_behind : (d : State) → CommitsRelated (KeepsKeys key_of) b d → CommitsRelated (KeepsKeys key_of) a d
  keyed_behind d done = record {
    rows = λ t holds. done.rows t (subst (λ (db : Database). Holds db t) (sym same.0.committed_is) holds);
    was_open = same.0.was_open;
    is_open = done.is_open;
  }
