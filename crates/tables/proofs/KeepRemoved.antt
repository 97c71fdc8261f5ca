-- From what was looked at, and one transaction, to the removal of an organization.
use Rattle.tables.proofs.Outside.{◌≡◌, ◌≢◌, ℕ, Bool, true, false, List, is_none, Option, Some, None, IsTrue, Ok, refl, sym, ap, subst, ◌∙◌, Ghosts, Database, Held, State, effect, org_removed, AdminAnswer, Done, Absent, InUse, NamedToken, cap_of, Equals, Queries, Sees, LeavesAsIs, Tables, Holds, tables_of, sees_by}
use Rattle.tables.specs.Opening.{IsSoundKeep}
use Rattle.tables.specs.Remembered.{nothing_kept}
use Rattle.tables.specs.Scans.{ArePagesKeyed}
use Rattle.tables.specs.Sound.{IsSound}
use Rattle.tables.specs.Stores.{records_of}
use Rattle.tables.specs.declared.memo.Memo.{Memo}
use Rattle.tables.specs.declared.removals.Possessions.{Possessions}
use Rattle.tables.specs.Inner.Imports.{CommitsRelated}
use Rattle.tables.specs.Inner.Copies.{AreMadeBy}
use Rattle.tables.specs.Inner.Removals.{is_kept_back, all_gone_of, AreAllOf, Departs, Leaves}
use Rattle.tables.specs.Inner.Steps.{IsAllCommitted}
use Rattle.tables.proofs.KeptInMemory.{nothing_is}
use Rattle.tables.proofs.Databases.{store_by, records_by}
use Rattle.tables.proofs.KeepFound.{seen_both}
use Rattle.tables.proofs.KeepKeyed.{keyed_held}
use Rattle.tables.proofs.Departing.{departs_absent, departs_kept, departs_done}

-- ---- what was looked at, and one transaction

none_is : (o : Option ℕ) → is_none o ≡ true → o ≡ None
none_is None e = refl
none_is (Some x) e = absurd (cc)

-- the limit, what it has, and whether that keeps it back
pub all_read : {S B C D : Type 0} (g : Ghosts S) (is_forced : Bool) (org : List ℕ) (p q r s : Held S) (cap : Option ℕ) (all : Possessions) (is_kept : Bool) → Queries {E = B} g (Equals (cap_of org)) p q (Ok cap)
    → Sees {E = C} g (λ (has : Possessions). AreAllOf org has.names has.tokens) q r (Ok all) → Sees {E = D} g (Equals (is_kept_back org is_forced all.names)) r s (Ok is_kept)
    → Sees {E = D} g (λ k t. (Equals (cap_of org) cap t × AreAllOf org all.names all.tokens t) × Equals (is_kept_back org is_forced all.names) k t) p s (Ok is_kept)
all_read g is_forced org p q r s cap all is_kept one two three =
    let both = seen_both g (Equals (cap_of org)) (λ (has : Possessions). AreAllOf org has.names has.tokens) p q r cap all (sees_by g (Equals (cap_of org)) p q (Ok cap) one) two in
    seen_both g (λ (has : Possessions) t. Equals (cap_of org) cap t × AreAllOf org has.names has.tokens t) (Equals (is_kept_back org is_forced all.names)) p r s all is_kept both three

module _ (is_forced : Bool) (org : List ℕ) (a b : State) (all_committed : IsAllCommitted a) (was : IsTrue a.is_open) (stays : LeavesAsIs a b) where
  at_first : (t : Tables) → Holds a.committed t → Holds a.now t
  at_first t holds = subst (λ (db : Database). Holds db t) (sym (all_committed was)) holds

  -- nothing was changed
  leaves_none : (answer : AdminAnswer) → ((t : Tables) → Holds a.now t → Leaves answer is_forced org t t) → CommitsRelated (Leaves answer is_forced org) a b
  leaves_none answer is = record {
    rows = λ t holds. (t, subst (λ (db : Database). Holds db t) (sym stays.committed) holds, is t (at_first t holds));
    was_open = was;
    is_open = stays.is_open was;
  }

  pub leaves_absent : (cap : Option ℕ) → is_none cap ≡ true → ((t : Tables) → Holds a.now t → cap ≡ cap_of org t) → CommitsRelated (Leaves Absent is_forced org) a b
  leaves_absent cap none reported = leaves_none Absent (λ t holds sound. departs_absent org is_forced t (sym (reported t holds) ∙ none_is cap none) sound)

  module _ (cap : Option ℕ) (some : is_none cap ≡ false) (names : List (List ℕ)) (list : List NamedToken) (is_kept : Bool)
      (reported : (t : Tables) → Holds a.now t → (Equals (cap_of org) cap t × AreAllOf org names list t) × Equals (is_kept_back org is_forced names) is_kept t) where
    -- it is there
    by_cap : (answer : AdminAnswer) (f : Tables → Tables) → ((t : Tables) → IsSound t → AreAllOf org names list t → (limit : ℕ) → cap_of org t ≡ Some limit → is_kept ≡ is_kept_back org is_forced names t → Departs answer is_forced org t (f t))
        → (t : Tables) → Holds a.now t → Leaves answer is_forced org t (f t)
    by_cap answer f is t holds sound = go cap some (reported t holds).0.0
      where
        go : (o : Option ℕ) → is_none o ≡ false → o ≡ cap_of org t → Departs answer is_forced org t (f t)
        go None e same = absurd (let none : ⊥ = cc in none)
        go (Some limit) e same = is t sound (reported t holds).0.1 limit (sym same) (reported t holds).1

    pub leaves_kept : is_kept ≡ true → CommitsRelated (Leaves InUse is_forced org) a b
    leaves_kept is_true = leaves_none InUse (by_cap InUse (λ t. t) (λ t sound are limit found is. departs_kept org is_forced t sound names list are limit found (sym is_true ∙ is)))

    pub leaves_done : (d : State) → is_kept ≡ false → CommitsRelated (AreMadeBy (all_gone_of org names list)) b d → CommitsRelated (Leaves Done is_forced org) a d
    leaves_done d is_false done = record {
      rows = λ t holds.
          let u = done.rows t (subst (λ (db : Database). Holds db t) (sym stays.committed) holds) in (
            u.0,
            u.1,
            subst (λ (z : Tables). Leaves Done is_forced org t z) (sym u.2)
                (by_cap Done (all_gone_of org names list) (λ t sound are limit found is. departs_done org is_forced t sound names list are limit found (sym is_false ∙ is)) t (at_first t holds)),
          );
      was_open = was;
      is_open = done.is_open;
    }

-- ---- the store

module _ {memo : Memo} (db : Database) (a b : State) (s : IsSoundKeep db memo a) (is_forced : Bool) (org : List ℕ) (answer : AdminAnswer) (m : CommitsRelated (Leaves answer is_forced org) a b) where
  rows : (u : Tables) × Holds b.committed u × Leaves answer is_forced org (tables_of db) u
  rows = m.rows (tables_of db) (subst (λ (d : Database). Holds d (tables_of db)) (sym (s.tied m.was_open)) s.store.holds)

  departs : Departs answer is_forced org (tables_of db) rows.0
  departs = rows.2 s.store.sound

  pub removed_keeps : IsSoundKeep b.committed nothing_kept b
  removed_keeps = record { store = store_by b.committed rows.0 rows.1 departs.sound; remembered = nothing_is (tables_of b.committed); tied = λ _. refl }

  pub removed_own : effect answer (records_of b.committed org) ≡ org_removed is_forced (records_of db org)
  removed_own = ap (effect answer) (records_by b.committed rows.0 rows.1 org) ∙ departs.own

  pub removed_others : (o : List ℕ) → o ≢ org → records_of b.committed o ≡ records_of db o
  removed_others o apart = records_by b.committed rows.0 rows.1 o ∙ departs.others o apart

  pub removed_keyed : (key_of : List ℕ → List ℕ) → ArePagesKeyed key_of (tables_of db) → ArePagesKeyed key_of (tables_of b.committed)
  removed_keyed key_of keyed = keyed_held key_of b.committed rows.0 rows.1 (departs.keyed key_of keyed)
