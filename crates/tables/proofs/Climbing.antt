-- From the version that a database has to the newest one, step by step.
use Rattle.tables.proofs.Outside.{◌≡◌, ◌≢◌, ◌≤◌, inl, inr, ℕ, zero, suc, Bool, true, false, true≢false, List, Option, Some, None, IsTrue, refl, sym, ap, ◌∙◌, subst, arith, eqb-true, eq-eqb, nat_tests, same_Some, Table, Database, State, HasCleanDisk, IsUnchanged, KeepsCommit, known_within, later_has_edition, HasMeta, HasEdition, stored_schema_version, KeepsForeign, Kept, meta_table, edition_table, Tables, HoldsIn, schema_tables, tables_at, SCHEMA_VERSION}
use Rattle.std.specs.Prelude.{if◌then◌else◌, ◌==◌}
use Rattle.sqlite.proofs.InsideLemmas.{keeps_then}
use Rattle.statements.proofs.EditionTexts.{has_edition}
use Rattle.statements.proofs.MetaTexts.{has_meta}
use Rattle.tables.specs.declared.opening.Found.{Found}
use Rattle.tables.specs.declared.opening.Found.TheVariants.{Nothing, Version, Other}
use Rattle.tables.specs.Inner.Making.{IsReported, found_in, ReportsFound, FindsOurs, Climbs, IsClimbed, IsOnWay}
use Rattle.tables.specs.Inner.Steps.{IsAllCommitted}
use Rattle.tables.specs.Opening.{any_there, all_there, stored_in, StoresVersionIn, StoredBy, IsOther, GivesBack}
use Rattle.tables.specs.Versions.{HoldsSchema, schema_records, Becomes, KeepsBeside}
use Rattle.tables.proofs.There.{version_is_there, known_there, one_there}
use Rattle.tables.proofs.Shut.{unchanged_keeps}

-- the steps so far
pub record ClimbsSoFar (from at : ℕ) (old new : State) : Type 0 where
  pub so_far : HasCleanDisk new → HasCleanDisk old
  pub shield : old.IsShielded → new.IsShielded
  pub climbs : HasCleanDisk new → Climbs from at old new
  pub is_open : HasCleanDisk new → IsTrue old.is_open → IsTrue new.is_open

-- the version that is told is the one that the database has
version_is_reported : (m n : ℕ) (old new : State) → IsReported m old new → HoldsSchema n old.now → n ≡ m
version_is_reported m n old new reported h = one_there n m old.now.schema (version_is_there n old.now h) reported.there

-- ---- a step, and others

module _ (i j k : ℕ) (a b c : Database) where
  becomes_then : Becomes i j a b → Becomes j k b c → Becomes i k a c
  becomes_then one two = record { holds = λ h. two.holds (one.holds h); records = λ h org. two.records (one.holds h) org ∙ one.records h org; pages = λ h. two.pages (one.holds h) ∙ one.pages h }

  foreign_then : KeepsForeign (schema_tables i) (schema_tables j) a b → KeepsForeign (schema_tables j) (schema_tables k) b c → KeepsForeign (schema_tables i) (schema_tables k) a c
  foreign_then one two = record {
    owns = λ other own. two.owns other (one.owns other own);
    stands = λ other own. ((two.stands other (one.owns other own)).0 ∙ (one.stands other own).0, (two.stands other (one.owns other own)).1 ∙ (one.stands other own).1);
    beside = λ other own apart. two.beside other (one.owns other own) (one.beside other own apart);
    rows = λ other own passive apart. subst (λ n. c.trees n ≡ b.trees n) (one.stands other own).1 (two.rows other (one.owns other own) passive (one.beside other own apart)) ∙ one.rows other own passive apart;
  }

  beside_then : KeepsBeside i j a b → KeepsBeside j k b c → KeepsBeside i k a c
  beside_then one two = record {
    holds = λ t h. let u = one.holds t h in two.holds u.0 u.1;
    foreign = λ t h. let u = one.holds t h in foreign_then (one.foreign t h) (two.foreign u.0 u.1);
  }

pub climbs_then : (i j k : ℕ) (a b c : State) → Climbs i j a b → Climbs j k b c → Climbs i k a c
climbs_then i j k a b c one two = record {
  was_open = λ is. one.was_open (two.was_open is);
  becomes = λ is. becomes_then i j k a.committed b.committed c.committed (one.becomes (two.was_open is)) (two.becomes is);
  beside = λ is. beside_then i j k a.committed b.committed c.committed (one.beside (two.was_open is)) (two.beside is);
}

-- the version that was found is taken to the newest one
module _ (m : ℕ) (old mid new : State) (reported : IsReported m old mid) (climbed : IsClimbed m mid new) where
  climbs : Climbs m SCHEMA_VERSION mid new
  climbs = climbed.climbs (known_within m (known_there m old.now.schema reported.there)).1

  pub climbed_by : (n : ℕ) → HoldsSchema n old.now
      → HoldsSchema SCHEMA_VERSION new.committed × ((o : List ℕ) → schema_records SCHEMA_VERSION new.committed o ≡ schema_records n old.now o) × ((tables_at SCHEMA_VERSION new.committed).pages ≡ (tables_at n old.now).pages)
  climbed_by n h =
      let is : n ≡ m = version_is_reported m n old mid reported h in
      let becomes : Becomes m SCHEMA_VERSION old.now new.committed = subst (λ (db : Database). Becomes m SCHEMA_VERSION db new.committed) reported.same (climbs.becomes (climbed.is_open reported.is_open)) in
      let held : HoldsSchema m old.now = subst (λ (k : ℕ). HoldsSchema k old.now) is h in
      (becomes.holds held, λ o. becomes.records held o ∙ ap (λ (k : ℕ). schema_records k old.now o) (sym is), becomes.pages held ∙ ap (λ (k : ℕ). (tables_at k old.now).pages) (sym is))

  -- and tables of others are kept
  pub kept_beside : (n : ℕ) → all_there n old.now.schema ≡ true → KeepsBeside n SCHEMA_VERSION old.now new.committed
  kept_beside n there =
      let is : m ≡ n = one_there m n old.now.schema reported.there there in
      let beside : KeepsBeside m SCHEMA_VERSION old.now new.committed = subst (λ (db : Database). KeepsBeside m SCHEMA_VERSION db new.committed) reported.same (climbs.beside (climbed.is_open reported.is_open)) in
      subst (λ (k : ℕ). KeepsBeside k SCHEMA_VERSION old.now new.committed) is beside

-- ---- what is found

-- the version of the tables that are there is told, or it is another
module _ (n : ℕ) (reported : Option ℕ) (old new : State) (there : all_there n old.now.schema ≡ true) (all_committed : IsAllCommitted old) (same : IsUnchanged old new) (reads : (t : Tables) → HoldsIn n old.now t → reported ≡ stored_in n t)
    (reports : reported ≡ Some n → StoredBy n old.now) where
  found_by : ReportsFound (found_in n reported) old new
  found_by = by_reported reported refl
    where
      -- no other version is there
      apart : reported ≢ Some n → IsOther old × KeepsCommit old new
      apart is = (
        λ m there_m t. subst (λ (k : ℕ). HoldsIn k old.now t → stored_in k t ≢ Some k) (one_there n m old.now.schema there there_m) (λ h one. is (reads t h ∙ one)),
        unchanged_keeps old new same,
      )

      by_number : (k : ℕ) → reported ≡ Some k → (b : Bool) → (k == n) ≡ b → ReportsFound (if b then Version n else Other) old new
      by_number k e true is =
          let one : reported ≡ Some n = e ∙ ap Some (eqb-true k n is) in
          record {
            there = there;
            version = λ t h. sym (reads t h) ∙ one;
            reports = reports one;
            was_open = same.0.was_open;
            is_open = same.0.is_open;
            same = same.0.committed_is ∙ sym (all_committed same.0.was_open);
            kept = unchanged_keeps old new same;
          }
      by_number k e false is = apart (λ one. true≢false (sym (eq-eqb n n refl) ∙ ap (λ (m : ℕ). m == n) (sym (same_Some k n (sym e ∙ one))) ∙ is))

      by_reported : (o : Option ℕ) → reported ≡ o → ReportsFound (found_in n o) old new
      by_reported None e = apart (λ one. absurd (let no_one : None ≡ Some n = sym e ∙ one in cc))
      by_reported (Some k) e = by_number k e (k == n) refl

-- what meta tells is the first version, or none of ours
pub first_reports : (reported : Option ℕ) (old new : State) → all_there 1 old.now.schema ≡ true → IsAllCommitted old → IsUnchanged old new → ((table : Table) (metas : List (Kept ℕ)) → HasMeta old.now table metas → reported ≡ stored_schema_version metas) → ReportsFound (found_in 1 reported) old new
first_reports reported old new there all_committed same reads = found_by 1 reported old new there all_committed same (λ t h. reads meta_table t.metas (has_meta 1 (omega arith) old.now t h)) (λ one table metas has. sym (reads table metas has) ∙ one)

-- what edition tells is this version, or none of ours
pub later_reports : (reported : Option ℕ) (old new : State) → IsAllCommitted old → IsUnchanged old new → ((table : Table) (editions : List (Kept ℕ)) → HasEdition old.now table editions → reported ≡ stored_schema_version editions)
    → (n : ℕ) → 2 ≤ n → all_there n old.now.schema ≡ true → ReportsFound (found_in n reported) old new
later_reports reported old new all_committed same reads zero least there = absurd (omega (arith, least))
later_reports reported old new all_committed same reads (suc zero) least there = absurd (omega (arith, least))
later_reports reported old new all_committed same reads (suc (suc n)) least there =
    let has = later_has_edition n (known_there (suc (suc n)) old.now.schema there) in
    found_by (suc (suc n)) reported old new there all_committed same (λ t h. reads edition_table t.editions (has_edition (suc (suc n)) has old.now t h)) (λ one table editions is. sym (reads table editions is) ∙ one)

-- what was found, where some of our tables are there
pub finds_by : (found : Found) (old new : State) → any_there old.now.schema ≡ true → ReportsFound found old new → FindsOurs found old new
finds_by Nothing old new there reports = absurd reports
finds_by (Version n) old new there reports = (there, reports)
finds_by Other old new there reports = (there, reports.0, reports.1)

pub reported_of : (found : Found) (m : ℕ) (old new : State) → found ≡ Version m → FindsOurs found old new → IsReported m old new
reported_of found m old new is finds = (subst (λ (f : Found). FindsOurs f old new) is finds).1

-- each version that is all there is the one that is told
pub reported_as : (m n : ℕ) (old new : State) → IsReported m old new → all_there n old.now.schema ≡ true → StoresVersionIn n old.now × StoredBy n old.now
reported_as m n old new reported there = subst (λ (k : ℕ). StoresVersionIn k old.now × StoredBy k old.now) (one_there m n old.now.schema reported.there there) (reported.version, reported.reports)

-- ---- what is given back

pub kept_gives_back : (old new : State) → KeepsCommit old new → GivesBack old new
kept_gives_back old new kept = record { was_open = kept.was_open; committed = λ is. inl (kept.committed is) }

-- where the newest version wasn't reached, nothing is committed, or a version on the way to it
module _ (m : ℕ) (old mid new : State) (reported : IsReported m old mid) where
  pub gives_back : IsOnWay m mid new → GivesBack old new
  gives_back way = by_step (way.to == m) refl
    where
      by_step : (b : Bool) → (way.to == m) ≡ b → GivesBack old new
      by_step true is = kept_gives_back old new (keeps_then old mid new reported.kept (way.none (eqb-true way.to m is)))
      by_step false is = record {
        was_open = λ open_is. reported.kept.was_open (way.climbs.was_open open_is);
        committed = λ open_is.
            let same : mid.committed ≡ old.committed = reported.kept.committed (way.climbs.was_open open_is) in
            let least = way.least in
            inr (record {
              from = m;
              to = way.to;
              later = grind (arith, nat_tests);
              most = way.most;
              there = subst (λ (db : Database). all_there m db.schema ≡ true) (sym reported.same ∙ same) reported.there;
              becomes = subst (λ (db : Database). Becomes m way.to db new.committed) same (way.climbs.becomes open_is);
              beside = subst (λ (db : Database). KeepsBeside m way.to db new.committed) same (way.climbs.beside open_is);
            });
      }
