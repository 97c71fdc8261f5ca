use Rattle.std.proofs.Common.{◌≡◌, ◌∙◌, ◌⊎◌, ap, arith, length, refl, subst, sym, inl, inr, Bool, true, false, ℕ, List, [], Option, None}
use Rattle.sqlite_wal.specs.Recovery.{Image}
use Rattle.sqlite.specs.Effect.{Database}
use Rattle.sqlite.specs.Files.{AreFoundIn, IsEmpty}
use Rattle.sqlite_trees.specs.Tree.{Trees}
use Rattle.sqlite.specs.Start.{FindsIn}
use Rattle.sqlite.specs.State.{State, IsLive, Opens}
use Rattle.machine.specs.declared.records.Organization.{Organization}
use Rattle.tables.proofs.Blank.{no_table}
use Rattle.tables.proofs.There.{newest_stays}
use Rattle.tables.specs.Opening.{any_there, all_there, newest_there, has_edition, has_older}
use Rattle.tables.specs.Opened.{RefusesOthers}
use Rattle.tables.specs.Stores.{records_of, IsSoundStore}
use Rattle.tables.specs.Versions.{HoldsSchema, schema_records}
use Rattle.system.specs.Files.{OpensOn, HadTables, IsAsFound}
use Rattle.program.specs.declared.environment.Opening.{Opening}
use Rattle.program.specs.declared.environment.Opening.TheVariants.{Read, Existing, Created, Target}
use Rattle.program.specs.Paths.{makes, raises}
use Rattle.system.proofs.files.open_file.Goals as goal

-- what is only read is not made
never_makes : (opening : Opening) → raises opening ≡ false → makes opening ≡ false
never_makes Read e = refl
never_makes Existing e = refl
never_makes Created e = absurd (cc)
never_makes Target e = absurd (cc)

-- of two tests not both fail
one_passes : (b d : Bool) → (b ≡ false → d ≡ false → ⊥) → (b ≡ true) ⊎ (d ≡ true)
one_passes true d h = inl refl
one_passes false true h = inr refl
one_passes false false h = absurd (h refl refl)

-- in an empty file no tree with a row is found
found_empty : (image : Image) (trees : Trees) → image.db ≡ [] → AreFoundIn image trees → IsEmpty trees
found_empty image trees none (inl found) = let some = found.3.found.present in absurd (omega (arith, some, ap length none))
found_empty image trees none (inr nothing) = nothing.1

opens_on : (s : State) (image : Image) (rows : List ℕ → Option Organization) (IsSound : Type 0) → FindsIn image s → Opens s → IsLive s
    → (any_there s.now.schema ≡ true → all_there 1 s.now.schema ≡ false → has_edition s.now.schema ≡ false → ⊥)
    → (newest_there s.now.schema ≡ true → (IsSoundStore s.now → IsSound) × ((org : List ℕ) → rows org ≡ records_of s.now org))
    → ((n : ℕ) → HoldsSchema n s.now → IsSound × ((org : List ℕ) → rows org ≡ schema_records n s.now org))
    → (any_there s.now.schema ≡ false → IsSound × ((org : List ℕ) → rows org ≡ None)) → OpensOn image rows IsSound
opens_on s image rows IsSound finds opens live missing there climbed fresh = record {
  found = s.now;
  is = (live opens.is_open).0;
  holds = λ trees held. ap (λ (db : Database). db.trees) opens.clean ∙ finds.holds trees held;
  whole = λ e. one_passes (all_there 1 s.now.schema) (has_edition s.now.schema) (missing e);
  there = λ e. ((there e).1, (there e).0);
  climbed = λ n held. ((climbed n held).1, (climbed n held).0);
  fresh = λ e. ((fresh e).1, (fresh e).0);
  begun = λ none. let e = no_table s.now (live opens.is_open).0 (subst (λ (db : Database). IsEmpty db.trees) (sym opens.clean) (found_empty image s.committed.trees none finds.reads)) in ((fresh e).1, (fresh e).0);
}

had_tables : (s : State) (image : Image) → FindsIn image s → Opens s → IsLive s → any_there s.now.schema ≡ true → HadTables image
had_tables s image finds opens live there = (s.now, (live opens.is_open).0, (λ trees held. ap (λ (db : Database). db.trees) opens.clean ∙ finds.holds trees held), there)

as_found : (s : State) (image : Image) (committed : Database) → FindsIn image s → Opens s → IsLive s → newest_there s.now.schema ≡ true → committed ≡ s.now → IsAsFound image committed
as_found s image committed finds opens live there same = (s.now, (live opens.is_open).0, (λ trees held. ap (λ (db : Database). db.trees) opens.clean ∙ finds.holds trees held), there, same)

newest_opened : (s : State) → Opens s → any_there s.now.schema ≡ true → RefusesOthers s.now.schema ⊥ → has_older s.now.schema ≡ false → newest_there s.now.schema ≡ true
newest_opened s opens = newest_stays s.now.schema

-- what is opened has nothing that an open refuses
pub returns-in-Ok-open-clause-unraised : goal.returns-in-Ok-open-clause-unraised
returns-in-Ok-open-clause-unraised g c raises clean =
    let disk = c.in-Ok-open.ensures.so_far clean in
    let is = c.in-Ok-open.ensures.opened clean in
    let any = c.admit_tables.ensures c.if-not-admit_tables.false (never_makes c.args.opening raises) in
    let refuses = c.in-Ok-open.ensures.refuses in
    let newest = newest_opened _ (c.in-Ok-open_database.ensures.opened disk).0 any
    (record { foreign = λ e f. (refuses.foreign e f).1; edition = λ e f h. (refuses.edition e f h).1; missing = λ e f h. (refuses.missing e f h).1; older = λ e f. (refuses.older e f).1 })
    (c.in-None.ensures.none refl raises) in
    as_found _ _ _ (c.in-Ok-open_database.ensures.found disk) (c.in-Ok-open_database.ensures.opened disk).0 (c.in-Ok-open_database.ensures.opened disk).1 newest (is.stays newest)

pub returns-in-Ok-open-clause-tabled : goal.returns-in-Ok-open-clause-tabled
returns-in-Ok-open-clause-tabled g c makes clean =
    let disk = c.in-Ok-open.ensures.so_far clean in
    had_tables _ _ (c.in-Ok-open_database.ensures.found disk) (c.in-Ok-open_database.ensures.opened disk).0 (c.in-Ok-open_database.ensures.opened disk).1 (c.admit_tables.ensures c.if-not-admit_tables.false makes)

pub returns-in-Ok-open-clause-opens : goal.returns-in-Ok-open-clause-opens
returns-in-Ok-open-clause-opens g c clean =
    let disk = c.in-Ok-open.ensures.so_far clean in
    let is = c.in-Ok-open.ensures.opened clean in
    opens_on _ _ _ _ (c.in-Ok-open_database.ensures.found disk) (c.in-Ok-open_database.ensures.opened disk).0 (c.in-Ok-open_database.ensures.opened disk).1 (λ e first second. (c.in-Ok-open.ensures.refuses.missing e first second).1) is.held is.climbed is.fresh

pub returns-in-Ok-open-clause-guarded : goal.returns-in-Ok-open-clause-guarded
returns-in-Ok-open-clause-guarded g c clean = c.in-Ok-open.ensures.shield (c.in-Ok-open_database.ensures.guarded (c.in-Ok-open.ensures.so_far clean))

pub returns-in-Ok-open-clause-as_opened : goal.returns-in-Ok-open-clause-as_opened
returns-in-Ok-open-clause-as_opened g c = c.in-Ok-open.ensures.as_opened
